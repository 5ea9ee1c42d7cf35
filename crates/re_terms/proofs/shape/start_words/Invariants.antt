use Rattle.std.proofs.Common.{◌≡◌, ◌++◌, drop}
use Rattle.std.specs.List.{filter_map}
use Rattle.re_terms.specs.Shapes.{start_word}
use Rattle.re_terms.proofs.shape.start_words.Given as goal

abbrev pub invariant-loop-decl : goal.invariant-loop-decl
invariant-loop-decl l = record {
  words : l.words.items ++ filter_map (λ d. start_word d.body) (drop l.decl-index l.decls) ≡ filter_map (λ d. start_word d.body) l.decls;
  spare : l.words.spare ≡ 0;
}
