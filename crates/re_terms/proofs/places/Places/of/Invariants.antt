-- The counts so far, and the places of the declarations so far.
use Rattle.std.proofs.Common.{◌≡◌, map}
use Rattle.std.specs.List.{range_with_len}
use Rattle.re_terms.specs.Listed.{plain}
use Rattle.re_terms.specs.Cells.{cell_place}
use Rattle.re_terms.specs.SignalWords.{replicated_place}
use Rattle.re_terms.proofs.places.Places.of.Given as goal

abbrev pub invariant-loop-decl : goal.invariant-loop-decl
invariant-loop-decl l = record {
  words : l.words ≡ plain (map (cell_place l.p.decls.items) (range_with_len 0 l.decl-index));
  replicated : l.replicated ≡ plain (map (replicated_place l.p.decls.items) (range_with_len 0 l.decl-index));
  word_count : l.word_count ≡ cell_place l.p.decls.items l.decl-index;
  replicated_count : l.replicated_count ≡ replicated_place l.p.decls.items l.decl-index;
}
