use Rattle.std.proofs.Common.{◌≡◌, ◌++◌, drop}
use Rattle.std.specs.List.{filter_map}
use Rattle.re_terms.specs.Shapes.{replicated_kind}
use Rattle.re_terms.proofs.shape.replicated_kinds.Given as goal

abbrev pub invariant-loop-decl : goal.invariant-loop-decl
invariant-loop-decl l = record {
  kinds : l.kinds.items ++ filter_map (λ d. replicated_kind d.body) (drop l.decl-index l.decls) ≡ filter_map (λ d. replicated_kind d.body) l.decls;
  spare : l.kinds.spare ≡ 0;
}
