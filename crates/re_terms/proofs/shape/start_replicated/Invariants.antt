use Rattle.std.proofs.Common.{◌≡◌, ◌++◌, drop, map}
use Rattle.re_terms.specs.Shapes.{start_cell}
use Rattle.re_terms.proofs.shape.start_replicated.Given as goal

abbrev pub invariant-loop-kind : goal.invariant-loop-kind
invariant-loop-kind l = record {
  cells : l.cells.items ++ map start_cell (drop l.kind-index l.kind-items) ≡ map start_cell l.kind-items;
  spare : l.cells.spare ≡ 0;
}
