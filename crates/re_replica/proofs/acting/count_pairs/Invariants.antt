use Rattle.std.proofs.Common.{◌≡◌, take}
use Rattle.std.specs.List.{sum_by}
use Rattle.re_terms.specs.Shapes.{pair_count}
use Rattle.re_replica.proofs.acting.count_pairs.Given as goal

abbrev pub invariant-loop-cell : goal.invariant-loop-cell
invariant-loop-cell l = l.count ≡ sum_by pair_count (take l.cell-index l.cells)
