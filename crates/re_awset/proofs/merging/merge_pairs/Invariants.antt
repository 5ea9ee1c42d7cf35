use Rattle.std.proofs.Common.{◌≡◌, ◌++◌, ◌+◌, ◌<◌, ◌≤◌, length}
use Rattle.std.specs.List.{All}
use Rattle.std.specs.List.Sorted.{IsStrictlySortedBy}
use Rattle.re_terms.specs.CellStates.{join_pairs}
use Rattle.re_terms.specs.WordOrder.{pair_cmp}
use Rattle.re_awset.proofs.merging.merge_pairs.Given as goal

-- what is merged stands before the merge of what is left of both lists
abbrev pub invariant-loop-step : goal.invariant-loop-step
invariant-loop-step l =
    record {
      merged : l.merged.items ++ join_pairs l.av.counts l.bv.counts l.own l.other ≡ join_pairs l.av.counts l.bv.counts l.fn.a.items l.fn.b.items;
      spare : l.merged.spare ≡ 0;
      within : length l.merged.items ≤ l.room;
      own_ascends : IsStrictlySortedBy pair_cmp l.own;
      other_ascends : IsStrictlySortedBy pair_cmp l.other;
      own_devices : All (λ p. p.dot.device < 16) l.own;
      other_devices : All (λ p. p.dot.device < 16) l.other;
    }

abbrev pub decreases-loop-step : goal.decreases-loop-step
decreases-loop-step l = length l.own + length l.other
