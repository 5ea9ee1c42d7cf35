use Rattle.std.proofs.Common.{◌<◌}
use Rattle.std.specs.List.{All}
use Rattle.std.specs.List.Sorted.{IsStrictlySortedBy}
use Rattle.re_terms.specs.WordOrder.{pair_cmp}
use Rattle.re_awset.proofs.tests.set_of.Given as goal

-- the set so far ascends, and its dots are of devices
abbrev pub invariant-loop-pair : goal.invariant-loop-pair
invariant-loop-pair l =
    record {
      ascends : IsStrictlySortedBy pair_cmp l.set.items;
      devices : All (λ p. p.dot.device < 16) l.set.items;
    }
