use Rattle.std.proofs.Common.{◌≡◌, ◌++◌, ◌≤◌, ◌+◌, ◌-◌, drop, take}
use Rattle.re_awset.proofs.places.take_out.Given as goal

-- those that are left to take out stand before the rest
abbrev pub invariant-loop-left : goal.invariant-loop-left
invariant-loop-left l =
    record {
      items : l.s.items ≡ take l.fn.from l.fn.s.items ++ drop (l.fn.to - l.left) l.fn.s.items;
      spare : l.s.spare ≡ l.fn.s.spare;
      within : l.fn.from + l.left ≤ l.fn.to;
    }

abbrev pub decreases-loop-left : goal.decreases-loop-left
decreases-loop-left l = l.left
