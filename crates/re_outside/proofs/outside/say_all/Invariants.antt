use Rattle.std.proofs.Common.{length, ◌-◌, ◌≤◌, take, []}
use Rattle.re_outside.specs.Outside.{Does, none}
use Rattle.re_outside.proofs.outside.say_all.Given as goal

abbrev pub invariant-loop-sent : goal.invariant-loop-sent
invariant-loop-sent g l = let seen = g.O.Outside.seen in record {
  in_range : l.sent ≤ length l.bytes;
  said : Does (seen l.fn.out) (seen l.out) [] (take l.sent l.bytes) none;
}

abbrev pub decreases-loop-sent : goal.decreases-loop-sent
decreases-loop-sent g l = length l.bytes - l.sent
