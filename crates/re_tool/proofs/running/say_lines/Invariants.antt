use Rattle.std.proofs.Common.{length, ◌-◌, ◌≤◌, take, []}
use Rattle.re_outside.specs.Outside.{Does, none}
use Rattle.re_tool.proofs.running.say_lines.Given as goal

abbrev pub invariant-loop-told : goal.invariant-loop-told
invariant-loop-told g l = let seen = g.O.Outside.seen in record {
  in_range : l.told ≤ length l.text;
  said : Does (seen l.fn.out) (seen l.out) [] (take l.told l.text) none;
}

abbrev pub decreases-loop-told : goal.decreases-loop-told
decreases-loop-told g l = length l.text - l.told
