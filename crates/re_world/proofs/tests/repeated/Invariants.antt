-- The world is the program's while its commands are done.
use Rattle.std.proofs.Common.{◌≡◌}
use Rattle.re_world.proofs.tests.repeated.Given as goal

abbrev pub invariant-loop-time : goal.invariant-loop-time
invariant-loop-time g l = l.world.program ≡ l.program
