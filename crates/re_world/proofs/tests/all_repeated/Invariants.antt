-- The world is the program's while its commands are done.
use Rattle.std.proofs.Common.{◌≡◌}
use Rattle.re_world.proofs.tests.all_repeated.Given as goal

abbrev pub invariant-loop-line : goal.invariant-loop-line
invariant-loop-line g l = l.world.program ≡ l.program
