use Rattle.std.proofs.Common.{◌≤◌, length}
use Rattle.re_real.proofs.folder.fill_from.Given as goal

abbrev pub invariant-loop : goal.invariant-loop
invariant-loop l = l.got ≤ length l.buf
