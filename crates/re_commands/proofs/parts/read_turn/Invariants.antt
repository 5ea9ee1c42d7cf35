use Rattle.std.proofs.Common.{map}
use Rattle.re_commands.proofs.Separated.{Reads}
use Rattle.re_commands.proofs.parts.read_turn.Given as goal

abbrev pub invariant-loop-between : goal.invariant-loop-between
invariant-loop-between l = Reads (map (λ b. b.now) l.yielded) l.parts
