use Rattle.std.proofs.Common.{arith}
use Rattle.re_wire.proofs.Lengths.{length-rows_bytes}
use Rattle.re_wire.proofs.states.cell_len.Goals as goal

pub returns-in-Counter-clause-len : goal.returns-in-Counter-clause-len
returns-in-Counter-clause-len c = rw c.in-Counter.is (omega (arith, c.from.ensures, length-rows_bytes c.args.devices c.in-Counter.field-0))
