use Rattle.std.proofs.Common.{arith}
use Rattle.re_wire.proofs.Lengths.{length-rows_bytes}
use Rattle.re_wire.proofs.states.append_cell.Goals as goal

pub append_rows-requires-clause-room : goal.append_rows-requires-clause-room
append_rows-requires-clause-room c =
    let room = rw c.in-Counter.is at c.requires.room in
    omega (arith, room, length-rows_bytes c.args.devices c.in-Counter.rows)
