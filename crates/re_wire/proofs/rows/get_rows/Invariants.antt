use Rattle.re_wire.specs.Reading.{row_at, several_at}
use Rattle.re_wire.proofs.Vectors.{AreReadTo}
use Rattle.re_wire.proofs.rows.get_rows.Given as goal

abbrev pub invariant-loop-device : goal.invariant-loop-device
invariant-loop-device l = AreReadTo (row_at l.bytes) l.devices l.device l.behind l.rows.plus l.rows.minus (several_at (row_at l.bytes) l.devices l.at)
