use Rattle.std.proofs.Common.{◌^◌}
use Rattle.std.specs.Int.{w64}
use Rattle.re_wire.specs.Reading.{below_at, several_at}
use Rattle.re_wire.proofs.Vectors.{IsReadTo}
use Rattle.re_wire.proofs.rows.get_vector.Given as goal

abbrev pub invariant-loop-device : goal.invariant-loop-device
invariant-loop-device l =
    let read = below_at w64 (2 ^ 48) l.bytes in
    IsReadTo read l.devices l.device l.behind l.counts (several_at read l.devices l.at)
