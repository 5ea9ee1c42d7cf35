use Rattle.std.proofs.Common.{◌∙◌, ap, sym, length, arith}
use Rattle.re_wire.specs.Appended.{appended}
use Rattle.re_wire.proofs.Appending.{appended-nil, spare_after, vector_written, vector_none}
use Rattle.re_wire.proofs.rows.append_vector.Goals as goal

pub loop-device-init : goal.loop-device-init
loop-device-init c = record { written = appended-nil _ ∙ ap (appended c.args.out.now) (sym (vector_none c.args.vector.now.counts)); room = omega arith }

pub loop-device-preserved : goal.loop-device-preserved
loop-device-preserved c =
    let spare = spare_after _ _ _ 8 c.append.ensures (ap length c.to_be_bytes.ensures) in
    record {
      written = vector_written c.loop-device.device c.args.vector.now.counts _ _ _ _ c.loop-device.invariant.written c.to_be_bytes.ensures c.append.ensures;
      room = omega (arith, spare, c.loop-device.invariant.room, c.requires.room);
    }
