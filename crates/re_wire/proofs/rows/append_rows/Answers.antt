use Rattle.std.proofs.Common.{◌∙◌, ap, sym, length, arith}
use Rattle.re_wire.specs.Appended.{appended}
use Rattle.re_wire.proofs.Appending.{appended-nil, spare_after, rows_written, rows_none}
use Rattle.re_wire.proofs.rows.append_rows.Goals as goal

pub loop-device-init : goal.loop-device-init
loop-device-init c = record { written = appended-nil _ ∙ ap (appended c.args.out.now) (sym (rows_none c.args.rows.now)); room = omega arith }

pub loop-device-preserved : goal.loop-device-preserved
loop-device-preserved c =
    let first = spare_after _ _ _ 8 c.append.ensures (ap length c.to_be_bytes.ensures) in
    let second = spare_after _ _ _ 8 c.append-in-loop-device.ensures (ap length c.to_be_bytes-in-loop-device.ensures) in
    record {
      written = rows_written c.loop-device.device c.args.rows.now _ _ _ _ _ _ c.loop-device.invariant.written c.to_be_bytes.ensures c.to_be_bytes-in-loop-device.ensures c.append.ensures c.append-in-loop-device.ensures;
      room = omega (arith, first, second, c.loop-device.invariant.room, c.requires.room);
    }
