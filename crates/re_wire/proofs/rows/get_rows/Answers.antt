use Rattle.std.proofs.Common.{Ok, map, arith}
use Rattle.std.proofs.lemmas.Result.{err_from_is_err_and}
use Rattle.re_wire.specs.Reading.{padded, row_at, several_at, rows_at}
use Rattle.re_wire.proofs.Several.{ends, refuses_then}
use Rattle.re_wire.proofs.Vectors.{one_more_row, all_rows_read}
use Rattle.re_wire.proofs.rows.get_rows.Goals as goal

pub returns-in_err-plus : goal.returns-in_err-plus
unfolding rows_at
returns-in_err-plus c =
    let p = err_from_is_err_and c.from_residual.result c.from_residual.ensures.1 in
    let read = row_at c.args.bytes.now in
    let total = several_at read c.args.devices c.args.at in
    let inv = c.loop-device.invariant in
    rw (p.1, p.2) (refuses_then c.in_err-plus.field-0.0 total (λ rows. Ok (record { plus = padded (map (λ row. row.0) rows.0); minus = padded (map (λ row. row.1) rows.0) }, rows.1)) (ends read c.in_err-plus.field-0.0 inv.front c.args.devices c.loop-device.device c.loop-device.behind total (omega arith) c.in_err-plus.ensures inv.so_far))

pub loop-device-preserved : goal.loop-device-preserved
loop-device-preserved c = one_more_row _ _ _ _ _ _ _ _ _ _ (omega arith) c.requires.devices c.in_ok-plus.ensures c.loop-device.invariant

pub returns : goal.returns
unfolding rows_at
returns c =
    let read = row_at c.args.bytes.now in
    let total = several_at read c.args.devices c.args.at in
    let h = all_rows_read read c.args.devices c.loop-device.device c.loop-device.behind c.loop-device.rows.plus c.loop-device.rows.minus total (omega arith) c.loop-device.invariant in
    rw (h.1) (λ i. Ok (record { plus = h.2 i; minus = h.3 i }, c.loop-device.behind))
