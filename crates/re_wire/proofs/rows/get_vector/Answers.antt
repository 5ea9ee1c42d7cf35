use Rattle.std.proofs.Common.{◌^◌, Ok, ap, arith}
use Rattle.std.specs.Int.{w64}
use Rattle.std.proofs.lemmas.Result.{err_from_is_err_and}
use Rattle.re_wire.specs.Reading.{padded, below_at, several_at, vector_at}
use Rattle.re_wire.proofs.Several.{ends, refuses_then}
use Rattle.re_wire.proofs.Vectors.{one_more, all_read}
use Rattle.re_wire.proofs.rows.get_vector.Goals as goal

pub returns-in_err-count : goal.returns-in_err-count
unfolding vector_at
returns-in_err-count c =
    let p = err_from_is_err_and c.from_residual.result c.from_residual.ensures.1 in
    let read = below_at w64 (2 ^ 48) c.args.bytes.now in
    let total = several_at read c.args.devices c.args.at in
    let inv = c.loop-device.invariant in
    rw (p.1, p.2) (refuses_then c.in_err-count.field-0.0 total (λ numbers. Ok (record { counts = padded numbers.0 }, numbers.1)) (ends read c.in_err-count.field-0.0 inv.front c.args.devices c.loop-device.device c.loop-device.behind total (omega arith) c.in_err-count.ensures inv.so_far))

pub loop-device-preserved : goal.loop-device-preserved
loop-device-preserved c = one_more _ _ _ _ _ _ _ _ (omega arith) c.requires.devices c.in_ok-count.ensures c.loop-device.invariant

pub returns : goal.returns
unfolding vector_at
returns c =
    let read = below_at w64 (2 ^ 48) c.args.bytes.now in
    let total = several_at read c.args.devices c.args.at in
    let h = all_read read c.args.devices c.loop-device.device c.loop-device.behind c.loop-device.counts total (omega arith) c.loop-device.invariant in
    rw (h.1) (ap (λ counts. Ok (record { counts = counts }, c.loop-device.behind)) h.2)
