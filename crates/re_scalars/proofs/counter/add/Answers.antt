use Rattle.std.proofs.Common.{sym, ap, ◌∙◌}
use Rattle.std.specs.Prelude.{pos}
use Rattle.std.specs.Int.Signed.{le_z}
use Rattle.std.specs.Int.RustNames.{unsigned_abs}
use Rattle.std.proofs.Math.Facts.{to_z-of_z}
use Rattle.std.proofs.lemmas.Result.{on_ok_weaker}
use Rattle.re_scalars.proofs.Amounts.{after_up, after_down}
use Rattle.re_scalars.proofs.counter.add.Goals as goal

pub returns-then-amount-ge0-clause-ok : goal.returns-then-amount-ge0-clause-ok
returns-then-amount-ge0-clause-ok c =
    let e = to_z-of_z c.ranges.amount in
    on_ok_weaker c.raise.result (after_up c.args.device c.unsigned_abs-by.result c.args.amount c.args.rows.now c.raise.new.row (ap (le_z (pos 0)) (sym e) ∙ c.if-amount-ge0.true) (c.unsigned_abs-by.ensures.value ∙ ap unsigned_abs e)) c.raise.ensures.ok

pub returns-else-amount-ge0-clause-ok : goal.returns-else-amount-ge0-clause-ok
returns-else-amount-ge0-clause-ok c =
    let e = to_z-of_z c.ranges.amount in
    on_ok_weaker c.raise-else-amount-ge0.result (after_down c.args.device c.unsigned_abs-by.result c.args.amount c.args.rows.now c.raise-else-amount-ge0.new.row (ap (le_z (pos 0)) (sym e) ∙ c.if-amount-ge0.false) (c.unsigned_abs-by.ensures.value ∙ ap unsigned_abs e)) c.raise-else-amount-ge0.ensures.ok
