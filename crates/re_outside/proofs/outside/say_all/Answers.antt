use Rattle.std.proofs.Common.{arith}
use Rattle.std.proofs.lemmas.Grind.{common_steps}
use Rattle.std.proofs.lemmas.List.{take_rest}
use Rattle.std.proofs.lemmas.Result.{err_from_is_err_and}
use Rattle.re_outside.proofs.Does.{said_more, broke, does-nil}
use Rattle.re_outside.proofs.outside.say_all.Goals as goal

pub loop-sent-init : goal.loop-sent-init
loop-sent-init g c = record { in_range = omega arith; said = does-nil _ }

pub returns-in_err-sent-clause-failed : goal.returns-in_err-sent-clause-failed
returns-in_err-sent-clause-failed g c =
    let p = err_from_is_err_and c.from_residual.result c.from_residual.ensures.1 in
    rw p.1 (broke _ _ _ _ _ c.loop-sent.invariant.said c.in_err-sent.ensures.failed)

pub loop-sent-preserved : goal.loop-sent-preserved
loop-sent-preserved g c = record {
  in_range = grind (arith, common_steps);
  said = said_more _ _ _ _ _ _ c.loop-sent.invariant.said (rw take_rest at c.in_ok-sent.ensures.said);
}
