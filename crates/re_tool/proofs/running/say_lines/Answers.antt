use Rattle.std.proofs.Common.{arith}
use Rattle.std.proofs.lemmas.Grind.{common_steps}
use Rattle.std.proofs.lemmas.Result.{err_from_is_err_and}
use Rattle.re_tool.proofs.Checks.{line_said, line_broke}
use Rattle.re_tool.proofs.running.say_lines.Goals as goal

pub returns-in_err-say_all-clause-failed : goal.returns-in_err-say_all-clause-failed
returns-in_err-say_all-clause-failed g c =
    let p = err_from_is_err_and c.from_residual.result c.from_residual.ensures.1 in
    rw p.1 (line_broke _ _ _ _ _ _ c.loop-told.invariant.said c.in_err-say_all.ensures.failed)

pub loop-told-preserved : goal.loop-told-preserved
loop-told-preserved g c = record {
  in_range = grind (arith, common_steps);
  said = line_said _ _ _ _ _ _ _ (grind (arith, common_steps)) c.loop-told.invariant.said c.in_ok-say_all.ensures.said;
}
