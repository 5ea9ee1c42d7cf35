use Rattle.re_tool.proofs.Starting.{part_ahead}
use Rattle.re_tool.proofs.running.run.Goals as goal

pub run_program-requires-clause-few : goal.run_program-requires-clause-few
run_program-requires-clause-few g c = (part_ahead _ _ _ _ _ c.in-Ok.ensures.opened.part).0

pub returns-in-Ok : goal.returns-in-Ok
returns-in-Ok g c = c.run_program.ensures _ _ c.in-Ok.ensures.opened.part c.in-Ok.ensures.opened.verdict
