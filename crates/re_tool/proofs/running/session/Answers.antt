use Rattle.re_tool.proofs.Caused.{completes, end_cause, input_cause, output_cause, program_cause, too_long_cause}
use Rattle.re_tool.proofs.Unopened.{opening_cause}
use Rattle.re_tool.proofs.Failing.{run_stops}
use Rattle.re_tool.proofs.Stopping.{survives}
use Rattle.re_tool.proofs.running.session.Goals as goal

pub returns-in-Run-clause-program : goal.returns-in-Run-clause-program
returns-in-Run-clause-program g c = program_cause _ _ _ _ c.run.ensures

pub returns-in-Run-clause-input : goal.returns-in-Run-clause-input
returns-in-Run-clause-input g c = input_cause _ _ _ _ c.run.ensures

pub returns-in-Run-clause-too_long : goal.returns-in-Run-clause-too_long
returns-in-Run-clause-too_long g c = too_long_cause _ _ _ _ c.run.ensures

pub returns-in-Check-clause-end : goal.returns-in-Check-clause-end
returns-in-Check-clause-end g c = rw c.in-Check.is (end_cause _ _ _ _ c.check.ensures)

pub returns-in-Check-clause-program : goal.returns-in-Check-clause-program
returns-in-Check-clause-program g c = program_cause _ _ _ _ c.check.ensures

pub returns-in-Check-clause-input : goal.returns-in-Check-clause-input
returns-in-Check-clause-input g c = input_cause _ _ _ _ c.check.ensures

pub returns-in-Check-clause-too_long : goal.returns-in-Check-clause-too_long
returns-in-Check-clause-too_long g c = too_long_cause _ _ _ _ c.check.ensures

pub returns-in-Run-clause-complete : goal.returns-in-Run-clause-complete
returns-in-Run-clause-complete g c = rw c.in-Run.is (completes _ _ _ _ c.run.ensures)

pub returns-in-Check-clause-complete : goal.returns-in-Check-clause-complete
returns-in-Check-clause-complete g c = rw c.in-Check.is (completes _ _ _ _ c.check.ensures)

pub returns-in-Run-clause-failures : goal.returns-in-Run-clause-failures
returns-in-Run-clause-failures g c = run_stops _ _ _ _ c.run.ensures

pub returns-in-Check-clause-failures : goal.returns-in-Check-clause-failures
returns-in-Check-clause-failures g c = run_stops _ _ _ _ c.check.ensures

pub returns-in-Run-clause-opening : goal.returns-in-Run-clause-opening
returns-in-Run-clause-opening g c = rw c.in-Run.is (opening_cause _ _ _ _ c.run.ensures)

pub returns-in-Check-clause-opening : goal.returns-in-Check-clause-opening
returns-in-Check-clause-opening g c = rw c.in-Check.is (opening_cause _ _ _ _ c.check.ensures)

pub returns-in-Run-clause-output : goal.returns-in-Run-clause-output
returns-in-Run-clause-output g c = output_cause _ _ _ _ c.run.ensures

pub returns-in-Check-clause-output : goal.returns-in-Check-clause-output
returns-in-Check-clause-output g c = output_cause _ _ _ _ c.check.ensures

pub returns-in-Run-clause-survives : goal.returns-in-Run-clause-survives
returns-in-Run-clause-survives g c = rw c.in-Run.is (survives _ _ _ _ c.run.ensures)

pub returns-in-Check-clause-survives : goal.returns-in-Check-clause-survives
returns-in-Check-clause-survives g c = rw c.in-Check.is (survives _ _ _ _ c.check.ensures)
