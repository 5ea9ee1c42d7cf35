use Rattle.std.proofs.Common.{Some, subst}
use Rattle.re_tool.specs.Acts.{IsOpening, OpensAs}
use Rattle.re_tool.specs.Verdict.{Accepted}
use Rattle.re_tool.proofs.Endings.{near_finish}
use Rattle.re_tool.proofs.Starting.{all_done, near_part_is, part_is_all, part_is_divided, part_whole, starts_with, unopened_finish, unopened_output}
use Rattle.re_tool.proofs.running.run_program.Goals as goal

pub returns-in_default : goal.returns-in_default
returns-in_default g c = λ start text h is. near_finish _ _ _ _ _ (near_part_is _ _ _ _ _ _ h) _ (λ q. absurd (cc)) c.finish.ensures

pub returns-in-Ok-open_devices : goal.returns-in-Ok-open_devices
returns-in-Ok-open_devices g c = λ start text h is.
    c.serve.ensures start (starts_with _ _ _ _ _ _ _ _ (part_is_divided _ _ _ _ _ c.if-read.true h) is c.in-Ok.ensures c.in-Ok-open_devices.ensures.opened)

pub returns-in-Ok-2 : goal.returns-in-Ok-2
returns-in-Ok-2 g c = λ start text h is.
    all_done _ _ _ _ _ _ _ (part_is_all _ _ _ _ _ c.if-read.false h) is (subst (λ p. OpensAs p c.in-Ok-2.field-0 (g.O.Outside.seen c.args.out.now) (g.O.Outside.seen c.open_devices.new.out)) c.in-Ok.ensures c.in-Ok-2.ensures.opened)

pub returns : goal.returns
returns g c = λ start text h is.
    let p = c.args.read.program in
    unopened_finish _ _ _ _ p (c.in-Err.device, c.in-Err.fault) _ (part_whole _ _ _ _ _ (Accepted p) h is)
    (subst (λ q. IsOpening q (Some (c.in-Err.device, c.in-Err.fault)) (g.O.Outside.seen c.args.out.now) (g.O.Outside.seen c.open_devices.new.out)) c.in-Ok.ensures (c.open_devices.ensures.refused c.in-Err.device c.in-Err.fault c.in-Err.is))
    (unopened_output p (c.in-Err.device, c.in-Err.fault)) c.refuse_opening.ensures
