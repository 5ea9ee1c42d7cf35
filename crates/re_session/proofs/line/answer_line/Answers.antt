use Rattle.std.proofs.Common.{◌≡◌, Some, Ok, sym, ap, subst, ◌∙◌}
use Rattle.re_commands.specs.Commanding.{commanded}
use Rattle.re_session.proofs.Answering.{command_answered, fault_answered, meant_command}
use Rattle.re_session.specs.Serving.{LineAnswers}
use Rattle.re_terms.specs.declared.command.Answer.TheVariants as answer
use Rattle.re_world.specs.Stepping.{DoesCommand}
use Rattle.re_session.proofs.line.answer_line.Goals as goal

pub returns-in-Ok-Some-clause-answers : goal.returns-in-Ok-Some-clause-answers
returns-in-Ok-Some-clause-answers g c =
    let p = c.args.devices.now.program in
    let old = g.O.Outside.seen c.args.out.now in
    let new = g.O.Outside.seen c.step.new.out in
    let told : new.told ≡ old.told = g.met.O.Outside.tells_always c.step.new.out ∙ sym (g.met.O.Outside.tells_always c.args.out.now) in
    let does : DoesCommand old.told c.args.devices.now c.step.new.self c.in-Ok-Some.command c.step.result old new = record {
      keeps = c.step.ensures.keeps;
      caused = c.step.ensures.caused;
      takes = c.step.ensures.takes;
      stores = c.step.ensures.stores;
      ascends = c.step.ensures.ascends;
      counts = c.step.ensures.counts;
      left = λ t. c.step.ensures.left (sym (g.met.O.Outside.tells_always c.args.out.now) ∙ t);
      files = λ t. c.step.ensures.files (sym (g.met.O.Outside.tells_always c.args.out.now) ∙ t);
      stepped = λ t. c.step.ensures.stepped (sym (g.met.O.Outside.tells_always c.args.out.now) ∙ t);
    } in
    command_answered p c.args.line.now c.in-Ok-Some.command c.args.devices.now c.step.new.self c.step.result old new
    (subst (λ q. commanded q c.args.line.now ≡ Ok (Some c.in-Ok-Some.command)) c.program.ensures.program
    (meant_command c.program.result.now c.args.line.now c.command.result c.in-Ok-Some.command (c.in-Ok-Some.is ∙ ap Ok c.in-Ok-Some.field-0-is) c.command.ensures.answer))
    told does
    (λ d stored t. c.step.ensures.decided d stored (sym (g.met.O.Outside.tells_always c.args.out.now) ∙ t))

pub returns-in-Err-clause-answers : goal.returns-in-Err-clause-answers
returns-in-Err-clause-answers g c =
    let s = g.O.Outside.seen c.args.out.now in
    subst (λ q. LineAnswers q c.args.line.now c.args.devices.now c.args.devices.now (Some (answer.No c.fault_code.result)) s s) c.program.ensures.program
    (fault_answered c.program.result.now c.args.line.now c.args.devices.now s c.command.result c.in-Err.fault c.fault_code.result c.in-Err.is c.fault_code.ensures c.command.ensures.answer c.command.ensures.quiet)
