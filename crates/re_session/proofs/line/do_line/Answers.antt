use Rattle.std.proofs.Common.{◌≡◌, [], Some, ap, subst, ◌∙◌}
use Rattle.re_outside.specs.Outside.{Breaks, Does, none}
use Rattle.re_session.proofs.Answering.{served}
use Rattle.re_session.specs.Serving.{Broken, Whole, said_of}
use Rattle.re_session.proofs.line.do_line.Goals as goal

pub returns-in-Ok-say_all-clause-does : goal.returns-in-Ok-say_all-clause-does
returns-in-Ok-say_all-clause-does g c =
    let done = g.O.Outside.seen c.answer_line.new.out in
    let new = g.O.Outside.seen c.say_all.new.out in
    let p = c.args.devices.now.program in
    let a = c.in-Some.answer in
    let text : c.as_slice.result.now ≡ said_of p (Some a) = c.as_slice.ensures ∙ c.in-Ok.ensures ∙ ap (λ q. said_of q (Some a)) (c.program.ensures.program ∙ c.answer_line.ensures.program) in
    served p c.args.line.now c.args.devices.now c.answer_line.new.devices a (g.O.Outside.seen c.args.out.now) done new Whole c.in-Some.ensures.answers
    (subst (λ t. Does done new [] t none) text c.in-Ok-say_all.ensures.said)

pub returns-clause-does : goal.returns-clause-does
returns-clause-does g c =
    let done = g.O.Outside.seen c.answer_line.new.out in
    let new = g.O.Outside.seen c.say_all.new.out in
    let p = c.args.devices.now.program in
    let a = c.in-Some.answer in
    let text : c.as_slice.result.now ≡ said_of p (Some a) = c.as_slice.ensures ∙ c.in-Ok.ensures ∙ ap (λ q. said_of q (Some a)) (c.program.ensures.program ∙ c.answer_line.ensures.program) in
    served p c.args.line.now c.args.devices.now c.answer_line.new.devices a (g.O.Outside.seen c.args.out.now) done new Broken c.in-Some.ensures.answers
    (subst (λ t. Breaks done new t none) text c.in-Err.ensures.failed)
