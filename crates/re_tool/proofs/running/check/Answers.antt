use Rattle.std.proofs.Common.{[], ℕ, ap, subst, ◌∙◌}
use Rattle.re_outside.specs.Listed.{Listed}
use Rattle.re_outside.specs.Outside.{Does, Breaks, none}
use Rattle.re_tool.proofs.Endings.{near_finish}
use Rattle.re_tool.proofs.Starting.{check_broke, checked, near_part_is, part_whole}
use Rattle.re_tool.proofs.running.check.Goals as goal

pub returns-in_default : goal.returns-in_default
returns-in_default g c = near_finish _ _ _ _ _ (near_part_is _ _ _ _ _ _ c.in-Ok.ensures.opened.part) _ (λ q. absurd (cc)) c.finish.ensures

pub returns-in-Ok-say_lines : goal.returns-in-Ok-say_lines
returns-in-Ok-say_lines g c = checked _ _ _ _ (part_whole _ _ _ _ _ _ c.in-Ok.ensures.opened.part c.in-Ok.ensures.opened.verdict)
    (subst (λ t. Does (g.O.Outside.seen c.open.new.out) (g.O.Outside.seen c.say_lines.new.out) [] t none) (c.as_slice.ensures ∙ ap (λ (t : Listed ℕ). t.items) c.in-Ok-print_program.ensures) c.in-Ok-say_lines.ensures.said)

pub returns : goal.returns
returns g c = check_broke _ _ _ _ (part_whole _ _ _ _ _ _ c.in-Ok.ensures.opened.part c.in-Ok.ensures.opened.verdict)
    (subst (λ t. Breaks (g.O.Outside.seen c.open.new.out) (g.O.Outside.seen c.say_lines.new.out) t none) (c.as_slice.ensures ∙ ap (λ (t : Listed ℕ). t.items) c.in-Ok-print_program.ensures) c.in-Err-say_lines.ensures.failed)
