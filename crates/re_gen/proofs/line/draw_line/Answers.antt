use Rattle.std.proofs.Common.{◌+◌, ◌∙◌}
use Rattle.re_gen.proofs.Drawing.{line_at-parts, state_at-line}
use Rattle.re_gen.proofs.line.draw_line.Goals as goal

pub returns-clause-drawn : goal.returns-clause-drawn
returns-clause-drawn c = λ number taken is. line_at-parts number taken c.args.sends c.below.result c.draw_action-action.result (c.below.ensures.drawn number taken is) (c.draw_action-action.ensures.drawn number (taken + 1) (c.below.ensures.state number taken is))

pub returns-clause-state : goal.returns-clause-state
returns-clause-state c = λ number taken is. c.draw_action-action.ensures.state number (taken + 1) (c.below.ensures.state number taken is) ∙ state_at-line number taken c.draw_action-action.result
