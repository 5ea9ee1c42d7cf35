use Rattle.std.proofs.Common.{sym, ap, ◌∙◌, ◌/◌, ◌%◌}
use Rattle.re_gen.proofs.Drawing.{state_at-more}
use Rattle.re_gen.proofs.draws.Draws.below.Goals as goal

pub returns-clause-drawn : goal.returns-clause-drawn
returns-clause-drawn c = λ number taken is. ap (λ x. x / 65536 % c.args.bound) (sym (state_at-more number taken c.from.result (c.from.ensures ∙ is)))

pub returns-clause-state : goal.returns-clause-state
returns-clause-state c = λ number taken is. sym (state_at-more number taken c.from.result (c.from.ensures ∙ is))
