use Rattle.std.proofs.Common.{inl, inr, subst, ◌∙◌}
use Rattle.re_journal.specs.Scans.{FailsReading}
use Rattle.re_compact.proofs.Steps.{on_err}
use Rattle.re_compact.proofs.finding.measure.Goals as goal

pub returns-in_err-second-clause-failed : goal.returns-in_err-second-clause-failed
returns-in_err-second-clause-failed g c = λ told.
    let new = g.D.Disk.past c.size-2.new.self in
    on_err c.from_residual-in_err-second.result _ (1, subst (λ p. FailsReading 1 p new) (c.in_ok-first.ensures.same told) (inl (c.in_err-second.ensures.failed told)))

pub returns-in_err-first_head-clause-failed : goal.returns-in_err-first_head-clause-failed
returns-in_err-first_head-clause-failed g c = λ told.
    let new = g.D.Disk.past c.read_head.new.disk in
    on_err c.from_residual-in_err-first_head.result _ (0, subst (λ p. FailsReading 0 p new) (c.in_ok-second.ensures.same told ∙ c.in_ok-first.ensures.same told) (inr (0, c.in_err-first_head.ensures.failed told)))

pub returns-in_err-second_head-clause-failed : goal.returns-in_err-second_head-clause-failed
returns-in_err-second_head-clause-failed g c = λ told.
    let new = g.D.Disk.past c.read_head-2.new.disk in
    on_err c.from_residual-in_err-second_head.result _
    (1, subst (λ p. FailsReading 1 p new) (c.in_ok-first_head.ensures.same told ∙ (c.in_ok-second.ensures.same told ∙ c.in_ok-first.ensures.same told)) (inr (0, c.in_err-second_head.ensures.failed told)))
