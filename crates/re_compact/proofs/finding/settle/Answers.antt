use Rattle.std.proofs.Common.{inl, inr, refl, subst}
use Rattle.re_outside.specs.Plan.{FailsTo}
use Rattle.re_outside.specs.declared.step.Step.TheVariants as steps
use Rattle.re_compact.proofs.Steps.{on_err}
use Rattle.re_compact.proofs.finding.settle.Goals as goal

pub returns-in_err-sync-2-clause-failed : goal.returns-in_err-sync-2-clause-failed
returns-in_err-sync-2-clause-failed g c = λ told.
    let new = g.D.Disk.past c.sync-2.new.self in
    on_err c.from_residual-in_err-sync-2.result _ (2, inr (inl (refl, subst (λ p. FailsTo (steps.Sync p.device 1) p new) (c.in_ok-sync.ensures.synced told) (c.in_err-sync-2.ensures.failed told))))
