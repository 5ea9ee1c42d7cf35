use Rattle.std.proofs.Common.{[], None, refl, subst, sym}
use Rattle.std.proofs.lemmas.List.{append-nil}
use Rattle.re_outside.proofs.Moments.{no_step}
use Rattle.re_outside.specs.Moment.{Throughout}
use Rattle.re_outside.specs.Port.{past_in}
use Rattle.re_session.proofs.Acting.{acts_world}
use Rattle.re_session.proofs.Stopping.{rest_restores, stop_here, stops_acts}
use Rattle.re_session.proofs.laws.stop_law.Goals as goal
use Rattle.re_session.specs.Stops.{Stops}
use Rattle.re_terms.specs.Admission.{device_count}
use Rattle.re_terms.specs.CausalWorlds.{IsCausalWorld}
use Rattle.re_world.specs.Images.{Restores}

pub returns : goal.returns
returns c = λ p lines before after old new w told acts is.
    let behind = (acts_world p lines before after old new w told acts is).1 in
    subst (λ l. Throughout (past_in 0 old) (past_in 0 new) (Stops p w l (past_in 0 old))) (append-nil lines)
    (stops_acts p w lines [] before after old new new told is acts
    (λ u same. no_step (past_in 0 new) (past_in 0 new) (Stops p u [] (past_in 0 new)) refl (stop_here p u [] (past_in 0 new) (past_in 0 new) None refl tt (subst (IsCausalWorld (device_count p.decls.items)) (sym same) behind.causal) (λ files images. subst (λ x. Restores p x None files) (sym same) (rest_restores p _ after new files behind images)))))
