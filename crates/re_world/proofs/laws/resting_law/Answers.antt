-- Between two commands a world stays what it is, and its files restore to it.
use Rattle.std.proofs.Common.{◌≡◌, ℕ, List, None, sym, subst}
use Rattle.std.specs.Prelude.{true}
use Rattle.re_outside.proofs.Elsewhere.{kept_by_outputs}
use Rattle.re_outside.specs.Moment.{IsKept}
use Rattle.re_outside.specs.Outside.{Faults, Moves, Seen}
use Rattle.re_outside.specs.Port.{past_in}
use Rattle.re_outside.specs.Trace.{with_steps}
use Rattle.re_outside.specs.declared.step.Step.{Step}
use Rattle.re_world.proofs.Held.{restores}
use Rattle.re_world.proofs.Stepped.{world_kept}
use Rattle.re_world.proofs.Within.{rests_line}
use Rattle.re_world.proofs.laws.resting_law.Goals as goal

moved : (old new : Seen) (read : List ℕ) (steps : List Step) (faults : Faults) → old.told ≡ true → Moves old new read steps faults → past_in 0 new ≡ with_steps (past_in 0 old) steps
moved old new read steps faults told moves = λ i. record { device = 0; start = moves.start told i; trace = moves.trace told i }

pub returns-clause-said : goal.returns-clause-said
returns-clause-said c = λ p w v old new read steps faults is told moves outputs.
    world_kept p w v old new is (λ e f. subst (IsKept e f (past_in 0 old)) (sym (moved old new read steps faults told moves)) (kept_by_outputs e f (past_in 0 old) steps outputs))

pub returns-clause-restores : goal.returns-clause-restores
returns-clause-restores c = λ p w v s files is images.
    restores p w None files is.causal (λ d. tt) (λ d below. rests_line p w None d (past_in d s) (files d 0) (files d 1) (is.files d below) (images d 0) (images d 1))
