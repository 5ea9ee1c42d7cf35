-- At which call a journal stopped.
use Rattle.std.proofs.Common.{◌≡◌, ◌⊎◌, inl, inr, ℕ, zero, suc, ◌+◌, ◌-◌, ◌^◌, ◌<◌, ◌≤◌, min, List, [], ◌∷◌, Option, Some, None, refl, sym, ◌∙◌, ap, subst, arith}
use Rattle.re_outside.specs.declared.step.Step.{Step}
use Rattle.re_outside.specs.Trace.{Past, with_steps}
use Rattle.re_outside.specs.Plan.{FailsTo, StopsAt}
use Rattle.re_journal.specs.Journals.{calls_after}
use Rattle.re_journal.specs.Commits.{StopsJournal, StopsInTurn, IsStopOf, IsStopInTurn}

-- the same call failed where more were made before
pub counted_on : (plan : List Step) (calls at more : ℕ) (old new : Past) → StopsAt plan calls at old new → StopsAt plan (calls + more) (at + more) old new
counted_on [] calls at more old new none = absurd none
counted_on (s ∷ plan) calls at more old new (inl here) = inl (omega (arith, here.0), here.1)
counted_on (s ∷ plan) calls at more old new (inr there) =
    inr (subst (λ n. StopsAt plan n (at + more) (with_steps old (s ∷ [])) new) (omega arith) (counted_on plan (calls + 1) at more (with_steps old (s ∷ [])) new there))

-- it is behind the ones made before
pub behind : (plan : List Step) (calls at : ℕ) (old new : Past) → StopsAt plan calls at old new → calls < at
behind [] calls at old new none = absurd none
behind (s ∷ plan) calls at old new (inl here) = omega (arith, here.0)
behind (s ∷ plan) calls at old new (inr there) = omega (arith, behind plan (calls + 1) at (with_steps old (s ∷ [])) new there)

-- the first call of a plan failed
pub stops_here : (s : Step) (plan : List Step) (calls : ℕ) (stopped : Option ℕ) (old new : Past) → stopped ≡ Some (calls_after 1 calls) → FailsTo s old new → StopsJournal (s ∷ plan) calls stopped old new
stops_here s plan calls stopped old new is fails = subst (λ o. StopsJournal (s ∷ plan) calls o old new) (sym is) (calls + 1, refl, inl (refl, fails))

-- a later one failed
pub stops_later : (s : Step) (plan : List Step) (calls : ℕ) (stopped : Option ℕ) (old new : Past) → StopsJournal plan (calls_after 1 calls) stopped (with_steps old (s ∷ [])) new → StopsJournal (s ∷ plan) calls stopped old new
stops_later s plan calls None old new none = absurd none
stops_later s plan calls (Some at) old new (number, is, stops) =
    let next = with_steps old (s ∷ []) in
    let low : calls_after 1 calls < number = behind plan (calls_after 1 calls) number next new stops in
    let more : ℕ = (calls + 1) - calls_after 1 calls in
    (number + more, omega arith, inr (subst (λ n. StopsAt plan n (number + more) next new) (omega arith) (counted_on plan (calls_after 1 calls) number more next new stops)))

-- the call that failed, counted one by one
pub stops_in_turn : (plan : List Step) (calls : ℕ) (stopped : Option ℕ) (old new : Past) → StopsInTurn plan calls stopped old new → StopsJournal plan calls stopped old new
stops_in_turn [] calls stopped old new none = absurd none
stops_in_turn (s ∷ plan) calls stopped old new (inl here) = stops_here s plan calls stopped old new here.0 here.1
stops_in_turn (s ∷ plan) calls stopped old new (inr there) = stops_later s plan calls stopped old new (stops_in_turn plan (calls_after 1 calls) stopped (with_steps old (s ∷ [])) new there)

-- its number, counted one by one
pub stop_in_turn : (n calls : ℕ) (stopped : Option ℕ) → IsStopInTurn n calls stopped → IsStopOf n calls stopped
stop_in_turn zero calls stopped none = absurd none
stop_in_turn (suc n) calls stopped (inl here) = subst (IsStopOf (suc n) calls) (sym here) (1, omega arith, omega arith, refl)
stop_in_turn (suc n) calls stopped (inr there) = later stopped (stop_in_turn n (calls_after 1 calls) stopped there)
  where
    later : (o : Option ℕ) → IsStopOf n (calls_after 1 calls) o → IsStopOf (suc n) calls o
    later None none = absurd none
    later (Some at) (i, low, high, is) = (i + 1, omega arith, omega arith, omega arith)
