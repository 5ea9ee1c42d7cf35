-- What a run does behind a call that failed.
-- Read against: where the third `take` fails, what is said behind it is `rescala: input fault`, and the status is 7; where a `say` fails, no step stands behind it, and the status is 8.
use Rattle.std.specs.Prelude.{ℕ, ◌≡◌, ◌++◌, ◌⊎◌, List, [], ◌∷◌, true}
use Rattle.re_outside.specs.Listed.{plain}
use Rattle.re_outside.specs.Outside.{Seen, said}
use Rattle.re_outside.specs.declared.step.Call.TheVariants as call
use Rattle.re_outside.specs.declared.step.Step.{Step}
use Rattle.re_outside.specs.declared.step.Step.TheVariants as step
use Rattle.re_tool.specs.declared.status.Status.{Status}
use Rattle.re_tool.specs.declared.status.Status.TheVariants as status
use Rattle.re_tool.specs.Endings.{InputFault, last_line}

-- the step of a `take` that failed
abbrev pub failed_take : Step
failed_take = step.Fail call.Take 0 0 0 (plain []) (plain [])

-- the step of a `say` that failed
abbrev pub failed_say : Step
failed_say = step.Fail call.Say 0 0 0 (plain []) (plain [])

-- these steps say the line of status 7 and no more, or the status is 8 and they say a front of it
abbrev pub SaysLastLine : List Step → Status → Type 0
SaysLastLine steps s = ((s ≡ status.Input) × (said steps ≡ last_line InputFault)) ⊎ ((s ≡ status.Output) × ((rest : List ℕ) × (last_line InputFault ≡ said steps ++ rest)))

-- Where the outside tells the steps and keeps those of calls that failed: behind a failed `take` only the line of status 7 is said, and behind a failed `say` no step is made.
pub record StopsAtFailures (old new : Seen) (s : Status) : Type 0 where
  pub take : old.told ≡ true → (before behind : List Step) → new.trace ≡ old.trace ++ (before ++ failed_take ∷ behind) → SaysLastLine behind s
  pub say : old.told ≡ true → (before behind : List Step) → new.trace ≡ old.trace ++ (before ++ failed_say ∷ behind) → (behind ≡ []) × (s ≡ status.Output)
