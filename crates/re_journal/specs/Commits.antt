-- The calls that a journal makes, up to the first that fails, and why it refuses.
-- Read against: where the write of the third call fails and two calls were made before, the journal stopped at 5.
use Rattle.std.specs.Prelude.{◌≡◌, ◌⊎◌, ℕ, zero, suc, ◌+◌, ◌-◌, ◌^◌, ◌≤◌, min, List, [], ◌∷◌, Option, Some, None, Result, Ok, Err}
use Rattle.re_outside.specs.Listed.{plain}
use Rattle.re_outside.specs.Outside.{Rose}
use Rattle.re_outside.specs.Plan.{FailsTo, StopsAt}
use Rattle.re_outside.specs.Trace.{Past, with_steps}
use Rattle.re_outside.specs.declared.step.Step.{Step}
use Rattle.re_outside.specs.declared.step.Step.TheVariants as steps
use Rattle.re_journal.specs.Journals.{calls_after}
use Rattle.re_journal.specs.declared.fault.JournalFault.{JournalFault}
use Rattle.re_journal.specs.declared.fault.JournalFault.TheVariants.{Disk, Stopped}

-- the steps of a commit of this frame to file f of device d with the closed gate at this place: the frame behind the gate and a sync,
-- then the open gate and a sync
abbrev pub commit_steps : ℕ → ℕ → ℕ → List ℕ → List Step
commit_steps d f gate frame =
    steps.Write d f (gate + 1) (plain frame) ∷ steps.Sync d f ∷ steps.Write d f gate (plain (1 ∷ [])) ∷ steps.Sync d f ∷ []

-- the calls of this plan were made up to one that failed, and the journal stopped at its number, where so many calls were made before
abbrev pub StopsJournal : List Step → ℕ → Option ℕ → Past → Past → Type 0
StopsJournal plan calls None old new = ⊥
StopsJournal plan calls (Some at) old new = (number : ℕ) × (at ≡ min number (2 ^ 64 - 1)) × StopsAt plan calls number old new

-- the same, where each call counts one more
abbrev pub StopsInTurn : List Step → ℕ → Option ℕ → Past → Past → Type 0
StopsInTurn [] calls stopped old new = ⊥
StopsInTurn (s ∷ plan) calls stopped old new =
    ((stopped ≡ Some (calls_after 1 calls)) × FailsTo s old new) ⊎ StopsInTurn plan (calls_after 1 calls) stopped (with_steps old (s ∷ [])) new

-- the journal stopped at one of the next n calls, where so many were made before
abbrev pub IsStopOf : ℕ → ℕ → Option ℕ → Type 0
IsStopOf n calls None = ⊥
IsStopOf n calls (Some at) = (i : ℕ) × (1 ≤ i) × (i ≤ n) × (at ≡ min (calls + i) (2 ^ 64 - 1))

-- the same, where each call counts one more
abbrev pub IsStopInTurn : ℕ → ℕ → Option ℕ → Type 0
IsStopInTurn zero calls stopped = ⊥
IsStopInTurn (suc n) calls stopped = (stopped ≡ Some (calls_after 1 calls)) ⊎ IsStopInTurn n (calls_after 1 calls) stopped

-- a call came through with no fault of the disk, failed with one, or was refused since the journal had stopped
abbrev pub HasCause : {T : Type 0} → Option ℕ → ℕ → ℕ → Result T JournalFault → Type 0
HasCause stopped before now (Ok x) = (stopped ≡ None) × (now ≡ before)
HasCause stopped before now (Err Disk) = (stopped ≡ None) × Rose before now
HasCause stopped before now (Err (Stopped at)) = (stopped ≡ Some at) × (now ≡ before)
