-- Calls on files that are made one after another, up to the first that fails.
use Rattle.std.specs.Prelude.{◌≡◌, ◌⊎◌, ℕ, ◌+◌, List, [], ◌∷◌, length, take}
use Rattle.re_outside.specs.Listed.{plain}
use Rattle.re_outside.specs.Image.{written, IsTorn, IsCutShort}
use Rattle.re_outside.specs.Trace.{Past, with_steps, content_at}
use Rattle.re_outside.specs.declared.step.Step.{Step}
use Rattle.re_outside.specs.declared.step.Step.TheVariants as steps
use Rattle.re_outside.specs.declared.step.Call.{Call}
use Rattle.re_outside.specs.declared.step.Call.TheVariants as calls

-- a call on file f of device d failed: it did nothing and is left out, or it is a step of its own, with what reads give afterwards,
-- which is one of those that such a call leaves where they gave content before it
abbrev pub FailsAt : ℕ → Call → ℕ → ℕ → List ℕ → (List ℕ → List ℕ → Type 0) → Past → Past → Type 0
FailsAt d call f at bytes leaves old new =
    (new ≡ old) ⊎ ((content : List ℕ) × leaves (content_at old d f) content × (new ≡ with_steps old (steps.Fail call d f at (plain bytes) (plain content) ∷ [])))

-- the same of the device's own file f
abbrev pub FailsOf : Call → ℕ → ℕ → List ℕ → (List ℕ → List ℕ → Type 0) → Past → Past → Type 0
FailsOf call f at bytes leaves old new = FailsAt old.device call f at bytes leaves old new

-- what reads may give after the call for this step failed
abbrev pub left_by : Step → Past → List ℕ → Type 0
left_by (steps.Write d f at bytes) old content = IsTorn (length (content_at old d f)) at (length bytes.items) (content_at old d f) content
left_by (steps.Cut d f n) old content = IsCutShort n (content_at old d f) content
left_by (steps.Sync d f) old content = content ≡ content_at old d f
left_by (steps.Say bytes) old content = ⊥
left_by (steps.Fail call d f at bytes was) old content = ⊥

-- the step that the failure of the call for this step adds
abbrev pub failure_of : Step → List ℕ → Step
failure_of (steps.Write d f at bytes) content = steps.Fail calls.Write d f at (plain bytes.items) (plain content)
failure_of (steps.Cut d f n) content = steps.Fail calls.Cut d f n (plain []) (plain content)
failure_of (steps.Sync d f) content = steps.Fail calls.Sync d f 0 (plain []) (plain content)
failure_of (steps.Say bytes) content = steps.Say bytes
failure_of (steps.Fail call d f at bytes was) content = steps.Fail call d f at bytes was

-- the call for this step, a write, cut or sync, failed
abbrev pub FailsTo : Step → Past → Past → Type 0
FailsTo s old new = (new ≡ old) ⊎ ((content : List ℕ) × left_by s old content × (new ≡ with_steps old (failure_of s content ∷ [])))

-- a call of the plan failed, the one with number at where so many calls were made before the plan, and the ones before it were made
abbrev pub StopsAt : List Step → ℕ → ℕ → Past → Past → Type 0
StopsAt [] calls at old new = ⊥
StopsAt (s ∷ plan) calls at old new = ((at ≡ calls + 1) × FailsTo s old new) ⊎ StopsAt plan (calls + 1) at (with_steps old (s ∷ [])) new

-- P holds at each moment of the plan, and after each call of it that fails
abbrev pub IsSafe : (Past → Type 0) → List Step → Past → Type 0
IsSafe P [] old = P old
IsSafe P (s ∷ plan) old = P old × ((new : Past) → FailsTo s old new → P new) × IsSafe P plan (with_steps old (s ∷ []))

-- ---- changes of one file, each synced before the next

-- a change of a file: bytes written at a place, or a cut to n bytes
pub data FileChange : Type 0 where
  WriteAt : (at : ℕ) (bytes : List ℕ) → FileChange
  CutAt : (n : ℕ) → FileChange

-- the step of a change of file f of device d
abbrev pub change_step : ℕ → ℕ → FileChange → Step
change_step d f (WriteAt at bytes) = steps.Write d f at (plain bytes)
change_step d f (CutAt n) = steps.Cut d f n

-- the steps of these changes of file f of device d, with a sync behind each
abbrev pub synced_steps : ℕ → ℕ → List FileChange → List Step
synced_steps d f [] = []
synced_steps d f (change ∷ changes) = change_step d f change ∷ steps.Sync d f ∷ synced_steps d f changes

-- the file after a change
abbrev pub changed : List ℕ → FileChange → List ℕ
changed file (WriteAt at bytes) = written file at bytes
changed file (CutAt n) = take n file

-- the file after these changes
abbrev pub all_changed : List ℕ → List FileChange → List ℕ
all_changed file [] = file
all_changed file (change ∷ changes) = all_changed (changed file change) changes

-- a stop within the change may leave new of a file that was old
abbrev pub IsPartlyChanged : List ℕ → FileChange → List ℕ → Type 0
IsPartlyChanged old (WriteAt at bytes) new = IsTorn (length old) at (length bytes) old new
IsPartlyChanged old (CutAt n) new = IsCutShort n old new

-- Q holds of the file after all these changes, and of all that a stop within one of them may leave
abbrev pub KeepSafe : (List ℕ → Type 0) → List ℕ → List FileChange → Type 0
KeepSafe Q file [] = Q file
KeepSafe Q file (change ∷ changes) = ((new : List ℕ) → IsPartlyChanged file change new → Q new) × KeepSafe Q (changed file change) changes
