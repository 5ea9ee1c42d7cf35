-- The steps that a run left outside, and what they were to each file of each device.
use Rattle.std.specs.Prelude.{Bool, true, false, not, ◌≡◌, ℕ, ◌&&◌, ◌==◌, if◌then◌else◌, List, [], ◌∷◌, ◌++◌}
use Rattle.std.specs.List.{filter}
use Rattle.re_outside.specs.FileAct.{FileAct, Wrote, CutTo, Synced, WriteFailed, CutFailed, SyncFailed}
use Rattle.re_outside.specs.Image.{content, IsCrashImage}
use Rattle.re_outside.specs.declared.step.Step.{Step}
use Rattle.re_outside.specs.declared.step.Step.TheVariants as steps
use Rattle.re_outside.specs.declared.step.Call.{Call}
use Rattle.re_outside.specs.declared.step.Call.TheVariants as calls

-- what a failed call of this kind was to its file
abbrev pub failed_act : Call → ℕ → List ℕ → List ℕ → List FileAct
failed_act calls.Write at bytes left = WriteFailed at bytes left ∷ []
failed_act calls.Cut at bytes left = CutFailed at left ∷ []
failed_act calls.Sync at bytes left = SyncFailed ∷ []
failed_act calls.Take at bytes left = []
failed_act calls.Say at bytes left = []
failed_act calls.Size at bytes left = []
failed_act calls.Fetch at bytes left = []

-- what a step was to file f of device d
abbrev pub act_of : ℕ → ℕ → Step → List FileAct
act_of d f (steps.Write device file at bytes) = if d == device && f == file then Wrote at bytes.items ∷ [] else []
act_of d f (steps.Cut device file n) = if d == device && f == file then CutTo n ∷ [] else []
act_of d f (steps.Sync device file) = if d == device && f == file then Synced ∷ [] else []
act_of d f (steps.Say bytes) = []
act_of d f (steps.Fail call device file at bytes left) = if d == device && f == file then failed_act call at bytes.items left.items else []

-- a call that names a file
abbrev pub is_file_call : Call → Bool
is_file_call calls.Write = true
is_file_call calls.Cut = true
is_file_call calls.Sync = true
is_file_call calls.Size = true
is_file_call calls.Fetch = true
is_file_call calls.Take = false
is_file_call calls.Say = false

-- the step is of file f of device d
abbrev pub is_of : ℕ → ℕ → Step → Bool
is_of d f (steps.Write device file at bytes) = d == device && f == file
is_of d f (steps.Cut device file n) = d == device && f == file
is_of d f (steps.Sync device file) = d == device && f == file
is_of d f (steps.Say bytes) = false
is_of d f (steps.Fail call device file at bytes left) = is_file_call call && (d == device && f == file)

-- the steps that aren't of file f of device d
abbrev pub elsewhere : ℕ → ℕ → List Step → List Step
elsewhere d f trace = filter (λ s. not (is_of d f s)) trace

-- the step is of a file of device d
abbrev pub is_on : ℕ → Step → Bool
is_on d (steps.Write device file at bytes) = d == device
is_on d (steps.Cut device file n) = d == device
is_on d (steps.Sync device file) = d == device
is_on d (steps.Say bytes) = false
is_on d (steps.Fail call device file at bytes left) = is_file_call call && d == device

-- the steps that aren't of a file of device d
abbrev pub elsewhere_on : ℕ → List Step → List Step
elsewhere_on d trace = filter (λ s. not (is_on d s)) trace

-- what the steps were to file f of device d, in order
abbrev pub acts_of : ℕ → ℕ → List Step → List FileAct
acts_of d f [] = []
acts_of d f (s ∷ trace) = act_of d f s ++ acts_of d f trace

-- a moment of a run: the device that is spoken of, what the files of all devices held before the first step, and the steps so far
pub record Past : Type 0 where
  pub device : ℕ
  pub start : ℕ → ℕ → List ℕ
  pub trace : List Step

-- the moment after these steps more
abbrev pub with_steps : Past → List Step → Past
with_steps past more = record { device = past.device; start = past.start; trace = past.trace ++ more }

-- old is a moment before now, or now itself
abbrev pub IsBefore : Past → Past → Type 0
IsBefore old now = (more : List Step) × (now ≡ with_steps old more)

-- what reads of file g of device d give
abbrev pub content_at : Past → ℕ → ℕ → List ℕ
content_at past d g = content (past.start d g) (acts_of d g past.trace)

-- a stop may leave this of file g of device d
abbrev pub IsCrashImageAt : Past → ℕ → ℕ → List ℕ → Type 0
IsCrashImageAt past d g file = IsCrashImage (past.start d g) (acts_of d g past.trace) file

-- what reads of the device's own file f give
abbrev pub content_of : Past → ℕ → List ℕ
content_of past f = content_at past past.device f

-- a stop may leave this of the device's own file f
abbrev pub IsCrashImageOf : Past → ℕ → List ℕ → Type 0
IsCrashImageOf past f file = IsCrashImageAt past past.device f file

-- the same moment, spoken of device d
abbrev pub as_device : ℕ → Past → Past
as_device d past = record { device = d; start = past.start; trace = past.trace }

-- a stop may leave these of all files of all devices, each taken at this one moment of the joint trace
abbrev pub IsJointImage : Past → (ℕ → ℕ → List ℕ) → Type 0
IsJointImage past files = (d f : ℕ) → IsCrashImageAt past d f (files d f)
