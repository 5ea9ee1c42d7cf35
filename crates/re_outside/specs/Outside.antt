-- What the world outside does at each call.
use Rattle.std.specs.Prelude.{ℕ, ◌≡◌, ◌≤◌, ◌+◌, ◌-◌, ◌^◌, ◌==◌, ◌⊎◌, min, List, [], ◌∷◌, ◌++◌, Bool, true, false, if◌then◌else◌}
use Rattle.re_outside.specs.Listed.{plain}
use Rattle.re_outside.specs.Image.{content}
use Rattle.re_outside.specs.Trace.{acts_of}
use Rattle.re_outside.specs.declared.step.Call.{Call}
use Rattle.re_outside.specs.declared.step.Call.TheVariants as kind
use Rattle.re_outside.specs.declared.step.Step.{Step}
use Rattle.re_outside.specs.declared.step.Step.TheVariants.{Write, Cut, Sync, Say, Fail}

-- the bytes that were said, all steps together
abbrev pub said : List Step → List ℕ
said [] = []
said (Say bytes ∷ steps) = bytes.items ++ said steps
said (Write device file at bytes ∷ steps) = said steps
said (Cut device file length ∷ steps) = said steps
said (Sync device file ∷ steps) = said steps
said (Fail call device file at bytes content ∷ steps) = said steps

-- ---- counts of calls that failed

-- what a call that fails is for: input, output, or the disk of a device
pub data FaultKind : Type 0 where
  Input : FaultKind
  Output : FaultKind
  Disk : (device : ℕ) → FaultKind

-- two kinds are one
abbrev pub is_kind : FaultKind → FaultKind → Bool
is_kind Input Input = true
is_kind Output Output = true
is_kind (Disk d) (Disk e) = d == e
is_kind Input Output = false
is_kind Input (Disk e) = false
is_kind Output Input = false
is_kind Output (Disk e) = false
is_kind (Disk d) Input = false
is_kind (Disk d) Output = false

-- how many calls of each kind failed
abbrev pub Faults : Type 0
Faults = FaultKind → ℕ

-- no call failed
abbrev pub none : Faults
none kind = 0

-- one call of this kind failed
abbrev pub one_fault : FaultKind → Faults
one_fault own kind = if is_kind own kind then 1 else 0

-- one call that takes input failed
abbrev pub input_fault : Faults
input_fault = one_fault Input

-- one call that says output failed
abbrev pub output_fault : Faults
output_fault = one_fault Output

-- one call on a file of this device failed
abbrev pub disk_fault : ℕ → Faults
disk_fault device = one_fault (Disk device)

-- the faults of one part and of another, together
abbrev pub plus : Faults → Faults → Faults
plus f g kind = f kind + g kind

-- a count stays without a fault, and with some it has risen by them or stands at its type's end
abbrev pub Counts : ℕ → ℕ → ℕ → Type 0
Counts n before now = (n ≡ 0 → now ≡ before) × (min (before + n) (2 ^ 64 - 1) ≤ now)

-- a count has risen, or stands at its type's end
abbrev pub Rose : ℕ → ℕ → Type 0
Rose before now = min (before + 1) (2 ^ 64 - 1) ≤ now

-- the kind of fault of a call, which speaks of this device where it is on a file
abbrev pub fault_kind : Call → ℕ → FaultKind
fault_kind kind.Take device = Input
fault_kind kind.Say device = Output
fault_kind kind.Size device = Disk device
fault_kind kind.Fetch device = Disk device
fault_kind kind.Write device = Disk device
fault_kind kind.Cut device = Disk device
fault_kind kind.Sync device = Disk device

-- how many steps are calls that failed, by kind
abbrev pub failures : List Step → Faults
failures [] kind = 0
failures (Say bytes ∷ steps) kind = failures steps kind
failures (Write device file at bytes ∷ steps) kind = failures steps kind
failures (Cut device file length ∷ steps) kind = failures steps kind
failures (Sync device file ∷ steps) kind = failures steps kind
failures (Fail call device file at bytes content ∷ steps) kind = one_fault (fault_kind call device) kind + failures steps kind

-- ---- what is seen

-- what contracts see of an outside: whether it tells its content, the input left, what each file of each
-- device held before the first step, the steps so far, and how many calls of each kind failed
pub record Seen : Type 0 where
  pub told : Bool
  pub left : List ℕ
  pub start : ℕ → ℕ → List ℕ
  pub trace : List Step
  pub faults : Faults

-- what reads of this file of this device give
abbrev pub content_in : Seen → ℕ → ℕ → List ℕ
content_in s device file = content (s.start device file) (acts_of device file s.trace)

-- these bytes are read, these steps are made, and each count rises by the calls of its kind that failed, which are at least
-- those among the steps
pub record Moves (old new : Seen) (read : List ℕ) (steps : List Step) (faults : Faults) : Type 0 where
  pub told : new.told ≡ old.told
  pub left : old.told ≡ true → old.left ≡ read ++ new.left
  pub start : old.told ≡ true → new.start ≡ old.start
  pub trace : old.told ≡ true → new.trace ≡ old.trace ++ steps
  pub counted : (kind : FaultKind) → failures steps kind ≤ faults kind
  pub counts : (kind : FaultKind) → Counts (faults kind) (old.faults kind) (new.faults kind)

-- no input is left, where it is told
abbrev pub IsAtEnd : Seen → Type 0
IsAtEnd s = s.told ≡ true → s.left ≡ []

-- ---- calls that fail

-- the steps of a call that failed and needs no field: none, or the one that names it
abbrev pub IsFailure : Call → List Step → Type 0
IsFailure call steps = (steps ≡ []) ⊎ (steps ≡ Fail call 0 0 0 (plain []) (plain []) ∷ [])

-- a call that takes or says failed: nothing is read or said, and at most its own step is added
pub record Fails (old new : Seen) (call : Call) (faults : Faults) : Type 0 where
  pub steps : List Step
  pub failure : IsFailure call steps
  pub moves : Moves old new [] steps faults

-- the steps of a call on a file that failed: none where it changed nothing, or the one that names it, with what reads of the
-- file give afterwards, which is one of those that such a call leaves where they gave old before it
abbrev pub IsFileFailure : Call → ℕ → ℕ → ℕ → List ℕ → (List ℕ → Type 0) → List Step → Type 0
IsFileFailure call device file at bytes leaves steps =
    (steps ≡ []) ⊎ ((content : List ℕ) × leaves content × (steps ≡ Fail call device file at (plain bytes) (plain content) ∷ []))

-- a call on a file failed: at most its own step is added, and that device's count alone rises
pub record FailsOn (old new : Seen) (call : Call) (device file at : ℕ) (bytes : List ℕ) (leaves : List ℕ → List ℕ → Type 0) : Type 0 where
  pub steps : List Step
  pub failure : IsFileFailure call device file at bytes (leaves (content_in old device file)) steps
  pub moves : Moves old new [] steps (disk_fault device)

-- ---- many calls

-- a call that takes or says, and none on a file
abbrev pub IsOutput : Call → Type 0
IsOutput kind.Take = Unit
IsOutput kind.Say = Unit
IsOutput kind.Size = ⊥
IsOutput kind.Fetch = ⊥
IsOutput kind.Write = ⊥
IsOutput kind.Cut = ⊥
IsOutput kind.Sync = ⊥

-- each step says something or is a failed call that takes or says, so that no file is touched
abbrev pub AreOutputs : List Step → Type 0
AreOutputs [] = Unit
AreOutputs (Say bytes ∷ steps) = AreOutputs steps
AreOutputs (Write device file at bytes ∷ steps) = ⊥
AreOutputs (Cut device file length ∷ steps) = ⊥
AreOutputs (Sync device file ∷ steps) = ⊥
AreOutputs (Fail call device file at bytes content ∷ steps) = IsOutput call × AreOutputs steps

-- each step says something
abbrev pub AreSays : List Step → Type 0
AreSays [] = Unit
AreSays (Say bytes ∷ steps) = AreSays steps
AreSays (Write device file at bytes ∷ steps) = ⊥
AreSays (Cut device file length ∷ steps) = ⊥
AreSays (Sync device file ∷ steps) = ⊥
AreSays (Fail call device file at bytes content ∷ steps) = ⊥

-- moves by some steps that say this text and have P
pub record DoesWith (P : List Step → Type 0) (old new : Seen) (read text : List ℕ) (faults : Faults) : Type 0 where
  pub steps : List Step
  pub says : said steps ≡ text
  pub holds : P steps
  pub moves : Moves old new read steps faults

-- moves by some steps that say this text and touch no file
abbrev pub Does : Seen → Seen → List ℕ → List ℕ → Faults → Type 0
Does old new read text faults = DoesWith AreOutputs old new read text faults

-- a front of the text is said by steps that have P and with these faults, then a call that says fails, and nothing is done behind it
pub record BreaksWith (P : List Step → Type 0) (old new : Seen) (text : List ℕ) (faults : Faults) : Type 0 where
  pub front : List ℕ
  pub rest : List ℕ
  pub whole : text ≡ front ++ rest
  pub before : Seen
  pub does : DoesWith P old before [] front faults
  pub failed : Fails before new kind.Say output_fault

-- the same by steps that touch no file
abbrev pub Breaks : Seen → Seen → List ℕ → Faults → Type 0
Breaks old new text faults = BreaksWith AreOutputs old new text faults
