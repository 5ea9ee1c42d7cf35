-- What opening the files of a device gives, and what it does there.
-- Read against: with `device a; var x: int = 0;` two blank files of no bytes open to x = 0 and the number 0 by two syncs and six calls on file 0, after which this file has 76 bytes; a stop within leaves files that open to the same. Two files that hold a store open by the two syncs alone.
use Rattle.std.specs.Prelude.{◌≡◌, ◌⊎◌, ℕ, ◌<◌, ◌^◌, ◌&&◌, Bool, true, if◌then◌else◌, List, [], ◌++◌, length, Some, Result, Ok, Err}
use Rattle.re_outside.specs.Frame as frame
use Rattle.re_outside.specs.Frame.{IsGeneration, is_blank}
use Rattle.re_outside.specs.Moment.{OnlyDeviceMoves}
use Rattle.re_outside.specs.Outside.{Rose}
use Rattle.re_outside.specs.Plan.{StopsAt}
use Rattle.re_outside.specs.Trace.{Past, IsCrashImageOf, content_of, with_steps}
use Rattle.re_outside.specs.declared.step.Step.{Step}
use Rattle.re_journal.specs.Journals.{frame_of}
use Rattle.re_compact.specs.Finding.{StopsOpening, open_steps}
use Rattle.re_compact.specs.Laying.{prepare_steps, publish_steps}
use Rattle.re_compact.specs.Pair.{StandsIn}
use Rattle.re_compact.specs.declared.fault.OpenFault.{OpenFault}
use Rattle.re_compact.specs.declared.fault.OpenFault.TheVariants.{Memory, Disk, BadStore, OtherProgram}
use Rattle.re_record.specs.Restoring.{Opened, unopened}
use Rattle.re_record.specs.Spellings.{snapshot_bytes}
use Rattle.re_record.specs.Stores as stores
use Rattle.re_record.specs.Stores.{ComesTo, OpensTo}
use Rattle.re_restore.specs.declared.opening.Restored.{Restored}
use Rattle.re_terms.specs.Shapes.{start_state}
use Rattle.re_terms.specs.WordKinds.{IsStateOf}
use Rattle.re_terms.specs.declared.program.Program.{Program}

-- ---- what it gives

-- the state and the number that were restored
abbrev pub opened_as : Restored → Opened
opened_as r = record { state = r.state; number = r.number }

-- a state of the program, an entry number and a generation that may be
pub record IsRestoredOf (p : Program) (r : Restored) : Type 0 where
  pub state : IsStateOf p r.state
  pub number : r.number < 2 ^ 48
  pub generation : IsGeneration r.generation

-- the journal stands on a store that comes to what was restored, of the generation that is told
pub record StandsOpened (p : Program) (device : ℕ) (r : Restored) (now : Past) : Type 0 where
  pub snapshot : List ℕ
  pub bodies : List (List ℕ)
  pub stands : StandsIn r.journal (frame.Store r.journal.file snapshot bodies) now
  pub comes : ComesTo p device snapshot bodies (opened_as r)
  pub generation : frame.generation snapshot ≡ r.generation

-- ---- the first snapshot

-- the snapshot of a program's start
abbrev pub start_snapshot : Program → ℕ → List ℕ
start_snapshot p device = snapshot_bytes p device 1 0 (start_state p)

-- both files are blank
abbrev pub AreBlank : Past → Type 0
AreBlank past = (is_blank (content_of past 0) ≡ true) × (is_blank (content_of past 1) ≡ true)

-- ---- what it does

-- the steps that lay a frame into file g of device d, which has so many bytes and is blank or isn't, and open its gate
abbrev pub lay_steps : ℕ → ℕ → Bool → ℕ → List ℕ → List Step
lay_steps d g blank size framed = prepare_steps d g blank size framed ++ publish_steps d g

-- where both files are blank the steps that lay the start into file 0, and none elsewhere
abbrev pub start_steps : Program → ℕ → Past → List Step
start_steps p device old = if is_blank (content_of old 0) && is_blank (content_of old 1) then lay_steps old.device 0 true (length (content_of old 0)) (frame_of (start_snapshot p device)) else []

-- a call of the plan failed, and those before it were made
abbrev pub StopsIn : List Step → Past → Past → Type 0
StopsIn plan old new = (at : ℕ) × StopsAt plan 0 at old new

-- the plan's calls were made, up to the first that failed; none where there was no memory
abbrev pub HasPlannedSteps : {T : Type 0} → List Step → Past → Past → Result T OpenFault → Type 0
HasPlannedSteps plan old new (Ok x) = new ≡ with_steps old plan
HasPlannedSteps plan old new (Err Memory) = new ≡ old
HasPlannedSteps plan old new (Err Disk) = StopsIn plan old new
HasPlannedSteps plan old new (Err (BadStore file at)) = ⊥
HasPlannedSteps plan old new (Err OtherProgram) = ⊥

-- both syncs were made, and behind them the start was laid where both files are blank; a call that failed is the last, and a refusal for another cause comes before anything is laid
abbrev pub HasRestoreSteps : {T : Type 0} → Program → ℕ → Past → Past → Result T OpenFault → Type 0
HasRestoreSteps p device old new (Ok x) = new ≡ with_steps old (open_steps old.device ++ start_steps p device old)
HasRestoreSteps p device old new (Err Memory) = new ≡ with_steps old (open_steps old.device)
HasRestoreSteps p device old new (Err Disk) = StopsOpening old new ⊎ StopsIn (start_steps p device old) (with_steps old (open_steps old.device)) new
HasRestoreSteps p device old new (Err (BadStore file at)) = new ≡ with_steps old (open_steps old.device)
HasRestoreSteps p device old new (Err OtherProgram) = new ≡ with_steps old (open_steps old.device)

-- a pair of files that a stop may leave could have been left before, or both files were blank and these open to the start
pub record StillOpens (p : Program) (device : ℕ) (old now : Past) : Type 0 where
  pub images : (first second : List ℕ) → IsCrashImageOf now 0 first → IsCrashImageOf now 1 second
      → (IsCrashImageOf old 0 first × IsCrashImageOf old 1 second) ⊎ (AreBlank old × OpensTo p device first second (unopened p))
  pub others : OnlyDeviceMoves old now

-- the answer is that of files that are this, but where a call of the disk failed or there was no memory
abbrev pub IsAnswerTo : Program → ℕ → stores.Stored → Result Restored OpenFault → Type 0
IsAnswerTo p device stored (Ok r) = stores.opened p device stored ≡ Some (opened_as r)
IsAnswerTo p device stored (Err Memory) = Unit {0}
IsAnswerTo p device stored (Err Disk) = Unit {0}
IsAnswerTo p device stored (Err (BadStore file at)) = stored ≡ stores.Bad file at
IsAnswerTo p device stored (Err OtherProgram) = stored ≡ stores.OtherProgram

-- the disk failed in the call where that is the refusal, and not otherwise
abbrev pub HasRestoreCause : {T : Type 0} → ℕ → ℕ → Result T OpenFault → Type 0
HasRestoreCause before now (Ok x) = now ≡ before
HasRestoreCause before now (Err Memory) = now ≡ before
HasRestoreCause before now (Err Disk) = Rose before now
HasRestoreCause before now (Err (BadStore file at)) = now ≡ before
HasRestoreCause before now (Err OtherProgram) = now ≡ before
