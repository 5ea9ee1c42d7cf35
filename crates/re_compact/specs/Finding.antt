-- What is found in the two files of a device, and what finding it does there.
-- Read against: where both files are blank the journal stands on them, with file 1 as its own; a stop behind the two syncs leaves both
-- files as they read before. A store of a snapshot of 7 bytes, or of generation 0, is never found, whatever the disk tells.
use Rattle.std.specs.Prelude.{◌≡◌, ◌⊎◌, ℕ, Bool, true, List, [], ◌∷◌, length, None, Result, Ok, Err}
use Rattle.re_outside.specs.Frame.{StoreFrame, Blank as BlankFrame, Store as StoreOf, IsGeneration, generation}
use Rattle.re_outside.specs.Moment.{IsKept, IsSettled, OnlyDeviceMoves}
use Rattle.re_outside.specs.Outside.{Rose}
use Rattle.re_outside.specs.Plan.{StopsAt}
use Rattle.re_outside.specs.Trace.{Past, with_steps, content_of}
use Rattle.re_outside.specs.declared.step.Step.{Step}
use Rattle.re_outside.specs.declared.step.Step.TheVariants as steps
use Rattle.re_journal.specs.Journals.{other_file}
use Rattle.re_journal.specs.Scans.{all_bytes, FailsReading, IsFramed}
use Rattle.re_journal.specs.declared.journal.Journal.{Journal}
use Rattle.re_compact.specs.Choices.{IsChoice, IsCounting}
use Rattle.re_compact.specs.declared.choice.Choice.{Choice}
use Rattle.re_compact.specs.declared.fault.OpenFault.{OpenFault}
use Rattle.re_compact.specs.declared.fault.OpenFault.TheVariants.{Memory, Disk, BadStore, OtherProgram}
use Rattle.re_compact.specs.declared.finding.Found.{Found}
use Rattle.re_compact.specs.declared.finding.Found.TheVariants.{Blank, Store}

-- the frame that was found
abbrev pub frame_found : Found → StoreFrame
frame_found (Blank journal) = BlankFrame
frame_found (Store journal g snapshot bodies) = StoreOf journal.file snapshot.items (all_bytes bodies.items)

-- the journal that was found
abbrev pub journal_found : Found → Journal
journal_found (Blank journal) = journal
journal_found (Store journal g snapshot bodies) = journal

-- the generation is the one with which the snapshot begins
abbrev pub HasItsGeneration : Found → Type 0
HasItsGeneration (Blank journal) = Unit {0}
HasItsGeneration (Store journal g snapshot bodies) = g ≡ generation snapshot.items

-- the generation is a number that may be one, and what was found has the lengths and the gates that a store may have
abbrev pub IsFramedFound : Found → Type 0
IsFramedFound (Blank journal) = Unit {0}
IsFramedFound (Store journal g snapshot bodies) = IsGeneration g × IsFramed journal snapshot.items (all_bytes bodies.items)

-- the journal has made no call and isn't stopped, and on two blank files its own one is file 1
abbrev pub IsFreshlyFound : Found → Type 0
IsFreshlyFound (Blank journal) = (journal.calls ≡ 0) × (journal.stopped ≡ None) × (journal.file ≡ 1)
IsFreshlyFound (Store journal g snapshot bodies) = (journal.calls ≡ 0) × (journal.stopped ≡ None)

-- the steps that begin an opening: a sync of each file
abbrev pub open_steps : ℕ → List Step
open_steps d = steps.Sync d 0 ∷ steps.Sync d 1 ∷ []

-- one of the syncs failed, or behind them a call that asked for a length or for bytes
abbrev pub StopsOpening : Past → Past → Type 0
StopsOpening old new = ((at : ℕ) × StopsAt (open_steps old.device) 0 at old new) ⊎ ((file : ℕ) × FailsReading file (with_steps old (open_steps old.device)) new)

-- both syncs were made and no other step, but where the disk failed
abbrev pub HasOpenSteps : {T : Type 0} → Past → Past → Result T OpenFault → Type 0
HasOpenSteps old new (Ok x) = new ≡ with_steps old (open_steps old.device)
HasOpenSteps old new (Err Memory) = new ≡ with_steps old (open_steps old.device)
HasOpenSteps old new (Err Disk) = StopsOpening old new
HasOpenSteps old new (Err (BadStore file at)) = new ≡ with_steps old (open_steps old.device)
HasOpenSteps old new (Err OtherProgram) = new ≡ with_steps old (open_steps old.device)

-- the disk failed in the call where that is the refusal, and not otherwise; another program is no refusal of it
abbrev pub HasOpenCause : {T : Type 0} → ℕ → ℕ → Result T OpenFault → Type 0
HasOpenCause before now (Ok x) = now ≡ before
HasOpenCause before now (Err Memory) = now ≡ before
HasOpenCause before now (Err Disk) = Rose before now
HasOpenCause before now (Err (BadStore file at)) = now ≡ before
HasOpenCause before now (Err OtherProgram) = ⊥

-- both files read as they did, a stop leaves nothing of them that it couldn't have left, and no file of another device has moved
pub record KeepsFiles (old now : Past) : Type 0 where
  pub first : IsKept old.device 0 old now
  pub second : IsKept old.device 1 old now
  pub others : OnlyDeviceMoves old now

-- both files are settled
pub record AreSettled (now : Past) : Type 0 where
  pub first : IsSettled 0 (content_of now 0) now
  pub second : IsSettled 1 (content_of now 1) now

-- the files have these lengths, and their heads say this
pub record IsMeasured (choice : Choice) (first second : ℕ) (now : Past) : Type 0 where
  pub first_length : first ≡ length (content_of now 0)
  pub second_length : second ≡ length (content_of now 1)
  pub chosen : IsChoice choice (content_of now 0) (content_of now 1)

-- this file counts with this generation, and the other one has so many bytes and is blank or not
pub record CountsIn (file g other_length : ℕ) (other_blank : Bool) (now : Past) : Type 0 where
  pub settled : AreSettled now
  pub size : other_length ≡ length (content_of now (other_file file))
  pub counting : IsCounting (content_of now file) (content_of now (other_file file)) g other_blank

-- no step was made, but where a call that asked for a length or for bytes failed
abbrev pub HasReadSteps : {T : Type 0} → Past → Past → Result T OpenFault → Type 0
HasReadSteps old new (Ok x) = new ≡ old
HasReadSteps old new (Err Memory) = new ≡ old
HasReadSteps old new (Err Disk) = (file : ℕ) × FailsReading file old new
HasReadSteps old new (Err (BadStore file at)) = new ≡ old
HasReadSteps old new (Err OtherProgram) = new ≡ old

-- the journal of two blank files of these lengths
pub record IsBlankJournal (first second : ℕ) (journal : Journal) : Type 0 where
  pub file : journal.file ≡ 1
  pub start : journal.start ≡ 0
  pub gate : journal.gate ≡ 0
  pub own_length : journal.length ≡ second
  pub calls : journal.calls ≡ 0
  pub other_length : journal.other_length ≡ first
  pub other_blank : journal.other_blank ≡ true
  pub running : journal.stopped ≡ None
