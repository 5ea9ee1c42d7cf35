-- What a scan of one file gives.
-- Read against: a snapshot of 70 bytes with the generation 2 and one record of 29 bytes are framed where the journal starts at 75 and has its
-- gate at 109; a snapshot of 7 bytes, or a record of none, is framed nowhere.
use Rattle.std.specs.Prelude.{◌≡◌, ◌⊎◌, ℕ, true, List, [], map, length, Option, None, Result, Ok, Err}
use Rattle.re_outside.specs.Listed.{Listed}
use Rattle.re_outside.specs.Image.{IsUnchanged}
use Rattle.re_outside.specs.Frame.{IsSnapshotLength, IsGeneration, AreRecords, opened, generation, front, IsBadHead, HasBadFrame}
use Rattle.re_outside.specs.Outside.{Rose}
use Rattle.re_outside.specs.Plan.{FailsOf}
use Rattle.re_outside.specs.Trace.{Past}
use Rattle.re_outside.specs.declared.step.Call.TheVariants as calls
use Rattle.re_journal.specs.declared.fault.ScanFault.{ScanFault}
use Rattle.re_journal.specs.declared.fault.ScanFault.TheVariants.{Memory, Disk, Bad}
use Rattle.re_journal.specs.declared.journal.Journal.{Journal}

-- the bytes of each of these
abbrev pub all_bytes : List (Listed ℕ) → List (List ℕ)
all_bytes lists = map (λ (bytes : Listed ℕ). bytes.items) lists

-- the file is refused at this place: at its length or generation, or behind them
abbrev pub IsRefusedAt : List ℕ → ℕ → Type 0
IsRefusedAt file place = IsBadHead file place ⊎ HasBadFrame file place

-- a call that asked for the length of file f or for bytes of it failed
abbrev pub FailsReading : ℕ → Past → Past → Type 0
FailsReading f old new = FailsOf calls.Size f 0 [] IsUnchanged old new ⊎ ((at : ℕ) × FailsOf calls.Fetch f at [] IsUnchanged old new)

-- the disk failed in the call where that is the refusal, and not otherwise
abbrev pub HasScanCause : {T : Type 0} → ℕ → ℕ → Result T ScanFault → Type 0
HasScanCause before now (Ok x) = now ≡ before
HasScanCause before now (Err Memory) = now ≡ before
HasScanCause before now (Err Disk) = Rose before now
HasScanCause before now (Err (Bad at)) = now ≡ before

-- the call doesn't refuse the file at a place
abbrev pub NamesNoPlace : {T : Type 0} → Result T ScanFault → Type 0
NamesNoPlace (Ok x) = Unit {0}
NamesNoPlace (Err Memory) = Unit {0}
NamesNoPlace (Err Disk) = Unit {0}
NamesNoPlace (Err (Bad at)) = ⊥

-- the steps of the call are none, but where the disk failed
abbrev pub HasScanSteps : {T : Type 0} → ℕ → Past → Past → Result T ScanFault → Type 0
HasScanSteps f old new (Ok x) = new ≡ old
HasScanSteps f old new (Err Memory) = new ≡ old
HasScanSteps f old new (Err Disk) = FailsReading f old new
HasScanSteps f old new (Err (Bad at)) = new ≡ old

-- a journal of this file that has made no call, and to which no other file is known yet
pub record IsFresh (journal : Journal) (f : ℕ) : Type 0 where
  pub file : journal.file ≡ f
  pub calls : journal.calls ≡ 0
  pub other_length : journal.other_length ≡ 0
  pub other_blank : journal.other_blank ≡ true
  pub running : journal.stopped ≡ None

-- a snapshot and records of allowed lengths, the snapshot with an allowed generation, and the gates of the journal stand around the records
pub record IsFramed (journal : Journal) (snapshot : List ℕ) (bodies : List (List ℕ)) : Type 0 where
  pub snapshot_length : IsSnapshotLength (length snapshot)
  pub generation_fits : IsGeneration (generation snapshot)
  pub records : AreRecords bodies
  pub start : journal.start ≡ length (opened snapshot)
  pub gate : journal.gate ≡ length (front snapshot bodies)
