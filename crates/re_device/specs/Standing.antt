-- Where a device stands on its files, and what a stop may leave of them.
-- Read against: a device of `device a; var x: int = 0;` that was opened on blank files stands on a store of generation 1, of the start and no record, and its files open to x = 0 and the number 0.
-- At each moment of the turn x = 5 they open to this, or to x = 5 and the number 1; after it only to the latter. With one unsettled turn before it they open to the number 0 or to the number 2.
-- Where its last call failed, a sync, the files read as with x = 5, for the record's gate reads as open; where its first call failed they read as with x = 0.
use Rattle.std.specs.Prelude.{◌≡◌, ◌⊎◌, ℕ, Bool, true, false, List}
use Rattle.re_compact.specs.Pair.{StandsIn}
use Rattle.re_journal.specs.declared.journal.Journal.{Journal}
use Rattle.re_outside.specs.Frame.{Store, generation}
use Rattle.re_outside.specs.Moment.{OnlyDeviceMoves}
use Rattle.re_outside.specs.Trace.{Past, IsCrashImageOf, content_of}
use Rattle.re_record.specs.Restoring.{Opened}
use Rattle.re_record.specs.Stores.{ComesTo, OpensTo}
use Rattle.re_device.specs.Device.{DeviceMemory, DeviceState}

-- the journal stands on a store of this generation that comes to this state and entry number
pub record StandsAt (m : DeviceMemory) (o : Opened) (number : ℕ) (journal : Journal) (now : Past) : Type 0 where
  pub snapshot : List ℕ
  pub bodies : List (List ℕ)
  pub stands : StandsIn journal (Store journal.file snapshot bodies) now
  pub comes : ComesTo m.program m.device snapshot bodies o
  pub number_is : generation snapshot ≡ number

-- the journal of a device stands on a store that comes to what it has settled
abbrev pub StandsSettled : DeviceState → Past → Type 0
StandsSettled d now = StandsAt d.memory d.memory.settled d.generation d.journal now

-- two files open to the one or to the other
abbrev pub OpensToEither : DeviceMemory → Opened → Opened → List ℕ → List ℕ → Type 0
OpensToEither m before after first second = OpensTo m.program m.device first second before ⊎ OpensTo m.program m.device first second after

-- each pair of files that a stop may leave opens to what was settled before or to this, and no file of another device has moved
pub record LeavesEither (m : DeviceMemory) (after : Opened) (old now : Past) : Type 0 where
  pub images : (first second : List ℕ) → IsCrashImageOf now 0 first → IsCrashImageOf now 1 second → OpensToEither m m.settled after first second
  pub others : OnlyDeviceMoves old now

-- the files as they read open to this where the gate of its record reads as open, and else to what was settled before
abbrev pub ReadsBy : DeviceMemory → Opened → Bool → Past → Type 0
ReadsBy m after true now = OpensTo m.program m.device (content_of now 0) (content_of now 1) after
ReadsBy m after false now = OpensTo m.program m.device (content_of now 0) (content_of now 1) m.settled

-- each pair of files that a stop may leave opens to this
abbrev pub LeavesOnly : DeviceMemory → Opened → Past → Type 0
LeavesOnly m after now = (first second : List ℕ) → IsCrashImageOf now 0 first → IsCrashImageOf now 1 second → OpensTo m.program m.device first second after
