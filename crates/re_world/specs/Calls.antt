-- What a call that commits does to a device and its files, as the world that it is part of needs it.
-- Read against: a turn on a running device that has one unsettled entry commits a record of two. Where a call of the disk fails the device is as before but stopped, and its files read as with both entries or with none; where the turn is refused for a limit nothing has changed, and no call was made.
use Rattle.std.specs.Prelude.{◌≡◌, ◌≢◌, ℕ, ◌+◌, List, [], ◌++◌, length, Some, None, Result, Err, OnOk}
use Rattle.re_device.specs.Committing.{HasSettlingSteps, record_reads_open, settling_calls}
use Rattle.re_device.specs.Device.{DeviceState}
use Rattle.re_device.specs.Standing.{LeavesEither, ReadsBy, StandsSettled}
use Rattle.re_device.specs.Stepping.{IsDeviceOf, IsPlainly, StepsWhere, fared_as}
use Rattle.re_device.specs.declared.fault.DeviceFault.{DeviceFault}
use Rattle.re_device.specs.declared.fault.DeviceFault.TheVariants as fault
use Rattle.re_journal.specs.Journals.{calls_after}
use Rattle.re_outside.specs.Moment.{Throughout}
use Rattle.re_outside.specs.Trace.{Past}
use Rattle.re_record.specs.Restoring.{Opened}
use Rattle.re_terms.specs.DeviceWorlds.{World, record_of, settled_number}
use Rattle.re_terms.specs.Entries.{run_entries}
use Rattle.re_terms.specs.Worlds.{PlainAnswer}
use Rattle.re_terms.specs.declared.command.Command.{Command}
use Rattle.re_terms.specs.declared.entry.Logged.{Logged}
use Rattle.re_terms.specs.declared.program.Program.{Program}

-- what the record of a command leads to, as the state and number that the files then open to
pub record LeadsTo (P : Program → World → Type 0) (c : Command) (after : Opened) (d : DeviceState) : Type 0 where
  pub plainly : (p : Program) (w : World) → IsDeviceOf p w d → P p w → IsPlainly p after (run_entries p d.memory.device (w.base d.memory.device) (w.settled d.memory.device ++ record_of w c)) (settled_number w d.memory.device + length (record_of w c))

-- the calls of a commit of these entries: none where there are none, and the device has counted them
pub record MakesCalls {T : Type 0} (entries : List Logged) (old new : DeviceState) (before now : Past) (r : Result T DeviceFault) : Type 0 where
  pub none : entries ≡ [] → (new ≡ old) × (now ≡ before)
  pub made : entries ≢ [] → HasSettlingSteps old entries new.journal.stopped before now r
  pub counted : entries ≢ [] → OnOk r (new.journal.calls ≡ calls_after (settling_calls old) old.journal.calls)

-- what a call leaves of a device: all where it is refused, but for the stop where a call of the disk failed
pub record Leaves {T : Type 0} (old new : DeviceState) (r : Result T DeviceFault) : Type 0 where
  pub program : new.memory.program ≡ old.memory.program
  pub number : new.memory.device ≡ old.memory.device
  pub refused : (f : DeviceFault) → r ≡ Err f → f ≢ fault.Disk → new ≡ old
  pub memory : r ≡ Err fault.Disk → new.memory ≡ old.memory
  pub stops : r ≡ Err fault.Disk → new.journal.stopped ≢ None

-- a call that commits the record of a command, in each world in which P holds
pub record Commits {T : Type 0} (P : Program → World → Type 0) (entries : List Logged) (after : Opened) (c : Command) (answered : Result T DeviceFault → PlainAnswer) (old new : DeviceState) (before now : Past) (r : Result T DeviceFault) : Type 0 where
  pub calls : MakesCalls entries old new before now r
  pub steps : StepsWhere P old new c (fared_as new.journal.stopped (record_reads_open old before now) r) (answered r)
  pub leads : LeadsTo P c after old
  pub moments : StandsSettled old before → Throughout before now (LeavesEither old.memory after before)
  pub reads : StandsSettled old before → ReadsBy old.memory after (record_reads_open old before now) now
  pub stands : OnOk r (StandsSettled old before → StandsSettled new now)
  pub stopped : (at : ℕ) → old.journal.stopped ≡ Some at → r ≡ Err (fault.Stopped at)
  pub runs : OnOk r (new.journal.stopped ≡ None)
