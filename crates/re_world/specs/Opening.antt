-- Devices as they are right after their files were opened, and what a stop leaves while they are opened.
-- Read against: a device of `device a; var x: int = 0;` over blank files is opened at x = 0 and the number 0, with no entry since, and runs. While b is opened behind it a's files stay, and whatever a stop leaves of them could have been left before a's opening, or opens to the start.
use Rattle.std.specs.Prelude.{◌≡◌, ◌⊎◌, ℕ, zero, suc, ◌<◌, ◌≤◌, List, [], ◌++◌, length, Option, None, Some, Result, Ok, Err, slice_get}
use Rattle.re_compact.specs.Finding.{StopsOpening, open_steps}
use Rattle.re_compact.specs.declared.fault.OpenFault.{OpenFault}
use Rattle.re_compact.specs.declared.fault.OpenFault.TheVariants.{Memory, Disk, BadStore, OtherProgram}
use Rattle.re_device.specs.Device.{DeviceState, opened_at}
use Rattle.re_device.specs.Standing.{StandsSettled}
use Rattle.re_outside.specs.Moment.{IsKept, Throughout}
use Rattle.re_outside.specs.Outside.{Rose, Seen, content_in}
use Rattle.re_outside.specs.Port.{disk_faults, other_faults, past_in}
use Rattle.re_outside.specs.Trace.{Past, IsCrashImageAt, as_device, with_steps}
use Rattle.re_outside.specs.declared.step.Step.{Step}
use Rattle.re_record.specs.Restoring.{Opened, unopened}
use Rattle.re_record.specs.Stores as stores
use Rattle.re_record.specs.Stores.{OpensTo}
use Rattle.re_restore.specs.Opening.{AreBlank, StopsIn, start_steps}
use Rattle.re_terms.specs.Admission.{device_count}
use Rattle.re_terms.specs.WordKinds.{IsStateOf}
use Rattle.re_terms.specs.declared.entry.State.{State}
use Rattle.re_terms.specs.declared.program.Program.{Program}

-- the program's device with this number was opened at a state of the program and an entry number, and runs
pub record IsOpened (p : Program) (number : ℕ) (d : DeviceState) : Type 0 where
  pub state : State
  pub entry : ℕ
  pub state_is : IsStateOf p state
  pub memory : d.memory ≡ opened_at p number state entry
  pub running : d.journal.stopped ≡ None
  -- it has counted no call since
  pub calls : d.journal.calls ≡ 0

-- it is what its files opened to, as they read, and stands there
pub record HasOpened (p : Program) (number : ℕ) (old now : Seen) (device : DeviceState) : Type 0 where
  pub is_opened : IsOpened p number device
  pub opens : OpensTo p number (content_in old number 0) (content_in old number 1) device.memory.settled
  pub stands : StandsSettled device (past_in number now)

-- each pair of files of a device that a stop may leave could have been left before, or both files were blank and these open to the start
abbrev pub KeepsOpening : Program → Past → Past → Type 0
KeepsOpening p old now = (d : ℕ) (first second : List ℕ) → IsCrashImageAt now d 0 first → IsCrashImageAt now d 1 second
    → (IsCrashImageAt old d 0 first × IsCrashImageAt old d 1 second) ⊎ (AreBlank (as_device d old) × OpensTo p d first second (unopened p))

-- so many devices are opened, in order, and the files of the others are as they were
pub record AreOpened (p : Program) (devices : List (Option DeviceState)) (old now : Seen) : Type 0 where
  pub opened : (d : ℕ) → d < length devices → (device : DeviceState) × (slice_get devices d ≡ Some (Some device)) × HasOpened p d old now device
  pub others : (d f : ℕ) → length devices ≤ d → IsKept d f (past_in 0 old) (past_in 0 now)
  pub moments : Throughout (past_in 0 old) (past_in 0 now) (KeepsOpening p (past_in 0 old))

-- each of these devices is in memory as it was opened
abbrev pub EachOpened : Program → List (Option DeviceState) → Type 0
EachOpened p devices = (d : ℕ) → d < length devices → (x : DeviceState) × (slice_get devices d ≡ Some (Some x)) × IsOpened p d x

-- each device of a lesser number opens, as its files read
abbrev pub OpenBefore : Program → ℕ → Seen → Type 0
OpenBefore p number s = (d : ℕ) → d < number → (o : Opened) × OpensTo p d (content_in s d 0) (content_in s d 1) o

-- ---- file calls

-- the steps by which a device's files are opened, and the start is laid where they are blank
abbrev pub opening_steps : Program → ℕ → Past → List Step
opening_steps p number old = open_steps old.device ++ start_steps p number old

-- the calls of an opening, up to the first that failed; memory may run out before the start is laid, and behind all calls
abbrev pub HasOpeningSteps : {T : Type 0} → Program → ℕ → Past → Past → Result T OpenFault → Type 0
HasOpeningSteps p number old new (Ok x) = new ≡ with_steps old (opening_steps p number old)
HasOpeningSteps p number old new (Err Memory) = (new ≡ with_steps old (open_steps old.device)) ⊎ (new ≡ with_steps old (opening_steps p number old))
HasOpeningSteps p number old new (Err Disk) = StopsOpening old new ⊎ StopsIn (start_steps p number old) (with_steps old (open_steps old.device)) new
HasOpeningSteps p number old new (Err (BadStore file at)) = new ≡ with_steps old (open_steps old.device)
HasOpeningSteps p number old new (Err OtherProgram) = new ≡ with_steps old (open_steps old.device)

-- the steps by which the first so many devices are opened, in order; each finds its files as they were before the first
abbrev pub steps_before : Program → ℕ → Past → List Step
steps_before p zero old = []
steps_before p (suc number) old = steps_before p number old ++ opening_steps p number (as_device number old)

-- the moment at which so many devices are opened
abbrev pub after_opening : Program → ℕ → Past → Past
after_opening p number old = with_steps old (steps_before p number old)

-- memory ran out before the device was opened
abbrev pub RanOutBefore : {T : Type 0} → Past → Past → Result T OpenFault → Type 0
RanOutBefore old new (Err Memory) = new ≡ old
RanOutBefore old new r = ⊥

-- the calls of opening the next device, none where memory ran out before it
abbrev pub HasNextSteps : {T : Type 0} → Program → ℕ → Past → Past → Result T OpenFault → Type 0
HasNextSteps p number old new r = RanOutBefore old new r ⊎ HasOpeningSteps p number old new r

-- the calls of opening all devices: those of the ones before the one that is refused whole, and its own as far as they came
abbrev pub HasAllOpeningSteps : {T : Type 0} → Program → Past → Past → Result T (ℕ × OpenFault) → Type 0
HasAllOpeningSteps p old new (Ok x) = new ≡ after_opening p (device_count p.decls.items) old
HasAllOpeningSteps {T} p old new (Err (d, fault)) = HasNextSteps {T = T} p d (as_device d (after_opening p d old)) (as_device d new) (Err fault)

-- ---- causes

-- the answer of an opening is that of files that are this, but where a call of the disk failed or there was no memory
abbrev pub IsOpeningAnswer : Program → ℕ → stores.Stored → Result DeviceState OpenFault → Type 0
IsOpeningAnswer p number stored (Ok x) = stores.opened p number stored ≡ Some x.memory.settled
IsOpeningAnswer p number stored (Err Memory) = Unit {0}
IsOpeningAnswer p number stored (Err Disk) = Unit {0}
IsOpeningAnswer p number stored (Err (BadStore file at)) = stored ≡ stores.Bad file at
IsOpeningAnswer p number stored (Err OtherProgram) = stored ≡ stores.OtherProgram

-- where the disk of a device is the refusal its calls failed, and no others; else no call failed
abbrev pub HasOpeningCause : {T : Type 0} → Seen → Seen → Result T (ℕ × OpenFault) → Type 0
HasOpeningCause old now (Ok x) = now.faults ≡ old.faults
HasOpeningCause old now (Err (d, Memory)) = now.faults ≡ old.faults
HasOpeningCause old now (Err (d, Disk)) = Rose (disk_faults d old) (disk_faults d now) × (other_faults d now ≡ other_faults d old)
HasOpeningCause old now (Err (d, BadStore file at)) = now.faults ≡ old.faults
HasOpeningCause old now (Err (d, OtherProgram)) = now.faults ≡ old.faults
