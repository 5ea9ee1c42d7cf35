-- What a device writes when it settles entries.
-- Read against: a device with one unsettled turn that takes another writes one record of the two. With a journal of 65,537 bytes and generation 1 it first lays the snapshot of what its files hold, with generation 2; at generation 2^62, or with 65,536 bytes, it lays none.
use Rattle.std.specs.Prelude.{◌≡◌, ℕ, ◌+◌, ◌-◌, ◌^◌, ◌&&◌, Bool, if◌then◌else◌, nat_lt, List, Option, Some, None, option_map, Result, Ok, Err}
use Rattle.re_compact.specs.Committing.{committing_calls, committing_steps, reads_open}
use Rattle.re_journal.specs.Commits.{StopsJournal}
use Rattle.re_journal.specs.Journals.{frame_of}
use Rattle.re_journal.specs.declared.journal.Journal.{Journal}
use Rattle.re_outside.specs.Outside.{Rose}
use Rattle.re_outside.specs.Trace.{Past, with_steps}
use Rattle.re_outside.specs.declared.step.Step.{Step}
use Rattle.re_record.specs.Spellings.{record_bytes, snapshot_bytes}
use Rattle.re_terms.specs.Shapes.{shape_of}
use Rattle.re_terms.specs.declared.entry.Logged.{Logged}
use Rattle.re_device.specs.Device.{DeviceMemory, DeviceState}
use Rattle.re_device.specs.declared.fault.DeviceFault.{DeviceFault}
use Rattle.re_device.specs.declared.fault.DeviceFault.TheVariants as fault

-- how many bytes a journal has
abbrev pub journal_bytes : Journal → ℕ
journal_bytes journal = journal.gate - journal.start - 1

-- a new snapshot is due: the journal has more than 65,536 bytes, and there is a generation more
abbrev pub is_due : DeviceState → Bool
is_due d = nat_lt 65536 (journal_bytes d.journal) && nat_lt d.generation (2 ^ 62)

-- the next snapshot: of what the files hold, with the next generation
abbrev pub next_snapshot : DeviceState → List ℕ
next_snapshot d = snapshot_bytes d.memory.program d.memory.device (d.generation + 1) d.memory.settled.number d.memory.settled.state

-- it, where it is due
abbrev pub due_snapshot : DeviceState → Option (List ℕ)
due_snapshot d = if is_due d then Some (next_snapshot d) else None

-- the frame of the record of these entries
abbrev pub framed_record : DeviceMemory → List Logged → List ℕ
framed_record m entries = frame_of (record_bytes (shape_of m.program).devices entries)

-- the generation behind a commit
abbrev pub next_generation : DeviceState → ℕ
next_generation d = if is_due d then d.generation + 1 else d.generation

-- the steps by which these entries are settled
abbrev pub settling_steps : ℕ → DeviceState → List Logged → List Step
settling_steps number d entries = committing_steps number d.journal (option_map frame_of (due_snapshot d)) (framed_record d.memory entries)

-- how many calls these are
abbrev pub settling_calls : DeviceState → ℕ
settling_calls d = committing_calls d.journal (option_map frame_of (due_snapshot d))

-- of the calls that settle entries one was made that writes the record, and the record's gate reads as open
abbrev pub record_reads_open : DeviceState → Past → Past → Bool
record_reads_open d old now = reads_open d.journal (option_map frame_of (due_snapshot d)) old now

-- all calls that settle these entries were made, or those up to one that failed, at which the journal stopped; where the call was refused otherwise none was made
abbrev pub HasSettlingSteps : {T : Type 0} → DeviceState → List Logged → Option ℕ → Past → Past → Result T DeviceFault → Type 0
HasSettlingSteps d entries stopped old new (Ok x) = new ≡ with_steps old (settling_steps old.device d entries)
HasSettlingSteps d entries stopped old new (Err fault.Disk) = StopsJournal (settling_steps old.device d entries) d.journal.calls stopped old new
HasSettlingSteps d entries stopped old new (Err f) = new ≡ old

-- the disk failed in the call where that is the refusal, and not otherwise
abbrev pub HasDiskCause : {T : Type 0} → ℕ → ℕ → Result T DeviceFault → Type 0
HasDiskCause before now (Ok x) = now ≡ before
HasDiskCause before now (Err fault.Disk) = Rose before now
HasDiskCause before now (Err f) = now ≡ before
