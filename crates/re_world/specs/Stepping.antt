-- What a command does to the devices of a program, their packets and their files: one step of each world that they are.
-- Read against: on `device a; var x: int = 0;` the turn x = 5 over a disk that works is answered ok 1, no count of faults rises, and the world has one settled entry more. Where the fourth call of its commit fails, a's count rises and no other, the answer is no 33, and the entry is in doubt; a turn then is answered no 34 at 4.
use Rattle.std.specs.Prelude.{◌≡◌, ◌≢◌, ◌⊎◌, ℕ, Bool, true, false, List, Option, None, Some, slice_get}
use Rattle.re_device.specs.Committing.{record_reads_open}
use Rattle.re_device.specs.Device.{DeviceState, current}
use Rattle.re_outside.specs.Moment.{Throughout}
use Rattle.re_outside.specs.Outside.{FaultKind, Rose, Seen, content_in}
use Rattle.re_outside.specs.Port.{disk_faults, other_faults, past_in}
use Rattle.re_outside.specs.Trace.{IsJointImage}
use Rattle.re_print.specs.AnswerTexts.{AscendsWhereSet}
use Rattle.re_record.specs.Restoring.{Opened}
use Rattle.re_record.specs.Stores as stores
use Rattle.re_record.specs.Stores.{HasStore}
use Rattle.re_terms.specs.DeviceWorlds.{BadStore, Failed, Fine, Memory, OtherProgram, Outcome, World, device_of, is_refusal, reply, world_after}
use Rattle.re_terms.specs.Worlds.{BadFile, PlainAnswer, Refused, Up, plain_answer}
use Rattle.re_terms.specs.SignalWords.{replicated_place}
use Rattle.re_terms.specs.declared.command.Answer.{Answer}
use Rattle.re_terms.specs.declared.command.Answer.TheVariants as answer
use Rattle.re_terms.specs.declared.command.Command.{Command}
use Rattle.re_terms.specs.declared.command.Command.TheVariants as command
use Rattle.re_terms.specs.declared.program.Program.{Program}
use Rattle.re_terms.specs.declared.replicated.RCell.TheVariants as cell
use Rattle.re_world.specs.Causes.{HasCause}
use Rattle.re_world.specs.FileSteps.{HasFileSteps, is_disk_refusal}
use Rattle.re_world.specs.Images.{Restores}
use Rattle.re_world.specs.Standing.{IsWorldOf}
use Rattle.re_world.specs.State.{WorldState, device_in}
use Rattle.re_world.specs.Taking.{Takes}

-- ---- what the outside shows

-- no count of faults has changed
abbrev pub NoneRose : Seen → Seen → Type 0
NoneRose before now = (kind : FaultKind) → now.faults kind ≡ before.faults kind

-- the count of the command's device has risen, and no other has changed
pub record OwnRose (c : Command) (before now : Seen) : Type 0 where
  pub device : ℕ
  pub device_is : device_of c ≡ Some device
  pub rose : Rose (disk_faults device before) (disk_faults device now)
  pub others : other_faults device now ≡ other_faults device before

-- the files of the device that the command restarts read as this
pub record ReadsAs (p : Program) (c : Command) (stored : stores.Stored) (before : Seen) : Type 0 where
  pub device : ℕ
  pub command_is : c ≡ command.Restart device
  pub store : HasStore p device (content_in before device 0) (content_in before device 1) stored

-- a device has stopped at this call, and this tells whether the gate of the record in hand reads as open
pub record StopsAs (old new : WorldState) (d at : ℕ) (gate_open : Bool) (before now : Seen) : Type 0 where
  pub device : DeviceState
  pub place : device_in old d ≡ Some device
  pub device_after : DeviceState
  pub place_after : device_in new d ≡ Some device_after
  pub stopped : device_after.journal.stopped ≡ Some at
  pub reads : gate_open ≡ record_reads_open device (past_in d before) (past_in d now)

-- a command failed at this call; of a restart that fails no device is in memory, and the call's number and the gate are free
abbrev pub Fails : WorldState → WorldState → Command → ℕ → Bool → Seen → Seen → Type 0
Fails old new (command.Restart d) at gate_open before now = Unit {0}
Fails old new c at gate_open before now = (d : ℕ) × (device_of c ≡ Some d) × StopsAs old new d at gate_open before now

-- a command fared so, as the outside shows it: a file call failed exactly where the count of the command's device has risen, and a restart that is refused for its store found files that read so
abbrev pub Shows : WorldState → WorldState → Command → Outcome → Seen → Seen → Type 0
Shows old new c Fine before now = NoneRose before now
Shows old new c Memory before now = NoneRose before now
Shows old new c (Failed at gate_open) before now = OwnRose c before now × Fails old new c at gate_open before now
Shows old new c (BadStore file place) before now = NoneRose before now × ReadsAs old.program c (stores.Bad file place) before
Shows old new c OtherProgram before now = NoneRose before now × ReadsAs old.program c stores.OtherProgram before

-- where a file call failed the count of the command's device has risen, and no other has changed; else none has
abbrev pub CountsIf : Bool → Command → Seen → Seen → Type 0
CountsIf true c before now = OwnRose c before now
CountsIf false c before now = NoneRose before now

-- the same by the answer, which has the code 33 where a file call failed
abbrev pub CountsBy : Command → PlainAnswer → Seen → Seen → Type 0
CountsBy c a before now = CountsIf (is_disk_refusal a) c before now

-- ---- a step

-- at each moment of the command the files of all devices that a stop may leave restore to the world before it, with the command under way
abbrev pub RestoresWithin : Program → World → Command → Outcome → Seen → Seen → Type 0
RestoresWithin p w c o before now = Throughout (past_in 0 before) (past_in 0 now) (λ m. (files : ℕ → ℕ → List ℕ) → IsJointImage m files → Restores p w (Some (record { asked = c; outcome = o })) files)

-- The command was one step of each world that these devices, packets and files are, by one outcome that the outside shows. A stop at any moment of it leaves files that restore to the world before it, with all entries of the command's record or none.
pub record HasStepped (old new : WorldState) (c : Command) (a : PlainAnswer) (before now : Seen) : Type 0 where
  pub outcome : Outcome
  pub shows : Shows old new c outcome before now
  pub answers : (p : Program) (w : World) → IsWorldOf p w old before → a ≡ reply p w c outcome
  pub world : (p : Program) (w : World) → IsWorldOf p w old before → IsWorldOf p (world_after p w c outcome) new now
  pub restores : (p : Program) (w : World) → IsWorldOf p w old before → RestoresWithin p w c outcome before now

-- ---- what stays

-- a device whose file call failed has the memory that it had, and has stopped; one that was to be restarted is down
abbrev pub IsLeftStopped : Option DeviceState → Option DeviceState → Type 0
IsLeftStopped None None = Unit {0}
IsLeftStopped (Some x) (Some y) = (y.memory ≡ x.memory) × (y.journal.stopped ≢ None)
IsLeftStopped a b = ⊥

-- what a command leaves of devices and packets, by its answer
pub record Keeps (old new : WorldState) (c : Command) (a : PlainAnswer) : Type 0 where
  pub program : new.program ≡ old.program
  -- only its own device can have changed
  pub others : (d : ℕ) → device_of c ≢ Some d → device_in new d ≡ device_in old d
  -- a refusal changes nothing, but for the device that stops where a file call failed
  pub refused : is_refusal a ≡ true → is_disk_refusal a ≡ false → new ≡ old
  pub stops : is_disk_refusal a ≡ true → (d : ℕ) → device_of c ≡ Some d → IsLeftStopped (device_in old d) (device_in new d)
  pub packets : is_disk_refusal a ≡ true → new.packets ≡ old.packets

-- the answer says that a store is bad, or another program's
abbrev pub IsStoreRefusal : PlainAnswer → Type 0
IsStoreRefusal (Refused code) = code ≡ 39
IsStoreRefusal (BadFile file at) = Unit {0}
IsStoreRefusal a = ⊥

-- all that a command does, over an outside that tells what is seen of it or doesn't
pub record DoesCommand (tells : Bool) (old new : WorldState) (c : Command) (a : Answer) (before now : Seen) : Type 0 where
  pub keeps : Keeps old new c (plain_answer a)
  pub caused : HasCause old c (plain_answer a)
  pub ascends : AscendsWhereSet a
  pub counts : CountsBy c (plain_answer a) before now
  pub takes : Takes old new c (plain_answer a)
  -- a restart alone is refused for its store
  pub stores : IsStoreRefusal (plain_answer a) → (d : ℕ) × (c ≡ command.Restart d)
  pub left : tells ≡ true → now.left ≡ before.left
  pub files : tells ≡ true → HasFileSteps old new c (plain_answer a) before now
  pub stepped : tells ≡ true → HasStepped old new c (plain_answer a) before now

-- the same of a command that calls nothing outside
abbrev pub DoesInside : WorldState → WorldState → Command → Answer → Type 0
DoesInside old new c a = (tells : Bool) (s : Seen) → DoesCommand tells old new c a s s

-- what is answered of a set: its pairs, or that memory ran out
abbrev pub IsSetOrMemory : DeviceState → ℕ → Answer → Type 0
IsSetOrMemory d id (answer.Members pairs) = slice_get (current d.memory).state.rep.cells.items (replicated_place d.memory.program.decls.items id) ≡ Some (cell.Set pairs)
IsSetOrMemory d id (answer.No code) = code ≡ 36
IsSetOrMemory d id a = ⊥

-- ---- restarts

-- the refusal with this code of the restart of a device that is down: 39 where the files are another program's, and 33 and 36 whatever they are
abbrev pub RefusesRestart : stores.Stored → ℕ → Type 0
RefusesRestart stored code = ((code ≡ 39) × (stored ≡ stores.OtherProgram)) ⊎ ((code ≡ 33) ⊎ (code ≡ 36))

-- the answer to the restart of a device that is down, by what its files are: the number to which they open, or why they don't
abbrev pub IsRestartAnswer : Program → ℕ → stores.Stored → PlainAnswer → Type 0
IsRestartAnswer p d stored (Up number) = (opened : Opened) × (stores.opened p d stored ≡ Some opened) × (opened.number ≡ number)
IsRestartAnswer p d stored (BadFile file at) = stored ≡ stores.Bad file at
IsRestartAnswer p d stored (Refused code) = RefusesRestart stored code
IsRestartAnswer p d stored a = ⊥
