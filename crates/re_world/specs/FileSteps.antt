-- The calls that a command makes on the files of its device, as the steps that they add.
-- Read against: on `device a; var x: int = 0;` right after blank files were opened the turn x = 5 adds a write and a sync of its record, then a write and a sync of the record's gate, and the device has counted 4 calls. Where the third of them fails it stops at 3, and what was added are the first two, with the failed write behind them or without.
-- A `get` adds nothing, and neither does a turn that is refused for a limit; a restart over files that hold a store adds two syncs, and the device then has counted none.
use Rattle.std.specs.Prelude.{◌≡◌, ℕ, ◌++◌, ◌==◌, Bool, true, false, List, [], ◌∷◌, length, Option, None, Some, Result, Ok, Err, slice_get}
use Rattle.re_compact.specs.declared.fault.OpenFault.{OpenFault}
use Rattle.re_compact.specs.declared.fault.OpenFault.TheVariants as unopened
use Rattle.re_device.specs.Committing.{settling_steps}
use Rattle.re_device.specs.Device.{DeviceState, logged}
use Rattle.re_journal.specs.Commits.{StopsJournal}
use Rattle.re_journal.specs.Journals.{calls_after}
use Rattle.re_outside.specs.Outside.{Seen}
use Rattle.re_outside.specs.Port.{past_in}
use Rattle.re_outside.specs.Trace.{Past, with_steps}
use Rattle.re_outside.specs.declared.step.Step.{Step}
use Rattle.re_terms.specs.DeviceWorlds.{is_refusal}
use Rattle.re_terms.specs.Shapes.{FitsShape, shape_of}
use Rattle.re_terms.specs.Spellings.{packet_bytes}
use Rattle.re_terms.specs.Worlds.{BadFile, PlainAnswer, Refused, Up}
use Rattle.re_terms.specs.declared.command.Command.{Command}
use Rattle.re_terms.specs.declared.command.Command.TheVariants as command
use Rattle.re_terms.specs.declared.entry.Entry.TheVariants as entry
use Rattle.re_terms.specs.declared.entry.Logged.{Logged}
use Rattle.re_terms.specs.declared.program.Program.{Program}
use Rattle.re_terms.specs.declared.replicated.RState.{RState}
use Rattle.re_world.specs.Opening.{HasOpeningSteps}
use Rattle.re_world.specs.State.{WorldState, device_in}

-- ---- answers

-- the answer that says that a file call failed
abbrev pub is_disk_refusal : PlainAnswer → Bool
is_disk_refusal (Refused code) = code == 33
is_disk_refusal a = false

-- the refusal of an opening, as an answer
abbrev pub unopened_as : OpenFault → PlainAnswer
unopened_as unopened.Memory = Refused 36
unopened_as unopened.Disk = Refused 33
unopened_as (unopened.BadStore file at) = BadFile file at
unopened_as unopened.OtherProgram = Refused 39

-- what an opening came to, as the answer to a restart: the entry number at which the device is up, or the refusal
abbrev pub restarted_as : Result ℕ OpenFault → PlainAnswer
restarted_as (Ok number) = Up number
restarted_as (Err f) = unopened_as f

-- ---- commits

-- the packet with this number is that of this replicated state
pub record IsPacketState (v : WorldState) (k : ℕ) (state : RState) : Type 0 where
  pub fits : FitsShape (shape_of v.program) state
  pub bytes : slice_get v.packets k ≡ Some (packet_bytes (shape_of v.program).devices state)

-- the record by which a device does the command has these entries: all unsettled ones, and the command's own behind them
abbrev pub Writes : WorldState → Command → DeviceState → List Logged → Type 0
Writes v (command.Turn d t) x entries = entries ≡ x.memory.unsettled ++ logged x.memory (entry.Turn t.turn) ∷ []
Writes v (command.Deliver k d) x entries = (state : RState) × IsPacketState v k state × (entries ≡ x.memory.unsettled ++ logged x.memory (entry.Merge state) ∷ [])
Writes v (command.Settle d) x entries = entries ≡ x.memory.unsettled
Writes v c x entries = ⊥

-- the steps by which a device settles these entries, none where there are none
abbrev pub steps_of : ℕ → DeviceState → List Logged → List Step
steps_of d x [] = []
steps_of d x (e ∷ entries) = settling_steps d x (e ∷ entries)

-- a number of calls after those of these steps
abbrev pub calls_behind : List Step → ℕ → ℕ
calls_behind [] calls = calls
calls_behind (s ∷ plan) calls = calls_after (length (s ∷ plan)) calls

-- the device before and after a command that commits, and the steps of the commit
pub record Commit (old new : WorldState) (c : Command) (d : ℕ) : Type 0 where
  pub device : DeviceState
  pub place : device_in old d ≡ Some device
  pub device_after : DeviceState
  pub place_after : device_in new d ≡ Some device_after
  pub entries : List Logged
  pub writes : Writes old c device entries

-- all calls of the commit were made, and the device has counted them
pub record MakesAll (old new : WorldState) (c : Command) (d : ℕ) (before now : Past) : Type 0 where
  pub commit : Commit old new c d
  pub made : now ≡ with_steps before (steps_of d commit.device commit.entries)
  pub counted : commit.device_after.journal.calls ≡ calls_behind (steps_of d commit.device commit.entries) commit.device.journal.calls

-- its calls were made up to one that failed, and the device stopped at that call's number
pub record StopsWithin (old new : WorldState) (c : Command) (d : ℕ) (before now : Past) : Type 0 where
  pub commit : Commit old new c d
  pub made : StopsJournal (steps_of d commit.device commit.entries) commit.device.journal.calls commit.device_after.journal.stopped before now

-- by the answer, which says that a file call failed, or else refuses: then none was made
abbrev pub CommitsBy : Bool → Bool → WorldState → WorldState → Command → ℕ → Past → Past → Type 0
CommitsBy true refused old new c d before now = StopsWithin old new c d before now
CommitsBy false true old new c d before now = now ≡ before
CommitsBy false false old new c d before now = MakesAll old new c d before now

-- ---- restarts

-- the files of a device were opened, with this answer
pub record Opens (p : Program) (d : ℕ) (a : PlainAnswer) (before now : Past) : Type 0 where
  pub result : Result ℕ OpenFault
  pub answer : a ≡ restarted_as result
  pub steps : HasOpeningSteps p d before now result

-- a device that was down has been opened, and has counted no call since; for one that was up none was made
abbrev pub RestartsFrom : Option DeviceState → Program → WorldState → ℕ → PlainAnswer → Past → Past → Type 0
RestartsFrom None p new d a before now = Opens p d a before now × ((x : DeviceState) → device_in new d ≡ Some x → x.journal.calls ≡ 0)
RestartsFrom (Some x) p new d a before now = now ≡ before

-- ---- commands

-- the file calls of a command: a turn, a delivery and a settling commit, a restart opens, and no other makes any
abbrev pub HasFileSteps : WorldState → WorldState → Command → PlainAnswer → Seen → Seen → Type 0
HasFileSteps old new (command.Turn d t) a before now = CommitsBy (is_disk_refusal a) (is_refusal a) old new (command.Turn d t) d (past_in d before) (past_in d now)
HasFileSteps old new (command.Deliver k d) a before now = CommitsBy (is_disk_refusal a) (is_refusal a) old new (command.Deliver k d) d (past_in d before) (past_in d now)
HasFileSteps old new (command.Settle d) a before now = CommitsBy (is_disk_refusal a) (is_refusal a) old new (command.Settle d) d (past_in d before) (past_in d now)
HasFileSteps old new (command.Restart d) a before now = RestartsFrom (device_in old d) old.program new d a (past_in d before) (past_in d now)
HasFileSteps old new c a before now = past_in 0 now ≡ past_in 0 before
