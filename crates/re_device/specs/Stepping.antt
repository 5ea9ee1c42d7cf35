-- A device as one of the world's, and its calls as steps of the world.
-- Read against: on `device a; counter c;` a device that was opened on blank files and took the turn add c 2 lazily is that of a world in which a has one unsettled entry of one update, over any log that holds no update of a;
-- a turn add c 3 then is answered ok 2 there, and the world's log has both updates. Where the device's room of 1,024 pairs is filled an insert is answered no 30, and the world is as before.
use Rattle.std.specs.Prelude.{◌≡◌, ◌++◌, ℕ, true, List, [], length, unwrap_or, Bool, Option, None, Some, Result, Ok, Err, slice_get}
use Rattle.std.specs.List.{count_by}
use Rattle.re_record.specs.Restoring.{Opened}
use Rattle.re_terms.specs.Cells.{is_cell}
use Rattle.re_terms.specs.DeviceWorlds.{World, Outcome, Fine, Memory as MemoryOut, Failed, device_state, last_number, reply, settled_number, settled_state, settled_taken, world_after}
use Rattle.re_terms.specs.Entries.{run_updates}
use Rattle.re_terms.specs.Parts.{AllFit, IsPart}
use Rattle.re_terms.specs.Runs.{PlainState, StandsForPlain}
use Rattle.re_terms.specs.Shapes.{shape_of}
use Rattle.re_terms.specs.TakenIn.{IsTakenIn}
use Rattle.re_terms.specs.Updates.{Update}
use Rattle.re_terms.specs.UpdateStates.{join_states, state_of_updates}
use Rattle.re_terms.specs.Worlds.{PlainAnswer, Applied, Entered, Refused, Settled, StoppedAt}
use Rattle.re_terms.specs.declared.command.Command.{Command}
use Rattle.re_terms.specs.declared.entry.State.{State}
use Rattle.re_terms.specs.declared.program.Program.{Program}
use Rattle.re_terms.specs.declared.replicated.RState.{RState}
use Rattle.re_device.specs.Device.{DeviceState, current}
use Rattle.re_device.specs.declared.fault.DeviceFault.{DeviceFault}
use Rattle.re_device.specs.declared.fault.DeviceFault.TheVariants as fault
use Rattle.re_device.specs.declared.fault.Done.{Done}

-- ---- the world's device

-- a state and an entry number are those of a plain state and this number
pub record IsPlainly (p : Program) (o : Opened) (plain : PlainState) (number : ℕ) : Type 0 where
  pub state : StandsForPlain p o.state plain
  pub number_is : o.number ≡ number

-- The device is that of the world with its number: it is up, stopped since the same call or not, and has the world's states, entry numbers and counts of entries, and a word for each var and fold.
-- By its settled entries it has taken in a part of the world's log with all its own updates, and what it merged and didn't settle is a part of the log.
pub record IsDeviceOf (p : Program) (w : World) (d : DeviceState) : Type 0 where
  pub program : d.memory.program ≡ p
  pub up : w.up d.memory.device ≡ true
  pub stop : d.journal.stopped ≡ w.stop d.memory.device
  pub settled : IsPlainly p d.memory.settled (settled_state p w d.memory.device) (settled_number w d.memory.device)
  pub now : IsPlainly p (current d.memory) (device_state p w d.memory.device) (last_number w d.memory.device)
  pub words : length (current d.memory).state.words.items ≡ count_by is_cell p.decls.items
  pub unsettled : length d.memory.unsettled ≡ length (w.unsettled d.memory.device)
  pub count : length d.memory.entries ≡ w.count d.memory.device
  pub taken : IsTakenIn w.log d.memory.device (settled_taken w d.memory.device)
  pub fit : AllFit w.log (w.unsettled d.memory.device)

-- The world's device was opened just now, at this state and this number: it is up and isn't stopped, has nothing unsettled and took no entry since.
-- It has taken in a part of the world's log with all its own updates.
pub record WasOpenedAt (p : Program) (w : World) (device : ℕ) (s : State) (number : ℕ) : Type 0 where
  pub up : w.up device ≡ true
  pub runs : w.stop device ≡ None
  pub unsettled : w.unsettled device ≡ []
  pub count : w.count device ≡ 0
  pub state : StandsForPlain p s (settled_state p w device)
  pub number_is : number ≡ settled_number w device
  pub taken : IsTakenIn w.log device (settled_taken w device)

-- ---- what a call answers

-- a refusal, as an answer
abbrev pub refused_as : DeviceFault → PlainAnswer
refused_as fault.Memory = Refused 36
refused_as fault.Disk = Refused 33
refused_as (fault.Stopped at) = StoppedAt at
refused_as fault.Full = Refused 29
refused_as fault.LooseFull = Refused 38
refused_as fault.SetFull = Refused 30
refused_as fault.CounterFull = Refused 31
refused_as fault.DotsSpent = Refused 32

-- what a call gives, as this answer, or its refusal
abbrev pub answered_as : {T : Type 0} → (T → PlainAnswer) → Result T DeviceFault → PlainAnswer
answered_as done (Ok x) = done x
answered_as done (Err f) = refused_as f

-- an entry that is settled
abbrev pub entered_as : Result Done DeviceFault → PlainAnswer
entered_as = answered_as (λ done. Entered done.number)

-- an entry that is unsettled
abbrev pub applied_as : Result ℕ DeviceFault → PlainAnswer
applied_as = answered_as Applied

-- all entries are settled
abbrev pub settled_as : Result ℕ DeviceFault → PlainAnswer
settled_as = answered_as Settled

-- How a call fared: memory ran out in it, or the call with this number failed, and the record's gate reads as open or not; else nothing outside hindered it.
abbrev pub fared_as : {T : Type 0} → Option ℕ → Bool → Result T DeviceFault → Outcome
fared_as stopped reads (Ok x) = Fine
fared_as stopped reads (Err fault.Memory) = MemoryOut
fared_as stopped reads (Err fault.Disk) = Failed (unwrap_or stopped 0) reads
fared_as stopped reads (Err f) = Fine

-- ---- steps

-- the call is one step of each world whose device this is, and in which P holds
pub record StepsWhere (P : Program → World → Type 0) (old new : DeviceState) (c : Command) (o : Outcome) (a : PlainAnswer) : Type 0 where
  pub answers : (p : Program) (w : World) → IsDeviceOf p w old → P p w → a ≡ reply p w c o
  pub world : (p : Program) (w : World) → IsDeviceOf p w old → P p w → IsDeviceOf p (world_after p w c o) new

-- the same with no more asked of the world
abbrev pub StepsTo : DeviceState → DeviceState → Command → Outcome → PlainAnswer → Type 0
StepsTo old new c o a = StepsWhere (λ p w. Unit {0}) old new c o a

-- the world's log, and behind it the updates that the device's unsettled entries make
abbrev pub log_with_unsettled : World → ℕ → List Update
log_with_unsettled w d = w.log ++ run_updates d (settled_taken w d) (w.unsettled d)

-- The packet with this number is a part of all updates that were made, and joining the state with the device's gives what joining the packet's state gives.
pub record IsPacketOf (d : DeviceState) (k : ℕ) (state : RState) (p : Program) (w : World) : Type 0 where
  pub packet : List Update
  pub listed : slice_get w.packets k ≡ Some packet
  pub part : IsPart (log_with_unsettled w d.memory.device) packet
  pub joins : join_states (current d.memory).state.rep state ≡ join_states (current d.memory).state.rep (state_of_updates (shape_of p) packet)
