-- What a device keeps beside its state.
-- Read against: on `device a; var x: int = 1; signal s = x + 1;` a device at the start keeps the number 0, no entry, the words of signals 0, 0, 2, and the places 0, 0, 1 of words.
use Rattle.std.specs.Prelude.{◌≡◌, ℕ, ◌<◌, ◌≤◌, ◌^◌, List, drop, length}
use Rattle.std.specs.List.{All}
use Rattle.re_outside.specs.Frame.{IsGeneration}
use Rattle.re_print.specs.Canonical.{program_text}
use Rattle.re_prop.specs.Caching.{signal_words}
use Rattle.re_record.specs.Logs.{IsTurn}
use Rattle.re_record.specs.Restoring.{AreAccepted, Opened}
use Rattle.re_terms.specs.Admission.{IsEntryOf, device_count}
use Rattle.re_terms.specs.Dependencies.{graph_of}
use Rattle.re_terms.specs.Listed.{plain}
use Rattle.re_terms.specs.Programs.{IsProgram}
use Rattle.re_terms.specs.Shapes.{shape_of}
use Rattle.re_terms.specs.Views.{view_of}
use Rattle.re_terms.specs.WordKinds.{AreChangesOf, IsStateOf}
use Rattle.re_terms.specs.declared.entry.Logged.{Logged}
use Rattle.re_terms.specs.declared.entry.State.{State}
use Rattle.re_terms.specs.declared.program.Program.{Program}
use Rattle.re_device.specs.Device.{DeviceMemory, DeviceState, current}
use Rattle.re_terms.specs.Placing.{places_of}
use Rattle.re_device.specs.declared.device.Device.TheInside.{Inside}

-- ---- what is seen of it

-- the entries that are in memory alone
abbrev pub unsettled_of : Inside → List Logged
unsettled_of d = drop d.settled.count d.entries.items

-- what its files hold
abbrev pub settled_of : Inside → Opened
settled_of d = record { state = record { words = plain d.settled.words.items; rep = d.settled.outbox }; number = d.settled.number }

abbrev pub memory_of : Inside → DeviceMemory
memory_of d = record { program = d.program; device = d.device; settled = settled_of d; unsettled = unsettled_of d; entries = d.entries.items }

abbrev pub seen_of : Inside → DeviceState
seen_of d = record { memory = memory_of d; room = d.entries.spare; generation = d.generation; journal = d.journal }

-- ---- what holds of it

-- an entry of the program, with at most 256 changes of its vars and folds
pub record IsTaken (p : Program) (l : Logged) : Type 0 where
  pub entry : IsEntryOf p l.entry
  pub changes : AreChangesOf p l.changes.items
  pub few : length l.changes.items ≤ 256

-- an unsettled entry: a turn
pub record IsUnsettled (p : Program) (l : Logged) : Type 0 where
  pub taken : IsTaken p l
  pub turn : IsTurn l.entry

-- this state and this number are those that are kept, but for what is reserved in its list of words
pub record AreCurrent (o : Opened) (s : State) (number : ℕ) : Type 0 where
  pub words : s.words.items ≡ o.state.words.items
  pub rep : s.rep ≡ o.state.rep
  pub number_is : number ≡ o.number

pub record IsKept (d : Inside) : Type 0 where
  pub is_program : IsProgram d.program
  pub text : length (program_text d.program) ≤ 65536
  pub graph : d.graph ≡ graph_of d.program.decls.items
  pub places : d.places ≡ places_of d.program.decls.items
  pub shape : d.shape ≡ shape_of d.program
  pub device : d.device < device_count d.program.decls.items
  -- the state has words of their kinds, and its replicated state fits; so has what the files hold
  pub state : IsStateOf d.program d.state
  pub settled : IsStateOf d.program (settled_of d).state
  -- the entries in memory alone lead from the one to the other
  pub current : AreCurrent (current (memory_of d)) d.state d.number
  pub count : d.settled.count ≤ length d.entries.items
  pub few_unsettled : length (unsettled_of d) ≤ 8
  pub unsettled : All (IsUnsettled d.program) (unsettled_of d)
  pub accepted : AreAccepted d.program d.device (settled_of d) (unsettled_of d)
  -- the words of the signals are those of the state
  pub cache : d.cache ≡ signal_words d.program d.state.words.items (view_of d.state.rep)
  pub few : length d.entries.items ≤ 4096
  pub number : d.number < 2 ^ 48
  pub generation : IsGeneration d.generation
