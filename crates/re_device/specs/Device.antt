-- What is known of a device: what its files hold, what is in memory alone, and what an entry does to it.
-- Read against: on `device a; var x: int = 1; event e = changed(x); fold n: int = 0 on e do self + 1;` a device that was opened at the start has the words 1 and 0 and the number 0. The turn x = 5, taken but not settled, gives it the words 5 and 1 and the number 1, and its files hold the words 1 and 0 still;
-- once it is settled they hold 5 and 1. x = 5 once more keeps the words, and is the entry 2, without changes.
-- With `counter c;` the turn add c 9223372036854775807, add c 1 passes the total.
use Rattle.std.specs.Prelude.{ℕ, List, [], ◌∷◌, ◌++◌, Bool, Option, length}
use Rattle.re_eval.specs.Told.{Told}
use Rattle.re_journal.specs.declared.journal.Journal.{Journal}
use Rattle.re_record.specs.Restoring.{Opened, after_all, entry_fault, replicated_after}
use Rattle.re_terms.specs.Limits.{OperationFault}
use Rattle.re_terms.specs.Listed.{plain}
use Rattle.re_terms.specs.Propagation.{Step, step_in, changes}
use Rattle.re_terms.specs.Shapes.{shape_of}
use Rattle.re_terms.specs.SignalWords.{replicated_place, signal_word}
use Rattle.re_terms.specs.Views.{view_of}
use Rattle.re_terms.specs.Worlds.{is_full}
use Rattle.re_terms.specs.declared.entry.Entry.{Entry}
use Rattle.re_terms.specs.declared.entry.Logged.{Logged}
use Rattle.re_terms.specs.declared.entry.State.{State}
use Rattle.re_terms.specs.declared.program.Program.{Program}
use Rattle.re_terms.specs.declared.replicated.RState.{RState}

-- what a device has in memory
pub record DeviceMemory : Type 0 where
  pub program : Program
  -- its place among the program's devices
  pub device : ℕ
  -- the state and the entry number that its files hold
  pub settled : Opened
  -- the entries behind these, which are in memory alone
  pub unsettled : List Logged
  -- all entries that it took since it was opened; the unsettled ones are the last of them
  pub entries : List Logged

-- a device: its memory, for how many entries more it has room, the generation of its snapshot, and its journal
pub record DeviceState : Type 0 where
  pub memory : DeviceMemory
  pub room : ℕ
  pub generation : ℕ
  pub journal : Journal

-- ---- where it is

-- its state and the number of its last entry
abbrev pub current : DeviceMemory → Opened
current m = after_all m.program m.device m.unsettled m.settled

-- it takes no entry more: it took 4,096 since it was opened, or its last one has the number 2^48 - 1
abbrev pub takes_no_more : DeviceMemory → Bool
takes_no_more m = is_full (length m.entries) (current m).number

-- ---- an entry

-- the replicated state after it: a turn's operations are done in listed order, and a merged state is joined
abbrev pub rep_after : DeviceMemory → Entry → RState
rep_after m e = replicated_after (shape_of m.program) m.device e (current m).state.rep

-- the limit that stands against it
abbrev pub limit_against : DeviceMemory → Entry → Option OperationFault
limit_against m e = entry_fault (shape_of m.program) m.device e (current m).state.rep

-- what stands before it, and what it brings
abbrev pub step_by : DeviceMemory → Entry → Step
step_by m e = step_in (current m).state e (rep_after m e)

-- it, with the vars and folds that it changes
abbrev pub logged : DeviceMemory → Entry → Logged
logged m e = record { entry = e; changes = plain (changes m.program (step_by m e)) }

-- ---- what is done with it

-- it is taken, and in memory alone
abbrev pub with_entry : DeviceMemory → Logged → DeviceMemory
with_entry m l = record m { unsettled = m.unsettled ++ l ∷ []; entries = m.entries ++ l ∷ [] }

-- all entries are settled
abbrev pub all_settled : DeviceMemory → DeviceMemory
all_settled m = record m { settled = current m; unsettled = [] }

-- ---- what it shows

-- what it tells an expression of: the words, and the sizes and members of sets
abbrev pub told_of : DeviceMemory → Told
told_of m = record {
  word = signal_word m.program (current m).state.words.items (view_of (current m).state.rep);
  size = λ id. (view_of (current m).state.rep).size (replicated_place m.program.decls.items id);
  has = λ id. (view_of (current m).state.rep).has (replicated_place m.program.decls.items id);
}

-- ---- the start

-- a device that was opened at this state and number
abbrev pub opened_at : Program → ℕ → State → ℕ → DeviceMemory
opened_at p device s number = record {
  program = p;
  device = device;
  settled = record { state = record { words = plain s.words.items; rep = s.rep }; number = number };
  unsettled = [];
  entries = [];
}
