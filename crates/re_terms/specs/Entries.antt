-- A device's entries, turns and merges, and what a device has after them.
-- Read against: on `counter c; event e = changed(c); fold n: int = 0 on e do self + 1;` device 0's turn of `add c 2` makes the update (0, 1); device 1, which merges the packet of it, has taken in (0, 1), has made no update, and has n 1.
-- A second merge of the same packet is one more entry, and leaves the device as it was.
use Rattle.std.specs.Prelude.{ℕ, List, [], ◌∷◌, ◌++◌}
use Rattle.re_terms.specs.declared.entry.Admitted.{Admitted}
use Rattle.re_terms.specs.declared.entry.Put.{Put}
use Rattle.re_terms.specs.declared.program.Program.{Program}
use Rattle.re_terms.specs.declared.replicated.RepOp.{RepOp}
use Rattle.re_terms.specs.Limits.{updates_made}
use Rattle.re_terms.specs.Propagation.{Step, words_after}
use Rattle.re_terms.specs.Runs.{PlainState, plain_view}
use Rattle.re_terms.specs.Shapes.{shape_of}
use Rattle.re_terms.specs.Updates.{Update}
use Rattle.re_terms.specs.UpdateSets.{union}
use Rattle.re_terms.specs.Values.{view_of_updates}

-- an entry
pub data PlainEntry : Type 0 where
  -- a turn, by the vars that it sets, the source events that it fires, and its operations in listed order
  Turn : (sets fires : List Put) (operations : List RepOp) → PlainEntry
  -- a merge of a packet, by the updates that the packet's state is made of
  Merge : (packet : List Update) → PlainEntry

-- a turn as an entry
abbrev pub turn_entry : Admitted → PlainEntry
turn_entry t = Turn t.turn.sets.items t.turn.fires.items t.turn.ops.items

-- the vars that an entry sets
abbrev pub sets_of : PlainEntry → List Put
sets_of (Turn sets fires operations) = sets
sets_of (Merge packet) = []

-- the source events that it fires
abbrev pub fires_of : PlainEntry → List Put
fires_of (Turn sets fires operations) = fires
fires_of (Merge packet) = []

-- ---- what is taken in

-- the updates that an entry makes: one by each operation of a turn, and none by a merge
abbrev pub updates_of : ℕ → List Update → PlainEntry → List Update
updates_of device us (Turn sets fires operations) = updates_made device operations us
updates_of device us (Merge packet) = []

-- the updates that a device has taken in after an entry: those that it makes, or those of the packet, behind the ones before
abbrev pub taken_after : ℕ → List Update → PlainEntry → List Update
taken_after device us (Turn sets fires operations) = us ++ updates_made device operations us
taken_after device us (Merge packet) = union us packet

-- the same of entries one behind the other
abbrev pub run_taken : ℕ → List Update → List PlainEntry → List Update
run_taken device us [] = us
run_taken device us (e ∷ entries) = run_taken device (taken_after device us e) entries

-- the updates that these entries make, in order
abbrev pub run_updates : ℕ → List Update → List PlainEntry → List Update
run_updates device us [] = []
run_updates device us (e ∷ entries) = updates_of device us e ++ run_updates device (taken_after device us e) entries

-- ---- states

-- what stands before an entry by which a device has taken in these updates, and what the entry brings
abbrev pub step_to : Program → PlainState → PlainEntry → List Update → Step
step_to p s e taken =
    record {
      words = s.words;
      old_view = plain_view p s;
      new_view = view_of_updates (shape_of p) taken;
      sets = sets_of e;
      fires = fires_of e;
    }

-- the state after an entry by which a device has taken in these updates
abbrev pub state_with : Program → PlainState → PlainEntry → List Update → PlainState
state_with p s e taken = record { words = words_after p (step_to p s e taken); taken = taken }

-- the state after one entry of a device
abbrev pub entry_after : Program → ℕ → PlainState → PlainEntry → PlainState
entry_after p device s e = state_with p s e (taken_after device s.taken e)

-- the state after these entries
abbrev pub run_entries : Program → ℕ → PlainState → List PlainEntry → PlainState
run_entries p device s [] = s
run_entries p device s (e ∷ entries) = run_entries p device (entry_after p device s e) entries
