-- What the entries of a store do to a state, one by one, and which of them a limit refuses.
-- Read against: with `device a; var x: int = 0; counter c;` a turn `add c 2` with a change of x to 5 leaves x at 5, the increments 2 and the number 1 of its one update; a merge of a state with 3 increments and the number 2 then leaves 3 and 2.
-- At 2^63 - 1 increments a turn `add c 1` is refused, and so is any entry behind 2^48 - 1 others.
use Rattle.std.specs.Prelude.{◌≡◌, ℕ, ◌+◌, ◌^◌, ◌||◌, Bool, false, true, List, [], ◌∷◌, ◌++◌, nat_le, nat_lt, Option, None, Some, if◌then◌else◌}
use Rattle.std.specs.List.{sum_by}
use Rattle.std.specs.Option.{is_some}
use Rattle.re_terms.specs.Changes.{with_changes}
use Rattle.re_terms.specs.Limits.{OperationFault, SetFull, after_operations, operations_fault}
use Rattle.re_terms.specs.Listed.{plain}
use Rattle.re_terms.specs.Shapes.{pair_count, shape_of, start_state}
use Rattle.re_terms.specs.UpdateStates.{join_states}
use Rattle.re_terms.specs.declared.entry.Entry.{Entry}
use Rattle.re_terms.specs.declared.entry.Entry.TheVariants as entry
use Rattle.re_terms.specs.declared.entry.Logged.{Logged}
use Rattle.re_terms.specs.declared.entry.State.{State}
use Rattle.re_terms.specs.declared.limits.TheConstants.{PAIRS}
use Rattle.re_terms.specs.declared.program.Program.{Program}
use Rattle.re_terms.specs.declared.replicated.RState.{RState}
use Rattle.re_terms.specs.declared.replicated.Shape.{Shape}

-- a device's state, and the number of its last entry
pub record Opened : Type 0 where
  pub state : State
  pub number : ℕ

-- the start: no entry was made
abbrev pub unopened : Program → Opened
unopened p = record { state = start_state p; number = 0 }

-- ---- one entry

-- a turn's operations are applied in order, each with the device's next number, and a merged state is joined
abbrev pub replicated_after : Shape → ℕ → Entry → RState → RState
replicated_after shape device (entry.Turn t) r = after_operations shape device t.ops.items r
replicated_after shape device (entry.Merge packet) r = join_states r packet

-- an entry's changes are put, as they are
abbrev pub state_after : Program → ℕ → Logged → State → State
state_after p device l s = record { words = plain (with_changes p.decls.items s.words.items l.changes.items); rep = replicated_after (shape_of p) device l.entry s.rep }

-- what a device has after one entry more
abbrev pub opened_after : Program → ℕ → Logged → Opened → Opened
opened_after p device l o = record { state = state_after p device l o.state; number = o.number + 1 }

-- the same of several, in order
abbrev pub after_all : Program → ℕ → List Logged → Opened → Opened
after_all p device [] o = o
after_all p device (l ∷ entries) o = after_all p device entries (opened_after p device l o)

-- ---- limits

-- the limit that an entry would pass: that of the first of its operations that is refused, or the room for pairs
abbrev pub entry_fault : Shape → ℕ → Entry → RState → Option OperationFault
entry_fault shape device (entry.Turn t) r = operations_fault shape device t.ops.items r
entry_fault shape device (entry.Merge packet) r = if nat_lt PAIRS (sum_by pair_count (join_states r packet).cells.items) then Some SetFull else None

-- an entry passes a limit, or its number would reach 2^48
abbrev pub is_refused : Program → ℕ → Opened → Entry → Bool
is_refused p device o e = is_some (entry_fault (shape_of p) device e o.state.rep) || nat_le (2 ^ 48) (o.number + 1)

-- none of these is refused, each behind those before it
abbrev pub AreAccepted : Program → ℕ → Opened → List Logged → Type 0
AreAccepted p device o [] = Unit {0}
AreAccepted p device o (l ∷ entries) = (is_refused p device o l.entry ≡ false) × AreAccepted p device (opened_after p device l o) entries

-- one of these is refused, and none before it
pub record IsFirstRefused (p : Program) (device : ℕ) (o : Opened) (entries before : List Logged) : Type 0 where
  pub refused : Logged
  pub behind : List Logged
  pub split : entries ≡ before ++ refused ∷ behind
  pub accepted : AreAccepted p device o before
  pub fault : is_refused p device (after_all p device before o) refused.entry ≡ true
