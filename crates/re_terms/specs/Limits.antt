-- What stands against a device's next operation: the numbers of its dots and stamps, the room for pairs, and a counter's totals.
-- Read against: with `device a; counter c; set s: int;`, at 9223372036854775807 increments of c `add c 1` would pass the total and `add c -1` would not;
-- at 1,024 pairs of s `insert s 5` would pass the room where 5 has no pair, and not where it has one; with the number 2^48 - 1 for the device each operation would pass the dots.
use Rattle.std.specs.Prelude.{◌≡◌, ℕ, suc, ℤ, pos, negsuc, ◌+◌, ◌^◌, ◌||◌, cond, List, [], ◌∷◌, ◌++◌, length, nat_le, nat_lt, Option, None, Some, slice_get, slice_index}
use Rattle.std.specs.List.{sum_by}
use Rattle.std.specs.Option.{option_or}
use Rattle.re_terms.specs.CellStates.{Pairing.AddWins, part_of, increment, decrement, pairs_of}
use Rattle.re_terms.specs.Shapes.{pair_count}
use Rattle.re_terms.specs.Updates.{Update, next_update, vector_of}
use Rattle.re_terms.specs.UpdateStates.{after_operation}
use Rattle.re_terms.specs.declared.limits.TheConstants.{PAIRS}
use Rattle.re_terms.specs.declared.replicated.Act.{Act}
use Rattle.re_terms.specs.declared.replicated.Act.TheVariants.{Add, Insert, Remove, Write}
use Rattle.re_terms.specs.declared.replicated.RCell.{RCell}
use Rattle.re_terms.specs.declared.replicated.RCell.TheVariants as cell
use Rattle.re_terms.specs.declared.replicated.RepOp.{RepOp}
use Rattle.re_terms.specs.declared.replicated.RKind.{RKind}
use Rattle.re_terms.specs.declared.replicated.RKind.TheVariants as kind
use Rattle.re_terms.specs.declared.replicated.RState.{RState}
use Rattle.re_terms.specs.declared.replicated.Rows.{Rows}
use Rattle.re_terms.specs.declared.replicated.Shape.{Shape}

-- the limit that an operation would pass
pub data OperationFault : Type 0 where
  -- its dot's number would reach 2^48, or its stamp 2^52
  DotsSpent : OperationFault
  -- all sets together would have more than 1,024 pairs
  SetFull : OperationFault
  -- the device's total of increments or of decrements would reach 2^63
  CounterFull : OperationFault

-- ---- among updates

-- the total that an act raises: of its device's increments in the cell by an amount of 0 or more, else of its decrements
abbrev pub total_of_updates : Act → ℕ → ℕ → List Update → ℕ
total_of_updates (Add (pos n)) cell device us = sum_by (part_of increment cell device) us
total_of_updates (Add (negsuc n)) cell device us = sum_by (part_of decrement cell device) us
total_of_updates (Insert e) cell device us = 0
total_of_updates (Remove e) cell device us = 0
total_of_updates (Write w) cell device us = 0

-- how many pairs the live inserts into a set make
abbrev pub live_count : RKind → ℕ → List Update → ℕ
live_count kind.Counter cell us = 0
live_count (kind.Set k) cell us = length (pairs_of AddWins cell us)
live_count (kind.Register k start) cell us = 0

-- the same of all cells of these kinds, whose places begin at this one
abbrev pub live_counts : ℕ → List RKind → List Update → ℕ
live_counts place [] us = 0
live_counts place (k ∷ ks) us = live_count k place us + live_counts (place + 1) ks us

-- the first limit that an update would pass where these were taken in before it
abbrev pub update_fault : Shape → List Update → Update → Option OperationFault
update_fault shape us u =
    cond (nat_le (2 ^ 48) u.dot.number || nat_le (2 ^ 52) u.stamp) (Some DotsSpent)
    (cond (nat_lt PAIRS (live_counts 0 shape.cells.items (us ++ u ∷ []))) (Some SetFull)
    (cond (nat_le (2 ^ 63) (total_of_updates u.act u.cell u.dot.device (us ++ u ∷ []))) (Some CounterFull) None))

-- ---- in a state

-- the total that a device's amount raises, after it
abbrev pub raised_total : Rows → ℕ → ℤ → ℕ
raised_total rows device (pos n) = slice_index rows.plus device + n
raised_total rows device (negsuc n) = slice_index rows.minus device + suc n

-- the same of any act on a cell, 0 where it is no amount
abbrev pub total_after : Act → ℕ → RCell → ℕ
total_after (Add amount) device (cell.Counter rows) = raised_total rows device amount
total_after act device c = 0

-- the stamp that an act gives a register, 0 where it is no write
abbrev pub stamp_after : Act → RCell → ℕ
stamp_after (Write w) (cell.Register r) = r.stamp + 1
stamp_after act c = 0

-- a number of the cell that may be there
abbrev pub at_cell : (RCell → ℕ) → Option RCell → ℕ
at_cell f None = 0
at_cell f (Some c) = f c

-- the first limit that a device's operation would pass in a state
abbrev pub operation_fault : Shape → ℕ → RepOp → RState → Option OperationFault
operation_fault shape device op r =
    cond (nat_le (2 ^ 48) (slice_index r.vector.counts device + 1) || nat_le (2 ^ 52) (at_cell (stamp_after op.act) (slice_get r.cells.items op.cell))) (Some DotsSpent)
    (cond (nat_lt PAIRS (sum_by pair_count (after_operation shape device op r).cells.items)) (Some SetFull)
    (cond (nat_le (2 ^ 63) (at_cell (total_after op.act device) (slice_get r.cells.items op.cell))) (Some CounterFull) None))

-- ---- several operations, in order

-- the update that a device makes next, by an operation, where it has taken in these
abbrev pub update_next : List Update → ℕ → RepOp → Update
update_next us device op = next_update us (vector_of us) device op

-- the updates that a device makes by these operations, where it has taken in those
abbrev pub updates_made : ℕ → List RepOp → List Update → List Update
updates_made device [] us = []
updates_made device (op ∷ ops) us = update_next us device op ∷ updates_made device ops (us ++ update_next us device op ∷ [])

-- the limit that stands against the first of them that is refused
abbrev pub updates_fault : Shape → ℕ → List RepOp → List Update → Option OperationFault
updates_fault shape device [] us = None
updates_fault shape device (op ∷ ops) us = option_or (update_fault shape us (update_next us device op)) (updates_fault shape device ops (us ++ update_next us device op ∷ []))

-- the limit stands against an operation of these, and none stands against those before it
pub record IsFirstFault (shape : Shape) (device : ℕ) (ops : List RepOp) (us : List Update) (f : OperationFault) : Type 0 where
  pub front : List RepOp
  pub refused : RepOp
  pub rest : List RepOp
  pub split : ops ≡ front ++ refused ∷ rest
  pub before : updates_fault shape device front us ≡ None
  pub fault : update_fault shape (us ++ updates_made device front us) (update_next (us ++ updates_made device front us) device refused) ≡ Some f

-- the state after them
abbrev pub after_operations : Shape → ℕ → List RepOp → RState → RState
after_operations shape device [] r = r
after_operations shape device (op ∷ ops) r = after_operations shape device ops (after_operation shape device op r)

-- the same limit, in a state
abbrev pub operations_fault : Shape → ℕ → List RepOp → RState → Option OperationFault
operations_fault shape device [] r = None
operations_fault shape device (op ∷ ops) r = option_or (operation_fault shape device op r) (operations_fault shape device ops (after_operation shape device op r))
