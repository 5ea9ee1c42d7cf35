-- Updates of a shape, and states within the limits.
-- Read against: with one device and `counter c; set s: int;` the update (0, 1) that inserts 4 into the cell 1 is of the shape; one that inserts `true`, one of the cell 0, one of the cell 2 and one of device 1 are not. The operation `insert 4` on the cell 1 is one of the shape, and on the cell 0 none.
-- A row with a total of 2^63 is past the limit, and so is a state with 1,025 pairs.
use Rattle.std.specs.Prelude.{ℕ, ◌^◌, ◌<◌, ◌≤◌, ◌≡◌, ◌&&◌, Bool, false, nat_lt, Some, slice_get}
use Rattle.std.specs.List.{All, sum_by}
use Rattle.std.specs.Option.{option_map_or}
use Rattle.re_terms.specs.Admission.{is_act_of, takes_operation}
use Rattle.re_terms.specs.Shapes.{pair_count}
use Rattle.re_terms.specs.Updates.{Update}
use Rattle.re_terms.specs.declared.limits.TheConstants.{PAIRS}
use Rattle.re_terms.specs.declared.replicated.RCell.{RCell}
use Rattle.re_terms.specs.declared.replicated.RCell.TheVariants as cell
use Rattle.re_terms.specs.declared.replicated.RepOp.{RepOp}
use Rattle.re_terms.specs.declared.replicated.RState.{RState}
use Rattle.re_terms.specs.declared.replicated.Shape.{Shape}

-- an operation on a cell that takes its act
abbrev pub is_operation_in : Shape → RepOp → Bool
is_operation_in shape op = takes_operation shape.symbols shape.cells.items op

-- an update's device is one of the shape's
abbrev pub is_device_in : Shape → Update → Bool
is_device_in shape u = nat_lt u.dot.device shape.devices

-- an update's cell takes its act
abbrev pub is_act_in : Shape → Update → Bool
is_act_in shape u = option_map_or (λ k. is_act_of shape.symbols k u.act) (slice_get shape.cells.items u.cell) false

-- both
abbrev pub is_update_of : Shape → Update → Bool
is_update_of shape u = is_device_in shape u && is_act_in shape u

-- a counter's totals are below 2^63, and a register's stamp below 2^52
abbrev pub IsWithin : RCell → Type 0
IsWithin (cell.Counter rows) = All (λ n. n < 2 ^ 63) rows.plus × All (λ n. n < 2 ^ 63) rows.minus
IsWithin (cell.Set pairs) = Unit {0}
IsWithin (cell.Register w) = w.stamp < 2 ^ 52

-- a state within the limits
pub record IsWithinLimits (r : RState) : Type 0 where
  pub counts : All (λ n. n < 2 ^ 48) r.vector.counts
  pub cells : (place : ℕ) (c : RCell) → slice_get r.cells.items place ≡ Some c → IsWithin c
  -- all sets together have at most 1,024 pairs
  pub pairs : sum_by pair_count r.cells.items ≤ PAIRS
