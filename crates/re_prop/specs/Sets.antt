-- Sets as they are kept: pairs that ascend, in no list too many for a count of 32 bits.
-- Read against: the pairs of 4 by the dots (0, 1) and (1, 1) fit, in this order; in the other order they don't.
use Rattle.std.specs.Prelude.{ℕ, ◌≡◌, ◌≤◌, List, length, Some, slice_get}
use Rattle.std.specs.List.Sorted.{IsStrictlySortedBy}
use Rattle.re_terms.specs.WordOrder.{pair_cmp}
use Rattle.re_terms.specs.declared.replicated.Pair.{Pair}
use Rattle.re_terms.specs.declared.replicated.RCell.{RCell}
use Rattle.re_terms.specs.declared.replicated.RCell.TheVariants as cell
use Rattle.re_terms.specs.Listed.{Listed}

-- each set among these cells has pairs that ascend, at most 1,024
pub record HasSets (cells : List RCell) : Type 0 where
  pub ordered : (place : ℕ) (pairs : Listed Pair) → slice_get cells place ≡ Some (cell.Set pairs) → IsStrictlySortedBy pair_cmp pairs.items
  pub few : (place : ℕ) (pairs : Listed Pair) → slice_get cells place ≡ Some (cell.Set pairs) → length pairs.items ≤ 1024
