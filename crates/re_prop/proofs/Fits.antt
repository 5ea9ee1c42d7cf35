-- The sets of a replicated state that fits a shape.
use Rattle.std.proofs.Common.{◌≡◌, ◌<◌, ◌≤◌, ℕ, length, get_or, sym, ap, subst, arith}
use Rattle.std.specs.Prelude.{List}
use Rattle.std.specs.List.{sum_by}
use Rattle.std.specs.List.Sorted.{IsStrictlySortedBy}
use Rattle.std.proofs.lemmas.List.Sums.{get_or-le-sum_by}
use Rattle.std.proofs.lemmas.Option.{slice_get_within, slice_get-get_or, get_or_from_slice_get}
use Rattle.re_terms.specs.declared.replicated.Pair.{Pair}
use Rattle.re_terms.specs.declared.replicated.RCell.{RCell}
use Rattle.re_terms.specs.declared.replicated.RCell.TheVariants as cell
use Rattle.re_terms.specs.declared.replicated.RKind.{RKind}
use Rattle.re_terms.specs.declared.replicated.RKind.TheVariants as replicated
use Rattle.re_terms.specs.declared.replicated.RState.{RState}
use Rattle.re_terms.specs.declared.replicated.Shape.{Shape}
use Rattle.re_terms.specs.Listed.{Listed}
use Rattle.re_terms.specs.Shapes.{FitsKind, FitsShape, pair_count}
use Rattle.re_terms.specs.WordOrder.{pair_cmp}
use Rattle.re_prop.specs.Sets.{HasSets}

set_sorted : (shape : Shape) (counts : List ℕ) (k : RKind) (pairs : Listed Pair) → FitsKind shape counts k (cell.Set pairs) → IsStrictlySortedBy pair_cmp pairs.items
set_sorted shape counts replicated.Counter pairs fits = absurd fits
set_sorted shape counts (replicated.Set k) pairs fits = fits.0
set_sorted shape counts (replicated.Register k start) pairs fits = absurd fits

-- its sets are kept in order, and none has more than 1,024 pairs
pub sets_of_fit : (shape : Shape) (r : RState) (cells : List RCell) → cells ≡ r.cells.items → FitsShape shape r → HasSets cells
sets_of_fit shape r cells same fits = subst HasSets (sym same) (record {
  ordered = λ place pairs at.
      let within : place < length shape.cells.items = omega (arith, slice_get_within r.cells.items place (cell.Set pairs) at, fits.count) in
      let k : RKind = get_or shape.cells.items place replicated.Counter in
      set_sorted shape r.vector.counts k pairs (fits.cells place k (cell.Set pairs) (slice_get-get_or shape.cells.items place replicated.Counter within) at);
  few = λ place pairs at.
      let within : place < length r.cells.items = slice_get_within r.cells.items place (cell.Set pairs) at in
      let each : pair_count (get_or r.cells.items place (cell.Set pairs)) ≤ sum_by pair_count r.cells.items = get_or-le-sum_by pair_count r.cells.items place (cell.Set pairs) within in
      let is : length pairs.items ≡ pair_count (get_or r.cells.items place (cell.Set pairs)) = ap pair_count (sym (get_or_from_slice_get r.cells.items place (cell.Set pairs) (cell.Set pairs) at)) in
      omega (arith, each, is, fits.pairs);
})
