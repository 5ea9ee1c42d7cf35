-- The set has what it had, and the ids that a loop has passed.
use Rattle.std.proofs.Common.{◌≡◌, ℕ, ◌||◌, take}
use Rattle.std.specs.BTreeSet.{contains}
use Rattle.std.specs.Ordering.{nat_cmp}
use Rattle.re_graph.specs.Kept.{is_among}
use Rattle.re_graph.proofs.pending.insert_all.Given as goal

abbrev pub invariant-loop-id : goal.invariant-loop-id
invariant-loop-id l = (id : ℕ) → contains nat_cmp l.pending id ≡ (contains nat_cmp l.fn.pending id || is_among (take l.id-index l.ids) id)
