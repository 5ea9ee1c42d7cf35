-- The ranks of the ids that were passed are in the set.
use Rattle.std.proofs.Common.{◌≡◌, ◌||◌, ◌==◌, ℕ, take, get_or}
use Rattle.std.specs.List.{list_any}
use Rattle.re_levels.specs.Ranks.{has_rank}
use Rattle.re_levels.proofs.places.mark.Given as goal

abbrev pub invariant-loop-id : goal.invariant-loop-id
invariant-loop-id l = (rank : ℕ) → has_rank l.dirty rank ≡ (has_rank l.fn.dirty rank || list_any (λ id. get_or l.ranks id 0 == rank) (take l.id-index l.ids))
