-- The ids that were passed have their ranks, where no other place has the same id.
use Rattle.std.proofs.Common.{◌≡◌, ◌<◌, ℕ, length, get_or}
use Rattle.re_levels.proofs.places.ranks_of.Given as goal

abbrev pub invariant-ranking : goal.invariant-ranking
invariant-ranking l = record {
  count : length l.ranks.items ≡ length l.order;
  so_far : (k : ℕ) → k < l.rank → ((other : ℕ) → other < length l.order → get_or l.order other 0 ≡ get_or l.order k 0 → other ≡ k) → get_or l.ranks.items (get_or l.order k 0) 0 ≡ k;
}
