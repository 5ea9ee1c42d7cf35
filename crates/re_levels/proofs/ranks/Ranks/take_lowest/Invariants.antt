-- The words that were passed have nothing.
use Rattle.std.proofs.Common.{◌≡◌, ◌<◌, ℕ, get_or}
use Rattle.re_levels.proofs.ranks.Ranks.take_lowest.Given as goal

abbrev pub invariant-loop-place : goal.invariant-loop-place
invariant-loop-place l = record {
  same : l.self.bits ≡ l.fn.self.bits;
  none : (k : ℕ) → k < l.place → get_or l.self.bits k 0 ≡ 0;
}
