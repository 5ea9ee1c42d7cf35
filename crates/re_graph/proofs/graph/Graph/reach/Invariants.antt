-- What is reached below a place was found, and what is due from it on is pending.
use Rattle.std.proofs.Common.{◌≡◌, ◌-◌, ℕ, length}
use Rattle.re_graph.proofs.Reaching.{IsReaching}
use Rattle.re_graph.proofs.graph.Graph.reach.Given as goal

abbrev pub invariant-reaching : goal.invariant-reaching
invariant-reaching l = (l.reached.spare ≡ 0) × ((next : ℕ) × IsReaching l.self l.touched.items l.pending l.reached.items next)

abbrev pub decreases-reaching : goal.decreases-reaching
decreases-reaching l = length l.self - length l.reached.items
