-- What is due is in the set, and what was taken was found.
use Rattle.std.proofs.Common.{◌≡◌, ◌+◌, ◌-◌, ℕ, length}
use Rattle.re_terms.specs.Dependencies.{graph_of}
use Rattle.re_levels.specs.Seen.{sight_of}
use Rattle.re_levels.proofs.Ways.{IsWalking}
use Rattle.re_levels.proofs.way.walk_reached.Given as goal

abbrev pub invariant-walking : goal.invariant-walking
invariant-walking g l = (l.steps ≡ l.fn.steps + l.evaluated)
    × ((next : ℕ) × IsWalking l.walk.program.now (sight_of l.walk.entry.now l.walk.touched.now.items (g.O.Env.told l.walk.old.now) (g.N.Env.told l.walk.new.now)) l.places.order.items l.places.ranks.items l.dirty l.found.items l.evaluated next)

abbrev pub decreases-walking : goal.decreases-walking
decreases-walking g l = length (graph_of l.walk.program.now.decls.items) - length l.found.items
