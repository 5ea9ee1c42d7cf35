-- The declarations that a loop has passed are in order.
use Rattle.std.proofs.Common.{◌≡◌, ◌<◌, ◌≤◌, ℕ}
use Rattle.std.specs.Prelude.{Some}
use Rattle.std.specs.List.{All}
use Rattle.re_terms.specs.Dependencies.{graph_of, inputs_at, region_at}
use Rattle.re_graph.proofs.tests.built.Given as goal

abbrev pub invariant-looking : goal.invariant-looking
invariant-looking l = ((k : ℕ) → k < l.id → All (λ input. input < k) (inputs_at (graph_of l.p.decls.items) k))
    × ((k region : ℕ) → k < l.id → region_at (graph_of l.p.decls.items) k ≡ Some region → region ≤ 4)
