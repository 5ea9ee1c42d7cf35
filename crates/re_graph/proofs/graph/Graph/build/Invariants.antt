-- The graph is built up to the declaration that is read next.
use Rattle.std.proofs.Common.{map}
use Rattle.re_terms.specs.Dependencies.{graph_of}
use Rattle.re_graph.specs.Kept.{plain_node}
use Rattle.re_graph.proofs.Building.{IsBuilding}
use Rattle.re_graph.proofs.graph.Graph.build.Given as goal

abbrev pub invariant-building : goal.invariant-building
invariant-building l = IsBuilding (graph_of l.p.decls.items) l.id (map plain_node l.nodes.items) l.levels.items l.regions.items l.dependents.items
