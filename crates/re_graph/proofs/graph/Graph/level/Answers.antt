use Rattle.std.proofs.Common.{length, get_or, subst, ap, ◌∙◌, arith}
use Rattle.std.proofs.lemmas.List.FromFn.{length-map-range_with_len, get_or-map-range_with_len}
use Rattle.re_terms.specs.Dependencies.{level}
use Rattle.re_graph.specs.Kept.{IsKept}
use Rattle.re_graph.proofs.graph.Graph.level.Goals as goal

pub bounds-as_slice-id : goal.bounds-as_slice-id
bounds-as_slice-id c =
    let graph = c.args.self.now in
    let kept = subst (λ nodes. IsKept nodes c.self.inside.levels.items c.self.inside.regions.items c.self.inside.dependents.items c.self.inside.order.items) c.self.view_is c.self.invariant in
    omega (arith, ap length (c.as_slice.ensures ∙ kept.level_list), length-map-range_with_len (level graph) 0 (length graph))

pub returns : goal.returns
returns c =
    let graph = c.args.self.now in
    let kept = subst (λ nodes. IsKept nodes c.self.inside.levels.items c.self.inside.regions.items c.self.inside.dependents.items c.self.inside.order.items) c.self.view_is c.self.invariant in
    c.from.ensures
    ∙ ap (λ levels. get_or levels c.args.id 0) (c.as_slice.ensures ∙ kept.level_list)
    ∙ get_or-map-range_with_len (level graph) 0 (length graph) c.args.id c.args.id 0 c.requires (omega arith)
