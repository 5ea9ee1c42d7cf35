use Rattle.std.proofs.Common.{◌≡◌, ◌<◌, ℕ, length, get_or, sym, subst, ap, ◌∙◌}
use Rattle.std.specs.Prelude.{IfOk}
use Rattle.std.specs.List.{All, list_any}
use Rattle.re_terms.specs.Listed.{plain}
use Rattle.re_terms.specs.Dependencies.{reach}
use Rattle.re_graph.specs.Kept.{IsKept, has_bit}
use Rattle.re_graph.proofs.Supports.{All-reach, footprint_is}
use Rattle.re_graph.proofs.graph.Graph.footprint.Goals as goal

pub joined-requires : goal.joined-requires
joined-requires c =
    let graph = c.args.self.now in
    let touched = c.args.touched.now.items in
    let kept = subst (λ nodes. IsKept nodes c.self.inside.levels.items c.self.inside.regions.items c.self.inside.dependents.items c.self.inside.order.items) c.self.view_is c.self.invariant in
    let found : c.as_slice-2.result.now ≡ reach graph touched = c.as_slice-2.ensures ∙ ap (λ l. l.items) c.in_ok-reached.ensures in
    let count : length c.as_slice.result.now ≡ length graph = ap length c.as_slice.ensures ∙ kept.region_count in
    record { declared = subst (λ n. All (λ id. id < n) c.as_slice-2.result.now) (sym count) (subst (λ xs. All (λ id. id < length graph) xs) (sym found) (All-reach graph touched)) }

pub returns : goal.returns
returns c =
    let graph = c.args.self.now in
    let touched = c.args.touched.now.items in
    let regions = c.self.inside.regions.items in
    let kept = subst (λ nodes. IsKept nodes c.self.inside.levels.items c.self.inside.regions.items c.self.inside.dependents.items c.self.inside.order.items) c.self.view_is c.self.invariant in
    let found : c.as_slice-2.result.now ≡ reach graph touched = c.as_slice-2.ensures ∙ ap (λ l. l.items) c.in_ok-reached.ensures in
    let joined : (region : ℕ) → has_bit c.joined.result region ≡ list_any (λ id. has_bit (get_or regions id 0) region) (reach graph touched) = λ region.
    c.joined.ensures region
    ∙ ap (λ sets. list_any (λ id. has_bit (get_or sets id 0) region) c.as_slice-2.result.now) c.as_slice.ensures
    ∙ ap (list_any (λ id. has_bit (get_or regions id 0) region)) found in
    subst (λ xs. IfOk c.list.result (λ list. list ≡ plain xs)) (footprint_is graph touched regions c.joined.result kept.region_sets joined) c.list.ensures
