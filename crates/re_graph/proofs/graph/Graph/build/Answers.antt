-- Each declaration's node, level, regions and dependents are those of the program's graph.
use Rattle.std.proofs.Common.{◌≡◌, ◌<◌, ◌≤◌, ◌+◌, ◌==◌, ◌&&◌, ◌||◌, ◌++◌, ◌∷◌, [], ℕ, length, map, get_or, sym, ap, subst, ◌∙◌, arith}
use Rattle.std.specs.List.{All, list_any}
use Rattle.std.proofs.lemmas.List.{map-append, length-map}
use Rattle.re_terms.specs.Listed.{plain}
use Rattle.re_terms.specs.Dependencies.{graph_of, node_of, inputs_at, region_at, level_above}
use Rattle.re_graph.specs.Footprint.{is_region}
use Rattle.re_graph.specs.Kept.{plain_node, has_bit, is_among, list_at, IsKept, IsOrderBy}
use Rattle.re_graph.proofs.Building.{IsBuilding, here, declared_of, at_end, level_count, levels_low, build_step, kept_of}
use Rattle.re_graph.proofs.graph.Graph.build.Goals as goal

pub level_above-requires-clause-declared : goal.level_above-requires-clause-declared
level_above-requires-clause-declared c =
    let decls = c.args.p.now.decls.items in
    let i = c.building.id in
    let node = here decls c.as_slice-decl-items.result.now i c.decl-item.result (plain_node c.in_ok-node.node) c.as_slice-decl-items.ensures c.building-test.true c.decl-item.is c.in_ok-node.ensures in
    declared_of (graph_of decls) i (length c.deref.result.now) c.as_slice-inputs.result.now c.requires.ordered (c.as_slice-inputs.ensures ∙ node.inputs_are) (ap length c.deref.ensures.value ∙ level_count (graph_of decls) i c.building.levels.items c.building.invariant.level_list)

pub level_above-requires-clause-low : goal.level_above-requires-clause-low
level_above-requires-clause-low c =
    let decls = c.args.p.now.decls.items in
    let i = c.building.id in
    let node = here decls c.as_slice-decl-items.result.now i c.decl-item.result (plain_node c.in_ok-node.node) c.as_slice-decl-items.ensures c.building-test.true c.decl-item.is c.in_ok-node.ensures in
    subst (λ levels. All (λ level. level < 511) levels) (sym c.deref.ensures.value)
    (levels_low (graph_of decls) i 511 c.building.levels.items c.requires.ordered (omega (arith, node.within)) (omega (arith, node.within, length-map decls node_of, c.requires.few)) c.building.invariant.level_list)

pub behind-requires-clause-declared : goal.behind-requires-clause-declared
behind-requires-clause-declared c =
    let decls = c.args.p.now.decls.items in
    let i = c.building.id in
    let node = here decls c.as_slice-decl-items.result.now i c.decl-item.result (plain_node c.in_ok-node.node) c.as_slice-decl-items.ensures c.building-test.true c.decl-item.is c.in_ok-node.ensures in
    declared_of (graph_of decls) i (length c.deref-in-building.result.now) c.in_ok-node.node.inputs.items c.requires.ordered node.inputs_are (ap length c.deref-in-building.ensures.value ∙ c.building.invariant.region_count)

pub behind-requires-clause-few : goal.behind-requires-clause-few
behind-requires-clause-few c =
    let decls = c.args.p.now.decls.items in
    let i = c.building.id in
    let node = here decls c.as_slice-decl-items.result.now i c.decl-item.result (plain_node c.in_ok-node.node) c.as_slice-decl-items.ensures c.building-test.true c.decl-item.is c.in_ok-node.ensures in
    λ region is. c.requires.regions i region (sym node.region_is ∙ is)

pub link-requires : goal.link-requires
link-requires c =
    let decls = c.args.p.now.decls.items in
    let i = c.building.id in
    let node = here decls c.as_slice-decl-items.result.now i c.decl-item.result (plain_node c.in_ok-node.node) c.as_slice-decl-items.ensures c.building-test.true c.decl-item.is c.in_ok-node.ensures in
    record { declared = declared_of (graph_of decls) i (length c.building.dependents.items) c.as_slice-inputs.result.now c.requires.ordered (c.as_slice-inputs.ensures ∙ node.inputs_are) c.building.invariant.dependent_count }

pub building-preserved : goal.building-preserved
building-preserved c =
    let decls = c.args.p.now.decls.items in
    let graph = graph_of decls in
    let i = c.building.id in
    let nodes = map plain_node c.building.nodes.items in
    let levels = c.building.levels.items in
    let regions = c.building.regions.items in
    let read = plain_node c.in_ok-node.node in
    let node = here decls c.as_slice-decl-items.result.now i c.decl-item.result read c.as_slice-decl-items.ensures c.building-test.true c.decl-item.is c.in_ok-node.ensures in
    let inputs : c.as_slice-inputs.result.now ≡ inputs_at graph i = c.as_slice-inputs.ensures ∙ node.inputs_are in
    let level_is : c.level_above.result ≡ level_above (map (λ input. get_or levels input 0) (inputs_at graph i)) =
    c.level_above.ensures
    ∙ ap (λ found. level_above (map (λ input. get_or found input 0) c.as_slice-inputs.result.now)) c.deref.ensures.value
    ∙ ap (λ xs. level_above (map (λ input. get_or levels input 0) xs)) inputs in
    let bits_are : (region : ℕ) → has_bit c.behind.result region ≡ (is_region (region_at graph i) region || list_any (λ id. has_bit (get_or regions id 0) region) (inputs_at graph i)) = λ region.
    c.behind.ensures region
    ∙ ap (λ found. is_region read.region region || list_any (λ id. has_bit (get_or found id 0) region) read.inputs) c.deref-in-building.ensures.value
    ∙ ap (λ own. is_region own region || list_any (λ id. has_bit (get_or regions id 0) region) read.inputs) node.region_is
    ∙ ap (λ xs. is_region (region_at graph i) region || list_any (λ id. has_bit (get_or regions id 0) region) xs) node.inputs_are in
    let links_are : (input other : ℕ) → is_among (list_at c.link.new.dependents.items input) other ≡ (is_among (list_at c.building.dependents.items input) other || ((i == other) && is_among (inputs_at graph i) input)) = λ input other.
    c.in_ok-link.ensures.linked input other
    ∙ ap (λ xs. is_among (list_at c.building.dependents.items input) other || ((i == other) && is_among xs input)) inputs in
    let next = build_step graph i nodes levels regions c.building.dependents.items c.link.new.dependents.items read c.level_above.result c.behind.result c.requires.ordered node.within c.building.invariant node.is level_is bits_are c.in_ok-link.ensures.count links_are in
    let pushed_node : map plain_node c.push-in-building-3.new.self.items ≡ nodes ++ read ∷ [] = ap (λ found. map plain_node found.items) c.in_ok-push-4.ensures.ok ∙ map-append plain_node c.building.nodes.items (c.in_ok-node.node ∷ []) in
    let pushed_list : c.push-in-building-2.new.self.items ≡ c.link.new.dependents.items ++ plain [] ∷ [] = c.in_ok-push-3.ensures.items ∙ ap (λ list. c.link.new.dependents.items ++ list ∷ []) c.new.ensures in
    subst (λ found. IsBuilding graph (i + 1) found c.push.new.self.items c.push-in-building.new.self.items c.push-in-building-2.new.self.items) (sym pushed_node)
    (subst (λ found. IsBuilding graph (i + 1) (nodes ++ read ∷ []) found c.push-in-building.new.self.items c.push-in-building-2.new.self.items) (sym c.in_ok-push.ensures.items)
    (subst (λ found. IsBuilding graph (i + 1) (nodes ++ read ∷ []) (levels ++ c.level_above.result ∷ []) found c.push-in-building-2.new.self.items) (sym c.in_ok-push-2.ensures.items)
    (subst (λ found. IsBuilding graph (i + 1) (nodes ++ read ∷ []) (levels ++ c.level_above.result ∷ []) (regions ++ c.behind.result ∷ []) found) (sym pushed_list) next)))

pub order-requires-clause-few : goal.order-requires-clause-few
order-requires-clause-few c =
    let decls = c.args.p.now.decls.items in
    let end = at_end decls c.as_slice-decl-items.result.now c.building.id c.as_slice-decl-items.ensures c.building.auto.id-end c.building-test.false in
    omega (arith, end, c.requires.few, length-map decls node_of, ap length c.deref-2.ensures.value, level_count (graph_of decls) c.building.id c.building.levels.items c.building.invariant.level_list)

pub order-requires-clause-low : goal.order-requires-clause-low
order-requires-clause-low c =
    let decls = c.args.p.now.decls.items in
    let end = at_end decls c.as_slice-decl-items.result.now c.building.id c.as_slice-decl-items.ensures c.building.auto.id-end c.building-test.false in
    let levels = c.building.levels.items in
    let count : c.building.id ≤ length levels = omega (arith, level_count (graph_of decls) c.building.id levels c.building.invariant.level_list) in
    subst (λ found. All (λ level. level < length found) found) (sym c.deref-2.ensures.value)
    (levels_low (graph_of decls) c.building.id (length levels) levels c.requires.ordered (omega (arith, end)) count c.building.invariant.level_list)

pub invariant_of-result : goal.invariant_of-result
invariant_of-result c =
    let decls = c.args.p.now.decls.items in
    let end = at_end decls c.as_slice-decl-items.result.now c.building.id c.as_slice-decl-items.ensures c.building.auto.id-end c.building-test.false in
    let nodes = map plain_node c.building.nodes.items in
    let levels = c.building.levels.items in
    let regions = c.building.regions.items in
    let dependents = c.building.dependents.items in
    let order = c.in_ok-order.order.items in
    let found : IsOrderBy (λ id. get_or levels id 0) (length levels) order = subst (λ xs. IsOrderBy (λ id. get_or xs id 0) (length xs) order) c.deref-2.ensures.value c.in_ok-order.ensures in
    let kept = kept_of (graph_of decls) nodes levels regions dependents order c.building.id c.requires.ordered (omega (arith, c.requires.few, length-map decls node_of)) c.building.invariant end found in
    subst (λ xs. IsKept nodes xs c.from_vec-2.result.items c.from_vec-3.result.items order) (sym (ap (λ l. l.items) c.from_vec.ensures))
    (subst (λ xs. IsKept nodes levels xs c.from_vec-3.result.items order) (sym (ap (λ l. l.items) c.from_vec-2.ensures))
    (subst (λ xs. IsKept nodes levels regions xs order) (sym (ap (λ l. l.items) c.from_vec-3.ensures)) kept))
