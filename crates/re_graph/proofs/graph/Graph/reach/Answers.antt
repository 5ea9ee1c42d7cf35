-- Each step finds the least id that is pending, and puts its dependents in its place.
use Rattle.std.proofs.Common.{◌≡◌, ◌<◌, ◌≤◌, ◌+◌, ◌-◌, ◌==◌, ◌||◌, ◌++◌, ◌∷◌, [], ℕ, false, cond, length, get_or, refl, sym, ap, subst, ◌∙◌, arith}
use Rattle.std.specs.Ordering.{nat_cmp}
use Rattle.std.specs.BTreeMap.{is_at}
use Rattle.std.specs.BTreeSet.{contains}
use Rattle.std.specs.List.{list_any}
use Rattle.std.proofs.lemmas.List.{get_or_default, length_push}
use Rattle.re_terms.specs.Listed.{plain}
use Rattle.re_terms.specs.Dependencies.{inputs_at, reach}
use Rattle.re_graph.specs.Kept.{IsKept, is_among}
use Rattle.re_graph.proofs.Lists.{plain_is}
use Rattle.re_graph.proofs.Own.{inputs_at-none}
use Rattle.re_graph.proofs.Steps.{is_at-key}
use Rattle.re_graph.proofs.Reaching.{IsReaching, least_from, empty_from, popped, reach_step, reach_all, reach_none, reach_room}
use Rattle.re_graph.proofs.graph.Graph.reach.Goals as goal

pub reaching-init : goal.reaching-init
reaching-init c =
    subst (λ found. (found.spare ≡ 0) × ((next : ℕ) × IsReaching c.args.self.now c.args.touched.now.items c.insert_all.new.pending found.items next)) (sym c.new-reached.ensures) (
      refl,
      (
        0,
        reach_none c.args.self.now c.args.touched.now.items c.insert_all.new.pending
            (λ id. c.in_ok-insert_all.ensures id ∙ ap (λ keys. list_any (is_at (nat_cmp id)) keys || is_among c.as_slice.result.now id) c.new-pending.ensures.empty ∙ ap (λ xs. is_among xs id) c.as_slice.ensures),
      ),
    )

pub bounds-dependents-id : goal.bounds-dependents-id
bounds-dependents-id c =
    let kept = subst (λ graph. IsKept graph c.self.inside.levels.items c.self.inside.regions.items c.self.inside.dependents.items c.self.inside.order.items) c.self.view_is c.self.invariant in
    let first = least_from c.reaching.pending c.in-Some.id c.in-Some.ensures.member c.in-Some.ensures.least in
    let step = popped c.args.self.now c.args.touched.now.items c.reaching.pending c.reaching.reached.items c.reaching.invariant.1.0 c.in-Some.id kept.ordered c.requires (inputs_at-none c.args.self.now) c.reaching.invariant.1.1 first in
    omega (arith, step.within, kept.dependent_count, ap length c.as_slice-dependents.ensures)

pub reaching-preserved : goal.reaching-preserved
reaching-preserved c =
    let graph = c.args.self.now in
    let touched = c.args.touched.now.items in
    let pending = c.reaching.pending in
    let k = c.in-Some.id in
    let kept = subst (λ nodes. IsKept nodes c.self.inside.levels.items c.self.inside.regions.items c.self.inside.dependents.items c.self.inside.order.items) c.self.view_is c.self.invariant in
    let first = least_from pending k c.in-Some.ensures.member c.in-Some.ensures.least in
    let step = popped graph touched pending c.reaching.reached.items c.reaching.invariant.1.0 k kept.ordered c.requires (inputs_at-none graph) c.reaching.invariant.1.1 first in
    let within : k < length c.as_slice-dependents.result.now = omega (arith, step.within, kept.dependent_count, ap length c.as_slice-dependents.ensures) in
    let item : c.index-dependents-id.result ≡ get_or c.self.inside.dependents.items k (plain []) =
    c.index-dependents-id.is ∙ get_or_default c.as_slice-dependents.result.now k c.index-dependents-id.result (plain []) within ∙ ap (λ lists. get_or lists k (plain [])) c.as_slice-dependents.ensures in
    let changed : (id : ℕ) → contains nat_cmp c.insert_all-in-Some.new.pending id ≡ (cond (k == id) false (contains nat_cmp pending id) || is_among (inputs_at graph id) k) = λ id.
    c.in_ok-insert_all-2.ensures id
    ∙ ap (λ b. b || is_among c.as_slice-in-Some.result.now id) (c.in-Some.ensures.updates.0 id ∙ ap (λ b. cond b false (contains nat_cmp pending id)) (is_at-key k id))
    ∙ ap (λ b. cond (k == id) false (contains nat_cmp pending id) || b) (ap (λ xs. is_among xs id) (c.as_slice-in-Some.ensures ∙ ap (λ l. l.items) item) ∙ kept.links k id) in
    let next = reach_step graph touched pending c.insert_all-in-Some.new.pending c.reaching.reached.items c.reaching.invariant.1.0 k kept.ordered c.reaching.invariant.1.1 step first changed in
    subst (λ found. (found.spare ≡ 0) × ((place : ℕ) × IsReaching graph touched c.insert_all-in-Some.new.pending found.items place)) (sym c.in_ok-push.ensures.ok)
    (omega (arith, c.reaching.invariant.0), (k + 1, next))

pub reaching-smaller : goal.reaching-smaller
reaching-smaller c =
    let graph = c.args.self.now in
    let touched = c.args.touched.now.items in
    let pending = c.reaching.pending in
    let k = c.in-Some.id in
    let kept = subst (λ nodes. IsKept nodes c.self.inside.levels.items c.self.inside.regions.items c.self.inside.dependents.items c.self.inside.order.items) c.self.view_is c.self.invariant in
    let first = least_from pending k c.in-Some.ensures.member c.in-Some.ensures.least in
    let step = popped graph touched pending c.reaching.reached.items c.reaching.invariant.1.0 k kept.ordered c.requires (inputs_at-none graph) c.reaching.invariant.1.1 first in
    let within : k < length c.as_slice-dependents.result.now = omega (arith, step.within, kept.dependent_count, ap length c.as_slice-dependents.ensures) in
    let item : c.index-dependents-id.result ≡ get_or c.self.inside.dependents.items k (plain []) =
    c.index-dependents-id.is ∙ get_or_default c.as_slice-dependents.result.now k c.index-dependents-id.result (plain []) within ∙ ap (λ lists. get_or lists k (plain [])) c.as_slice-dependents.ensures in
    let changed : (id : ℕ) → contains nat_cmp c.insert_all-in-Some.new.pending id ≡ (cond (k == id) false (contains nat_cmp pending id) || is_among (inputs_at graph id) k) = λ id.
    c.in_ok-insert_all-2.ensures id
    ∙ ap (λ b. b || is_among c.as_slice-in-Some.result.now id) (c.in-Some.ensures.updates.0 id ∙ ap (λ b. cond b false (contains nat_cmp pending id)) (is_at-key k id))
    ∙ ap (λ b. cond (k == id) false (contains nat_cmp pending id) || b) (ap (λ xs. is_among xs id) (c.as_slice-in-Some.ensures ∙ ap (λ l. l.items) item) ∙ kept.links k id) in
    let next = reach_step graph touched pending c.insert_all-in-Some.new.pending c.reaching.reached.items c.reaching.invariant.1.0 k kept.ordered c.reaching.invariant.1.1 step first changed in
    let room : length (c.reaching.reached.items ++ k ∷ []) ≤ length graph = reach_room graph touched c.insert_all-in-Some.new.pending (c.reaching.reached.items ++ k ∷ []) (k + 1) next in
    let more : length c.push.new.self.items ≡ length c.reaching.reached.items + 1 = ap (λ found. length found.items) c.in_ok-push.ensures.ok ∙ length_push c.reaching.reached.items k in
    let fewer : length graph - length c.push.new.self.items < length graph - length c.reaching.reached.items = omega (arith, room, more, length_push c.reaching.reached.items k) in
    fewer

pub returns : goal.returns
returns c =
    let kept = subst (λ graph. IsKept graph c.self.inside.levels.items c.self.inside.regions.items c.self.inside.dependents.items c.self.inside.order.items) c.self.view_is c.self.invariant in
    plain_is c.reaching.reached (reach c.args.self.now c.args.touched.now.items)
    (reach_all c.args.self.now c.args.touched.now.items c.reaching.pending c.reaching.reached.items c.reaching.invariant.1.0 kept.ordered c.reaching.invariant.1.1 (λ id. empty_from c.reaching.pending id c.in_default.ensures.variant.1))
    c.reaching.invariant.0
