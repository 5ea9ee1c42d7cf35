use Rattle.std.proofs.Common.{Bool, ◌≡◌, ◌<◌, ◌+◌, ◌-◌, [], ◌||◌, ◌==◌, ℕ, List, length, get_or, sym, ap, subst, ◌∙◌, arith}
use Rattle.std.specs.Prelude.{None, Option, Some, if◌then◌else◌, option_map, slice_get}
use Rattle.std.specs.List.{list_any}
use Rattle.std.proofs.lemmas.List.{get_or_default, length-map, length_push}
use Rattle.re_terms.specs.Dependencies.{graph_of, inputs_at, node_of}
use Rattle.re_terms.specs.Listed.{Listed, plain}
use Rattle.re_graph.specs.Kept.{is_among, list_at}
use Rattle.re_prop.proofs.Choosing.{item_at}
use Rattle.re_prop.proofs.Givens.{given_of}
use Rattle.re_levels.specs.declared.found.Found.{Found as One}
use Rattle.re_levels.specs.Found.{effect_among, effect_of, seen_one}
use Rattle.re_levels.specs.Ranks.{has_rank}
use Rattle.re_levels.specs.Seen.{Sight, body_seen, sight_of}
use Rattle.re_levels.proofs.Seeing.{seen-effect}
use Rattle.re_levels.proofs.Ways.{IsWalking, once_most, ranks_few, readers_low, step_declared, step_few, step_low, step_most, walk_end, walk_start, walk_step}
use Rattle.re_levels.proofs.way.walk_reached.Goals as goal

pub walking-init : goal.walking-init
walking-init g c =
    let p = c.args.walk.now.program.now in
    let s = sight_of c.args.walk.now.entry.now c.args.walk.now.touched.now.items (g.O.Env.told c.args.walk.now.old.now) (g.N.Env.told c.args.walk.now.new.now) in
    let order = c.args.places.now.order.items in
    let ranks = c.args.places.now.ranks.items in
    let marked : (r : ℕ) → has_rank c.mark.new.dirty r ≡ list_any (λ x. get_or ranks x 0 == r) c.args.walk.now.touched.now.items = λ r.
    c.mark.ensures r
    ∙ ap (λ b. b || list_any (λ x. get_or c.deref.result.now x 0 == r) c.as_slice.result.now) (c.new-dirty.ensures r)
    ∙ ap (λ (xs : List ℕ). list_any (λ x. get_or xs x 0 == r) c.as_slice.result.now) c.deref.ensures.value
    ∙ ap (λ (xs : List ℕ). list_any (λ x. get_or ranks x 0 == r) xs) c.as_slice.ensures in
    let start = walk_start p c.requires.program s order ranks c.requires.ranking c.mark.new.dirty marked c.requires.touched in
    let none = c.requires.none in
    (omega (arith, none), (0, subst (λ (e : ℕ). IsWalking p s order ranks c.mark.new.dirty c.new-found.result.items e 0) (sym none) (subst (λ (found : List One). IsWalking p s order ranks c.mark.new.dirty found 0 0) (sym c.new-found.ensures.items) start)))

pub bounds-as_slice-rank : goal.bounds-as_slice-rank
bounds-as_slice-rank g c =
    let p = c.args.walk.now.program.now in
    let s = sight_of c.args.walk.now.entry.now c.args.walk.now.touched.now.items (g.O.Env.told c.args.walk.now.old.now) (g.N.Env.told c.args.walk.now.new.now) in
    let low = step_low p c.requires.program s c.args.places.now.order.items c.args.places.now.ranks.items c.requires.ranking c.walking.dirty c.walking.found.items c.walking.evaluated c.walking.invariant.1.0 c.walking.invariant.1.1 c.take_lowest.new.self c.in-Some.rank c.in-Some.ensures.taken in
    let count = c.requires.ranking.order_count in
    omega (arith, low, count, ap length c.as_slice-in-Some.ensures)

pub effect-one-requires-clause-given : goal.effect-one-requires-clause-given
effect-one-requires-clause-given g c =
    let p = c.args.walk.now.program.now in
    let s = sight_of c.args.walk.now.entry.now c.args.walk.now.touched.now.items (g.O.Env.told c.args.walk.now.old.now) (g.N.Env.told c.args.walk.now.new.now) in
    let k = c.in-Some.rank in
    let declared = step_declared p c.requires.program s c.args.places.now.order.items c.args.places.now.ranks.items c.requires.ranking c.walking.dirty c.walking.found.items c.walking.evaluated c.walking.invariant.1.0 c.walking.invariant.1.1 c.take_lowest.new.self k c.in-Some.ensures.taken in
    let same : get_or c.as_slice-in-Some.result.now k 0 ≡ get_or c.args.places.now.order.items k 0 = ap (λ (xs : List ℕ). get_or xs k 0) c.as_slice-in-Some.ensures in
    let inside : get_or c.as_slice-in-Some.result.now k 0 < length c.as_slice-in-Some-2.result.now = omega (arith, declared, same, ap length c.as_slice-in-Some-2.ensures, length-map p.decls.items node_of) in
    given_of p (get_or c.as_slice-in-Some.result.now k 0) c.index-as_slice-id.result c.requires.program (item_at p.decls.items c.as_slice-in-Some-2.result.now (get_or c.as_slice-in-Some.result.now k 0) c.index-as_slice-id.result c.as_slice-in-Some-2.ensures inside c.index-as_slice-id.is)

pub effect-one-requires-clause-few : goal.effect-one-requires-clause-few
effect-one-requires-clause-few g c =
    let w = c.walking.invariant.1.1 in
    let a = w.short in
    let b = w.few in
    let e = w.due.within in
    let few = c.requires.program.few in
    omega (arith, a, b, e, few, length-map c.args.walk.now.program.now.decls.items node_of)

pub returns-in_err-push-clause-steps : goal.returns-in_err-push-clause-steps
returns-in_err-push-clause-steps g c = let a = c.effect-one.ensures.steps in let b = c.walking.invariant.0 in omega (arith, a, b)

pub returns-in_err-push-clause-once : goal.returns-in_err-push-clause-once
returns-in_err-push-clause-once g c =
    let p = c.args.walk.now.program.now in
    let s = sight_of c.args.walk.now.entry.now c.args.walk.now.touched.now.items (g.O.Env.told c.args.walk.now.old.now) (g.N.Env.told c.args.walk.now.new.now) in
    let k = c.in-Some.rank in
    let declared = step_declared p c.requires.program s c.args.places.now.order.items c.args.places.now.ranks.items c.requires.ranking c.walking.dirty c.walking.found.items c.walking.evaluated c.walking.invariant.1.0 c.walking.invariant.1.1 c.take_lowest.new.self k c.in-Some.ensures.taken in
    let same : get_or c.as_slice-in-Some.result.now k 0 ≡ get_or c.args.places.now.order.items k 0 = ap (λ (xs : List ℕ). get_or xs k 0) c.as_slice-in-Some.ensures in
    let inside : get_or c.as_slice-in-Some.result.now k 0 < length c.as_slice-in-Some-2.result.now = omega (arith, declared, same, ap length c.as_slice-in-Some-2.ensures, length-map p.decls.items node_of) in
    let at = item_at p.decls.items c.as_slice-in-Some-2.result.now (get_or c.as_slice-in-Some.result.now k 0) c.index-as_slice-id.result c.as_slice-in-Some-2.ensures inside c.index-as_slice-id.is in
    let here : slice_get p.decls.items (get_or c.args.places.now.order.items k 0) ≡ Some c.index-as_slice-id.result = subst (λ (id : ℕ). slice_get p.decls.items id ≡ Some c.index-as_slice-id.result) same at in
    step_most p c.requires.program s c.args.places.now.order.items c.args.places.now.ranks.items c.requires.ranking c.walking.dirty c.walking.found.items c.walking.evaluated c.walking.invariant.1.0 c.walking.invariant.1.1 c.take_lowest.new.self k c.in-Some.ensures.taken c.index-as_slice-id.result here c.effect-one.new.evaluated c.effect-one.ensures.most

pub index-requires : goal.index-requires
index-requires g c =
    let p = c.args.walk.now.program.now in
    let s = sight_of c.args.walk.now.entry.now c.args.walk.now.touched.now.items (g.O.Env.told c.args.walk.now.old.now) (g.N.Env.told c.args.walk.now.new.now) in
    let k = c.in-Some.rank in
    let declared = step_declared p c.requires.program s c.args.places.now.order.items c.args.places.now.ranks.items c.requires.ranking c.walking.dirty c.walking.found.items c.walking.evaluated c.walking.invariant.1.0 c.walking.invariant.1.1 c.take_lowest.new.self k c.in-Some.ensures.taken in
    let same : get_or c.as_slice-in-Some.result.now k 0 ≡ get_or c.args.places.now.order.items k 0 = ap (λ (xs : List ℕ). get_or xs k 0) c.as_slice-in-Some.ensures in
    let count = c.requires.readers.count in
    omega (arith, declared, same, count)

pub mark-requires-in-Some-clause-declared : goal.mark-requires-in-Some-clause-declared
mark-requires-in-Some-clause-declared g c =
    let p = c.args.walk.now.program.now in
    let s = sight_of c.args.walk.now.entry.now c.args.walk.now.touched.now.items (g.O.Env.told c.args.walk.now.old.now) (g.N.Env.told c.args.walk.now.new.now) in
    let k = c.in-Some.rank in
    let id : ℕ = get_or c.as_slice-in-Some.result.now k 0 in
    let readers : List (Listed ℕ) = c.args.places.now.readers.items in
    let declared = step_declared p c.requires.program s c.args.places.now.order.items c.args.places.now.ranks.items c.requires.ranking c.walking.dirty c.walking.found.items c.walking.evaluated c.walking.invariant.1.0 c.walking.invariant.1.1 c.take_lowest.new.self k c.in-Some.ensures.taken in
    let same : id ≡ get_or c.args.places.now.order.items k 0 = ap (λ (xs : List ℕ). get_or xs k 0) c.as_slice-in-Some.ensures in
    let count = c.requires.readers.count in
    let within : id < length readers = omega (arith, declared, same, count) in
    let item : c.index.result.now ≡ get_or readers id (plain []) = c.index.ensures ∙ get_or_default readers id c.index.result.now (plain []) within in
    let list : c.as_slice-readers.result.now ≡ list_at readers id = c.as_slice-readers.ensures ∙ ap (λ (l : Listed ℕ). l.items) item in
    let ranks = c.requires.ranking.rank_count in
    let all : (i d : ℕ) → i < length c.as_slice-readers.result.now → get_or c.as_slice-readers.result.now i d < length (graph_of p.decls.items) = subst (λ (xs : List ℕ). (i d : ℕ) → i < length xs → get_or xs i d < length (graph_of p.decls.items)) (sym list) (readers_low (graph_of p.decls.items) readers c.requires.readers id) in
    λ i d inside. let low = all i d inside in omega (arith, low, ranks, ap length c.deref-in-Some-2.ensures.value)

pub mark-requires-in-Some-clause-low : goal.mark-requires-in-Some-clause-low
mark-requires-in-Some-clause-low g c =
    let few = c.requires.program.few in
    subst (λ (xs : List ℕ). (k d : ℕ) → k < length xs → get_or xs k d < 512) (sym c.deref-in-Some-2.ensures.value)
    (ranks_few (graph_of c.args.walk.now.program.now.decls.items) c.args.places.now.order.items c.args.places.now.ranks.items c.requires.ranking (omega (arith, few, length-map c.args.walk.now.program.now.decls.items node_of)))

pub walking-smaller : goal.walking-smaller
walking-smaller g c =
    let p = c.args.walk.now.program.now in
    let s = sight_of c.args.walk.now.entry.now c.args.walk.now.touched.now.items (g.O.Env.told c.args.walk.now.old.now) (g.N.Env.told c.args.walk.now.new.now) in
    let room = step_few p c.requires.program s c.args.places.now.order.items c.args.places.now.ranks.items c.requires.ranking c.walking.dirty c.walking.found.items c.walking.evaluated c.walking.invariant.1.0 c.walking.invariant.1.1 c.take_lowest.new.self c.in-Some.rank c.in-Some.ensures.taken in
    let more : length c.push.new.self.items ≡ length c.walking.found.items + 1 = ap (λ (xs : List One). length xs) c.in_ok-push.ensures.items ∙ length_push c.walking.found.items c.effect-one.result in
    let fewer : length (graph_of p.decls.items) - length c.push.new.self.items < length (graph_of p.decls.items) - length c.walking.found.items = omega (arith, room, more) in
    fewer

pub walking-preserved : goal.walking-preserved
walking-preserved g c =
    let p = c.args.walk.now.program.now in
    let s = sight_of c.args.walk.now.entry.now c.args.walk.now.touched.now.items (g.O.Env.told c.args.walk.now.old.now) (g.N.Env.told c.args.walk.now.new.now) in
    let order = c.args.places.now.order.items in
    let ranks = c.args.places.now.ranks.items in
    let k = c.in-Some.rank in
    let id : ℕ = get_or c.as_slice-in-Some.result.now k 0 in
    let d = c.index-as_slice-id.result in
    let readers : List (Listed ℕ) = c.args.places.now.readers.items in
    let declared = step_declared p c.requires.program s order ranks c.requires.ranking c.walking.dirty c.walking.found.items c.walking.evaluated c.walking.invariant.1.0 c.walking.invariant.1.1 c.take_lowest.new.self k c.in-Some.ensures.taken in
    let same : id ≡ get_or order k 0 = ap (λ (xs : List ℕ). get_or xs k 0) c.as_slice-in-Some.ensures in
    let inside : id < length c.as_slice-in-Some-2.result.now = omega (arith, declared, same, ap length c.as_slice-in-Some-2.ensures, length-map p.decls.items node_of) in
    let at = item_at p.decls.items c.as_slice-in-Some-2.result.now id d c.as_slice-in-Some-2.ensures inside c.index-as_slice-id.is in
    let here : slice_get p.decls.items (get_or order k 0) ≡ Some d = subst (λ (x : ℕ). slice_get p.decls.items x ≡ Some d) same at in
    let count = c.requires.readers.count in
    let within : id < length readers = omega (arith, declared, same, count) in
    let item : c.index.result.now ≡ get_or readers id (plain []) = c.index.ensures ∙ get_or_default readers id c.index.result.now (plain []) within in
    let list : c.as_slice-readers.result.now ≡ list_at readers id = c.as_slice-readers.ensures ∙ ap (λ (l : Listed ℕ). l.items) item in
    let own : c.effect-one.result.id ≡ get_or order k 0 = c.effect-one.ensures.id ∙ same in
    let made : effect_of c.effect-one.result ≡ body_seen s (get_or order k 0) d.body (effect_among s.old c.walking.found.items) =
    c.effect-one.ensures.effect
    ∙ ap (λ (x : ℕ). body_seen s x d.body (effect_among s.old c.deref-in-Some.result.now)) same
    ∙ ap (λ (xs : List One). body_seen s (get_or order k 0) d.body (effect_among s.old xs)) c.deref-in-Some.ensures.value in
    let marked : (r : ℕ) → has_rank c.mark-in-Some.new.dirty r ≡ (has_rank c.take_lowest.new.self r || list_any (λ x. get_or ranks x 0 == r) (list_at readers id)) = λ r.
    c.mark-in-Some.ensures r
    ∙ ap (λ (xs : List ℕ). has_rank c.take_lowest.new.self r || list_any (λ x. get_or xs x 0 == r) c.as_slice-readers.result.now) c.deref-in-Some-2.ensures.value
    ∙ ap (λ (xs : List ℕ). has_rank c.take_lowest.new.self r || list_any (λ x. get_or ranks x 0 == r) xs) list in
    let links : (other : ℕ) → is_among (list_at readers id) other ≡ is_among (inputs_at (graph_of p.decls.items) other) (get_or order k 0) = λ other.
    c.requires.readers.links id other ∙ ap (λ (x : ℕ). is_among (inputs_at (graph_of p.decls.items) other) x) same in
    let step = walk_step p c.requires.program s order ranks c.requires.ranking c.walking.dirty c.walking.found.items c.walking.evaluated c.walking.invariant.1.0 c.walking.invariant.1.1 c.take_lowest.new.self k c.in-Some.ensures.taken d here c.effect-one.new.evaluated c.effect-one.ensures.most c.effect-one.result own made c.mark-in-Some.new.dirty (list_at readers id) marked links in
    let counted = c.effect-one.ensures.steps in
    let before = c.walking.invariant.0 in
    (omega (arith, counted, before), (k + 1, subst (λ (found : List One). IsWalking p s order ranks c.mark-in-Some.new.dirty found c.effect-one.new.evaluated (k + 1)) (sym c.in_ok-push.ensures.items) step))

pub returns-clause-found : goal.returns-clause-found
returns-clause-found g c =
    let p = c.args.walk.now.program.now in
    let s = sight_of c.args.walk.now.entry.now c.args.walk.now.touched.now.items (g.O.Env.told c.args.walk.now.old.now) (g.N.Env.told c.args.walk.now.new.now) in
    walk_end p c.requires.program s c.args.places.now.order.items c.args.places.now.ranks.items c.requires.ranking c.walking.dirty c.walking.found.items c.walking.evaluated c.walking.invariant.1.0 c.walking.invariant.1.1 c.in_default.ensures.none

pub returns-clause-steps : goal.returns-clause-steps
returns-clause-steps g c = c.walking.invariant.0

pub returns-clause-once : goal.returns-clause-once
returns-clause-once g c =
    let p = c.args.walk.now.program.now in
    let s = sight_of c.args.walk.now.entry.now c.args.walk.now.touched.now.items (g.O.Env.told c.args.walk.now.old.now) (g.N.Env.told c.args.walk.now.new.now) in
    let w = c.walking.invariant.1.1 in
    let a = w.once in
    let b = once_most p c.requires.program s c.args.places.now.order.items c.args.places.now.ranks.items c.requires.ranking c.walking.invariant.1.0 in
    omega (arith, a, b)

pub returns-clause-effects : goal.returns-clause-effects
returns-clause-effects g c = λ s tells id on.
    let p = c.args.walk.now.program.now in
    let told : Sight = sight_of c.args.walk.now.entry.now c.args.walk.now.touched.now.items (g.O.Env.told c.args.walk.now.old.now) (g.N.Env.told c.args.walk.now.new.now) in
    let all = returns-clause-found g c id in
    let one : Option One = Some (seen_one p told id) in
    ap (λ (o : Option One). option_map effect_of o) (all ∙ ap (λ (b : Bool). if b then one else None) on)
    ∙ ap Some (seen-effect p c.requires.program c.args.walk.now.entry.now c.args.walk.now.touched.now.items (g.O.Env.told c.args.walk.now.old.now) (g.N.Env.told c.args.walk.now.new.now) s tells id on)
