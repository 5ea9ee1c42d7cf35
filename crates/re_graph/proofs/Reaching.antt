-- Reaching by the least id first: what was found, and what is due.
use Rattle.std.proofs.Common.{◌≡◌, ◌<◌, ◌≤◌, ◌+◌, ◌==◌, ◌⊎◌, inl, inr, ℕ, zero, suc, Bool, true, false, ◌&&◌, ◌||◌, cond, List, [], ◌∷◌, ◌++◌, length, get_or, refl, sym, ap, ◌∙◌, arith}
use Rattle.std.specs.Prelude.{filter, nat_lt, nat_le}
use Rattle.std.specs.List.{All, list_any, range_with_len}
use Rattle.std.specs.Ordering.{nat_cmp, is_gt}
use Rattle.std.specs.BTreeMap.{is_at}
use Rattle.std.specs.BTreeSet.{BTreeSet, contains}
use Rattle.std.proofs.lemmas.Bool.{cases_eq, eq-eqb, ne_eqb, le-ltb, le-leb, ltb-true, ltb-false, leb-true, and_parts, leb-false, both_ways}
use Rattle.std.proofs.Math.Bool.{or_assoc}
use Rattle.std.proofs.lemmas.List.Elements.{All-weaker}
use Rattle.std.proofs.lemmas.List.Folds.{list_any_none}
use Rattle.re_terms.specs.Dependencies.{PlainNode, inputs_at, IsOrdered, is_reached, reach}
use Rattle.re_graph.specs.Kept.{is_among}
use Rattle.re_graph.proofs.Lists.{list_any_same, list_any-or}
use Rattle.re_graph.proofs.Own.{is_reached-own}
use Rattle.re_graph.proofs.Ranges.{filter_range-takes, filter_range-gap, length-filter_range}

-- a declaration is touched, or has an input below the place that is reached
abbrev pub is_due : List PlainNode → List ℕ → ℕ → ℕ → Bool
is_due graph touched next id = is_among touched id || list_any (λ input. nat_lt input next && is_reached graph touched input) (inputs_at graph id)

-- what is reached below a place was found, and what is due from it on is pending
pub record IsReaching (graph : List PlainNode) (touched : List ℕ) (pending : BTreeSet ℕ) (found : List ℕ) (next : ℕ) : Type 0 where
  pub within : next ≤ length graph
  pub below : found ≡ filter (is_reached graph touched) (range_with_len 0 next)
  pub due : (id : ℕ) → contains nat_cmp pending id ≡ (nat_le next id && is_due graph touched next id)

input_by : (graph : List PlainNode) (touched : List ℕ) (next i : ℕ) → (next ≤ i → is_reached graph touched i ≡ false) → (b : Bool) → nat_lt i next ≡ b → (nat_lt i next && is_reached graph touched i) ≡ is_reached graph touched i
input_by graph touched next i none true is = ap (λ b. b && is_reached graph touched i) is
input_by graph touched next i none false is = ap (λ b. b && is_reached graph touched i) is ∙ sym (none (ltb-false i next is))

-- where nothing between is reached, a declaration is reached exactly where it is due
pub is_reached-due : (graph : List PlainNode) (touched : List ℕ) (next id : ℕ) → IsOrdered graph → id < length graph → ((i : ℕ) → next ≤ i → i < id → is_reached graph touched i ≡ false) → is_reached graph touched id ≡ is_due graph touched next id
is_reached-due graph touched next id ordered within none =
    is_reached-own graph touched id ordered within
    ∙ ap (λ b. is_among touched id || b) (sym (list_any_same (λ input. nat_lt input next && is_reached graph touched input) (is_reached graph touched) (inputs_at graph id)
    (All-weaker (λ input. input < id) (λ input. (nat_lt input next && is_reached graph touched input) ≡ is_reached graph touched input) (λ input under. input_by graph touched next input (λ from. none input from under) (nat_lt input next) refl) (inputs_at graph id) (ordered id))))

none_by : (graph : List PlainNode) (touched : List ℕ) (next k m : ℕ) → IsOrdered graph → k ≤ length graph → ((i : ℕ) → next ≤ i → i < k → is_due graph touched next i ≡ false) → ((i : ℕ) → i < m → next ≤ i → i < k → is_reached graph touched i ≡ false) → (i : ℕ) → i < suc m → next ≤ i → i < k → is_reached graph touched i ≡ false
none_by graph touched next k m ordered bound idle earlier i under from to = is_reached-due graph touched next i ordered (omega arith) (λ j from_next to_i. earlier j (omega arith) from_next (omega arith)) ∙ idle i from to

none_below : (graph : List PlainNode) (touched : List ℕ) (next k m : ℕ) → IsOrdered graph → k ≤ length graph → ((i : ℕ) → next ≤ i → i < k → is_due graph touched next i ≡ false) → (i : ℕ) → i < m → next ≤ i → i < k → is_reached graph touched i ≡ false
none_below graph touched next k zero ordered bound idle i under from to = absurd (omega arith)
none_below graph touched next k (suc m) ordered bound idle i under from to = none_by graph touched next k m ordered bound idle (none_below graph touched next k m ordered bound idle) i under from to

-- where nothing between is due, nothing between is reached
pub none_between : (graph : List PlainNode) (touched : List ℕ) (next k : ℕ) → IsOrdered graph → k ≤ length graph → ((i : ℕ) → next ≤ i → i < k → is_due graph touched next i ≡ false) → (i : ℕ) → next ≤ i → i < k → is_reached graph touched i ≡ false
none_between graph touched next k ordered bound idle i from to = none_below graph touched next k (suc i) ordered bound idle i (omega arith) from to

never_true : (b : Bool) → (b ≡ true → ⊥) → b ≡ false
never_true true no_way = absurd (no_way refl)
never_true false no_way = refl

-- nothing is due where nothing is pending
pub idle_at : (graph : List PlainNode) (touched : List ℕ) (pending : BTreeSet ℕ) (found : List ℕ) (next i : ℕ) → IsReaching graph touched pending found next → next ≤ i → contains nat_cmp pending i ≡ false → is_due graph touched next i ≡ false
idle_at graph touched pending found next i so_far from absent = sym (ap (λ b. b && is_due graph touched next i) (le-leb next i from)) ∙ sym (so_far.due i) ∙ absent

-- what is due stands in the graph
pub due_within : (graph : List PlainNode) (touched : List ℕ) (next id : ℕ) → All (λ t. t < length graph) touched → ((id : ℕ) → length graph ≤ id → inputs_at graph id ≡ []) → is_due graph touched next id ≡ true → id < length graph
due_within graph touched next id declared outside due = by (nat_lt id (length graph)) refl
  where
    by : (b : Bool) → nat_lt id (length graph) ≡ b → id < length graph
    by true is = ltb-true id (length graph) is
    by false is =
        let behind : length graph ≤ id = ltb-false id (length graph) is in
        let no_touch : is_among touched id ≡ false = list_any_none (λ t. t == id) touched (All-weaker (λ t. t < length graph) (λ t. (t == id) ≡ false) (λ t under. ne_eqb t id (λ e. absurd (omega arith))) touched declared) in
        let nothing : list_any (λ input. nat_lt input next && is_reached graph touched input) (inputs_at graph id) ≡ false = ap (list_any (λ input. nat_lt input next && is_reached graph touched input)) (outside id behind) in
        absurd (both_ways (is_due graph touched next id) (ap (λ b. b || list_any (λ input. nat_lt input next && is_reached graph touched input) (inputs_at graph id)) no_touch ∙ nothing) due)

input_more : (graph : List PlainNode) (touched : List ℕ) (next k i : ℕ) → next ≤ k → is_reached graph touched k ≡ true → (next ≤ i → i < k → is_reached graph touched i ≡ false) → (nat_lt i (k + 1) && is_reached graph touched i) ≡ ((nat_lt i next && is_reached graph touched i) || (i == k))
input_more graph touched next k i order own none = by (cases_eq i k)
  where
    R : ℕ → Bool
    R = is_reached graph touched

    lower : i < k → (b : Bool) → nat_lt i next ≡ b → (nat_lt i (k + 1) && R i) ≡ ((nat_lt i next && R i) || (i == k))
    lower to true is = grind arith
    lower to false is = let no : R i ≡ false = none (ltb-false i next is) to in grind arith

    by_order : (i ≡ k → ⊥) → (b : Bool) → nat_lt i k ≡ b → (nat_lt i (k + 1) && R i) ≡ ((nat_lt i next && R i) || (i == k))
    by_order other true is = lower (ltb-true i k is) (nat_lt i next) refl
    by_order other false is = let behind : k ≤ i = ltb-false i k is in grind arith

    by : (i ≡ k) ⊎ (i ≡ k → ⊥) → (nat_lt i (k + 1) && R i) ≡ ((nat_lt i next && R i) || (i == k))
    by (inl e) = let own_i : R i ≡ true = ap R e ∙ own in grind arith
    by (inr other) = by_order other (nat_lt i k) refl

-- behind one more that is reached, those are due that were, and those that name it
pub due_more : (graph : List PlainNode) (touched : List ℕ) (next k id : ℕ) → next ≤ k → is_reached graph touched k ≡ true → ((i : ℕ) → next ≤ i → i < k → is_reached graph touched i ≡ false) → is_due graph touched (k + 1) id ≡ (is_due graph touched next id || is_among (inputs_at graph id) k)
due_more graph touched next k id order own none =
    ap (λ b. is_among touched id || b) (list_any_same (λ i. nat_lt i (k + 1) && is_reached graph touched i) (λ i. (nat_lt i next && is_reached graph touched i) || (i == k)) (inputs_at graph id) (λ at d within. input_more graph touched next k (get_or (inputs_at graph id) at d) order own (none (get_or (inputs_at graph id) at d)))
    ∙ list_any-or (λ i. nat_lt i next && is_reached graph touched i) (λ i. i == k) (inputs_at graph id))
    ∙ sym (or_assoc (is_among touched id) (list_any (λ i. nat_lt i next && is_reached graph touched i) (inputs_at graph id)) (is_among (inputs_at graph id) k))

taken_out : (k id : ℕ) (old : Bool) → (id < k → old ≡ false) → id ≤ k → (k ≡ id) ⊎ (k ≡ id → ⊥) → cond (k == id) false old ≡ false
taken_out k id old least under (inl same) = ap (λ b. cond b false old) (eq-eqb k id same)
taken_out k id old least under (inr other) = ap (λ b. cond b false old) (ne_eqb k id other) ∙ least (omega arith)

pending_by : (graph : List PlainNode) (touched : List ℕ) (next k id : ℕ) (old new : Bool) → next ≤ k → (id < k → old ≡ false) → old ≡ (nat_le next id && is_due graph touched next id) → (id ≤ k → is_among (inputs_at graph id) k ≡ false) → new ≡ (cond (k == id) false old || is_among (inputs_at graph id) k) → is_due graph touched (k + 1) id ≡ (is_due graph touched next id || is_among (inputs_at graph id) k) → (b : Bool) → nat_le (k + 1) id ≡ b → new ≡ (nat_le (k + 1) id && is_due graph touched (k + 1) id)
pending_by graph touched next k id old new order least was names is more true e =
    let behind : k + 1 ≤ id = leb-true (k + 1) id e in
    let from : nat_le next id ≡ true = le-leb next id (omega arith) in
    is
    ∙ ap (λ b. cond b false old || is_among (inputs_at graph id) k) (ne_eqb k id (λ same. absurd (omega arith)))
    ∙ ap (λ b. b || is_among (inputs_at graph id) k) (was ∙ ap (λ b. b && is_due graph touched next id) from)
    ∙ sym more
    ∙ ap (λ b. b && is_due graph touched (k + 1) id) (sym e)
pending_by graph touched next k id old new order least was names is more false e =
    let under : id ≤ k = omega (arith, leb-false (k + 1) id e) in
    is
    ∙ ap (λ b. b || is_among (inputs_at graph id) k) (taken_out k id old least under (cases_eq k id))
    ∙ names under
    ∙ ap (λ b. b && is_due graph touched (k + 1) id) (sym e)

names_none : (graph : List PlainNode) (k id : ℕ) → IsOrdered graph → id ≤ k → is_among (inputs_at graph id) k ≡ false
names_none graph k id ordered under = list_any_none (λ i. i == k) (inputs_at graph id) (All-weaker (λ input. input < id) (λ input. (input == k) ≡ false) (λ input below_id. ne_eqb input k (λ e. absurd (omega arith))) (inputs_at graph id) (ordered id))

-- the least that is pending
pub record IsLeast (pending : BTreeSet ℕ) (k : ℕ) : Type 0 where
  pub member : contains nat_cmp pending k ≡ true
  pub least : (q : ℕ) → q < k → contains nat_cmp pending q ≡ false

above_is : (k q : ℕ) → q < k → is_gt (nat_cmp k q) ≡ true
above_is k q under = grind arith

pub least_from : (pending : BTreeSet ℕ) (k : ℕ) → contains nat_cmp pending k ≡ true → ((q : ℕ) → contains nat_cmp pending q ≡ true → is_gt (nat_cmp k q) ≡ false) → IsLeast pending k
least_from pending k member bound = record {
  member = member;
  least = λ q under. never_true (contains nat_cmp pending q) (λ is. both_ways (is_gt (nat_cmp k q)) (bound q is) (above_is k q under));
}

none_in : (keys : List ℕ) → (0 < length keys → false ≡ true) → keys ≡ []
none_in [] empty = refl
none_in (k ∷ keys) empty = cc (empty (omega arith))

-- a set that gives nothing has nothing
pub empty_from : (pending : BTreeSet ℕ) (id : ℕ) → (0 < length pending.keys → false ≡ true) → contains nat_cmp pending id ≡ false
empty_from pending id empty = ap (list_any (is_at (nat_cmp id))) (none_in pending.keys empty)

from_next : (graph : List PlainNode) (touched : List ℕ) (pending : BTreeSet ℕ) (found : List ℕ) (next k : ℕ) → IsReaching graph touched pending found next → contains nat_cmp pending k ≡ true → (next ≤ k) × (is_due graph touched next k ≡ true)
from_next graph touched pending found next k so_far member =
    let parts = and_parts (nat_le next k) (is_due graph touched next k) (sym (so_far.due k) ∙ member) in
    (leb-true next k parts.0, parts.1)

pub record Popped (graph : List PlainNode) (touched : List ℕ) (next k : ℕ) : Type 0 where
  pub order : next ≤ k
  pub within : k < length graph
  pub own : is_reached graph touched k ≡ true
  pub none : (i : ℕ) → next ≤ i → i < k → is_reached graph touched i ≡ false

-- the least that is pending is reached, and nothing between
pub popped : (graph : List PlainNode) (touched : List ℕ) (pending : BTreeSet ℕ) (found : List ℕ) (next k : ℕ) → IsOrdered graph → All (λ t. t < length graph) touched → ((id : ℕ) → length graph ≤ id → inputs_at graph id ≡ []) → IsReaching graph touched pending found next → IsLeast pending k → Popped graph touched next k
popped graph touched pending found next k ordered declared outside so_far first =
    let here = from_next graph touched pending found next k so_far first.member in
    let within : k < length graph = due_within graph touched next k declared outside here.1 in
    let none : (i : ℕ) → next ≤ i → i < k → is_reached graph touched i ≡ false = none_between graph touched next k ordered (omega arith) (λ i from to. idle_at graph touched pending found next i so_far from (first.least i to)) in
    record { order = here.0; within = within; own = is_reached-due graph touched next k ordered within none ∙ here.1; none = none }

-- one step: the least is found, and its dependents are pending
pub reach_step : (graph : List PlainNode) (touched : List ℕ) (pending new : BTreeSet ℕ) (found : List ℕ) (next k : ℕ) → IsOrdered graph → IsReaching graph touched pending found next → Popped graph touched next k → IsLeast pending k → ((id : ℕ) → contains nat_cmp new id ≡ (cond (k == id) false (contains nat_cmp pending id) || is_among (inputs_at graph id) k)) → IsReaching graph touched new (found ++ k ∷ []) (k + 1)
reach_step graph touched pending new found next k ordered so_far step first changed = record {
  within = omega (arith, step.within);
  below = ap (λ xs. xs ++ k ∷ []) (so_far.below ∙ sym (filter_range-gap (is_reached graph touched) next k step.order step.none)) ∙ sym (filter_range-takes (is_reached graph touched) k step.own);
  due = λ id. pending_by graph touched next k id (contains nat_cmp pending id) (contains nat_cmp new id) step.order (first.least id) (so_far.due id) (names_none graph k id ordered) (changed id) (due_more graph touched next k id step.order step.own step.none) (nat_le (k + 1) id) refl;
}

-- at the end all that is reached was found
pub reach_all : (graph : List PlainNode) (touched : List ℕ) (pending : BTreeSet ℕ) (found : List ℕ) (next : ℕ) → IsOrdered graph → IsReaching graph touched pending found next → ((id : ℕ) → contains nat_cmp pending id ≡ false) → found ≡ reach graph touched
reach_all graph touched pending found next ordered so_far empty =
    so_far.below ∙ sym (filter_range-gap (is_reached graph touched) next (length graph) so_far.within
    (none_between graph touched next (length graph) ordered (omega arith) (λ i from to. idle_at graph touched pending found next i so_far from (empty i))))

-- at the start the touched are pending
pub reach_none : (graph : List PlainNode) (touched : List ℕ) (pending : BTreeSet ℕ) → ((id : ℕ) → contains nat_cmp pending id ≡ is_among touched id) → IsReaching graph touched pending [] 0
reach_none graph touched pending is = record {
  within = omega arith;
  below = refl;
  due = λ id. is id ∙ sym (ap (λ b. is_among touched id || b) (nothing (inputs_at graph id)) ∙ or_false (is_among touched id)) ∙ sym (ap (λ b. b && is_due graph touched 0 id) (le-leb 0 id (omega arith)));
}
  where
    or_false : (b : Bool) → (b || false) ≡ b
    or_false true = refl
    or_false false = refl

    nothing : (xs : List ℕ) → list_any (λ input. nat_lt input 0 && is_reached graph touched input) xs ≡ false
    nothing xs = list_any_none (λ input. nat_lt input 0 && is_reached graph touched input) xs (λ k d within. ap (λ b. b && is_reached graph touched (get_or xs k d)) (le-ltb (get_or xs k d) 0 (omega arith)))

-- fewer were found than there are
pub reach_room : (graph : List PlainNode) (touched : List ℕ) (pending : BTreeSet ℕ) (found : List ℕ) (next : ℕ) → IsReaching graph touched pending found next → length found ≤ length graph
reach_room graph touched pending found next so_far = omega (arith, ap length so_far.below, length-filter_range (is_reached graph touched) next, so_far.within)
