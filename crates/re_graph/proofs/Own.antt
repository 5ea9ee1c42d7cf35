-- What a declaration is made of: its own level, whether it is reached, and whether a cell is behind it.
use Rattle.std.proofs.Common.{◌≡◌, ◌<◌, ◌≤◌, ◌==◌, ◌⊎◌, inl, inr, ℕ, zero, suc, Bool, true, false, ◌||◌, List, [], ◌∷◌, map, length, refl, sym, ap, subst, ◌∙◌, arith}
use Rattle.std.specs.Prelude.{None, Some, nat_lt}
use Rattle.std.specs.List.{All, list_any}
use Rattle.std.specs.Option.{option_map_or}
use Rattle.std.proofs.lemmas.Option.{slice_get_past}
use Rattle.std.proofs.lemmas.Bool.{cases_eq, eq-eqb, ne_eqb, cond-true, cond-false, ltb-true, ltb-false}
use Rattle.std.proofs.lemmas.List.Elements.{All-nil, All-weaker, All-head, All-tail}
use Rattle.re_terms.specs.Dependencies.{PlainNode, inputs_at, region_at, IsOrdered, HasRegions, below, level_above, level, is_reached, is_behind}
use Rattle.re_graph.proofs.Lists.{map_same, list_any_same}

-- at its own place
own_step : {A : Type 0} (none : A) (step : ℕ → (ℕ → A) → A) (id : ℕ) → below none step (suc id) id ≡ step id (below none step id)
own_step none step id = cond-true (id == id) (step id (below none step id)) (below none step id id) (eq-eqb id id refl)

-- one declaration more
below-more : {A : Type 0} (none : A) (step : ℕ → (ℕ → A) → A) (n id : ℕ) → (id ≡ n → ⊥) → below none step (suc n) id ≡ below none step n id
below-more none step n id other = cond-false (id == n) (step n (below none step n)) (below none step n id) (ne_eqb id n other)

below_by : {A : Type 0} (none : A) (step : ℕ → (ℕ → A) → A) (n id : ℕ) → (id < n → below none step n id ≡ below none step (suc id) id) → id < suc n → (id ≡ n) ⊎ (id ≡ n → ⊥) → below none step (suc n) id ≡ below none step (suc id) id
below_by none step n id earlier under (inl e) = ap (λ k. below none step (suc k) id) (sym e)
below_by none step n id earlier under (inr other) = below-more none step n id other ∙ earlier (omega arith)

below-stable : {A : Type 0} (none : A) (step : ℕ → (ℕ → A) → A) (n id : ℕ) → id < n → below none step n id ≡ below none step (suc id) id
below-stable none step zero id under = absurd (omega arith)
below-stable none step (suc n) id under = below_by none step n id (below-stable none step n id) under (cases_eq id n)

-- what a declaration below a place is made of
pub below-own : {A : Type 0} (none : A) (step : ℕ → (ℕ → A) → A) (n id : ℕ) → id < n → below none step n id ≡ step id (below none step id)
below-own none step n id under = below-stable none step n id under ∙ own_step none step id

-- two places behind a declaration see the same of it
pub below-places : {A : Type 0} (none : A) (step : ℕ → (ℕ → A) → A) (n m id : ℕ) → id < n → id < m → below none step n id ≡ below none step m id
below-places none step n m id under other = below-stable none step n id under ∙ sym (below-stable none step m id other)

-- nothing stands from the place on
pub below-none : {A : Type 0} (none : A) (step : ℕ → (ℕ → A) → A) (n id : ℕ) → n ≤ id → below none step n id ≡ none
below-none none step zero id behind = refl
below-none none step (suc n) id behind = let other : id ≡ n → ⊥ = λ e. absurd (omega arith) in below-more none step n id other ∙ below-none none step n id (omega arith)

-- the inputs of a declaration are seen alike from it and from the end
pub inputs_below : {A : Type 0} (none : A) (step : ℕ → (ℕ → A) → A) (graph : List PlainNode) (id : ℕ) → IsOrdered graph → id < length graph → All (λ input. below none step id input ≡ below none step (length graph) input) (inputs_at graph id)
inputs_below none step graph id ordered within = All-weaker (λ input. input < id) (λ input. below none step id input ≡ below none step (length graph) input) (λ input under. below-places none step id (length graph) input under (omega arith)) (inputs_at graph id) (ordered id)

-- a level is 1 more than the greatest of the inputs' levels, or 0
pub level-own : (graph : List PlainNode) (id : ℕ) → IsOrdered graph → id < length graph → level graph id ≡ level_above (map (level graph) (inputs_at graph id))
level-own graph id ordered within =
    let step : ℕ → (ℕ → ℕ) → ℕ = λ n earlier. level_above (map earlier (inputs_at graph n)) in
    below-own 0 step (length graph) id within
    ∙ ap level_above (map_same (below 0 step id) (level graph) (inputs_at graph id) (inputs_below 0 step graph id ordered within))

-- a declaration is reached where it is touched or one of its inputs is reached
pub is_reached-own : (graph : List PlainNode) (touched : List ℕ) (id : ℕ) → IsOrdered graph → id < length graph → is_reached graph touched id ≡ (list_any (λ t. t == id) touched || list_any (is_reached graph touched) (inputs_at graph id))
is_reached-own graph touched id ordered within =
    let step : ℕ → (ℕ → Bool) → Bool = λ n earlier. list_any (λ t. t == n) touched || list_any earlier (inputs_at graph n) in
    below-own false step (length graph) id within
    ∙ ap (λ b. list_any (λ t. t == id) touched || b) (list_any_same (below false step id) (is_reached graph touched) (inputs_at graph id) (inputs_below false step graph id ordered within))

-- a cell is behind a declaration where it is that declaration, or behind one of its inputs
pub is_behind-own : (graph : List PlainNode) (cell id : ℕ) → IsOrdered graph → id < length graph → is_behind graph cell id ≡ ((cell == id) || list_any (is_behind graph cell) (inputs_at graph id))
is_behind-own graph cell id ordered within =
    let step : ℕ → (ℕ → Bool) → Bool = λ n earlier. (cell == n) || list_any earlier (inputs_at graph n) in
    below-own false step (length graph) id within
    ∙ ap (λ b. (cell == id) || b) (list_any_same (below false step id) (is_behind graph cell) (inputs_at graph id) (inputs_below false step graph id ordered within))

-- nothing behind the list is reached, and nothing stands behind it
pub is_reached-none : (graph : List PlainNode) (touched : List ℕ) (id : ℕ) → length graph ≤ id → is_reached graph touched id ≡ false
is_reached-none graph touched id behind = below-none false (λ n earlier. list_any (λ t. t == n) touched || list_any earlier (inputs_at graph n)) (length graph) id behind

low_by : (graph : List PlainNode) (m : ℕ) → IsOrdered graph → ((id : ℕ) → id < m → id < length graph → level graph id ≤ id) → (id : ℕ) → id < suc m → id < length graph → level graph id ≤ id
low_by graph m ordered earlier id under within = subst (λ l. l ≤ id) (sym (level-own graph id ordered within)) (above (inputs_at graph id) (ordered id))
  where
    above : (xs : List ℕ) → All (λ input. input < id) xs → level_above (map (level graph) xs) ≤ id
    above [] smaller = omega arith
    above (x ∷ xs) smaller =
        let first : x < id = All-head (λ input. input < id) x xs smaller in
        let low : level graph x ≤ x = earlier x (omega arith) (omega arith) in
        let rest : level_above (map (level graph) xs) ≤ id = above xs (All-tail (λ input. input < id) x xs smaller) in
        omega arith

low_below : (graph : List PlainNode) (m : ℕ) → IsOrdered graph → (id : ℕ) → id < m → id < length graph → level graph id ≤ id
low_below graph zero ordered id under within = absurd (omega arith)
low_below graph (suc m) ordered id under within = low_by graph m ordered (low_below graph m ordered) id under within

-- a level is at most the id
pub level-low : (graph : List PlainNode) (id : ℕ) → IsOrdered graph → id < length graph → level graph id ≤ id
level-low graph id ordered within = low_below graph (suc id) ordered id (omega arith) within

-- nothing stands behind the list
pub inputs_at-none : (graph : List PlainNode) (id : ℕ) → length graph ≤ id → inputs_at graph id ≡ []
inputs_at-none graph id behind = ap (λ found. option_map_or (λ node. node.inputs) found []) (slice_get_past graph id behind)

ordered_by : (graph : List PlainNode) (id : ℕ) → ((k : ℕ) → k < length graph → All (λ input. input < k) (inputs_at graph k)) → (b : Bool) → nat_lt id (length graph) ≡ b → All (λ input. input < id) (inputs_at graph id)
ordered_by graph id each true is = each id (ltb-true id (length graph) is)
ordered_by graph id each false is = subst (λ xs. All (λ input. input < id) xs) (sym (inputs_at-none graph id (ltb-false id (length graph) is))) (All-nil (λ input. input < id))

-- a graph is in order where each of its declarations is
pub IsOrdered-from : (graph : List PlainNode) → ((k : ℕ) → k < length graph → All (λ input. input < k) (inputs_at graph k)) → IsOrdered graph
IsOrdered-from graph each id = ordered_by graph id each (nat_lt id (length graph)) refl

regions_by : (graph : List PlainNode) (id region : ℕ) → ((k region : ℕ) → k < length graph → region_at graph k ≡ Some region → region ≤ 4) → region_at graph id ≡ Some region → (b : Bool) → nat_lt id (length graph) ≡ b → region ≤ 4
regions_by graph id region each is true within = each id region (ltb-true id (length graph) within) is
regions_by graph id region each is false within =
    let none : None ≡ Some region = sym (ap (λ found. option_map_or (λ node. node.region) found None) (slice_get_past graph id (ltb-false id (length graph) within))) ∙ is in
    cc

-- its regions are few where each declaration's is
pub HasRegions-from : (graph : List PlainNode) → ((k region : ℕ) → k < length graph → region_at graph k ≡ Some region → region ≤ 4) → HasRegions graph
HasRegions-from graph each id region is = regions_by graph id region each is (nat_lt id (length graph)) refl
