-- What one more element does, at a step of each loop.
use Rattle.std.proofs.Common.{◌≡◌, ◌<◌, ◌≤◌, ◌+◌, ◌-◌, ◌==◌, ◌⊎◌, inl, inr, ℕ, zero, suc, Bool, true, false, ◌&&◌, ◌||◌, cond, List, [], ◌∷◌, ◌++◌, map, length, max, take, get_or, refl, sym, ap, ◌∙◌, arith}
use Rattle.std.specs.Prelude.{bit_or, nat_lt}
use Rattle.std.specs.List.{list_any}
use Rattle.std.specs.Ordering.{nat_cmp}
use Rattle.std.specs.BTreeMap.{is_at}
use Rattle.std.specs.BTreeSet.{BTreeSet, contains}
use Rattle.std.proofs.Math.ListN.{set}
use Rattle.std.proofs.lemmas.Bool.{cases_eq, eq-eqb, ne_eqb, ltb-true, ltb-false}
use Rattle.std.proofs.lemmas.List.{get_or-set_same, get_or-set_other, get_or_append_left, get_or-append_right, get_or_past}
use Rattle.std.proofs.lemmas.List.Folds.{list_any_more, list_any-append}
use Rattle.re_terms.specs.Listed.{Listed, plain}
use Rattle.re_terms.specs.Dependencies.{level_above}
use Rattle.re_graph.specs.Kept.{has_bit, is_among, list_at}
use Rattle.re_graph.proofs.Bits.{has_bit-or}
use Rattle.re_graph.proofs.Lists.{level_above-more}

-- one input more
pub level_step : (levels xs : List ℕ) (i above next : ℕ) → i < length xs → above ≡ level_above (map (λ input. get_or levels input 0) (take i xs)) → next ≡ max above (get_or levels (get_or xs i 0) 0 + 1) → next ≡ level_above (map (λ input. get_or levels input 0) (take (i + 1) xs))
level_step levels xs i above next within so_far e = e ∙ ap (λ n. max n (get_or levels (get_or xs i 0) 0 + 1)) so_far ∙ sym (level_above-more (λ input. get_or levels input 0) xs i within)

-- one id more to join
pub joined_step : (regions xs : List ℕ) (i bits region : ℕ) → i < length xs → has_bit bits region ≡ list_any (λ id. has_bit (get_or regions id 0) region) (take i xs) → has_bit (bit_or bits (get_or regions (get_or xs i 0) 0)) region ≡ list_any (λ id. has_bit (get_or regions id 0) region) (take (i + 1) xs)
joined_step regions xs i bits region within so_far =
    has_bit-or bits (get_or regions (get_or xs i 0) 0) region
    ∙ ap (λ b. b || has_bit (get_or regions (get_or xs i 0) 0) region) so_far
    ∙ sym (list_any_more (λ id. has_bit (get_or regions id 0) region) xs i 0 within)

-- one element more is among those that were passed
pub is_among-more : (xs : List ℕ) (i id : ℕ) → i < length xs → is_among (take (i + 1) xs) id ≡ (is_among (take i xs) id || (get_or xs i 0 == id))
is_among-more xs i id within = list_any_more (λ other. other == id) xs i 0 within

pub is_among-push : (xs : List ℕ) (x id : ℕ) → is_among (xs ++ x ∷ []) id ≡ (is_among xs id || (x == id))
is_among-push xs x id = list_any-append (λ other. other == id) xs (x ∷ []) ∙ ap (λ b. is_among xs id || b) (last (x == id))
  where
    last : (b : Bool) → (b || false) ≡ b
    last true = refl
    last false = refl

add_key : (k before passed : Bool) → cond k true (before || passed) ≡ (before || (passed || k))
add_key true true passed = refl
add_key true false true = refl
add_key true false false = refl
add_key false true passed = refl
add_key false false true = refl
add_key false false false = refl

-- one key more
pub insert_step : (s t : BTreeSet ℕ) (xs : List ℕ) (i id : ℕ) (before : Bool) → i < length xs → contains nat_cmp t id ≡ cond (is_at (nat_cmp (get_or xs i 0)) id) true (contains nat_cmp s id) → is_at (nat_cmp (get_or xs i 0)) id ≡ (get_or xs i 0 == id) → contains nat_cmp s id ≡ (before || is_among (take i xs) id) → contains nat_cmp t id ≡ (before || is_among (take (i + 1) xs) id)
insert_step s t xs i id before within new key so_far =
    new
    ∙ ap (λ b. cond b true (contains nat_cmp s id)) key
    ∙ ap (λ b. cond (get_or xs i 0 == id) true b) so_far
    ∙ add_key (get_or xs i 0 == id) before (is_among (take i xs) id)
    ∙ ap (λ b. before || b) (sym (is_among-more xs i id within))

-- a key is at itself alone
pub is_at-key : (key id : ℕ) → is_at (nat_cmp key) id ≡ (key == id)
is_at-key key id = grind arith

link_same : (before is passed : Bool) → ((before || (is && passed)) || is) ≡ (before || (is && (passed || true)))
link_same true is passed = refl
link_same false true true = refl
link_same false true false = refl
link_same false false passed = refl

link_other : (before is passed : Bool) → (before || (is && passed)) ≡ (before || (is && (passed || false)))
link_other true is passed = refl
link_other false true true = refl
link_other false true false = refl
link_other false false passed = refl

link_by : (lists : List (Listed ℕ)) (new : Listed ℕ) (xs : List ℕ) (i id input other : ℕ) (before : Bool) → i < length xs → get_or xs i 0 < length lists → new.items ≡ list_at lists (get_or xs i 0) ++ id ∷ [] → is_among (list_at lists input) other ≡ (before || ((id == other) && is_among (take i xs) input)) → (input ≡ get_or xs i 0) ⊎ (input ≡ get_or xs i 0 → ⊥) → is_among (list_at (set lists (get_or xs i 0) new) input) other ≡ (before || ((id == other) && is_among (take (i + 1) xs) input))
link_by lists new xs i id input other before within declared pushed so_far (inl e) =
    ap (λ at. is_among (list_at (set lists (get_or xs i 0) new) at) other) e
    ∙ ap (λ found. is_among found.items other) (get_or-set_same lists (get_or xs i 0) new (plain []) declared)
    ∙ ap (λ found. is_among found other) pushed
    ∙ is_among-push (list_at lists (get_or xs i 0)) id other
    ∙ ap (λ b. b || (id == other)) (ap (λ at. is_among (list_at lists at) other) (sym e) ∙ so_far)
    ∙ link_same before (id == other) (is_among (take i xs) input)
    ∙ ap (λ b. before || ((id == other) && (is_among (take i xs) input || b))) (sym (eq-eqb (get_or xs i 0) input (sym e)))
    ∙ ap (λ b. before || ((id == other) && b)) (sym (is_among-more xs i input within))
link_by lists new xs i id input other before within declared pushed so_far (inr not_it) =
    ap (λ found. is_among found.items other) (get_or-set_other lists (get_or xs i 0) input new (plain []) not_it)
    ∙ so_far
    ∙ link_other before (id == other) (is_among (take i xs) input)
    ∙ ap (λ b. before || ((id == other) && (is_among (take i xs) input || b))) (sym (ne_eqb (get_or xs i 0) input (λ e. not_it (sym e))))
    ∙ ap (λ b. before || ((id == other) && b)) (sym (is_among-more xs i input within))

-- one input more has the declaration among its dependents
pub link_step : (lists : List (Listed ℕ)) (new : Listed ℕ) (xs : List ℕ) (i id input other : ℕ) (before : Bool) → i < length xs → get_or xs i 0 < length lists → new.items ≡ list_at lists (get_or xs i 0) ++ id ∷ [] → is_among (list_at lists input) other ≡ (before || ((id == other) && is_among (take i xs) input)) → is_among (list_at (set lists (get_or xs i 0) new) input) other ≡ (before || ((id == other) && is_among (take (i + 1) xs) input))
link_step lists new xs i id input other before within declared pushed so_far = link_by lists new xs i id input other before within declared pushed so_far (cases_eq input (get_or xs i 0))

list_by : (lists : List (Listed ℕ)) (id : ℕ) (b : Bool) → nat_lt id (length lists) ≡ b → list_at (lists ++ plain [] ∷ []) id ≡ list_at lists id
list_by lists id true is = ap (λ found. found.items) (get_or_append_left lists (plain [] ∷ []) (plain []) id (ltb-true id (length lists) is))
list_by lists id false is =
    let behind : length lists ≤ id = ltb-false id (length lists) is in
    ap (λ found. found.items) (get_or-append_right lists (plain [] ∷ []) (length lists) id (plain []) refl behind ∙ alone (id - length lists))
    ∙ sym (ap (λ found. found.items) (get_or_past lists id (plain []) behind))
  where
    empty : Listed ℕ
    empty = plain []

    alone : (k : ℕ) → get_or (empty ∷ []) k empty ≡ empty
    alone zero = refl
    alone (suc k) = refl

-- one empty list more changes no list
pub list_at-push : (lists : List (Listed ℕ)) (id : ℕ) → list_at (lists ++ plain [] ∷ []) id ≡ list_at lists id
list_at-push lists id = list_by lists id (nat_lt id (length lists)) refl
