-- A list that ascends, split at an element: the pairs below it, its own, and those above it.
use Rattle.std.proofs.Common.{◌≡◌, ℕ, ◌+◌, ◌≤◌, Bool, true, false, cond, not, List, [], ◌∷◌, ◌++◌, refl, sym, ap, ◌∙◌, arith, count_by, inl, inr}
use Rattle.std.specs.Prelude.{◌||◌, ◌⊎◌, nat_lt}
use Rattle.std.specs.declared.cmp.Ordering.{Ordering}
use Rattle.std.specs.declared.cmp.Ordering.TheVariants.{Less, Equal, Greater}
use Rattle.std.specs.Ordering.{is_lt, is_gt, is_eq, ordering_then, ordering_reverse}
use Rattle.std.specs.List.{list_any, filter, AllByRecursion}
use Rattle.std.specs.List.Sorted.{IsStrictlySortedBy}
use Rattle.std.proofs.lemmas.Bool.Decides.{nat_tests}
use Rattle.std.proofs.lemmas.List.Sums.{sum_by-cons}
use Rattle.re_terms.proofs.WordOrders.{word_cmp_total, word_cmp_same}
use Rattle.re_terms.specs.declared.word.Word.{Word}
use Rattle.re_terms.specs.declared.replicated.Pair.{Pair}
use Rattle.re_terms.specs.UpdateStates.{without}
use Rattle.re_terms.specs.WordOrder.{word_cmp, same_word, pair_cmp}
use Rattle.re_awset.proofs.Fronts.{Falls, filter-none}
use Rattle.re_awset.specs.Places.{is_below, is_up_to}

less_then : (o r : Ordering) → ordering_then o r ≡ Less → (o ≡ Less) ⊎ (o ≡ Equal)
less_then Less r h = inl refl
less_then Equal r h = inr refl
less_then Greater r h = absurd (cc)

-- the elements of pairs that ascend don't descend
pub element_up : (x y : Pair) → pair_cmp x y ≡ Less → (word_cmp x.element y.element ≡ Less) ⊎ (word_cmp x.element y.element ≡ Equal)
unfolding pair_cmp
element_up x y h = less_then (word_cmp x.element y.element) _ h

pub is_lt-less : (o : Ordering) → is_lt o ≡ true → o ≡ Less
is_lt-less Less h = refl
is_lt-less Equal h = cc
is_lt-less Greater h = cc

pub is_gt-greater : (o : Ordering) → is_gt o ≡ true → o ≡ Greater
is_gt-greater Less h = cc
is_gt-greater Equal h = cc
is_gt-greater Greater h = refl

-- from a word up, where the first isn't below e, the second isn't
below_up : (e v w : Word) → (word_cmp v w ≡ Less) ⊎ (word_cmp v w ≡ Equal) → is_lt (word_cmp v e) ≡ false → is_lt (word_cmp w e) ≡ false
below_up e v w (inl l) h = elim (is_lt (word_cmp w e)) as (λ b. is_lt (word_cmp w e) ≡ b → b ≡ false) [ true ↦ λ k. sym (ap is_lt (word_cmp_total.trans v w e l (is_lt-less _ k))) ∙ h | false ↦ λ _. refl ] refl
below_up e v w (inr q) h = ap (λ u. is_lt (word_cmp u e)) (sym (word_cmp_same v w q)) ∙ h

above_up : (e v w : Word) → (word_cmp v w ≡ Less) ⊎ (word_cmp v w ≡ Equal) → is_gt (word_cmp v e) ≡ true → is_gt (word_cmp w e) ≡ true
above_up e v w (inl l) h =
    let lower : word_cmp e v ≡ Less = word_cmp_total.antisymm e v ∙ ap ordering_reverse (is_gt-greater _ h) in
    ap is_gt (word_cmp_total.antisymm w e ∙ ap ordering_reverse (word_cmp_total.trans e v w lower l))
above_up e v w (inr q) h = ap (λ u. is_gt (word_cmp u e)) (sym (word_cmp_same v w q)) ∙ h

not_false : (b : Bool) → not b ≡ false → b ≡ true
not_false true h = refl
not_false false h = sym h

none_below : (e : Word) (x : Pair) (xs : List Pair) → is_below e x ≡ false → AllByRecursion (λ y. pair_cmp x y ≡ Less) xs → list_any (is_below e) xs ≡ false
none_below e x [] h a = refl
none_below e x (y ∷ xs) h a = ap (λ b. b || list_any (is_below e) xs) (below_up e x.element y.element (element_up x y a.0) h) ∙ none_below e x xs h a.1

none_up_to : (e : Word) (x : Pair) (xs : List Pair) → is_up_to e x ≡ false → AllByRecursion (λ y. pair_cmp x y ≡ Less) xs → list_any (is_up_to e) xs ≡ false
none_up_to e x [] h a = refl
none_up_to e x (y ∷ xs) h a = ap (λ b. not b || list_any (is_up_to e) xs) (above_up e x.element y.element (element_up x y a.0) (not_false _ h)) ∙ none_up_to e x xs h a.1

pub below_falls : (e : Word) (xs : List Pair) → IsStrictlySortedBy pair_cmp xs → Falls (is_below e) xs
unfolding IsStrictlySortedBy
below_falls e [] s = tt
below_falls e (x ∷ xs) s = (λ h. none_below e x xs h s.0, below_falls e xs s.1)

pub up_to_falls : (e : Word) (xs : List Pair) → IsStrictlySortedBy pair_cmp xs → Falls (is_up_to e) xs
unfolding IsStrictlySortedBy
up_to_falls e [] s = tt
up_to_falls e (x ∷ xs) s = (λ h. none_up_to e x xs h s.0, up_to_falls e xs s.1)

-- the pairs without those of an element are those below it and those above it
pub without-split : (e : Word) (xs : List Pair) → IsStrictlySortedBy pair_cmp xs → without e xs ≡ filter (is_below e) xs ++ filter (λ p. not (is_up_to e p)) xs
unfolding IsStrictlySortedBy without same_word
without-split e [] s = refl
without-split e (x ∷ xs) s =
    let low : List Pair = filter (is_below e) xs in
    let high : List Pair = filter (λ p. not (is_up_to e p)) xs in
    let rest = without-split e xs s.1 in
    elim (word_cmp x.element e) as (λ o. word_cmp x.element e ≡ o → cond (not (is_eq o)) (x ∷ filter (λ p. not (is_eq (word_cmp p.element e))) xs) (filter (λ p. not (is_eq (word_cmp p.element e))) xs) ≡ cond (is_lt o) (x ∷ low) low ++ cond (not (not (is_gt o))) (x ∷ high) high) [
      | Less ↦ λ h. ap (λ l. x ∷ l) rest
      | Equal ↦ λ h. rest
      | Greater ↦ λ h.
          let none : low ≡ [] = filter-none (is_below e) xs (none_below e x xs (ap is_lt h) s.0) in
          ap (λ l. x ∷ l) rest ∙ ap (λ l. x ∷ (l ++ high)) none ∙ sym (ap (λ l. l ++ x ∷ high) none)
    ] refl

-- how many are below or up to an element, one pair more
counts : (e : Word) (x : Pair) (xs : List Pair) → (count_by (is_below e) (x ∷ xs) ≡ cond (is_below e x) 1 0 + count_by (is_below e) xs) × (count_by (is_up_to e) (x ∷ xs) ≡ cond (is_up_to e x) 1 0 + count_by (is_up_to e) xs)
counts e x xs = (sum_by-cons (λ p. cond (is_below e p) 1 0) x xs, sum_by-cons (λ p. cond (is_up_to e p) 1 0) x xs)

-- no more are below an element than are up to it
pub below-le-up_to : (e : Word) (xs : List Pair) → count_by (is_below e) xs ≤ count_by (is_up_to e) xs
below-le-up_to e [] = omega arith
below-le-up_to e (x ∷ xs) =
    let rest = below-le-up_to e xs in
    let c = counts e x xs in
    let step : cond (is_below e x) 1 0 ≤ cond (is_up_to e x) 1 0 = elim (word_cmp x.element e) as (λ o. cond (is_lt o) 1 0 ≤ cond (not (is_gt o)) 1 0) [ Less ↦ omega arith | Equal ↦ omega arith | Greater ↦ omega arith ] in
    omega arith

-- and fewer are exactly where there is a pair of it
pub any-counts : (e : Word) (xs : List Pair) → list_any (λ p. same_word p.element e) xs ≡ nat_lt (count_by (is_below e) xs) (count_by (is_up_to e) xs)
unfolding same_word
any-counts e [] = refl
any-counts e (x ∷ xs) =
    let low : ℕ = count_by (is_below e) xs in
    let high : ℕ = count_by (is_up_to e) xs in
    elim (word_cmp x.element e) as (λ o. (is_eq o || list_any (λ p. is_eq (word_cmp p.element e)) xs) ≡ nat_lt (cond (is_lt o) 1 0 + low) (cond (not (is_gt o)) 1 0 + high)) [
      | Less ↦ any-counts e xs ∙ less_both low high
      | Equal ↦ less_more low high (below-le-up_to e xs)
      | Greater ↦ any-counts e xs ∙ less_none low high
    ] ∙ (λ i. nat_lt (sym (counts e x xs).0 i) (sym (counts e x xs).1 i))
  where
    less_both : (a b : ℕ) → nat_lt a b ≡ nat_lt (1 + a) (1 + b)
    less_both a b = grind (arith, nat_tests)

    less_more : (a b : ℕ) → a ≤ b → true ≡ nat_lt (0 + a) (1 + b)
    less_more a b h = grind (arith, nat_tests)

    less_none : (a b : ℕ) → nat_lt a b ≡ nat_lt (0 + a) (0 + b)
    less_none a b = grind (arith, nat_tests)

-- where as many are below an element as are up to it there is no pair of it
pub absent-from_places : (e : Word) (xs ys : List Pair) (from to : ℕ) → ys ≡ xs → from ≡ count_by (is_below e) ys → to ≡ count_by (is_up_to e) ys → from ≡ to → list_any (λ p. same_word p.element e) xs ≡ false
absent-from_places e xs ys from to q f t same =
    any-counts e xs ∙ equal (count_by (is_below e) xs) (count_by (is_up_to e) xs) (ap (count_by (is_below e)) (sym q) ∙ sym f ∙ same ∙ t ∙ ap (count_by (is_up_to e)) q)
  where
    equal : (a b : ℕ) → a ≡ b → nat_lt a b ≡ false
    equal a b h = grind (arith, nat_tests)
