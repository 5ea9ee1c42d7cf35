-- The merge of two sets, pair by pair from the front.
use Rattle.std.proofs.Common.{◌≡◌, ℕ, Bool, true, false, cond, not, List, [], ◌∷◌, ◌++◌, Some, drop, refl, sym, ap, ◌∙◌, subst}
use Rattle.std.specs.Prelude.{◌||◌, slice_get}
use Rattle.std.specs.declared.cmp.Ordering.TheVariants.{Less, Equal}
use Rattle.std.specs.Ordering.{eq_by_cmp, is_eq, is_lt, ordering_reverse}
use Rattle.std.specs.List.{list_any, filter, AllByRecursion}
use Rattle.std.specs.List.Sorted.{IsStrictlySortedBy}
use Rattle.re_terms.proofs.Values.{any-pairs}
use Rattle.re_terms.proofs.WordOrders.{any-ascending, ascending_from, ascending_is, ascending_sorted, pair_cmp_total, pair_cmp_same, same_pair-refl}
use Rattle.re_terms.specs.CellStates.{has_pair, join_pairs}
use Rattle.re_terms.specs.Vectors.{covers}
use Rattle.re_terms.specs.WordOrder.{pair_cmp, ascending}
use Rattle.re_terms.specs.declared.replicated.Pair.{Pair}
use Rattle.re_awset.proofs.Inserts.{any-midst}
use Rattle.re_awset.proofs.Ordered.{all_above, all_append, all_below, all_filter, all_weaker, filter-agree, none_other, none_passes}

-- the first in order stands before the order of the rest
ascending-cons : (x : Pair) (ps qs : List Pair) → ((q : Pair) → list_any (eq_by_cmp pair_cmp q) ps ≡ (eq_by_cmp pair_cmp q x || list_any (eq_by_cmp pair_cmp q) qs)) → AllByRecursion (λ y. pair_cmp x y ≡ Less) qs → ascending ps ≡ x ∷ ascending qs
unfolding IsStrictlySortedBy
ascending-cons x ps qs h below =
    let all = all_below (pair_cmp x) (ascending qs) (any-pairs (λ y. not (is_lt (pair_cmp x y))) qs ∙ none_other (pair_cmp x) qs below) in
    sym (ascending_from (x ∷ ascending qs) ps (all, ascending_sorted qs) (λ q. ap (λ b. eq_by_cmp pair_cmp q x || b) (any-ascending qs q) ∙ sym (h q)))

-- one that is below another isn't that one, nor is the other it
unlike : (x y : Pair) → pair_cmp x y ≡ Less → eq_by_cmp pair_cmp x y ≡ false
unlike x y h = ap is_eq h

unlike_back : (x y : Pair) → pair_cmp x y ≡ Less → eq_by_cmp pair_cmp y x ≡ false
unlike_back x y h = ap is_eq (pair_cmp_total.antisymm y x ∙ ap ordering_reverse h)

module _ (av bv : List ℕ) where
  -- of its own pairs the merge keeps those that the other has or doesn't cover
  abbrev kept : List Pair → Pair → Bool
  kept ys p = has_pair ys p || not (covers bv p.dot)

  abbrev new : Pair → Bool
  new p = not (covers av p.dot)

  -- a pair of one's own below all of the other's
  pub join-own : (x : Pair) (xs ys : List Pair) → AllByRecursion (λ y. pair_cmp x y ≡ Less) xs → AllByRecursion (λ y. pair_cmp x y ≡ Less) ys → join_pairs av bv (x ∷ xs) ys ≡ cond (not (covers bv x.dot)) (x ∷ []) [] ++ join_pairs av bv xs ys
  unfolding join_pairs has_pair
  join-own x xs ys a b =
      let own : List Pair = filter (kept ys) xs in
      let other : List Pair = filter new ys in
      let absent : list_any (eq_by_cmp pair_cmp x) ys ≡ false = none_passes (eq_by_cmp pair_cmp x) ys (all_weaker (λ y. pair_cmp x y ≡ Less) (λ y. eq_by_cmp pair_cmp x y ≡ false) (λ y h. unlike x y h) ys b) in
      let below = all_append (λ y. pair_cmp x y ≡ Less) own other (all_filter _ (kept ys) xs a) (all_filter _ new ys b) in
      ap (λ h. ascending (cond (h || not (covers bv x.dot)) (x ∷ own) own ++ other)) absent
      ∙ elim (not (covers bv x.dot)) as (λ k. ascending (cond k (x ∷ own) own ++ other) ≡ cond k (x ∷ []) [] ++ ascending (own ++ other)) [ true ↦ ascending-cons x _ _ (λ q. refl) below | false ↦ refl ]

  -- the same pairs are kept without one that none of them is
  keeps_same : (y : Pair) (xs ys : List Pair) → AllByRecursion (λ x. pair_cmp y x ≡ Less) xs → filter (kept (y ∷ ys)) xs ≡ filter (kept ys) xs
  unfolding has_pair
  keeps_same y xs ys a = filter-agree (kept (y ∷ ys)) (kept ys) xs (all_weaker (λ x. pair_cmp y x ≡ Less) (λ x. kept (y ∷ ys) x ≡ kept ys x) (λ x h. ap (λ e. (e || list_any (eq_by_cmp pair_cmp x) ys) || not (covers bv x.dot)) (unlike_back y x h)) xs a)

  -- a pair of the other's below all of one's own
  pub join-other : (y : Pair) (xs ys : List Pair) → AllByRecursion (λ x. pair_cmp y x ≡ Less) xs → AllByRecursion (λ x. pair_cmp y x ≡ Less) ys → join_pairs av bv xs (y ∷ ys) ≡ cond (not (covers av y.dot)) (y ∷ []) [] ++ join_pairs av bv xs ys
  unfolding join_pairs
  join-other y xs ys a b =
      let own : List Pair = filter (kept ys) xs in
      let other : List Pair = filter new ys in
      let below = all_append (λ x. pair_cmp y x ≡ Less) own other (all_filter _ (kept ys) xs a) (all_filter _ new ys b) in
      ap (λ l. ascending (l ++ filter new (y ∷ ys))) (keeps_same y xs ys a)
      ∙ elim (not (covers av y.dot)) as (λ k. ascending (own ++ cond k (y ∷ other) other) ≡ cond k (y ∷ []) [] ++ ascending (own ++ other)) [ true ↦ ascending-cons y _ _ (λ q. any-midst (eq_by_cmp pair_cmp q) own other y) below | false ↦ refl ]

  -- a pair that is first in both
  pub join-both : (x : Pair) (xs ys : List Pair) → AllByRecursion (λ y. pair_cmp x y ≡ Less) xs → AllByRecursion (λ y. pair_cmp x y ≡ Less) ys → join_pairs av bv (x ∷ xs) (x ∷ ys) ≡ x ∷ join_pairs av bv xs ys
  unfolding join_pairs has_pair
  join-both x xs ys a b =
      let own : List Pair = filter (kept ys) xs in
      let other : List Pair = filter new ys in
      let below = all_append (λ y. pair_cmp x y ≡ Less) own other (all_filter _ (kept ys) xs a) (all_filter _ new ys b) in
      (λ i. ascending (cond ((same_pair-refl x i || list_any (eq_by_cmp pair_cmp x) ys) || not (covers bv x.dot)) (x ∷ keeps_same x xs ys a i) (keeps_same x xs ys a i) ++ filter new (x ∷ ys)))
      ∙ elim (not (covers av x.dot)) as (λ k. ascending (x ∷ (own ++ cond k (x ∷ other) other)) ≡ x ∷ ascending (own ++ other)) [
        | true ↦ ascending-cons x _ _ (λ q. ap (λ b. eq_by_cmp pair_cmp q x || b) (any-midst (eq_by_cmp pair_cmp q) own other x) ∙ again (eq_by_cmp pair_cmp q x) _) below
        | false ↦ ascending-cons x _ _ (λ q. refl) below
      ]
    where
      again : (a b : Bool) → (a || (a || b)) ≡ (a || b)
      again true b = refl
      again false b = refl

  -- the same by the first of each list
  pub own-first : (x : Pair) (a b : List Pair) → IsStrictlySortedBy pair_cmp a → IsStrictlySortedBy pair_cmp b → slice_get a 0 ≡ Some x → ((y : Pair) → slice_get b 0 ≡ Some y → pair_cmp x y ≡ Less) → join_pairs av bv a b ≡ cond (not (covers bv x.dot)) (x ∷ []) [] ++ join_pairs av bv (drop 1 a) b
  unfolding IsStrictlySortedBy
  own-first x [] b s t e below = absurd (cc)
  own-first x (z ∷ a) [] s t e below =
      let same : z ≡ x = cc in
      subst (λ w. join_pairs av bv (z ∷ a) [] ≡ cond (not (covers bv w.dot)) (w ∷ []) [] ++ join_pairs av bv a []) same (join-own z a [] s.0 tt)
  own-first x (z ∷ a) (y ∷ b) s t e below =
      let same : z ≡ x = cc in
      let less : pair_cmp z y ≡ Less = ap (λ w. pair_cmp w y) same ∙ below y refl in
      subst (λ w. join_pairs av bv (z ∷ a) (y ∷ b) ≡ cond (not (covers bv w.dot)) (w ∷ []) [] ++ join_pairs av bv a (y ∷ b)) same (join-own z a (y ∷ b) s.0 (less, all_above pair_cmp pair_cmp_total z y b less t.0))

  pub other-first : (y : Pair) (a b : List Pair) → IsStrictlySortedBy pair_cmp a → IsStrictlySortedBy pair_cmp b → slice_get b 0 ≡ Some y → ((x : Pair) → slice_get a 0 ≡ Some x → pair_cmp y x ≡ Less) → join_pairs av bv a b ≡ cond (not (covers av y.dot)) (y ∷ []) [] ++ join_pairs av bv a (drop 1 b)
  unfolding IsStrictlySortedBy
  other-first y a [] s t e below = absurd (cc)
  other-first y [] (z ∷ b) s t e below =
      let same : z ≡ y = cc in
      subst (λ w. join_pairs av bv [] (z ∷ b) ≡ cond (not (covers av w.dot)) (w ∷ []) [] ++ join_pairs av bv [] b) same (join-other z [] b tt t.0)
  other-first y (x ∷ a) (z ∷ b) s t e below =
      let same : z ≡ y = cc in
      let less : pair_cmp z x ≡ Less = ap (λ w. pair_cmp w x) same ∙ below x refl in
      subst (λ w. join_pairs av bv (x ∷ a) (z ∷ b) ≡ cond (not (covers av w.dot)) (w ∷ []) [] ++ join_pairs av bv (x ∷ a) b) same (join-other z (x ∷ a) b (less, all_above pair_cmp pair_cmp_total z x a less s.0) t.0)

  pub both-first : (x y : Pair) (a b : List Pair) → IsStrictlySortedBy pair_cmp a → IsStrictlySortedBy pair_cmp b → slice_get a 0 ≡ Some x → slice_get b 0 ≡ Some y → pair_cmp x y ≡ Equal → join_pairs av bv a b ≡ x ∷ join_pairs av bv (drop 1 a) (drop 1 b)
  unfolding IsStrictlySortedBy
  both-first x y [] b s t e f q = absurd (cc)
  both-first x y (z ∷ a) [] s t e f q = absurd (cc)
  both-first x y (z ∷ a) (w ∷ b) s t e f q =
      let own : z ≡ x = cc in
      let other : w ≡ y = cc in
      let same : w ≡ z = other ∙ sym (pair_cmp_same x y q) ∙ sym own in
      let below = subst (λ p. AllByRecursion (λ r. pair_cmp p r ≡ Less) b) same t.0 in
      ap (λ p. join_pairs av bv (z ∷ a) (p ∷ b)) same ∙ join-both z a b s.0 below ∙ ap (λ p. p ∷ join_pairs av bv a b) own

  pub join-none : join_pairs av bv [] [] ≡ []
  unfolding join_pairs IsStrictlySortedBy
  join-none = ascending_is [] tt
