-- Lists in strict order, put together; and what holds of each member.
use Rattle.std.proofs.Common.{◌≡◌, ℕ, zero, suc, drop, Bool, true, false, cond, not, List, [], ◌∷◌, ◌++◌, refl, sym, ap, ◌∙◌}
use Rattle.std.specs.Prelude.{◌||◌}
use Rattle.std.specs.declared.cmp.Ordering.{Ordering}
use Rattle.std.specs.declared.cmp.Ordering.TheVariants.{Less}
use Rattle.std.specs.Ordering.{is_lt}
use Rattle.std.specs.Cmp.{IsTotalOrder}
use Rattle.std.specs.List.{list_any, filter, AllByRecursion}
use Rattle.std.specs.List.Sorted.{IsStrictlySortedBy}
use Rattle.re_awset.proofs.Fronts.{or_none}
use Rattle.re_awset.proofs.Splits.{is_lt-less}

module _ {X : Type 0} where
  pub all_append : (P : X → Type 0) (xs ys : List X) → AllByRecursion P xs → AllByRecursion P ys → AllByRecursion P (xs ++ ys)
  all_append P [] ys h k = k
  all_append P (x ∷ xs) ys h k = (h.0, all_append P xs ys h.1 k)

  pub all_filter : (P : X → Type 0) (p : X → Bool) (xs : List X) → AllByRecursion P xs → AllByRecursion P (filter p xs)
  all_filter P p [] h = tt
  all_filter P p (x ∷ xs) h = elim (p x) as (λ b. AllByRecursion P (cond b (x ∷ filter p xs) (filter p xs))) [ true ↦ (h.0, all_filter P p xs h.1) | false ↦ all_filter P p xs h.1 ]

  pub all_weaker : (P Q : X → Type 0) → ((x : X) → P x → Q x) → (xs : List X) → AllByRecursion P xs → AllByRecursion Q xs
  all_weaker P Q f [] h = tt
  all_weaker P Q f (x ∷ xs) h = (f x h.0, all_weaker P Q f xs h.1)

  -- what a filter keeps passes
  pub all_passes : (p : X → Bool) (xs : List X) → AllByRecursion (λ x. p x ≡ true) (filter p xs)
  all_passes p [] = tt
  all_passes p (x ∷ xs) = elim (p x) as (λ b. p x ≡ b → AllByRecursion (λ x. p x ≡ true) (cond b (x ∷ filter p xs) (filter p xs))) [ true ↦ λ e. (e, all_passes p xs) | false ↦ λ e. all_passes p xs ] refl

  pub none_passes : (p : X → Bool) (xs : List X) → AllByRecursion (λ x. p x ≡ false) xs → list_any p xs ≡ false
  none_passes p [] h = refl
  none_passes p (x ∷ xs) h = ap (λ b. b || list_any p xs) h.0 ∙ none_passes p xs h.1

  -- tests that agree at each member keep the same
  pub filter-agree : (p q : X → Bool) (xs : List X) → AllByRecursion (λ x. p x ≡ q x) xs → filter p xs ≡ filter q xs
  filter-agree p q [] h = refl
  filter-agree p q (x ∷ xs) h = λ i. cond (h.0 i) (x ∷ filter-agree p q xs h.1 i) (filter-agree p q xs h.1 i)

  -- none is other than below
  pub all_below : (f : X → Ordering) (xs : List X) → list_any (λ x. not (is_lt (f x))) xs ≡ false → AllByRecursion (λ x. f x ≡ Less) xs
  all_below f [] h = tt
  all_below f (x ∷ xs) h = let n = or_none (not (is_lt (f x))) _ h in (is_lt-less (f x) (passes (is_lt (f x)) n.0), all_below f xs n.1)
    where
      passes : (b : Bool) → not b ≡ false → b ≡ true
      passes true e = refl
      passes false e = sym e

  pub none_other : (f : X → Ordering) (xs : List X) → AllByRecursion (λ x. f x ≡ Less) xs → list_any (λ x. not (is_lt (f x))) xs ≡ false
  none_other f xs h = none_passes (λ x. not (is_lt (f x))) xs (all_weaker (λ x. f x ≡ Less) (λ x. not (is_lt (f x)) ≡ false) (λ x e. ap (λ o. not (is_lt o)) e) xs h)

module _ {K : Type 0} (R : K → K → Ordering) (o : IsTotalOrder R) where
  -- what is below the first is below the rest
  pub all_above : (p x : K) (xs : List K) → R p x ≡ Less → AllByRecursion (λ y. R x y ≡ Less) xs → AllByRecursion (λ y. R p y ≡ Less) xs
  all_above p x xs h = all_weaker (λ y. R x y ≡ Less) (λ y. R p y ≡ Less) (λ y k. o.trans p x y h k) xs

  -- a list in order and another one, the first of which is above it
  pub sorted_join : (xs ys : List K) (p : K) → IsStrictlySortedBy R xs → IsStrictlySortedBy R (p ∷ ys) → AllByRecursion (λ x. R x p ≡ Less) xs → IsStrictlySortedBy R (xs ++ p ∷ ys)
  unfolding IsStrictlySortedBy
  sorted_join [] ys p s t h = t
  sorted_join (x ∷ xs) ys p s t h = (all_append (λ y. R x y ≡ Less) xs (p ∷ ys) s.0 (h.0, all_above x p ys h.0 t.0), sorted_join xs ys p s.1 t h.1)

-- what stands behind the first in a list in order is in order
pub sorted_drop : {K : Type 0} (R : K → K → Ordering) (n : ℕ) (xs : List K) → IsStrictlySortedBy R xs → IsStrictlySortedBy R (drop n xs)
unfolding IsStrictlySortedBy
sorted_drop R zero xs s = s
sorted_drop R (suc n) [] s = tt
sorted_drop R (suc n) (x ∷ xs) s = sorted_drop R n xs s.1
