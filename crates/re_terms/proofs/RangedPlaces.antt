-- What passes among the places of a list.
use Rattle.std.proofs.Common.{◌≡◌, ◌+◌, ℕ, zero, suc, Bool, true, false, cond, List, [], ◌∷◌, length, map, take, get_or, refl, sym, ap, ◌∙◌, arith}
use Rattle.std.specs.Prelude.{None, Some, filter, count_by, slice_get}
use Rattle.std.specs.List.{range_with_len}
use Rattle.std.proofs.lemmas.List.Sums.{sum_by-cons}

-- a test of places that agrees with one of elements from a place on
abbrev pub Agrees : {X : Type 0} → (ℕ → Bool) → (X → Bool) → ℕ → List X → Type 0
Agrees {X = X} q t a xs = (i : ℕ) (x : X) → slice_get xs i ≡ Some x → q (a + i) ≡ t x

module _ {X : Type 0} (q : ℕ → Bool) (t : X → Bool) where
  first_agrees : (a : ℕ) (x : X) (xs : List X) → Agrees q t a (x ∷ xs) → q a ≡ t x
  first_agrees a x xs h = let e : a ≡ a + 0 = omega arith in ap q e ∙ h 0 x refl

  rest_agrees : (a : ℕ) (x : X) (xs : List X) → Agrees q t a (x ∷ xs) → Agrees q t (a + 1) xs
  rest_agrees a x xs h i y at = let e : a + 1 + i ≡ a + suc i = omega arith in ap q e ∙ h (suc i) y at

  counted : (b c : Bool) (a : ℕ) (rest : List ℕ) (n : ℕ) → b ≡ c → length rest ≡ n → length (cond b (a ∷ rest) rest) ≡ cond c 1 0 + n
  counted true true a rest n same h = omega (arith, h)
  counted false false a rest n same h = omega (arith, h)
  counted true false a rest n same h = absurd (cc)
  counted false true a rest n same h = absurd (cc)

  -- as many places pass as elements
  pub length-passing : (xs : List X) (a : ℕ) → Agrees q t a xs → length (filter q (range_with_len a (length xs))) ≡ count_by t xs
  length-passing [] a h = refl
  length-passing (x ∷ xs) a h =
      counted (q a) (t x) a (filter q (range_with_len (a + 1) (length xs))) (count_by t xs) (first_agrees a x xs h) (length-passing xs (a + 1) (rest_agrees a x xs h))
      ∙ sym (sum_by-cons (λ y. cond (t y) 1 0) x xs)

  module _ {W : Type 0} (f : ℕ → W) (none : W) where
    behind : (b c : Bool) (a : ℕ) (rest : List ℕ) (n : ℕ) → b ≡ c → get_or (map f (cond b (a ∷ rest) rest)) (cond c 1 0 + n) none ≡ get_or (map f rest) n none
    behind true true a rest n same = let e : 1 + n ≡ suc n = omega arith in ap (λ k. get_or (f a ∷ map f rest) k none) e
    behind false false a rest n same = let e : 0 + n ≡ n = omega arith in ap (λ k. get_or (map f rest) k none) e
    behind true false a rest n same = absurd (cc)
    behind false true a rest n same = absurd (cc)

    here : (b : Bool) (a : ℕ) (rest : List ℕ) → b ≡ true → get_or (map f (cond b (a ∷ rest) rest)) 0 none ≡ f a
    here true a rest h = refl
    here false a rest h = absurd (cc)

    -- what stands at the place of an element that passes
    pub passing-at : (xs : List X) (a i : ℕ) (x : X) → Agrees q t a xs → slice_get xs i ≡ Some x → t x ≡ true → get_or (map f (filter q (range_with_len a (length xs)))) (count_by t (take i xs)) none ≡ f (a + i)
    passing-at [] a i x h at passes = absurd (let e : None ≡ Some x = at in cc)
    passing-at (y ∷ xs) a zero x h at passes =
        let own : Some y ≡ Some x = at in
        let same : y ≡ x = cc in
        let e : a ≡ a + 0 = omega arith in
        here (q a) a (filter q (range_with_len (a + 1) (length xs))) (first_agrees a y xs h ∙ ap t same ∙ passes) ∙ ap f e
    passing-at (y ∷ xs) a (suc i) x h at passes =
        let e : a + 1 + i ≡ a + suc i = omega arith in
        ap (λ n. get_or (map f (filter q (range_with_len a (length (y ∷ xs))))) n none) (sum_by-cons (λ z. cond (t z) 1 0) y (take i xs))
        ∙ behind (q a) (t y) a (filter q (range_with_len (a + 1) (length xs))) (count_by t (take i xs)) (first_agrees a y xs h)
        ∙ passing-at xs (a + 1) i x (rest_agrees a y xs h) at passes
        ∙ ap f e
