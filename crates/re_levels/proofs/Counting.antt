-- How many pass.
use Rattle.std.proofs.Common.{◌≡◌, ◌<◌, ◌≤◌, ◌+◌, ◌⊎◌, inl, inr, ℕ, zero, suc, Bool, true, false, ◌&&◌, cond, List, [], ◌∷◌, refl, sym, ap, ◌∙◌, arith}
use Rattle.std.specs.Prelude.{count_by, filter}
use Rattle.std.specs.List.{range_with_len}
use Rattle.std.proofs.lemmas.Bool.{cases_eq}
use Rattle.std.proofs.lemmas.List.Sums.{sum_by-cons}

abbrev one : Bool → ℕ
one b = cond b 1 0

-- where each that passes one test passes the other, no more pass the one
pub count-less : (p q : ℕ → Bool) (xs : List ℕ) → ((x : ℕ) → one (p x) ≤ one (q x)) → count_by p xs ≤ count_by q xs
count-less p q [] h = omega arith
count-less p q (x ∷ xs) h = omega (arith, h x, count-less p q xs h, sum_by-cons (λ y. one (p y)) x xs, sum_by-cons (λ y. one (q y)) x xs)

filter_by : (E : ℕ → Bool) (x : ℕ) (xs : List ℕ) (more : ℕ) (b : Bool) → count_by E xs ≡ more → count_by E (cond b (x ∷ xs) xs) ≡ one (b && E x) + more
filter_by E x xs more true h = sum_by-cons (λ y. one (E y)) x xs ∙ ap (λ n. one (E x) + n) h
filter_by E x xs more false h = let z : 0 + more ≡ more = omega arith in h ∙ sym z

-- how many pass among those that pass another test
pub count-filter : (E R : ℕ → Bool) (xs : List ℕ) → count_by E (filter R xs) ≡ count_by (λ x. R x && E x) xs
count-filter E R [] = refl
count-filter E R (x ∷ xs) = filter_by E x (filter R xs) (count_by (λ y. R y && E y) xs) (R x) (count-filter E R xs) ∙ sym (sum_by-cons (λ y. one (R y && E y)) x xs)

more_by : (p q : ℕ → Bool) (k a m : ℕ) → ((x : ℕ) → one (p x) ≤ one (q x)) → p k ≡ false → k < a + suc m → (a ≡ k) ⊎ (a ≡ k → ⊥) → (a + 1 ≤ k → count_by p (range_with_len (a + 1) m) + one (q k) ≤ count_by q (range_with_len (a + 1) m)) → a ≤ k → count_by p (range_with_len a (suc m)) + one (q k) ≤ count_by q (range_with_len a (suc m))
more_by p q k a m h off under (inl e) rest low =
    let gone : one (p a) ≡ 0 = ap (λ x. one (p x)) e ∙ ap one off in
    let here : one (q a) ≡ one (q k) = ap (λ x. one (q x)) e in
    omega (arith, gone, here, count-less p q (range_with_len (a + 1) m) h, sum_by-cons (λ y. one (p y)) a (range_with_len (a + 1) m), sum_by-cons (λ y. one (q y)) a (range_with_len (a + 1) m))
more_by p q k a m h off under (inr other) rest low =
    omega (arith, h a, rest (omega (arith, other)), sum_by-cons (λ y. one (p y)) a (range_with_len (a + 1) m), sum_by-cons (λ y. one (q y)) a (range_with_len (a + 1) m))

-- where one number that didn't pass may pass now, that many more do
pub count-more : (p q : ℕ → Bool) (k a m : ℕ) → ((x : ℕ) → one (p x) ≤ one (q x)) → p k ≡ false → a ≤ k → k < a + m → count_by p (range_with_len a m) + one (q k) ≤ count_by q (range_with_len a m)
count-more p q k a zero h off low under = absurd (omega arith)
count-more p q k a (suc m) h off low under = more_by p q k a m h off under (cases_eq a k) (λ from. count-more p q k (a + 1) m h off from (omega arith)) low
