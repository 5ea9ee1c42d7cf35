-- Lists with the greater number in each place.
use Rattle.std.proofs.Common.{◌≡◌, ℕ, suc, ◌<◌, List, [], ◌∷◌, refl, ap, arith, length, get_or}
use Rattle.std.specs.Prelude.{max}
use Rattle.std.proofs.lemmas.Bool.Decides.{nat_tests}
use Rattle.re_terms.specs.Vectors.{greater_each}

pub ruleset tests = (nat_tests)

pub length-greater_each : (xs ys : List ℕ) → length xs ≡ length ys → length (greater_each xs ys) ≡ length xs
unfolding greater_each
length-greater_each [] [] e = refl
length-greater_each [] (y ∷ ys) e = absurd (omega arith)
length-greater_each (x ∷ xs) [] e = refl
length-greater_each (x ∷ xs) (y ∷ ys) e = ap suc (length-greater_each xs ys (omega arith))

-- a list with the greater number in each place
pub greater_is : (zs xs ys : List ℕ) → length xs ≡ length ys → length zs ≡ length xs → ((k : ℕ) → k < length xs → get_or zs k 0 ≡ max (get_or xs k 0) (get_or ys k 0)) → zs ≡ greater_each xs ys
unfolding greater_each
greater_is [] [] [] e f h = refl
greater_is [] [] (y ∷ ys) e f h = absurd (omega arith)
greater_is [] (x ∷ xs) ys e f h = absurd (omega arith)
greater_is (z ∷ zs) [] ys e f h = absurd (omega arith)
greater_is (z ∷ zs) (x ∷ xs) [] e f h = absurd (omega arith)
greater_is (z ∷ zs) (x ∷ xs) (y ∷ ys) e f h = λ i. h 0 (omega arith) i ∷ greater_is zs xs ys (omega arith) (omega arith) (λ k lt. h (suc k) (omega arith)) i
