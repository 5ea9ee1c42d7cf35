-- Lists of which what passes a test stands before what doesn't.
use Rattle.std.proofs.Common.{◌≡◌, ℕ, zero, suc, ◌+◌, ◌<◌, ◌≤◌, Bool, true, false, cond, not, List, [], ◌∷◌, refl, sym, ap, ◌∙◌, arith, length, get_or, take, drop, count_by}
use Rattle.std.specs.Prelude.{◌||◌}
use Rattle.std.specs.List.{list_any, filter, AllWithin}
use Rattle.std.specs.List.Sorted.{IsPartitionedBy}
use Rattle.std.proofs.lemmas.List.Sums.{sum_by-cons}
use mathlib.Core.Bool.{true≢false}

-- behind one that fails the test none passes
abbrev pub Falls : {X : Type 0} → (X → Bool) → List X → Type 0
Falls p [] = Unit {0}
Falls p (x ∷ xs) = (p x ≡ false → list_any p xs ≡ false) × Falls p xs

pub or_none : (a b : Bool) → (a || b) ≡ false → (a ≡ false) × (b ≡ false)
or_none true b h = absurd (true≢false h)
or_none false b h = (refl, h)

module _ {X : Type 0} (p : X → Bool) where
  pub filter-none : (xs : List X) → list_any p xs ≡ false → filter p xs ≡ []
  filter-none [] h = refl
  filter-none (x ∷ xs) h = let n = or_none (p x) (list_any p xs) h in ap (λ b. cond b (x ∷ filter p xs) (filter p xs)) n.0 ∙ filter-none xs n.1

  filter-all : (xs : List X) → list_any p xs ≡ false → filter (λ x. not (p x)) xs ≡ xs
  filter-all [] h = refl
  filter-all (x ∷ xs) h = let n = or_none (p x) (list_any p xs) h in ap (λ b. cond (not b) (x ∷ filter (λ x. not (p x)) xs) (filter (λ x. not (p x)) xs)) n.0 ∙ ap (λ l. x ∷ l) (filter-all xs n.1)

  pub count-yes : (x : X) (xs : List X) → p x ≡ true → count_by p (x ∷ xs) ≡ suc (count_by p xs)
  count-yes x xs e = let c = sum_by-cons (λ x. cond (p x) 1 0) x xs in let d = ap (λ b. cond b 1 0 + count_by p xs) e in omega arith

  pub count-no : (x : X) (xs : List X) → p x ≡ false → count_by p (x ∷ xs) ≡ count_by p xs
  count-no x xs e = let c = sum_by-cons (λ x. cond (p x) 1 0) x xs in let d = ap (λ b. cond b 1 0 + count_by p xs) e in omega arith

  count-none : (xs : List X) → list_any p xs ≡ false → count_by p xs ≡ 0
  count-none [] h = refl
  count-none (x ∷ xs) h = let n = or_none (p x) (list_any p xs) h in count-no x xs n.0 ∙ count-none xs n.1

  -- as many as pass, from the front, are those that pass
  pub take-count : (xs : List X) → Falls p xs → take (count_by p xs) xs ≡ filter p xs
  take-count [] f = refl
  take-count (x ∷ xs) f =
      elim (p x) as (λ b. p x ≡ b → take (count_by p (x ∷ xs)) (x ∷ xs) ≡ cond b (x ∷ filter p xs) (filter p xs)) [
        | true ↦ λ e. ap (λ n. take n (x ∷ xs)) (count-yes x xs e) ∙ ap (λ l. x ∷ l) (take-count xs f.1)
        | false ↦ λ e. ap (λ n. take n (x ∷ xs)) (count-no x xs e ∙ count-none xs (f.0 e)) ∙ sym (filter-none xs (f.0 e))
      ] refl

  -- and the rest are those that fail
  pub drop-count : (xs : List X) → Falls p xs → drop (count_by p xs) xs ≡ filter (λ x. not (p x)) xs
  drop-count [] f = refl
  drop-count (x ∷ xs) f =
      elim (p x) as (λ b. p x ≡ b → drop (count_by p (x ∷ xs)) (x ∷ xs) ≡ cond (not b) (x ∷ filter (λ x. not (p x)) xs) (filter (λ x. not (p x)) xs)) [
        | true ↦ λ e. ap (λ n. drop n (x ∷ xs)) (count-yes x xs e) ∙ drop-count xs f.1
        | false ↦ λ e. ap (λ n. drop n (x ∷ xs)) (count-no x xs e ∙ count-none xs (f.0 e)) ∙ ap (λ l. x ∷ l) (sym (filter-all xs (f.0 e)))
      ] refl

  any_at : (xs : List X) (k : ℕ) (d : X) → k < length xs → p (get_or xs k d) ≡ true → list_any p xs ≡ true
  any_at [] k d l e = absurd (omega arith)
  any_at (x ∷ xs) zero d l e = ap (λ b. b || list_any p xs) e
  any_at (x ∷ xs) (suc k) d l e = ap (λ b. p x || b) (any_at xs k d (omega arith) e) ∙ elim (p x) as (λ b. (b || true) ≡ true) [ true ↦ refl | false ↦ refl ]

  pub falls_partitioned : (xs : List X) → Falls p xs → IsPartitionedBy p xs
  falls_partitioned [] f i j d le l e = absurd (omega arith)
  falls_partitioned (x ∷ xs) f zero zero d le l e = e
  falls_partitioned (x ∷ xs) f zero (suc j) d le l e = elim (p x) as (λ b. p x ≡ b → b ≡ true) [ true ↦ λ _. refl | false ↦ λ h. sym (f.0 h) ∙ any_at xs j d (omega arith) e ] refl
  falls_partitioned (x ∷ xs) f (suc i) zero d le l e = absurd (omega arith)
  falls_partitioned (x ∷ xs) f (suc i) (suc j) d le l e = falls_partitioned xs f.1 i j d (omega arith) (omega arith) e

  -- the place at which a list falls is how many pass
  pub count-point : (xs : List X) (i : ℕ) → i ≤ length xs → AllWithin (λ x. p x ≡ true) xs 0 i → AllWithin (λ x. p x ≡ false) xs i (length xs) → count_by p xs ≡ i
  count-point [] i l a b = omega arith
  count-point (x ∷ xs) zero l a b = count-no x xs (b 0 x (omega arith) (omega arith)) ∙ count-point xs zero (omega arith) (λ k d m n. absurd (omega arith)) (λ k d m n. b (suc k) d (omega arith) (omega arith))
  count-point (x ∷ xs) (suc i) l a b = count-yes x xs (a 0 x (omega arith) (omega arith)) ∙ ap suc (count-point xs i (omega arith) (λ k d m n. a (suc k) d (omega arith) (omega arith)) (λ k d m n. b (suc k) d (omega arith) (omega arith)))
