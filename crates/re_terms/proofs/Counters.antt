-- The law of counters.
use Rattle.std.proofs.Common.{◌≡◌, ℕ, ◌+◌, ◌≤◌, Bool, true, false, cond, List, [], ◌∷◌, refl, sym, ap, ◌∙◌, subst, arith, inl, inr}
use Rattle.std.specs.Prelude.{◌&&◌, nat_eq, nat_lt, nat_le, max, slice_index, map}
use Rattle.std.specs.List.{filter, sum_by, range_with_len}
use Rattle.std.proofs.lemmas.Bool.Decides.{nat_tests}
use Rattle.std.proofs.lemmas.Bool.{cases_lt}
use Rattle.std.proofs.lemmas.List.Sums.{sum_by-cons, sum_by-le-sum_by}
use Rattle.re_terms.specs.declared.replicated.Act.{Act}
use Rattle.re_terms.specs.CellStates.{part_of, row_of, rows_of, join_rows, increment, decrement}
use Rattle.re_terms.specs.Updates.{Update, covered}
use Rattle.re_terms.specs.Vectors.{covers, by_device, greater_each, join_vectors}
use Rattle.re_terms.proofs.Logs.{at-greater_each}

module _ {X : Type 0} where
  sum-filter : (f : X → ℕ) (p : X → Bool) (xs : List X) → sum_by f (filter p xs) ≡ sum_by (λ x. cond (p x) (f x) 0) xs
  sum-filter f p [] = refl
  sum-filter f p (x ∷ xs) =
      elim (p x) as (λ b. sum_by f (cond b (x ∷ filter p xs) (filter p xs)) ≡ cond b (f x) 0 + sum_by (λ x. cond (p x) (f x) 0) xs) [
        | true ↦ sum_by-cons f x (filter p xs) ∙ ap (λ n. f x + n) (sum-filter f p xs)
        | false ↦ let e = sum-filter f p xs in omega arith
      ]
      ∙ sym (sum_by-cons (λ x. cond (p x) (f x) 0) x xs)

-- a device's number in the row of what a vector covers
abbrev sum_covered : (Act → ℕ) → ℕ → ℕ → List Update → List ℕ → ℕ
sum_covered f cell d b v = sum_by (part_of f cell d) (covered b v)

step_le : (d : ℕ) (c : Bool) (e n x y m : ℕ) → (e ≡ d → x ≤ y) → cond (nat_lt 0 n && nat_le n x) (cond (c && nat_eq e d) m 0) 0 ≤ cond (nat_lt 0 n && nat_le n y) (cond (c && nat_eq e d) m 0) 0
step_le d c e n x y m h = grind (arith, nat_tests)

-- it rises with the vector's own place, and depends on that alone
sum_covered-le : (f : Act → ℕ) (cell d : ℕ) (b : List Update) (v w : List ℕ) → slice_index v d ≤ slice_index w d → sum_covered f cell d b v ≤ sum_covered f cell d b w
unfolding covers
sum_covered-le f cell d b v w h =
    let e = sum-filter (part_of f cell d) (λ u. covers v u.dot) b in
    let g = sum-filter (part_of f cell d) (λ u. covers w u.dot) b in
    let k = sum_by-le-sum_by _ _ b one in
    subst (λ n. n ≤ sum_covered f cell d b w) (sym e) (subst (λ n. sum_by (λ u. cond (covers v u.dot) (part_of f cell d u) 0) b ≤ n) (sym g) k)
  where
    one : (u : Update) → cond (covers v u.dot) (part_of f cell d u) 0 ≤ cond (covers w u.dot) (part_of f cell d u) 0
    one u = step_le d (nat_eq u.cell cell) u.dot.device u.dot.number (slice_index v u.dot.device) (slice_index w u.dot.device) (f u.act) (λ e. subst (λ x. slice_index v x ≤ slice_index w x) (sym e) h)

greater_each-map : (f g : ℕ → ℕ) (ks : List ℕ) → greater_each (map f ks) (map g ks) ≡ map (λ d. max (f d) (g d)) ks
unfolding greater_each
greater_each-map f g [] = refl
greater_each-map f g (k ∷ ks) = ap (λ xs. max (f k) (g k) ∷ xs) (greater_each-map f g ks)

pub greater_each-by_device : (f g : ℕ → ℕ) → greater_each (by_device f) (by_device g) ≡ by_device (λ d. max (f d) (g d))
unfolding by_device
greater_each-by_device f g = greater_each-map f g (range_with_len 0 16)

pub row_join : (f : Act → ℕ) (cell : ℕ) (b : List Update) (v w : List ℕ) → greater_each (row_of f cell (covered b v)) (row_of f cell (covered b w)) ≡ row_of f cell (covered b (join_vectors v w))
unfolding row_of
row_join f cell b v w = greater_each-by_device _ _ ∙ ap by_device (λ i d. each d i)
  where
    each : (d : ℕ) → max (sum_covered f cell d b v) (sum_covered f cell d b w) ≡ sum_covered f cell d b (greater_each v w)
    each d =
        let e = at-greater_each v w d in
        elim (cases_lt (slice_index v d) (slice_index w d)) [
          | inl h ↦
              let a = sum_covered-le f cell d b v w (omega arith) in
              let x = sum_covered-le f cell d b w (greater_each v w) (omega arith) in
              let y = sum_covered-le f cell d b (greater_each v w) w (omega arith) in
              omega arith
          | inr h ↦
              let a = sum_covered-le f cell d b w v h in
              let x = sum_covered-le f cell d b v (greater_each v w) (omega arith) in
              let y = sum_covered-le f cell d b (greater_each v w) v (omega arith) in
              omega arith
        ]

pub rows_join : (cell : ℕ) (b : List Update) (v w : List ℕ) → join_rows (rows_of cell (covered b v)) (rows_of cell (covered b w)) ≡ rows_of cell (covered b (join_vectors v w))
rows_join cell b v w i = record { plus = row_join increment cell b v w i; minus = row_join decrement cell b v w i }
