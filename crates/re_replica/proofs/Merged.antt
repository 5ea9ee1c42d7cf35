-- The cells of a merge, place by place.
use Rattle.std.proofs.Common.{◌≡◌, ℕ, zero, suc, ◌+◌, ◌<◌, ◌≤◌, ◌↔◌, Bool, false, get_or, inl, inr, subst, List, [], ◌∷◌, ◌++◌, Some, length, take, refl, sym, ap, ◌∙◌, arith}
use Rattle.std.specs.Prelude.{slice_get}
use Rattle.std.specs.List.{sum_by}
use Rattle.std.proofs.lemmas.Bool.{cases_lt}
use Rattle.std.proofs.lemmas.List.Sums.{sum_by-cons}
use Rattle.std.proofs.lemmas.Option.{slice_get_read}
use Rattle.re_terms.specs.Shapes.{pair_count}
use Rattle.re_terms.specs.UpdateStates.{join_cell, join_cells}
use Rattle.re_terms.specs.declared.replicated.RCell.{RCell}
use Rattle.re_replica.specs.Changed.{has_bit}

pub joined_at : (av bv : List ℕ) (xs ys : List RCell) (place : ℕ) (x y : RCell) → slice_get xs place ≡ Some x → slice_get ys place ≡ Some y → slice_get (join_cells av bv xs ys) place ≡ Some (join_cell av bv x y)
joined_at av bv [] ys place x y e h = absurd (cc)
joined_at av bv (c ∷ xs) [] place x y e h = absurd (cc)
joined_at av bv (c ∷ xs) (d ∷ ys) zero x y e h = let a : c ≡ x = cc in let b : d ≡ y = cc in λ i. Some (join_cell av bv (a i) (b i))
joined_at av bv (c ∷ xs) (d ∷ ys) (suc place) x y e h = joined_at av bv xs ys place x y e h

pub length-join_cells : (av bv : List ℕ) (xs ys : List RCell) → length (join_cells av bv xs ys) ≡ length xs
length-join_cells av bv [] ys = refl
length-join_cells av bv (c ∷ xs) [] = refl
length-join_cells av bv (c ∷ xs) (d ∷ ys) = ap suc (length-join_cells av bv xs ys)

-- one more cell of a list
pub take_at : (cells : List RCell) (place : ℕ) (c : RCell) → slice_get cells place ≡ Some c → take (place + 1) cells ≡ take place cells ++ c ∷ []
take_at cells place c e = ap (λ n. take n cells) (let k : place + 1 ≡ suc place = omega arith in k) ∙ by_places cells place e
  where
    by_places : (cells : List RCell) (place : ℕ) → slice_get cells place ≡ Some c → take (suc place) cells ≡ take place cells ++ c ∷ []
    by_places [] place e = absurd (cc)
    by_places (x ∷ cells) zero e = let h : x ≡ c = cc in ap (λ y. y ∷ []) h
    by_places (x ∷ cells) (suc place) e = ap (λ l. x ∷ l) (by_places cells place e)

-- its pairs count in the sum
pub sum_take : (cells : List RCell) (place : ℕ) (c : RCell) → slice_get cells place ≡ Some c → sum_by pair_count (take (place + 1) cells) ≡ sum_by pair_count (take place cells) + pair_count c
sum_take cells place c e = ap (λ n. sum_by pair_count (take n cells)) (let k : place + 1 ≡ suc place = omega arith in k) ∙ by_places cells place e
  where
    by_places : (cells : List RCell) (place : ℕ) → slice_get cells place ≡ Some c → sum_by pair_count (take (suc place) cells) ≡ sum_by pair_count (take place cells) + pair_count c
    by_places [] place e = absurd (cc)
    by_places (x ∷ cells) zero e = let h : pair_count x ≡ pair_count c = ap pair_count (cc) in omega (arith, sum_by-cons pair_count x [], h)
    by_places (x ∷ cells) (suc place) e = let k = by_places cells place e in omega (arith, k, sum_by-cons pair_count x (take (suc place) cells), sum_by-cons pair_count x (take place cells))

pub sum_whole : (cells : List RCell) (place : ℕ) (c : RCell) → slice_get cells place ≡ Some c → sum_by pair_count (take place cells) + pair_count c ≤ sum_by pair_count cells
sum_whole [] place c e = absurd (cc)
sum_whole (x ∷ cells) zero c e = let h : pair_count x ≡ pair_count c = ap pair_count (cc) in omega (arith, sum_by-cons pair_count x cells, h)
sum_whole (x ∷ cells) (suc place) c e = let k = sum_whole cells place c e in omega (arith, k, sum_by-cons pair_count x (take place cells), sum_by-cons pair_count x cells)

-- a cell that is read from a list
pub read_at : (now items : List RCell) (place : ℕ) (x : RCell) → now ≡ items → place < length items → x ≡ get_or now place x → slice_get items place ≡ Some x
read_at now items place x same within is = slice_get_read items (length items) place x refl within (is ∙ ap (λ l. get_or l place x) same)

-- the bits of one more cell
pub bits_more :
    (old now place : ℕ) (flag : Bool) (joined items : List RCell) (new first : RCell)
    → slice_get joined place ≡ Some new → slice_get items place ≡ Some first
    → ((k : ℕ) → k < place → has_bit now k ≡ has_bit old k) → has_bit now place ≡ flag → (flag ≡ false) ↔ (new ≡ first)
    → ((k : ℕ) → k < place → (has_bit old k ≡ false) ↔ (slice_get joined k ≡ slice_get items k))
    → (k : ℕ) → k < place + 1 → (has_bit now k ≡ false) ↔ (slice_get joined k ≡ slice_get items k)
bits_more old now place flag joined items new first at from kept here changed below k h =
    elim (cases_lt k place) [
      | inl lt ↦ let b = below k lt in (λ e. b.0 (sym (kept k lt) ∙ e), λ s. kept k lt ∙ b.1 s)
      | inr le ↦
          let e : place ≡ k = omega arith in
          let P : ℕ → Type 0 = λ n. (has_bit now n ≡ false) ↔ (slice_get joined n ≡ slice_get items n) in
          subst P e (λ z. at ∙ ap Some (changed.0 (sym here ∙ z)) ∙ sym from, λ s. here ∙ changed.1 (some_same new first (sym at ∙ s ∙ from)))
    ]
  where
    some_same : (a b : RCell) → Some a ≡ Some b → a ≡ b
    some_same a b e = cc

pub take_all : (cells : List RCell) (place : ℕ) → length cells ≤ place → take place cells ≡ cells
take_all [] zero h = refl
take_all [] (suc place) h = refl
take_all (x ∷ cells) zero h = absurd (omega arith)
take_all (x ∷ cells) (suc place) h = ap (λ l. x ∷ l) (take_all cells place (omega arith))
