-- What an act does to a cell, and to the count of its pairs.
use Rattle.std.proofs.Common.{◌≡◌, ℕ, zero, suc, ◌+◌, ◌<◌, ◌≤◌, List, [], ◌∷◌, Some, length, refl, sym, ap, ◌∙◌, arith}
use Rattle.std.specs.Prelude.{not, slice_get, slice_set}
use Rattle.std.specs.List.{sum_by}
use Rattle.re_terms.specs.Listed.{Listed}
use Rattle.re_terms.specs.Shapes.{pair_count}
use Rattle.re_terms.specs.WordOrder.{same_word}
use Rattle.re_terms.specs.UpdateStates.{pairs_after}
use Rattle.re_terms.specs.declared.word.Word.{Word}
use Rattle.re_terms.specs.declared.replicated.Act.{Act}
use Rattle.re_terms.specs.declared.replicated.Act.TheVariants.{Add, Insert, Remove, Write}
use Rattle.re_terms.specs.declared.replicated.Dot.{Dot}
use Rattle.re_terms.specs.declared.replicated.Pair.{Pair}
use Rattle.re_terms.specs.declared.replicated.RCell.{RCell}
use Rattle.re_terms.specs.declared.replicated.RCell.TheVariants.{Counter, Set, Register}
use Rattle.re_terms.specs.UpdateStates.{without}
use Rattle.re_replica.specs.Cells.{acted, at_place}
use Rattle.std.proofs.lemmas.List.Sums.{sum_by-cons}
use Rattle.std.proofs.lemmas.List.Sums.{count_by-le-length, length-filter}

-- only an insert into a set can raise the count of a cell's pairs
pub not_over : (dot : Dot) (act : Act) (c : RCell) (room : ℕ) → pair_count c ≤ room → ((e : Word) (ps : Listed Pair) → act ≡ Insert e → c ≡ Set ps → ⊥) → room < pair_count (acted dot act c) → ⊥
unfolding without
not_over dot (Add n) (Counter rows) room h none over = omega arith
not_over dot (Add n) (Set ps) room h none over = omega arith
not_over dot (Add n) (Register r) room h none over = omega arith
not_over dot (Insert e) (Counter rows) room h none over = omega arith
not_over dot (Insert e) (Set ps) room h none over = none e ps refl refl
not_over dot (Insert e) (Register r) room h none over = omega arith
not_over dot (Remove e) (Counter rows) room h none over = omega arith
not_over dot (Remove e) (Set ps) room h none over = let k : length (without e ps.items) ≤ length ps.items = omega (arith, length-filter (λ (p : Pair). not (same_word p.element e)) ps.items, count_by-le-length (λ (p : Pair). not (same_word p.element e)) ps.items) in omega arith
not_over dot (Remove e) (Register r) room h none over = omega arith
not_over dot (Write w) (Counter rows) room h none over = omega arith
not_over dot (Write w) (Set ps) room h none over = omega arith
not_over dot (Write w) (Register r) room h none over = omega arith

pub count_inserted : (dot : Dot) (act : Act) (c : RCell) (e : Word) (ps : Listed Pair) → act ≡ Insert e → c ≡ Set ps → pair_count (acted dot act c) ≡ length (pairs_after dot e ps.items)
count_inserted dot act c e ps is_act is_set = λ i. pair_count (acted dot (is_act i) (is_set i))

-- ---- at a place

pub set_is : (place : ℕ) (f : RCell → RCell) (cells : List RCell) (c : RCell) → slice_get cells place ≡ Some c → slice_set cells place (f c) ≡ at_place place f cells
set_is place f [] c e = refl
set_is zero f (x ∷ cells) c e = let h : x ≡ c = cc in ap (λ y. f y ∷ cells) (sym h)
set_is (suc place) f (x ∷ cells) c e = ap (λ l. x ∷ l) (set_is place f cells c e)

pub set_twice : (place : ℕ) (cells : List RCell) (a b : RCell) → slice_set (slice_set cells place a) place b ≡ slice_set cells place b
set_twice place [] a b = refl
set_twice zero (x ∷ cells) a b = refl
set_twice (suc place) (x ∷ cells) a b = ap (λ l. x ∷ l) (set_twice place cells a b)

pub set_back : (place : ℕ) (cells : List RCell) (c : RCell) → slice_get cells place ≡ Some c → slice_set cells place c ≡ cells
set_back place [] c e = refl
set_back zero (x ∷ cells) c e = let h : x ≡ c = cc in ap (λ y. y ∷ cells) (sym h)
set_back (suc place) (x ∷ cells) c e = ap (λ l. x ∷ l) (set_back place cells c e)

-- the sum after a change at a place
pub sum_at : (place : ℕ) (f : RCell → RCell) (cells : List RCell) (c : RCell) → slice_get cells place ≡ Some c → sum_by pair_count (at_place place f cells) + pair_count c ≡ sum_by pair_count cells + pair_count (f c)
sum_at place f [] c e = absurd (cc)
sum_at zero f (x ∷ cells) c e =
    let h : x ≡ c = cc in
    let a = ap pair_count h in
    let b = ap (λ y. pair_count (f y)) h in
    omega (arith, sum_by-cons pair_count (f x) cells, sum_by-cons pair_count x cells, a, b)
sum_at (suc place) f (x ∷ cells) c e =
    let k = sum_at place f cells c e in
    omega (arith, k, sum_by-cons pair_count x (at_place place f cells), sum_by-cons pair_count x cells)

pub pairs_within : (place : ℕ) (cells : List RCell) (c : RCell) → slice_get cells place ≡ Some c → pair_count c ≤ sum_by pair_count cells
pairs_within place [] c e = absurd (cc)
pairs_within zero (x ∷ cells) c e = let h : pair_count x ≡ pair_count c = ap pair_count (cc) in omega (arith, sum_by-cons pair_count x cells, h)
pairs_within (suc place) (x ∷ cells) c e = let k = pairs_within place cells c e in omega (arith, k, sum_by-cons pair_count x cells)

-- a cell taken out and put back, changed or not
pub put_back : (cells taken put : Listed RCell) (place : ℕ) (a b : RCell) → taken ≡ record { items = slice_set cells.items place a; spare = cells.spare } → put ≡ record { items = slice_set taken.items place b; spare = taken.spare } → put ≡ record { items = slice_set cells.items place b; spare = cells.spare }
put_back cells taken put place a b e h = h ∙ (λ i. record { items = slice_set ((e i).items) place b; spare = (e i).spare }) ∙ ap (λ l. record { items = l; spare = cells.spare }) (set_twice place cells.items a b)
