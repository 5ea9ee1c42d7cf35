-- An insert puts its pair between those below its element and those above.
use Rattle.std.proofs.Common.{◌≡◌, ℕ, ◌+◌, ◌-◌, ◌≤◌, Bool, true, false, not, List, ◌∷◌, ◌++◌, refl, sym, ap, ◌∙◌, arith, length, take, drop, count_by, length-append}
use Rattle.std.specs.Prelude.{◌||◌}
use Rattle.std.specs.declared.cmp.Ordering.{Ordering}
use Rattle.std.specs.declared.cmp.Ordering.TheVariants.{Less, Equal, Greater}
use Rattle.std.specs.Ordering.{eq_by_cmp, ordering_then, ordering_reverse}
use Rattle.std.specs.List.{list_any, filter}
use Rattle.std.specs.List.Sorted.{IsStrictlySortedBy}
use Rattle.std.proofs.lemmas.List.{length-drop, length-take-le}
use Rattle.std.proofs.lemmas.List.Kept.{IsStrictlySortedBy-filter}
use Rattle.std.proofs.lemmas.List.Sums.{count_by-le-length}
use Rattle.re_terms.proofs.Lists.{any-append}
use Rattle.re_terms.proofs.WordOrders.{ascending_from, pair_cmp_total, word_cmp_total}
use Rattle.re_terms.specs.declared.word.Word.{Word}
use Rattle.re_terms.specs.declared.replicated.Dot.{Dot}
use Rattle.re_terms.specs.declared.replicated.Pair.{Pair}
use Rattle.re_terms.specs.UpdateStates.{pairs_after, without}
use Rattle.re_terms.specs.WordOrder.{word_cmp, pair_cmp}
use Rattle.re_awset.proofs.Fronts.{take-count, drop-count}
use Rattle.re_awset.proofs.Ordered.{all_passes, all_weaker, sorted_join}
use Rattle.re_awset.proofs.Splits.{below_falls, up_to_falls, without-split, below-le-up_to, is_lt-less, is_gt-greater}
use Rattle.re_awset.specs.Places.{is_below, is_up_to}

-- what is taken out is what an element has
pub without-places : (e : Word) (xs : List Pair) → IsStrictlySortedBy pair_cmp xs → take (count_by (is_below e) xs) xs ++ drop (count_by (is_up_to e) xs) xs ≡ without e xs
without-places e xs s =
    (λ i. take-count (is_below e) xs (below_falls e xs s) i ++ drop-count (is_up_to e) xs (up_to_falls e xs s) i)
    ∙ sym (without-split e xs s)

less_first : (o r : Ordering) → o ≡ Less → ordering_then o r ≡ Less
less_first Less r h = refl
less_first Equal r h = cc
less_first Greater r h = cc

-- a pair of an element stands behind those below the element
behind : (p q : Pair) → is_below q.element p ≡ true → pair_cmp p q ≡ Less
unfolding pair_cmp
behind p q h = less_first (word_cmp p.element q.element) _ (is_lt-less _ h)

-- and before those above it
before : (p q : Pair) → not (is_up_to p.element q) ≡ true → pair_cmp p q ≡ Less
unfolding pair_cmp
before p q h = less_first (word_cmp p.element q.element) _ (word_cmp_total.antisymm p.element q.element ∙ ap ordering_reverse (is_gt-greater _ (twice _ h)))
  where
    twice : (b : Bool) → not (not b) ≡ true → b ≡ true
    twice true e = refl
    twice false e = e

swap : (a b c : Bool) → (a || (b || c)) ≡ (b || (a || c))
swap true true c = refl
swap true false c = refl
swap false b c = refl

-- the members of a list with one more in its midst
pub any-midst : (f : Pair → Bool) (xs ys : List Pair) (p : Pair) → list_any f (xs ++ p ∷ ys) ≡ (f p || list_any f (xs ++ ys))
any-midst f xs ys p = any-append f xs (p ∷ ys) ∙ swap (list_any f xs) (f p) (list_any f ys) ∙ ap (λ b. f p || b) (sym (any-append f xs ys))

pub insert-places : (e : Word) (d : Dot) (xs : List Pair) → IsStrictlySortedBy pair_cmp xs → take (count_by (is_below e) xs) xs ++ record { element = e; dot = d } ∷ drop (count_by (is_up_to e) xs) xs ≡ pairs_after d e xs
unfolding IsStrictlySortedBy
insert-places e d xs s =
    let new : Pair = record { element = e; dot = d } in
    let low : List Pair = filter (is_below e) xs in
    let high : List Pair = filter (λ p. not (is_up_to e p)) xs in
    let above = all_weaker (λ q. not (is_up_to e q) ≡ true) (λ q. pair_cmp new q ≡ Less) (λ q h. before new q h) high (all_passes (λ p. not (is_up_to e p)) xs) in
    let below = all_weaker (λ p. is_below e p ≡ true) (λ p. pair_cmp p new ≡ Less) (λ p h. behind p new h) low (all_passes (is_below e) xs) in
    (λ i. take-count (is_below e) xs (below_falls e xs s) i ++ new ∷ drop-count (is_up_to e) xs (up_to_falls e xs s) i)
    ∙ ascending_from (low ++ new ∷ high) (new ∷ without e xs)
    (sorted_join pair_cmp pair_cmp_total low high new (IsStrictlySortedBy-filter pair_cmp (is_below e) xs s) (above, IsStrictlySortedBy-filter pair_cmp (λ p. not (is_up_to e p)) xs s) below)
    (λ q. any-midst (eq_by_cmp pair_cmp q) low high new ∙ ap (λ l. eq_by_cmp pair_cmp q new || list_any (eq_by_cmp pair_cmp q) l) (sym (without-split e xs s)))

-- how many pairs there are after an insert
pub insert-length : (e : Word) (d : Dot) (xs : List Pair) → IsStrictlySortedBy pair_cmp xs → length (pairs_after d e xs) ≡ (length xs - (count_by (is_up_to e) xs - count_by (is_below e) xs)) + 1
insert-length e d xs s =
    let from : ℕ = count_by (is_below e) xs in
    let to : ℕ = count_by (is_up_to e) xs in
    let new : Pair = record { element = e; dot = d } in
    let order : from ≤ to = below-le-up_to e xs in
    let within : to ≤ length xs = count_by-le-length (is_up_to e) xs in
    let front : length (take from xs) ≡ from = length-take-le from xs (omega arith) in
    let back : length (drop to xs) ≡ length xs - to = length-drop to xs in
    let whole : length (take from xs ++ new ∷ drop to xs) ≡ length (take from xs) + length (new ∷ drop to xs) = length-append (take from xs) (new ∷ drop to xs) in
    ap length (sym (insert-places e d xs s)) ∙ omega arith

-- the same where a slice has the list's pairs
pub insert-from_places : (e : Word) (d : Dot) (xs ys : List Pair) (from to : ℕ) → ys ≡ xs → IsStrictlySortedBy pair_cmp xs → from ≡ count_by (is_below e) ys → to ≡ count_by (is_up_to e) ys → take from xs ++ record { element = e; dot = d } ∷ drop to xs ≡ pairs_after d e xs
insert-from_places e d xs ys from to q s f t = (λ i. take ((f ∙ ap (count_by (is_below e)) q) i) xs ++ record { element = e; dot = d } ∷ drop ((t ∙ ap (count_by (is_up_to e)) q) i) xs) ∙ insert-places e d xs s

pub length-from_places : (e : Word) (d : Dot) (xs ys : List Pair) (from to : ℕ) → ys ≡ xs → IsStrictlySortedBy pair_cmp xs → from ≡ count_by (is_below e) ys → to ≡ count_by (is_up_to e) ys → length (pairs_after d e xs) ≡ (length xs - (to - from)) + 1
length-from_places e d xs ys from to q s f t = insert-length e d xs s ∙ (λ i. (length xs - (sym (t ∙ ap (count_by (is_up_to e)) q) i - sym (f ∙ ap (count_by (is_below e)) q) i)) + 1)

pub without-from_places : (e : Word) (xs ys : List Pair) (from to : ℕ) → ys ≡ xs → IsStrictlySortedBy pair_cmp xs → from ≡ count_by (is_below e) ys → to ≡ count_by (is_up_to e) ys → take from xs ++ drop to xs ≡ without e xs
without-from_places e xs ys from to q s f t = (λ i. take ((f ∙ ap (count_by (is_below e)) q) i) xs ++ drop ((t ∙ ap (count_by (is_up_to e)) q) i) xs) ∙ without-places e xs s
