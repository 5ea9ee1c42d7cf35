-- A state shows the value.
use Rattle.std.proofs.Common.{◌≡◌, ℕ, zero, suc, ◌+◌, ◌<◌, ◌≤◌, Bool, true, false, cond, List, [], ◌∷◌, refl, sym, ap, ◌∙◌, arith, inl, inr, sum}
use Rattle.std.specs.Prelude.{length, slice_get, option_map, Option, None, Some, ◌≢◌, ◌&&◌, ◌||◌, ℤ, pos, negsuc, ◌+ℤ◌, ◌-ℤ◌, nat_eq, map}
use Rattle.std.specs.List.{list_any, sum_by, range_with_len}
use Rattle.std.specs.Ordering.{eq_by_cmp}
use Rattle.std.proofs.lemmas.Bool.{cases_eq}
use mathlib.Core.Bool.{true≢false}
use Rattle.re_terms.proofs.Operations.{same_tests}
use Rattle.re_terms.proofs.Registers.{or_true}
use Rattle.std.proofs.lemmas.Bool.Decides.{nat_tests}
use Rattle.std.proofs.lemmas.Int.{ints}
use Rattle.std.proofs.lemmas.List.Sums.{sum_by-cons, sum-map}
use Rattle.re_terms.specs.declared.replicated.Pair.{Pair}
use Rattle.re_terms.specs.declared.replicated.Act.{Act}
use Rattle.re_terms.specs.declared.replicated.Act.TheVariants.{Add, Insert, Remove, Write}
use Rattle.re_terms.specs.CellStates.{Pairing, Pairing.AddWins, part_of, row_of, increment, decrement, live, pairs_of}
use Rattle.re_terms.specs.UpdateStates.{content_of, contents_from, state_of_updates}
use Rattle.re_terms.specs.Updates.{Update, IsIn}
use Rattle.re_terms.specs.Arithmetic.{whole}
use Rattle.re_terms.specs.Values.{amount, total_amount, cell_value, value_at, value_elements, value_word, value_size, value_has, view_of_updates}
use Rattle.re_terms.specs.Views.{cell_elements, cell_word, cell_size, cell_has, view_of}
use Rattle.re_terms.specs.declared.word.Word.{Word}
use Rattle.std.specs.declared.cmp.Ordering.{Ordering}
use Rattle.re_terms.specs.Vectors.{by_device}
use Rattle.re_terms.specs.WordOrder.{pair_cmp, word_cmp, same_word, ascending, ascending_words, elements_of}
use Rattle.re_terms.specs.declared.replicated.RKind.{RKind}
use Rattle.re_terms.specs.declared.replicated.RKind.TheVariants as kind
use Rattle.re_terms.specs.declared.replicated.Shape.{Shape}
use Rattle.re_terms.proofs.WordOrders.{ascending_words_same, any-ascending, any-ascending_words, word_is, word_itself, same_pair-is, same_pair-refl}

-- ---- counters

step_yes : (d a m r : ℕ) → d ≡ a → r ≡ 0 → cond (nat_eq d a) m 0 + r ≡ m
step_yes d a m r e z = grind (arith, nat_tests)

step_no : (d a m r n : ℕ) → d ≢ a → r ≡ n → cond (nat_eq d a) m 0 + r ≡ n
step_no d a m r n e z = grind (arith, nat_tests)

sum_past : (d m a n : ℕ) → d < a → sum_by (λ e. cond (nat_eq d e) m 0) (range_with_len a n) ≡ 0
sum_past d m a zero h = refl
sum_past d m a (suc n) h = sum_by-cons _ a (range_with_len (a + 1) n) ∙ step_no d a m _ 0 (omega arith) (sum_past d m (a + 1) n (omega arith))

sum_one : (d m a n : ℕ) → a ≤ d → d < a + n → sum_by (λ e. cond (nat_eq d e) m 0) (range_with_len a n) ≡ m
sum_one d m a zero h k = absurd (omega arith)
sum_one d m a (suc n) h k =
    sum_by-cons _ a (range_with_len (a + 1) n)
    ∙ elim (cases_eq d a) [
      | inl e ↦ step_yes d a m _ e (sum_past d m (a + 1) n (omega arith))
      | inr ne ↦ step_no d a m _ m ne (sum_one d m (a + 1) n (omega arith) (omega arith))
    ]

sum_by-plus : {X : Type 0} (f g : X → ℕ) (xs : List X) → sum_by (λ x. f x + g x) xs ≡ sum_by f xs + sum_by g xs
sum_by-plus f g [] = omega arith
sum_by-plus f g (x ∷ xs) = let e = sum_by-plus f g xs in omega (arith, e, sum_by-cons f x xs, sum_by-cons g x xs, sum_by-cons (λ x. f x + g x) x xs)

sum_by-zero : {X : Type 0} (xs : List X) → sum_by (λ x. 0) xs ≡ 0
sum_by-zero [] = refl
sum_by-zero (x ∷ xs) = let e = sum_by-zero xs in omega (arith, sum_by-cons (λ x. 0) x xs)

-- what an update adds to its cell
abbrev own : (Act → ℕ) → ℕ → Update → ℕ
own f cell u = cond (nat_eq u.cell cell) (f u.act) 0

within-swap : (a b : Bool) (m : ℕ) → cond (a && b) m 0 ≡ cond b (cond a m 0) 0
within-swap true true m = refl
within-swap true false m = refl
within-swap false true m = refl
within-swap false false m = refl

-- the sum of a row is that of its updates
rows_sum : (f : Act → ℕ) (cell : ℕ) (us : List Update) → ((u : Update) → IsIn u us → u.dot.device < 16) → sum_by (λ d. sum_by (part_of f cell d) us) (range_with_len 0 16) ≡ sum_by (own f cell) us
rows_sum f cell [] h = sum_by-zero (range_with_len 0 16)
rows_sum f cell (u ∷ us) h =
    ap (λ g. sum_by g (range_with_len 0 16)) (λ i d. sum_by-cons (part_of f cell d) u us i)
    ∙ sum_by-plus (λ d. part_of f cell d u) (λ d. sum_by (part_of f cell d) us) (range_with_len 0 16)
    ∙ (λ i. (ap (λ g. sum_by g (range_with_len 0 16)) (λ j d. within-swap (nat_eq u.cell cell) (nat_eq u.dot.device d) (f u.act) j) ∙ sum_one u.dot.device (own f cell u) 0 16 (omega arith) (let k = h u (inl refl) in omega arith)) i + rows_sum f cell us (λ w k. h w (inr k)) i)
    ∙ sym (sum_by-cons (own f cell) u us)

sum-row : (f : Act → ℕ) (cell : ℕ) (us : List Update) → ((u : Update) → IsIn u us → u.dot.device < 16) → sum (row_of f cell us) ≡ sum_by (own f cell) us
unfolding row_of by_device
sum-row f cell us h = sum-map (λ d. sum_by (part_of f cell d) us) (range_with_len 0 16) ∙ rows_sum f cell us h

act_amount : (a : Act) → pos (increment a) -ℤ pos (decrement a) ≡ amount a
act_amount (Add (pos n)) = omega (arith, ints)
act_amount (Add (negsuc n)) = omega (arith, ints)
act_amount (Insert e) = omega (arith, ints)
act_amount (Remove e) = omega (arith, ints)
act_amount (Write w) = omega (arith, ints)

one_more : (c : Bool) (i d x y : ℕ) (n t : ℤ) → pos i -ℤ pos d ≡ n → pos x -ℤ pos y ≡ t → pos (cond c i 0 + x) -ℤ pos (cond c d 0 + y) ≡ cond c n (pos 0) +ℤ t
one_more true i d x y n t e k = omega (arith, ints)
one_more false i d x y n t e k = omega (arith, ints)

amounts : (cell : ℕ) (us : List Update) → pos (sum_by (own increment cell) us) -ℤ pos (sum_by (own decrement cell) us) ≡ total_amount cell us
unfolding total_amount
amounts cell [] = omega (arith, ints)
amounts cell (u ∷ us) =
    (λ i. pos (sum_by-cons (own increment cell) u us i) -ℤ pos (sum_by-cons (own decrement cell) u us i))
    ∙ one_more (nat_eq u.cell cell) (increment u.act) (decrement u.act) _ _ (amount u.act) _ (act_amount u.act) (amounts cell us)

-- a state's counter shows the sum
total_is : (cell : ℕ) (us : List Update) → ((u : Update) → IsIn u us → u.dot.device < 16) → pos (sum (row_of increment cell us)) -ℤ pos (sum (row_of decrement cell us)) ≡ total_amount cell us
total_is cell us h = (λ i. pos (sum-row increment cell us h i) -ℤ pos (sum-row decrement cell us h i)) ∙ amounts cell us

-- ---- sets

any-map : {X Y : Type 0} (f : Y → Bool) (g : X → Y) (xs : List X) → list_any f (map g xs) ≡ list_any (λ x. f (g x)) xs
any-map f g [] = refl
any-map f g (x ∷ xs) = ap (λ b. f (g x) || b) (any-map f g xs)

-- lists of the same members pass the same tests
module _ {K : Type 0} (R : K → K → Ordering) (is : (a b : K) → eq_by_cmp R a b ≡ true → a ≡ b) (itself : (a : K) → eq_by_cmp R a a ≡ true) where
  passing : (f : K → Bool) (ks : List K) → list_any f ks ≡ true → (k : K) × (list_any (eq_by_cmp R k) ks ≡ true) × (f k ≡ true)
  passing f [] e = absurd (true≢false (sym e))
  passing f (k ∷ ks) e =
      elim (f k) as (λ b. f k ≡ b → (b || list_any f ks) ≡ true → (q : K) × (list_any (eq_by_cmp R q) (k ∷ ks) ≡ true) × (f q ≡ true)) [
        | true ↦ λ h _. (k, ap (λ b. b || list_any (eq_by_cmp R k) ks) (itself k), h)
        | false ↦ λ _ h. let r = passing f ks h in (r.0, ap (λ b. eq_by_cmp R r.0 k || b) r.1 ∙ or_true (eq_by_cmp R r.0 k), r.2)
      ] refl e

  passes_one : (f : K → Bool) (k : K) (ks : List K) → list_any (eq_by_cmp R k) ks ≡ true → f k ≡ true → list_any f ks ≡ true
  passes_one f k [] e h = absurd (true≢false (sym e))
  passes_one f k (q ∷ ks) e h =
      elim (eq_by_cmp R k q) as (λ b. eq_by_cmp R k q ≡ b → (b || list_any (eq_by_cmp R k) ks) ≡ true → (f q || list_any f ks) ≡ true) [
        | true ↦ λ s _. ap (λ b. b || list_any f ks) (ap f (sym (is k q s)) ∙ h)
        | false ↦ λ _ m. ap (λ b. f q || b) (passes_one f k ks m h) ∙ or_true (f q)
      ] refl e

  any_members : (f : K → Bool) (ks ls : List K) → ((k : K) → list_any (eq_by_cmp R k) ks ≡ list_any (eq_by_cmp R k) ls) → list_any f ks ≡ list_any f ls
  any_members f ks ls h = same_tests _ _
      (λ e. let r = passing f ks e in passes_one f r.0 ls (sym (h r.0) ∙ r.1) r.2)
      (λ e. let r = passing f ls e in passes_one f r.0 ks (h r.0 ∙ r.1) r.2)

-- a list of pairs in order passes what the list passes, and so do words
pub any-pairs : (f : Pair → Bool) (ps : List Pair) → list_any f (ascending ps) ≡ list_any f ps
any-pairs f ps = any_members pair_cmp same_pair-is same_pair-refl f (ascending ps) ps (any-ascending ps)

pub any-words : (f : Word → Bool) (ws : List Word) → list_any f (ascending_words ws) ≡ list_any f ws
any-words f ws = any_members word_cmp word_is word_itself f (ascending_words ws) ws (any-ascending_words ws)

elements_is : (m : Pairing) (cell : ℕ) (us : List Update) → elements_of (pairs_of m cell us) ≡ elements_of (live m cell us)
unfolding pairs_of
elements_is m cell us = ascending_words_same _ _ (λ e. any-map (eq_by_cmp word_cmp e) (λ p. p.element) _ ∙ any-pairs (λ p. eq_by_cmp word_cmp e p.element) (live m cell us) ∙ sym (any-map (eq_by_cmp word_cmp e) (λ p. p.element) _))

has_is : (m : Pairing) (cell : ℕ) (us : List Update) (w : Word) → list_any (λ p. same_word p.element w) (pairs_of m cell us) ≡ list_any (λ e. same_word e w) (elements_of (live m cell us))
unfolding pairs_of
has_is m cell us w = any-pairs (λ p. same_word p.element w) (live m cell us) ∙ sym (any-map (λ e. same_word e w) (λ p. p.element) (live m cell us)) ∙ sym (any-words (λ e. same_word e w) (map (λ p. p.element) (live m cell us)))

-- ---- all cells

-- the content of the cell at a place
pub content_at : (ks : List RKind) (first place : ℕ) (us : List Update) → slice_get (contents_from first ks us) place ≡ option_map (λ k. content_of k (first + place) us) (slice_get ks place)
content_at [] first place us = refl
content_at (k ∷ ks) first zero us = ap (λ n. Some (content_of k n us)) (omega arith)
content_at (k ∷ ks) first (suc place) us = content_at ks (first + 1) place us ∙ ap (λ n. option_map (λ k. content_of k n us) (slice_get ks place)) (omega arith)

module _ (us : List Update) (devices : (u : Update) → IsIn u us → u.dot.device < 16) (place : ℕ) where
  word_is_value : (o : Option RKind) → cell_word (option_map (λ k. content_of k place us) o) ≡ value_word (option_map (λ k. cell_value k place us) o)
  word_is_value None = refl
  word_is_value (Some kind.Counter) = ap whole (total_is place us devices)
  word_is_value (Some (kind.Set k)) = refl
  word_is_value (Some (kind.Register k start)) = refl

  size_is_value : (o : Option RKind) → cell_size (option_map (λ k. content_of k place us) o) ≡ value_size (option_map (λ k. cell_value k place us) o)
  size_is_value None = refl
  size_is_value (Some kind.Counter) = refl
  size_is_value (Some (kind.Set k)) = ap length (elements_is AddWins place us)
  size_is_value (Some (kind.Register k start)) = refl

  has_is_value : (w : Word) (o : Option RKind) → cell_has (option_map (λ k. content_of k place us) o) w ≡ value_has (option_map (λ k. cell_value k place us) o) w
  has_is_value w None = refl
  has_is_value w (Some kind.Counter) = refl
  has_is_value w (Some (kind.Set k)) = has_is AddWins place us w
  has_is_value w (Some (kind.Register k start)) = refl

pub view_is : (shape : Shape) (us : List Update) → ((u : Update) → IsIn u us → u.dot.device < 16) → view_of (state_of_updates shape us) ≡ view_of_updates shape us
view_is shape us h =
    let at : (place : ℕ) → slice_get (contents_from 0 shape.cells.items us) place ≡ option_map (λ k. content_of k place us) (slice_get shape.cells.items place) = λ place. content_at shape.cells.items 0 place us ∙ ap (λ n. option_map (λ k. content_of k n us) (slice_get shape.cells.items place)) (omega arith) in
    λ i. record {
      word = λ place. (ap cell_word (at place) ∙ word_is_value us h place (slice_get shape.cells.items place)) i;
      size = λ place. (ap cell_size (at place) ∙ size_is_value us h place (slice_get shape.cells.items place)) i;
      has = λ place w. (ap (λ c. cell_has c w) (at place) ∙ has_is_value us h place w (slice_get shape.cells.items place)) i;
    }

pub elements_are : (shape : Shape) (us : List Update) (place : ℕ) → cell_elements (slice_get (state_of_updates shape us).cells.items place) ≡ value_elements (value_at shape us place)
elements_are shape us place =
    ap cell_elements (content_at shape.cells.items 0 place us ∙ ap (λ n. option_map (λ k. content_of k n us) (slice_get shape.cells.items place)) (omega arith))
    ∙ of_kind (slice_get shape.cells.items place)
  where
    of_kind : (o : Option RKind) → cell_elements (option_map (λ k. content_of k place us) o) ≡ value_elements (option_map (λ k. cell_value k place us) o)
    of_kind None = refl
    of_kind (Some kind.Counter) = refl
    of_kind (Some (kind.Set k)) = elements_is AddWins place us
    of_kind (Some (kind.Register k start)) = refl
