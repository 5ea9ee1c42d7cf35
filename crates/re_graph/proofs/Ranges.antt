-- Filters of ascending ranges.
use Rattle.std.proofs.Common.{◌≡◌, ◌<◌, ◌≤◌, ◌+◌, ◌==◌, ◌⊎◌, inl, inr, ℕ, zero, suc, Bool, true, false, ◌&&◌, ◌||◌, cond, List, [], ◌∷◌, ◌++◌, length, get_or, refl, sym, ap, subst, ◌∙◌, arith}
use Rattle.std.specs.Prelude.{filter, nat_lt, nat_le, not}
use Rattle.std.specs.List.{All, list_any, range_with_len}
use Rattle.std.proofs.lemmas.Bool.{cases_eq, eq-eqb, ne_eqb}
use Rattle.std.proofs.lemmas.List.{append-nil}
use Rattle.std.proofs.lemmas.List.Filters.{length-filter_both}
use Rattle.std.proofs.lemmas.List.FromFn.{length-range_with_len, get_or-range_with_len}
use Rattle.std.proofs.lemmas.List.Elements.{filter-append}
use Rattle.re_graph.specs.Kept.{is_among}
use Rattle.re_graph.proofs.Lists.{list_any_same, list_any-filter, list_any-and}

-- one number more at the end
pub range-more : (a n : ℕ) → range_with_len a (n + 1) ≡ range_with_len a n ++ (a + n) ∷ []
range-more a zero = ap (λ m. m ∷ []) (omega arith)
range-more a (suc n) = let e : range_with_len (a + 1) (n + 1) ≡ range_with_len (a + 1) n ++ (a + 1 + n) ∷ [] = range-more (a + 1) n in let s : a + 1 + n ≡ a + suc n = omega arith in let m : suc n + 1 ≡ suc (n + 1) = omega arith in ap (range_with_len a) m ∙ ap (λ xs. a ∷ xs) (e ∙ ap (λ k. range_with_len (a + 1) n ++ k ∷ []) s)

one_more : (p : ℕ → Bool) (b : Bool) (xs : List ℕ) (n : ℕ) → filter p xs ++ cond b (n ∷ []) [] ≡ cond b (filter p xs ++ n ∷ []) (filter p xs)
one_more p true xs n = refl
one_more p false xs n = append-nil (filter p xs)

-- what passes among one number more
pub filter_range-more : (p : ℕ → Bool) (n : ℕ) → filter p (range_with_len 0 (n + 1)) ≡ cond (p n) (filter p (range_with_len 0 n) ++ n ∷ []) (filter p (range_with_len 0 n))
filter_range-more p n =
    let z : 0 + n ≡ n = omega arith in
    ap (filter p) (range-more 0 n ∙ ap (λ k. range_with_len 0 n ++ k ∷ []) z)
    ∙ filter-append p (range_with_len 0 n) (n ∷ [])
    ∙ one_more p (p n) (range_with_len 0 n) n

pub filter_range-takes : (p : ℕ → Bool) (n : ℕ) → p n ≡ true → filter p (range_with_len 0 (n + 1)) ≡ filter p (range_with_len 0 n) ++ n ∷ []
filter_range-takes p n passes = filter_range-more p n ∙ ap (λ b. cond b (filter p (range_with_len 0 n) ++ n ∷ []) (filter p (range_with_len 0 n))) passes

pub filter_range-skips : (p : ℕ → Bool) (n : ℕ) → p n ≡ false → filter p (range_with_len 0 (n + 1)) ≡ filter p (range_with_len 0 n)
filter_range-skips p n fails = filter_range-more p n ∙ ap (λ b. cond b (filter p (range_with_len 0 n) ++ n ∷ []) (filter p (range_with_len 0 n))) fails

gap_by : (p : ℕ → Bool) (a n : ℕ) → (a ≤ n → filter p (range_with_len 0 n) ≡ filter p (range_with_len 0 a)) → a ≤ n + 1 → ((i : ℕ) → a ≤ i → i < n + 1 → p i ≡ false) → (a ≡ n + 1) ⊎ (a ≡ n + 1 → ⊥) → filter p (range_with_len 0 (n + 1)) ≡ filter p (range_with_len 0 a)
gap_by p a n earlier order fails (inl e) = ap (λ m. filter p (range_with_len 0 m)) (sym e)
gap_by p a n earlier order fails (inr other) = filter_range-skips p n (fails n (omega arith) (omega arith)) ∙ earlier (omega arith)

-- nothing passes between two places
pub filter_range-gap : (p : ℕ → Bool) (a n : ℕ) → a ≤ n → ((i : ℕ) → a ≤ i → i < n → p i ≡ false) → filter p (range_with_len 0 n) ≡ filter p (range_with_len 0 a)
filter_range-gap p a zero order fails = let e : 0 ≡ a = omega arith in ap (λ m. filter p (range_with_len 0 m)) e
filter_range-gap p a (suc n) order fails =
    let s : suc n ≡ n + 1 = omega arith in
    ap (λ m. filter p (range_with_len 0 m)) s
    ∙ gap_by p a n (λ o. filter_range-gap p a n o (λ i from to. fails i from (omega arith))) (omega arith) (λ i from to. fails i from (omega arith)) (cases_eq a (n + 1))

-- how many pass is at most how many there are
pub length-filter_range : (p : ℕ → Bool) (n : ℕ) → length (filter p (range_with_len 0 n)) ≤ n
length-filter_range p n = omega (arith, length-filter_both p (λ x. not (p x)) (λ x. refl) (range_with_len 0 n), length-range_with_len 0 n)

among_by : (id a n : ℕ) → is_among (range_with_len (a + 1) n) id ≡ (nat_lt a id && nat_lt id (a + 1 + n)) → ((a == id) || is_among (range_with_len (a + 1) n) id) ≡ (nat_le a id && nat_lt id (a + suc n))
among_by id a n rest = ap (λ b. (a == id) || b) rest ∙ bounds
  where
    bounds : ((a == id) || (nat_lt a id && nat_lt id (a + 1 + n))) ≡ (nat_le a id && nat_lt id (a + suc n))
    bounds = grind arith

-- what is among the numbers from a on
pub is_among-range : (id a n : ℕ) → is_among (range_with_len a n) id ≡ (nat_le a id && nat_lt id (a + n))
is_among-range id a zero = none
  where
    none : false ≡ (nat_le a id && nat_lt id (a + zero))
    none = grind arith
is_among-range id a (suc n) = among_by id a n (is_among-range id (a + 1) n ∙ same)
  where
    same : (nat_le (a + 1) id && nat_lt id (a + 1 + n)) ≡ (nat_lt a id && nat_lt id (a + 1 + n))
    same = grind arith

-- what is among the numbers below n that pass
pub is_among-filter : (p : ℕ → Bool) (id n : ℕ) → is_among (filter p (range_with_len 0 n)) id ≡ (nat_lt id n && p id)
is_among-filter p id n =
    list_any-filter (λ other. other == id) p (range_with_len 0 n)
    ∙ list_any_same (λ x. p x && (x == id)) (λ x. (x == id) && p id) (range_with_len 0 n) (λ k d within. same (get_or (range_with_len 0 n) k d))
    ∙ list_any-and (λ x. x == id) (p id) (range_with_len 0 n)
    ∙ ap (λ b. b && p id) (is_among-range id 0 n ∙ bound)
  where
    swap : (b : Bool) → (b && true) ≡ b
    swap true = refl
    swap false = refl

    never : (b : Bool) → (b && false) ≡ false
    never true = refl
    never false = refl

    by : (x : ℕ) → (x ≡ id) ⊎ (x ≡ id → ⊥) → (p x && (x == id)) ≡ ((x == id) && p id)
    by x (inl e) = ap (λ y. p y && (y == id)) e ∙ ap (λ b. p id && b) (eq-eqb id id refl) ∙ swap (p id) ∙ ap (λ b. b && p id) (sym (eq-eqb x id e))
    by x (inr other) = ap (λ b. p x && b) (ne_eqb x id other) ∙ never (p x) ∙ ap (λ b. b && p id) (sym (ne_eqb x id other))

    same : (x : ℕ) → (p x && (x == id)) ≡ ((x == id) && p id)
    same x = by x (cases_eq x id)

    bound : (nat_le 0 id && nat_lt id (0 + n)) ≡ nat_lt id n
    bound = grind arith

swap_true : (b : Bool) → (b && true) ≡ b
swap_true true = refl
swap_true false = refl

-- a test of one number alone
pub list_any-at : (p : ℕ → Bool) (id n : ℕ) → id < n → list_any (λ x. (x == id) && p x) (range_with_len 0 n) ≡ p id
list_any-at p id n within =
    list_any_same (λ x. (x == id) && p x) (λ x. (x == id) && p id) (range_with_len 0 n) (λ k d inside. same (get_or (range_with_len 0 n) k d) (cases_eq (get_or (range_with_len 0 n) k d) id))
    ∙ list_any-and (λ x. x == id) (p id) (range_with_len 0 n)
    ∙ ap (λ b. b && p id) (is_among-range id 0 n ∙ bound)
  where
    same : (x : ℕ) → (x ≡ id) ⊎ (x ≡ id → ⊥) → ((x == id) && p x) ≡ ((x == id) && p id)
    same x (inl e) = ap (λ y. (x == id) && p y) e
    same x (inr other) = ap (λ b. b && p x) (ne_eqb x id other) ∙ ap (λ b. b && p id) (sym (ne_eqb x id other))

    bound : (nat_le 0 id && nat_lt id (0 + n)) ≡ true
    bound = grind arith

-- all numbers of a range
pub All-range : (P : ℕ → Type 0) (a n : ℕ) → ((x : ℕ) → a ≤ x → x < a + n → P x) → All P (range_with_len a n)
All-range P a n holds k d inside =
    let short : k < n = omega (arith, length-range_with_len a n) in
    subst P (sym (get_or-range_with_len a n k d short)) (holds (a + k) (omega arith) (omega arith))
