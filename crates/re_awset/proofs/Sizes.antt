-- How many elements pairs that ascend have, from the front.
use Rattle.std.proofs.Common.{◌≡◌, ℕ, zero, suc, ◌+◌, ◌-◌, ◌<◌, ◌≤◌, Bool, true, false, cond, not, List, [], ◌∷◌, ◌++◌, refl, sym, ap, ◌∙◌, arith, inl, inr, length, get_or, take, length-append}
use Rattle.std.specs.Prelude.{◌||◌, ◌⊎◌, map, pos}
use Rattle.std.specs.declared.cmp.Ordering.{Ordering}
use Rattle.std.specs.declared.cmp.Ordering.TheVariants.{Less, Equal, Greater}
use Rattle.std.specs.Ordering.{eq_by_cmp, is_eq, is_lt, ordering_reverse}
use Rattle.std.specs.List.{list_any, AllByRecursion}
use Rattle.std.specs.List.Sorted.{IsStrictlySortedBy}
use Rattle.std.proofs.lemmas.Cmp.{tied_itself}
use Rattle.std.proofs.lemmas.List.{map-append, take_all, take_more}
use Rattle.re_terms.proofs.Ascending.{ascending_by_is, ascending_by_sorted}
use Rattle.re_terms.proofs.Lists.{any-append}
use Rattle.re_terms.proofs.Values.{any-words}
use Rattle.re_terms.proofs.WordOrders.{any-ascending_words, ascending_words_same, same_word-is, same_word-refl, word_is, word_cmp_same, word_cmp_total}
use Rattle.re_terms.specs.declared.word.Word.{Word}
use Rattle.re_terms.specs.declared.word.Word.TheVariants as word
use Rattle.re_terms.specs.declared.replicated.Pair.{Pair}
use Rattle.re_terms.specs.WordOrder.{word_cmp, same_word, pair_cmp, ascending_words, elements_of}
use Rattle.re_awset.proofs.Fronts.{or_none}
use Rattle.re_awset.proofs.Ordered.{all_below, none_other, sorted_join}
use Rattle.re_awset.proofs.Splits.{element_up}

-- a word is below another or the same
abbrev pub IsUpTo : Word → Word → Type 0
IsUpTo w v = (word_cmp v w ≡ Less) ⊎ (word_cmp v w ≡ Equal)

all_at : {X : Type 0} (P : X → Type 0) (xs : List X) (k : ℕ) (d : X) → AllByRecursion P xs → k < length xs → P (get_or xs k d)
all_at P [] k d h l = absurd (omega arith)
all_at P (x ∷ xs) zero d h l = h.0
all_at P (x ∷ xs) (suc k) d h l = all_at P xs k d h.1 (omega arith)

-- the elements before a place are up to that at the place
up_to_place : (xs : List Pair) (i : ℕ) (d : Pair) → IsStrictlySortedBy pair_cmp xs → i < length xs → AllByRecursion (IsUpTo (get_or xs i d).element) (map (λ p. p.element) (take i xs))
unfolding IsStrictlySortedBy
up_to_place [] i d s l = absurd (omega arith)
up_to_place (x ∷ xs) zero d s l = tt
up_to_place (x ∷ xs) (suc i) d s l = (element_up x (get_or xs i d) (all_at (λ y. pair_cmp x y ≡ Less) xs i d s.0 (omega arith)), up_to_place xs i d s.1 (omega arith))

any-map : {X Y : Type 0} (f : Y → Bool) (g : X → Y) (xs : List X) → list_any f (map g xs) ≡ list_any (λ x. f (g x)) xs
any-map f g [] = refl
any-map f g (x ∷ xs) = ap (λ b. f (g x) || b) (any-map f g xs)

is_eq-reverse : (o : Ordering) → is_eq (ordering_reverse o) ≡ is_eq o
is_eq-reverse Less = refl
is_eq-reverse Equal = refl
is_eq-reverse Greater = refl

-- sameness both ways
same_back : (e w : Word) → same_word w e ≡ eq_by_cmp word_cmp e w
unfolding same_word
same_back e w = ap is_eq (word_cmp_total.antisymm w e) ∙ is_eq-reverse (word_cmp e w)

any_same_back : (e : Word) (ws : List Word) → list_any (λ w. same_word w e) ws ≡ list_any (eq_by_cmp word_cmp e) ws
any_same_back e [] = refl
any_same_back e (w ∷ ws) = λ i. same_back e w i || any_same_back e ws i

-- what is up to a word and none of which is the same is below it
all_less : (e : Word) (ws : List Word) → AllByRecursion (IsUpTo e) ws → list_any (λ w. same_word w e) ws ≡ false → AllByRecursion (λ w. word_cmp w e ≡ Less) ws
unfolding same_word
all_less e [] h n = tt
all_less e (w ∷ ws) h n = let o = or_none (is_eq (word_cmp w e)) _ n in (less_here (word_cmp w e) h.0 o.0, all_less e ws h.1 o.1)
  where
    less_here : (o : Ordering) → (o ≡ Less) ⊎ (o ≡ Equal) → is_eq o ≡ false → o ≡ Less
    less_here o (inl l) k = l
    less_here o (inr q) k = absurd (cc (ap is_eq q))

or_false : (b : Bool) → (b || false) ≡ b
or_false true = refl
or_false false = refl

-- a word that is there adds no member
known : (ws : List Word) (e q : Word) (b : Bool) → eq_by_cmp word_cmp q e ≡ b → list_any (λ w. same_word w e) ws ≡ true → (list_any (eq_by_cmp word_cmp q) ws || (b || false)) ≡ list_any (eq_by_cmp word_cmp q) ws
known ws e q true k h =
    let here : list_any (eq_by_cmp word_cmp q) ws ≡ true = ap (λ v. list_any (eq_by_cmp word_cmp v) ws) (word_is q e k) ∙ sym (any_same_back e ws) ∙ h in
    ap (λ b. b || true) here ∙ sym here
known ws e q false k h = or_false (list_any (eq_by_cmp word_cmp q) ws)

-- a word above all others stands behind them
ascending-push : (ws : List Word) (e : Word) → AllByRecursion (λ w. word_cmp w e ≡ Less) ws → ascending_words (ws ++ e ∷ []) ≡ ascending_words ws ++ e ∷ []
unfolding IsStrictlySortedBy
ascending-push ws e below =
    let less = all_below (λ w. word_cmp w e) (ascending_words ws) (any-words (λ w. not (is_lt (word_cmp w e))) ws ∙ none_other (λ w. word_cmp w e) ws below) in
    let sorted = sorted_join word_cmp word_cmp_total (ascending_words ws) [] e (ascending_by_sorted word_cmp ws) (tt, tt) less in
    ascending_words_same (ws ++ e ∷ []) (ascending_words ws ++ e ∷ []) (λ q. any-append (eq_by_cmp word_cmp q) ws (e ∷ []) ∙ ap (λ b. b || list_any (eq_by_cmp word_cmp q) (e ∷ [])) (sym (any-ascending_words ws q)) ∙ sym (any-append (eq_by_cmp word_cmp q) (ascending_words ws) (e ∷ [])))
    ∙ ascending_by_is word_cmp word_cmp_total word_cmp_same (ascending_words ws ++ e ∷ []) sorted

-- one word more at the end
length-words : (ws : List Word) (e : Word) → AllByRecursion (IsUpTo e) ws → length (ascending_words (ws ++ e ∷ [])) ≡ length (ascending_words ws) + cond (list_any (λ w. same_word w e) ws) 0 1
length-words ws e up =
    elim (list_any (λ w. same_word w e) ws) as (λ b. list_any (λ w. same_word w e) ws ≡ b → length (ascending_words (ws ++ e ∷ [])) ≡ length (ascending_words ws) + cond b 0 1) [
      | true ↦ λ h. ap length (ascending_words_same (ws ++ e ∷ []) ws (λ q. any-append (eq_by_cmp word_cmp q) ws (e ∷ []) ∙ known ws e q (eq_by_cmp word_cmp q e) refl h)) ∙ omega arith
      | false ↦ λ h. ap length (ascending-push ws e (all_less e ws up h)) ∙ length-append (ascending_words ws) (e ∷ [])
    ] refl

-- one pair more is an element more where none before it has its element
pub size-more : (xs : List Pair) (i : ℕ) (d : Pair) → IsStrictlySortedBy pair_cmp xs → i < length xs → length (elements_of (take (i + 1) xs)) ≡ length (elements_of (take i xs)) + cond (list_any (λ p. same_word p.element (get_or xs i d).element) (take i xs)) 0 1
size-more xs i d s l =
    let e = (get_or xs i d).element in
    let ws = map (λ p. p.element) (take i xs) in
    ap (λ ps. length (elements_of ps)) (take_more xs i d l)
    ∙ ap (λ vs. length (ascending_words vs)) (map-append (λ p. p.element) (take i xs) (get_or xs i d ∷ []))
    ∙ length-words ws e (up_to_place xs i d s l)
    ∙ ap (λ b. length (ascending_words ws) + cond b 0 1) (any-map (λ w. same_word w e) (λ p. p.element) (take i xs))

-- of three pairs that ascend, the second has the third's element where the first has it
between_same : (x z y : Pair) → pair_cmp x z ≡ Less → pair_cmp z y ≡ Less → same_word x.element y.element ≡ true → same_word z.element y.element ≡ true
between_same x z y a b h = by_first (element_up x z a) (element_up z y b)
  where
    less_itself : word_cmp x.element y.element ≡ Less → x.element ≡ y.element → ⊥
    less_itself l e = cc (sym (tied_itself word_cmp_total y.element) ∙ ap (λ w. word_cmp w y.element) (sym e) ∙ l)

    by_first : (word_cmp x.element z.element ≡ Less) ⊎ (word_cmp x.element z.element ≡ Equal) → (word_cmp z.element y.element ≡ Less) ⊎ (word_cmp z.element y.element ≡ Equal) → same_word z.element y.element ≡ true
    by_first (inr q) up = ap (λ w. same_word w y.element) (sym (word_cmp_same x.element z.element q)) ∙ h
    by_first (inl l) (inr q) = ap (λ w. same_word w y.element) (word_cmp_same z.element y.element q) ∙ same_word-refl y.element
    by_first (inl l) (inl m) = absurd (less_itself (word_cmp_total.trans x.element z.element y.element l m) (same_word-is x.element y.element h))

-- each pair is below the next
sorted_next : (xs : List Pair) (k : ℕ) (d : Pair) → IsStrictlySortedBy pair_cmp xs → suc k < length xs → pair_cmp (get_or xs k d) (get_or xs (suc k) d) ≡ Less
unfolding IsStrictlySortedBy
sorted_next [] k d s l = absurd (omega arith)
sorted_next (x ∷ xs) zero d s l = all_at (λ y. pair_cmp x y ≡ Less) xs 0 d s.0 (omega arith)
sorted_next (x ∷ xs) (suc k) d s l = sorted_next xs k d s.1 (omega arith)

absorbed : (a b : Bool) → (a ≡ true → b ≡ true) → (a || b) ≡ b
absorbed true b h = sym (h refl)
absorbed false b h = refl

-- an earlier pair has the element at a place where the one before it has
any-before : (xs : List Pair) (k : ℕ) (d : Pair) → IsStrictlySortedBy pair_cmp xs → suc k < length xs → list_any (λ p. same_word p.element (get_or xs (suc k) d).element) (take (suc k) xs) ≡ same_word (get_or xs k d).element (get_or xs (suc k) d).element
unfolding IsStrictlySortedBy
any-before [] k d s l = absurd (omega arith)
any-before (x ∷ xs) zero d s l = or_false _
any-before (x ∷ xs) (suc k) d s l =
    ap (λ b. same_word x.element (get_or xs (suc k) d).element || b) (any-before xs k d s.1 (omega arith))
    ∙ absorbed _ _ (between_same x (get_or xs k d) (get_or xs (suc k) d) (all_at (λ y. pair_cmp x y ≡ Less) xs k d s.0 (omega arith)) (sorted_next xs k d s.1 (omega arith)))

-- the same by the place
pub any-before_place : (xs : List Pair) (place : ℕ) (d : Pair) → IsStrictlySortedBy pair_cmp xs → 0 < place → place < length xs → list_any (λ p. same_word p.element (get_or xs place d).element) (take place xs) ≡ same_word (get_or xs (place - 1) d).element (get_or xs place d).element
any-before_place xs zero d s some l = absurd (omega arith)
any-before_place xs (suc k) d s some l =
    let before : suc k - 1 ≡ k = omega arith in
    any-before xs k d s l ∙ ap (λ n. same_word (get_or xs n d).element (get_or xs (suc k) d).element) (sym before)

-- no pairs have no elements
pub size-none : length (elements_of []) ≡ 0
unfolding IsStrictlySortedBy
size-none = ap length (ascending_by_is word_cmp word_cmp_total word_cmp_same [] tt)

-- a pair to read where a list ends
abbrev pub some_pair : Pair
some_pair = record { element = word.Int (pos 0); dot = record { device = 0; number = 0 } }

elements-take : (xs : List Pair) (i : ℕ) → IsStrictlySortedBy pair_cmp xs → i ≤ length xs → length (elements_of (take i xs)) ≤ i
elements-take xs zero s l = let none = size-none in omega arith
elements-take xs (suc i) s l =
    let more = size-more xs i some_pair s (omega arith) in
    let next : i + 1 ≡ suc i = omega arith in
    let same : length (elements_of (take (i + 1) xs)) ≡ length (elements_of (take (suc i) xs)) = ap (λ n. length (elements_of (take n xs))) next in
    let rest = elements-take xs i s (omega arith) in
    let step : cond (list_any (λ p. same_word p.element (get_or xs i some_pair).element) (take i xs)) 0 1 ≤ 1 = elim (list_any (λ p. same_word p.element (get_or xs i some_pair).element) (take i xs)) as (λ b. cond b 0 1 ≤ 1) [ true ↦ omega arith | false ↦ omega arith ] in
    omega arith

-- there are at most as many elements as pairs
pub elements-le-pairs : (xs : List Pair) → IsStrictlySortedBy pair_cmp xs → length (elements_of xs) ≤ length xs
elements-le-pairs xs s = let whole : length (elements_of (take (length xs) xs)) ≡ length (elements_of xs) = ap (λ l. length (elements_of l)) (take_all (length xs) xs (omega arith)) in let few = elements-take xs (length xs) s (omega arith) in omega arith
