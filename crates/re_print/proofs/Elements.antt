-- The elements of pairs that ascend, by a walk that passes over those that stand before.
use Rattle.std.proofs.Common.{◌≡◌, ◌≤◌, ℕ, Bool, true, false, List, [], ◌∷◌, ◌++◌, length, drop, refl, sym, ap, subst, ◌∙◌, inl, inr, arith}
use Rattle.std.specs.Prelude.{◌||◌, ◌⊎◌, if◌then◌else◌, map, codes}
use Rattle.std.specs.declared.cmp.Ordering.{Ordering}
use Rattle.std.specs.declared.cmp.Ordering.TheVariants.{Less, Equal, Greater}
use Rattle.std.specs.Ordering.{eq_by_cmp, is_eq, ordering_then}
use Rattle.std.specs.List.{list_any, flat_map, join_by, AllByRecursion}
use Rattle.std.specs.List.Sorted.{IsStrictlySortedBy}
use Rattle.std.proofs.lemmas.List.{append_assoc, append-nil, drop_all}
use Rattle.re_terms.proofs.Ascending.{ascending_by_is}
use Rattle.re_terms.proofs.WordOrders.{ascending_words_same, same_word-is, word_cmp_same, word_cmp_total}
use Rattle.re_terms.specs.declared.word.Word.{Word}
use Rattle.re_terms.specs.declared.program.Program.{Program}
use Rattle.re_terms.specs.declared.replicated.Pair.{Pair}
use Rattle.re_terms.specs.WordOrder.{word_cmp, same_word, pair_cmp, elements_of}
use Rattle.re_print.specs.Canonical.{word_text}

-- the elements of pairs, each where it isn't the one before it; this word stands before all
abbrev pub distinct : Word → List Pair → List Word
distinct before [] = []
distinct before (x ∷ xs) = if same_word before x.element then distinct before xs else x.element ∷ distinct x.element xs

-- their text, with a comma before each
abbrev pub others_text : Program → Word → List Pair → List ℕ
others_text p before xs = flat_map (λ w. codes ", " ++ word_text p w) (distinct before xs)

-- a word is below another or the same
abbrev IsUpTo : Word → Word → Type 0
IsUpTo w v = (word_cmp w v ≡ Less) ⊎ (word_cmp w v ≡ Equal)

less_then : (a b : Ordering) → ordering_then a b ≡ Less → (a ≡ Less) ⊎ (a ≡ Equal)
less_then Less b h = inl refl
less_then Equal b h = inr refl
less_then Greater b h = absurd (cc)

element_up : (x y : Pair) → pair_cmp x y ≡ Less → IsUpTo x.element y.element
unfolding pair_cmp
element_up x y h = less_then (word_cmp x.element y.element) _ h

elements_up : (x : Pair) (xs : List Pair) → AllByRecursion (λ y. pair_cmp x y ≡ Less) xs → AllByRecursion (λ y. IsUpTo x.element y.element) xs
elements_up x [] h = tt
elements_up x (y ∷ xs) h = (element_up x y h.0, elements_up x xs h.1)

other_less : (o : Ordering) → (o ≡ Less) ⊎ (o ≡ Equal) → is_eq o ≡ false → o ≡ Less
other_less o (inl l) k = l
other_less o (inr q) k = absurd (cc (ap is_eq q))

all_above : (w v : Word) (ws : List Word) → word_cmp w v ≡ Less → AllByRecursion (λ u. word_cmp v u ≡ Less) ws → AllByRecursion (λ u. word_cmp w u ≡ Less) ws
all_above w v [] l h = tt
all_above w v (u ∷ ws) l h = (word_cmp_total.trans w v u l h.0, all_above w v ws l h.1)

-- what the walk keeps ascends
ascends : (w : Word) (xs : List Pair) → AllByRecursion (λ y. IsUpTo w y.element) xs → IsStrictlySortedBy pair_cmp xs → IsStrictlySortedBy word_cmp (w ∷ distinct w xs)
unfolding IsStrictlySortedBy same_word
ascends w [] h s = (tt, tt)
ascends w (x ∷ xs) h s =
    elim (same_word w x.element) as (λ b. same_word w x.element ≡ b → IsStrictlySortedBy word_cmp (w ∷ (if b then distinct w xs else x.element ∷ distinct x.element xs))) [
      | true ↦ λ _. ascends w xs h.1 s.1
      | false ↦ λ k. let rest = ascends x.element xs (elements_up x xs s.0) s.1 in let less = other_less (word_cmp w x.element) h.0 k in ((less, all_above w x.element (distinct x.element xs) less rest.0), rest)
    ] refl

again : (a b : Bool) → (a || b) ≡ (a || (a || b))
again true b = refl
again false b = refl

-- it keeps each element
keeps : (w : Word) (xs : List Pair) (q : Word) → list_any (eq_by_cmp word_cmp q) (w ∷ distinct w xs) ≡ list_any (eq_by_cmp word_cmp q) (w ∷ map (λ p. p.element) xs)
keeps w [] q = refl
keeps w (x ∷ xs) q =
    elim (same_word w x.element) as (λ b. same_word w x.element ≡ b → list_any (eq_by_cmp word_cmp q) (w ∷ (if b then distinct w xs else x.element ∷ distinct x.element xs)) ≡ list_any (eq_by_cmp word_cmp q) (w ∷ map (λ p. p.element) (x ∷ xs))) [
      | true ↦ λ k. keeps w xs q ∙ again (eq_by_cmp word_cmp q w) (list_any (eq_by_cmp word_cmp q) (map (λ p. p.element) xs)) ∙ ap (λ v. eq_by_cmp word_cmp q w || (eq_by_cmp word_cmp q v || list_any (eq_by_cmp word_cmp q) (map (λ p. p.element) xs))) (same_word-is w x.element k)
      | false ↦ λ _. ap (λ b. eq_by_cmp word_cmp q w || b) (keeps x.element xs q)
    ] refl

elements-more : (x : Pair) (xs : List Pair) → IsStrictlySortedBy pair_cmp (x ∷ xs) → elements_of (x ∷ xs) ≡ x.element ∷ distinct x.element xs
unfolding IsStrictlySortedBy
elements-more x xs s =
    ascending_words_same (map (λ p. p.element) (x ∷ xs)) (x.element ∷ distinct x.element xs) (λ q. sym (keeps x.element xs q))
    ∙ ascending_by_is word_cmp word_cmp_total word_cmp_same (x.element ∷ distinct x.element xs) (ascends x.element xs (elements_up x xs s.0) s.1)

elements-none : elements_of [] ≡ []
unfolding IsStrictlySortedBy
elements-none = ascending_by_is word_cmp word_cmp_total word_cmp_same [] tt

-- nothing is written of no pairs
pub none-written : (p : Program) (pairs : List Pair) (text : List ℕ) → length pairs ≡ 0 → text ≡ text ++ join_by (word_text p) (codes ", ") (elements_of pairs)
none-written p [] text e = sym (append-nil text) ∙ ap (λ ws. text ++ join_by (word_text p) (codes ", ") ws) (sym elements-none)
none-written p (x ∷ xs) text e = absurd (omega arith)

-- where the walk has written the first element and come to the end, all are written
pub all-written : (p : Program) (pairs : List Pair) (x : Pair) (xs : List Pair) (before : Word) (n : ℕ) (old start now : List ℕ) → IsStrictlySortedBy pair_cmp pairs → pairs ≡ x ∷ xs → length xs ≤ n → start ≡ old ++ word_text p x.element → now ++ others_text p before (drop n xs) ≡ start ++ others_text p x.element xs → now ≡ old ++ join_by (word_text p) (codes ", ") (elements_of pairs)
all-written p pairs x xs before n old start now s is ended begun walk =
    sym (append-nil now)
    ∙ ap (λ ys. now ++ others_text p before ys) (sym (drop_all n xs ended))
    ∙ walk
    ∙ ap (λ t. t ++ others_text p x.element xs) begun
    ∙ append_assoc old (word_text p x.element) (others_text p x.element xs)
    ∙ ap (λ ws. old ++ join_by (word_text p) (codes ", ") ws) (sym (elements-more x xs (subst (IsStrictlySortedBy pair_cmp) is s)))
    ∙ ap (λ ps. old ++ join_by (word_text p) (codes ", ") (elements_of ps)) (sym is)
