-- Tests and functions over lists.
use Rattle.std.proofs.Common.{◌≡◌, ◌<◌, ◌+◌, ◌-◌, ℕ, Bool, true, false, ◌&&◌, ◌||◌, cond, List, [], ◌∷◌, ◌++◌, map, length, max, take, get_or, refl, sym, ap, ◌∙◌, arith}
use Rattle.std.specs.Prelude.{filter}
use Rattle.std.specs.List.{All, list_any}
use Rattle.std.proofs.lemmas.List.{map_more}
use Rattle.re_terms.specs.Listed.{Listed, plain}
use Rattle.re_terms.specs.Dependencies.{level_above}
use Rattle.std.proofs.lemmas.List.Elements.{All-head, All-tail}

-- two functions that agree on a list
pub map_same : {A B : Type 0} (f g : A → B) (xs : List A) → All (λ x. f x ≡ g x) xs → map f xs ≡ map g xs
map_same f g [] same = refl
map_same f g (x ∷ xs) same = ap (λ y. y ∷ map f xs) (All-head (λ x. f x ≡ g x) x xs same) ∙ ap (λ ys. g x ∷ ys) (map_same f g xs (All-tail (λ x. f x ≡ g x) x xs same))

pub list_any_same : {A : Type 0} (f g : A → Bool) (xs : List A) → All (λ x. f x ≡ g x) xs → list_any f xs ≡ list_any g xs
list_any_same f g [] same = refl
list_any_same f g (x ∷ xs) same = ap (λ b. b || list_any f xs) (All-head (λ x. f x ≡ g x) x xs same) ∙ ap (λ b. g x || b) (list_any_same f g xs (All-tail (λ x. f x ≡ g x) x xs same))

filter_step : {A : Type 0} (p q : A → Bool) (x : A) (xs : List A) (b : Bool) → list_any p (filter q xs) ≡ list_any (λ y. q y && p y) xs → list_any p (cond b (x ∷ filter q xs) (filter q xs)) ≡ ((b && p x) || list_any (λ y. q y && p y) xs)
filter_step p q x xs true e = ap (λ b. p x || b) e
filter_step p q x xs false e = e

-- a test of what passes another
pub list_any-filter : {A : Type 0} (p q : A → Bool) (xs : List A) → list_any p (filter q xs) ≡ list_any (λ x. q x && p x) xs
list_any-filter p q [] = refl
list_any-filter p q (x ∷ xs) = filter_step p q x xs (q x) (list_any-filter p q xs)

or_swap : (a b c d : Bool) → ((a || b) || (c || d)) ≡ ((a || c) || (b || d))
or_swap true b c d = refl
or_swap false true true d = refl
or_swap false true false d = refl
or_swap false false c d = refl

-- one of two tests
pub list_any-or : {A : Type 0} (p q : A → Bool) (xs : List A) → list_any (λ x. p x || q x) xs ≡ (list_any p xs || list_any q xs)
list_any-or p q [] = refl
list_any-or p q (x ∷ xs) = ap (λ b. (p x || q x) || b) (list_any-or p q xs) ∙ or_swap (p x) (q x) (list_any p xs) (list_any q xs)

and_or : (a b c : Bool) → ((a || b) && c) ≡ ((a && c) || (b && c))
and_or true b true = refl
and_or true true false = refl
and_or true false false = refl
and_or false b c = refl

pub and_or_right : (a b c : Bool) → ((a || b) && c) ≡ ((a && c) || (b && c))
and_or_right = and_or

-- a test beside one that doesn't look at the element
pub list_any-and : {A : Type 0} (p : A → Bool) (b : Bool) (xs : List A) → list_any (λ x. p x && b) xs ≡ (list_any p xs && b)
list_any-and p b [] = refl
list_any-and p b (x ∷ xs) = ap (λ c. (p x && b) || c) (list_any-and p b xs) ∙ sym (and_or (p x) (list_any p xs) b)

pub list_any-never : {A : Type 0} (xs : List A) → list_any (λ x. false) xs ≡ false
list_any-never [] = refl
list_any-never (x ∷ xs) = list_any-never xs

-- some element of one list passes with some element of another, whichever is taken first
pub list_any-swap : {A B : Type 0} (p : A → B → Bool) (xs : List A) (ys : List B) → list_any (λ x. list_any (p x) ys) xs ≡ list_any (λ y. list_any (λ x. p x y) xs) ys
list_any-swap p [] ys = sym (list_any-never ys)
list_any-swap p (x ∷ xs) ys = ap (λ b. list_any (p x) ys || b) (list_any-swap p xs ys) ∙ sym (list_any-or (p x) (λ y. list_any (λ z. p z y) xs) ys)

pub list_any-map : {A B : Type 0} (p : B → Bool) (f : A → B) (xs : List A) → list_any p (map f xs) ≡ list_any (λ x. p (f x)) xs
list_any-map p f [] = refl
list_any-map p f (x ∷ xs) = ap (λ b. p (f x) || b) (list_any-map p f xs)

-- one element more
pub level_above-push : (levels : List ℕ) (l : ℕ) → level_above (levels ++ l ∷ []) ≡ max (level_above levels) (l + 1)
level_above-push [] l = omega arith
level_above-push (m ∷ levels) l = omega (arith, level_above-push levels l)

pub level_above-more : (f : ℕ → ℕ) (xs : List ℕ) (i : ℕ) → i < length xs → level_above (map f (take (i + 1) xs)) ≡ max (level_above (map f (take i xs))) (f (get_or xs i 0) + 1)
level_above-more f xs i within = ap level_above (map_more f xs i 0 within) ∙ level_above-push (map f (take i xs)) (f (get_or xs i 0))

-- a list with nothing reserved, by its items
pub plain_is : (found : Listed ℕ) (xs : List ℕ) → found.items ≡ xs → found.spare ≡ 0 → found ≡ plain xs
plain_is found xs items spare =
    let first : found ≡ record { items = xs; spare = found.spare } = ap (λ ys. record { items = ys; spare = found.spare }) items in
    first ∙ ap (λ n. record { items = xs; spare = n }) spare

-- a push onto it
pub plain_push : (old new : Listed ℕ) (xs : List ℕ) (x : ℕ) → old ≡ plain xs → new ≡ record { items = old.items ++ x ∷ []; spare = old.spare - 1 } → new ≡ plain (xs ++ x ∷ [])
plain_push old new xs x was is = plain_is new (xs ++ x ∷ []) (ap (λ l. l.items) is ∙ ap (λ l. l.items ++ x ∷ []) was) (ap (λ l. l.spare) is ∙ ap (λ l. l.spare - 1) was)
