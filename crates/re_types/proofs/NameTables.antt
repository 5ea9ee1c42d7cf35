-- Places in a table whose keys lend their bytes.
use Rattle.std.proofs.Common.{ℕ, suc, ◌≡◌, ◌+◌, Bool, true, false, cond, not, if◌then◌else◌, List, [], ◌∷◌, ◌++◌, ◌||◌, length, map, Some, None, is_some, nat_lt, refl, sym, ap, ◌∙◌, arith}
use Rattle.std.specs.Borrow.{Bor}
use Rattle.std.specs.List.{position, position_or_len, prefix_len, list_any}
use Rattle.std.proofs.lemmas.List.{length-map, map-append}
use Rattle.std.proofs.lemmas.Grind.{common_steps}

prefix_len-map : {A B : Type 0} (p : B → Bool) (f : A → B) (xs : List A) → prefix_len p (map f xs) ≡ prefix_len (λ x. p (f x)) xs
prefix_len-map p f [] = refl
prefix_len-map p f (x ∷ xs) = ap (λ n. cond (p (f x)) (1 + n) 0) (prefix_len-map p f xs)

pub position-map : {A B : Type 0} (p : B → Bool) (f : A → B) (xs : List A) → position p (map f xs) ≡ position (λ x. p (f x)) xs
position-map p f xs = rw (prefix_len-map (λ y. not (p y)) f xs, length-map xs f) refl

any_step : (c b : Bool) (n m : ℕ) → b ≡ nat_lt n m → (c || b) ≡ nat_lt (cond (not c) (1 + n) 0) (suc m)
any_step true b n m e = grind (arith, common_steps)
any_step false b n m e = e ∙ grind (arith, common_steps)

some_if : (c : Bool) (n : ℕ) → is_some (cond c (Some n) None) ≡ c
some_if true n = refl
some_if false n = refl

list_any-place : {A : Type 0} (p : A → Bool) (xs : List A) → list_any p xs ≡ nat_lt (position_or_len p xs) (length xs)
list_any-place p [] = refl
list_any-place p (x ∷ xs) = any_step (p x) _ _ _ (list_any-place p xs)

pub is_some-position : {A : Type 0} (p : A → Bool) (xs : List A) → is_some (position p xs) ≡ list_any p xs
is_some-position p xs = some_if _ _ ∙ sym (list_any-place p xs)

-- a name is in a table exactly where its bytes have a place among the names
pub has-place : (p : List ℕ → Bool) (keys : List (Bor (List ℕ))) → list_any (λ key. p key.now) keys ≡ is_some (position p (map (λ key. key.now) keys))
has-place p keys = sym (is_some-position (λ (key : Bor (List ℕ)). p key.now) keys) ∙ ap is_some (sym (position-map p (λ (key : Bor (List ℕ)). key.now) keys))

-- a new name stands behind the others
inserted_by : (present : Bool) (keys new : List (Bor (List ℕ))) (key : Bor (List ℕ)) → present ≡ false → new ≡ (if present then keys else keys ++ key ∷ []) → map (λ k. k.now) new ≡ map (λ k. k.now) keys ++ key.now ∷ []
inserted_by true keys new key absent e = absurd (cc)
inserted_by false keys new key absent e = ap (map (λ (k : Bor (List ℕ)). k.now)) e ∙ map-append (λ (k : Bor (List ℕ)). k.now) keys (key ∷ [])

pub inserted : (p : List ℕ → Bool) (keys new : List (Bor (List ℕ))) (key : Bor (List ℕ)) → position p (map (λ k. k.now) keys) ≡ None → new ≡ (if list_any (λ k. p k.now) keys then keys else keys ++ key ∷ []) → map (λ k. k.now) new ≡ map (λ k. k.now) keys ++ key.now ∷ []
inserted p keys new key absent e = inserted_by (list_any (λ (k : Bor (List ℕ)). p k.now) keys) keys new key (has-place p keys ∙ ap is_some absent) e
