-- What stands at each place of a list of files.
use Rattle.std.proofs.Common.{◌≡◌, ◌≢◌, ◌<◌, ◌≤◌, ℕ, zero, suc, List, [], ◌∷◌, ◌++◌, Option, Some, None, length, set, slice_get, get_or, unwrap_or, sym, ◌∙◌, ap, subst, refl, get_or-set_same, get_or-set_other, inl, inr}
use Rattle.std.proofs.lemmas.Bool.{cases_eq}
use Rattle.std.proofs.lemmas.List.{length-map}
use Rattle.std.proofs.Math.ListN.{length-set}
use Rattle.std.proofs.Math.ListN.{get_or-map}
use Rattle.std.proofs.lemmas.Option.{unwrap_or-slice_get, get_or_from_slice_get, slice_get_within}
use Rattle.re_outside.specs.Listed.{Listed, plain}
use Rattle.re_fakes.specs.Files.{all_bytes, file_at, SameFiles, IsPut}

-- the bytes at a place are those of the list there
pub at_place : (xs : List (Listed ℕ)) (i : ℕ) → file_at (all_bytes xs) i ≡ (get_or xs i (plain [])).items
at_place xs i = get_or-map (λ (b : Listed ℕ). b.items) xs i (plain [])

-- no list is there
pub none_there : (xs : List (Listed ℕ)) (i : ℕ) → None ≡ slice_get xs i → [] ≡ file_at (all_bytes xs) i
none_there xs i e = ap (λ (o : Option (Listed ℕ)). (unwrap_or o (plain [])).items) e ∙ ap (λ (l : Listed ℕ). l.items) (unwrap_or-slice_get xs i (plain [])) ∙ sym (at_place xs i)

-- a list is there
pub found_there : (xs : List (Listed ℕ)) (i : ℕ) (x : Listed ℕ) → slice_get xs i ≡ Some x → x.items ≡ file_at (all_bytes xs) i
found_there xs i x e = sym (at_place xs i ∙ ap (λ (l : Listed ℕ). l.items) (get_or_from_slice_get xs i x (plain []) e))

-- a list is put there
pub set_put : (xs : List (Listed ℕ)) (i : ℕ) (b : Listed ℕ) → i < length xs → IsPut (all_bytes xs) (all_bytes (set xs i b)) i b.items
set_put xs i b there = record {
  own = at_place (set xs i b) i ∙ ap (λ (l : Listed ℕ). l.items) (get_or-set_same xs i b (plain []) there);
  others = λ other apart. at_place (set xs i b) other ∙ ap (λ (l : Listed ℕ). l.items) (get_or-set_other xs i other b (plain []) apart) ∙ sym (at_place xs other);
}

-- one list more is empty
pub push_same : (xs : List (Listed ℕ)) → SameFiles (all_bytes xs) (all_bytes (xs ++ plain [] ∷ []))
push_same xs i = at_place (xs ++ plain [] ∷ []) i ∙ ap (λ (l : Listed ℕ). l.items) (more xs i) ∙ sym (at_place xs i)
  where
    more : (ys : List (Listed ℕ)) (k : ℕ) → get_or (ys ++ plain [] ∷ []) k (plain []) ≡ get_or ys k (plain [])
    more [] zero = refl
    more [] (suc k) = refl
    more (y ∷ ys) zero = refl
    more (y ∷ ys) (suc k) = more ys k

-- the same as before, and the same again
pub same_trans : (a b c : List (List ℕ)) → SameFiles a b → SameFiles b c → SameFiles a c
same_trans a b c p q i = q i ∙ p i

-- what is put where each place had the bytes that it has
pub put_reached : (old mid new : List (List ℕ)) (i : ℕ) (bytes : List ℕ) → SameFiles old mid → IsPut mid new i bytes → IsPut old new i bytes
put_reached old mid new i bytes same put = record { own = put.own; others = λ other apart. put.others other apart ∙ same other }

-- a list is put in the place of one that another had taken
pub put_again : (xs : List (Listed ℕ)) (i : ℕ) (e b : Listed ℕ) → i < length xs → IsPut (all_bytes xs) (all_bytes (set (set xs i e) i b)) i b.items
put_again xs i e b there =
    let there_still : i < length (set xs i e) = simp length-set there in
    let again = set_put (set xs i e) i b there_still in
    let first = set_put xs i e there in
    record { own = again.own; others = λ other apart. again.others other apart ∙ first.others other apart }

-- what the bytes at a place become
pub put_edited : (now : List (List ℕ)) (xs ys zs : List (Listed ℕ)) (i place : ℕ) (e x b : Listed ℕ) (edit : List ℕ → List ℕ)
    → place ≡ i → all_bytes xs ≡ now → slice_get xs place ≡ Some x → ys ≡ set xs place e → zs ≡ set ys place b → b.items ≡ edit x.items → IsPut now (all_bytes zs) i (edit (file_at now i))
put_edited now xs ys zs i place e x b edit at is found took puts edited =
    let again = put_again xs place e b (slice_get_within xs place x found) in
    let whole : set (set xs place e) place b ≡ zs = ap (λ (l : List (Listed ℕ)). set l place b) (sym took) ∙ sym puts in
    subst (λ p. IsPut now (all_bytes zs) p (edit (file_at now p))) at
    (subst (λ n. IsPut n (all_bytes zs) place (edit (file_at n place))) is
    (subst (λ (l : List (Listed ℕ)). IsPut (all_bytes xs) (all_bytes l) place (edit (file_at (all_bytes xs) place))) whole
    (subst (λ bytes. IsPut (all_bytes xs) (all_bytes (set (set xs place e) place b)) place bytes) (edited ∙ ap edit (found_there xs place x found)) again)))

-- the bytes at a place are put back
pub put_back : (now : List (List ℕ)) (xs ys zs : List (Listed ℕ)) (place : ℕ) (e x b : Listed ℕ)
    → all_bytes xs ≡ now → slice_get xs place ≡ Some x → ys ≡ set xs place e → zs ≡ set ys place b → b ≡ x → SameFiles now (all_bytes zs)
put_back now xs ys zs place e x b is found took puts same other =
    let put = put_edited now xs ys zs place place e x b (λ bytes. bytes) refl is found took puts (ap (λ (l : Listed ℕ). l.items) same) in
    elim (cases_eq other place) [
      | inl at ↦ subst (λ p. file_at (all_bytes zs) p ≡ file_at now p) (sym at) put.own
      | inr apart ↦ put.others other apart
    ]

-- the same where each place had its bytes before
pub reached_edited : (old mid new : List (List ℕ)) (i : ℕ) (edit : List ℕ → List ℕ) → SameFiles old mid → IsPut mid new i (edit (file_at mid i)) → IsPut old new i (edit (file_at old i))
reached_edited old mid new i edit same put = subst (IsPut old new i) (ap edit (same i)) (put_reached old mid new i _ same put)

-- a list is put at a place
pub put_whole : (old mid : List (List ℕ)) (xs zs : List (Listed ℕ)) (i place : ℕ) (b : Listed ℕ)
    → place ≡ i → SameFiles old mid → all_bytes xs ≡ mid → place < length mid → zs ≡ set xs place b → IsPut old (all_bytes zs) i b.items
put_whole old mid xs zs i place b at same is there puts =
    let there_too : place < length xs = subst (λ n. place < n) (ap length (sym is) ∙ length-map xs (λ (l : Listed ℕ). l.items)) there in
    let put : IsPut mid (all_bytes zs) place b.items = subst (λ m. IsPut m (all_bytes zs) place b.items) is (subst (λ (l : List (Listed ℕ)). IsPut (all_bytes xs) (all_bytes l) place b.items) (sym puts) (set_put xs place b there_too)) in
    subst (λ p. IsPut old (all_bytes zs) p b.items) at (put_reached old mid (all_bytes zs) place b.items same put)
