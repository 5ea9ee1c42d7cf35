-- Names of earlier declarations, and their places.
use Rattle.std.proofs.Common.{ℕ, zero, suc, ◌≡◌, ◌≢◌, ◌<◌, ◌+◌, ◌==◌, ◌⊎◌, inl, inr, Bool, true, false, List, [], ◌∷◌, ◌++◌, length, get_or, Option, Some, None, refl, sym, ap, subst, ◌∙◌, arith, append_assoc, length-append}
use Rattle.std.specs.Prelude.{slice_get, AllPairs}
use Rattle.std.specs.List.{list_all, position}
use Rattle.std.specs.Str.{bytes_eq}
use Rattle.std.proofs.lemmas.Bool.{and_parts, both_ways, cases_order}
use Rattle.std.proofs.lemmas.List.{get_or_at, get_or_append_left, map-append, length-map}
use Rattle.std.proofs.lemmas.List.Folds.{list_any_at}
use Rattle.std.proofs.lemmas.List.Quantifiers.{position-Some}
use Rattle.std.proofs.lemmas.Slice.Eq.{bytes_eq-Decides}
use Rattle.re_terms.specs.Tokens.{is_name}
use Rattle.re_terms.specs.Trees.{is_name_text}
use Rattle.re_terms.specs.Programs.{names_of}
use Rattle.re_terms.specs.declared.program.Decl.{Decl}
use Rattle.re_terms.specs.declared.program.Program.{Program}
use Rattle.re_types.specs.Resolving.{place_of}
use Rattle.re_print.specs.Canonical.{declared_name, name_text}
use Rattle.re_tokens.proofs.Marks.{none_placed}
use Rattle.re_reading.proofs.Unresolved.{is_named}

-- an item of a list, with what stands before and behind it
pub record SplitAt {A : Type 0} (xs : List A) (i : ℕ) : Type 0 where
  pub front : List A
  pub item : A
  pub back : List A
  pub whole : xs ≡ front ++ item ∷ back
  pub place : length front ≡ i

pub split_at : {A : Type 0} (xs : List A) (i : ℕ) → i < length xs → SplitAt xs i
split_at [] i h = absurd (omega arith)
split_at (x ∷ xs) zero h = record { front = []; item = x; back = xs; whole = refl; place = refl }
split_at (x ∷ xs) (suc i) h = let s = split_at xs i (omega arith) in record { front = x ∷ s.front; item = s.item; back = s.back; whole = ap (λ ys. x ∷ ys) s.whole; place = ap suc s.place }

pub get_at : {A : Type 0} (front : List A) (x : A) (back : List A) → slice_get (front ++ x ∷ back) (length front) ≡ Some x
get_at [] x back = refl
get_at (y ∷ front) x back = get_at front x back

pub get_split : {A : Type 0} (front : List A) (x : A) (back : List A) (xs : List A) (i : ℕ) → xs ≡ front ++ x ∷ back → length front ≡ i → slice_get xs i ≡ Some x
get_split front x back xs i e f = subst (λ k. slice_get xs k ≡ Some x) f (ap (λ ys. slice_get ys (length front)) e ∙ get_at front x back)

pub all_split : {A : Type 0} (p : A → Bool) (front : List A) (x : A) (back : List A) → list_all p (front ++ x ∷ back) ≡ true → p x ≡ true
all_split p [] x back h = (and_parts (p x) (list_all p back) h).0
all_split p (y ∷ front) x back h = all_split p front x back (and_parts (p y) (list_all p (front ++ x ∷ back)) h).1

-- the place of a name among names that differ
found_by : (front back : List (List ℕ)) (name : List ℕ) (o : Option ℕ) → AllPairs (λ a b. a ≢ b) (front ++ name ∷ back) → position (bytes_eq name) (front ++ name ∷ back) ≡ o → o ≡ Some (length front)
found_by front back name None distinct e =
    let here : get_or (front ++ name ∷ back) (length front) [] ≡ name = get_or_at front name back [] (length front) refl in
    let long : length (front ++ name ∷ back) ≡ length front + length (name ∷ back) = length-append front (name ∷ back) in
    let within : length front < length (front ++ name ∷ back) = omega arith in
    let passes : bytes_eq name (get_or (front ++ name ∷ back) (length front) []) ≡ true = (bytes_eq-Decides name _).1 (sym here) in
    absurd (both_ways _ (none_placed (front ++ name ∷ back) name e) (list_any_at (bytes_eq name) (front ++ name ∷ back) (length front) [] within passes))
found_by front back name (Some i) distinct e = ap Some (by_order (cases_order i (length front)))
  where
    here : get_or (front ++ name ∷ back) (length front) [] ≡ name
    here = get_or_at front name back [] (length front) refl

    long : length (front ++ name ∷ back) ≡ length front + suc (length back)
    long = length-append front (name ∷ back)

    found : (i < length (front ++ name ∷ back)) × (bytes_eq name (get_or (front ++ name ∷ back) i []) ≡ true) × ((k : ℕ) → k < i → bytes_eq name (get_or (front ++ name ∷ back) k []) ≡ false)
    found = position-Some (bytes_eq name) (front ++ name ∷ back) i [] e

    there : get_or (front ++ name ∷ back) i [] ≡ name
    there = sym ((bytes_eq-Decides name (get_or (front ++ name ∷ back) i [])).0 found.1)

    by_order : (i ≡ length front) ⊎ ((i < length front) ⊎ (length front < i)) → i ≡ length front
    by_order (inl same) = same
    by_order (inr (inl before)) = let l = long in absurd (distinct i (length front) [] before (omega arith) (there ∙ sym here))
    by_order (inr (inr behind)) = absurd (both_ways _ (found.2 (length front) behind) ((bytes_eq-Decides name (get_or (front ++ name ∷ back) (length front) [])).1 (sym here)))

pub found_at : (front back : List (List ℕ)) (name : List ℕ) → AllPairs (λ a b. a ≢ b) (front ++ name ∷ back) → position (bytes_eq name) (front ++ name ∷ back) ≡ Some (length front)
found_at front back name distinct = found_by front back name _ distinct refl

new_by : (front back : List (List ℕ)) (name : List ℕ) (o : Option ℕ) → AllPairs (λ a b. a ≢ b) (front ++ name ∷ back) → position (bytes_eq name) front ≡ o → o ≡ None
new_by front back name None distinct e = refl
new_by front back name (Some i) distinct e =
    let found = position-Some (bytes_eq name) front i [] e in
    let there : get_or front i [] ≡ name = sym ((bytes_eq-Decides name (get_or front i [])).0 found.1) in
    let here : get_or (front ++ name ∷ back) (length front) [] ≡ name = get_or_at front name back [] (length front) refl in
    let long : length (front ++ name ∷ back) ≡ length front + suc (length back) = length-append front (name ∷ back) in
    let low = found.0 in
    let left : get_or (front ++ name ∷ back) i [] ≡ get_or front i [] = get_or_append_left front (name ∷ back) [] i low in
    absurd (distinct i (length front) [] low (omega arith) (left ∙ there ∙ sym here))

pub new_name : (front back : List (List ℕ)) (name : List ℕ) → AllPairs (λ a b. a ≢ b) (front ++ name ∷ back) → position (bytes_eq name) front ≡ None
new_name front back name distinct = new_by front back name _ distinct refl

pub distinct_front : (front back : List (List ℕ)) → AllPairs (λ a b. a ≢ b) (front ++ back) → AllPairs (λ a b. a ≢ b) front
distinct_front front back distinct i j d low high same =
    let long : length (front ++ back) ≡ length front + length back = length-append front back in
    let within : i < length front = omega arith in
    distinct i j d low (omega arith) (get_or_append_left front back d i within ∙ same ∙ sym (get_or_append_left front back d j high))

-- the declarations of a program that stand before one
pub record Context (p : Program) (earlier rest : List Decl) : Type 0 where
  pub whole : p.decls.items ≡ earlier ++ rest
  pub names : list_all (λ d. is_name_text d.name) p.decls.items ≡ true
  pub distinct : AllPairs (λ a b. a ≢ b) (names_of p.decls.items)

-- an earlier declaration's name leads to its place
pub record NameIs (p : Program) (earlier : List Decl) (id : ℕ) : Type 0 where
  pub named : is_named p id ≡ true
  pub place : place_of (names_of earlier) (name_text p id) ≡ Some id

pub earlier_distinct : (p : Program) (earlier rest : List Decl) → Context p earlier rest → AllPairs (λ a b. a ≢ b) (names_of earlier)
earlier_distinct p earlier rest c =
    let e : names_of p.decls.items ≡ names_of earlier ++ names_of rest = ap names_of c.whole ∙ map-append (λ d. d.name.items) earlier rest in
    distinct_front (names_of earlier) (names_of rest) (subst (λ ns. AllPairs (λ a b. a ≢ b) ns) e c.distinct)

name_split : (p : Program) (earlier rest front : List Decl) (x : Decl) (back : List Decl) → Context p earlier rest → earlier ≡ front ++ x ∷ back → (name_text p (length front) ≡ x.name.items) × NameIs p earlier (length front)
name_split p earlier rest front x back c e =
    let all : p.decls.items ≡ front ++ x ∷ (back ++ rest) = c.whole ∙ ap (λ ds. ds ++ rest) e ∙ append_assoc front (x ∷ back) rest in
    let text : name_text p (length front) ≡ x.name.items = ap declared_name (get_split front x (back ++ rest) p.decls.items (length front) all refl) in
    let name_ok = all_split (λ d. is_name_text d.name) front x (back ++ rest) (subst (λ ds. list_all (λ d. is_name_text d.name) ds ≡ true) all c.names) in
    let named : is_name x.name.items ≡ true = (and_parts (is_name x.name.items) (x.name.spare == 0) name_ok).0 in
    let names : names_of earlier ≡ names_of front ++ x.name.items ∷ names_of back = ap names_of e ∙ map-append (λ d. d.name.items) front (x ∷ back) in
    let distinct = subst (λ ns. AllPairs (λ a b. a ≢ b) ns) names (earlier_distinct p earlier rest c) in
    let long : length (names_of front) ≡ length front = length-map front (λ d. d.name.items) in
    let place : position (bytes_eq x.name.items) (names_of earlier) ≡ Some (length front) = ap (position (bytes_eq x.name.items)) names ∙ found_at (names_of front) (names_of back) x.name.items distinct ∙ ap Some long in
    (text, record { named = ap is_name text ∙ named; place = ap (place_of (names_of earlier)) text ∙ place })

pub name_at_split : (p : Program) (earlier rest front : List Decl) (x : Decl) (back : List Decl) → Context p earlier rest → earlier ≡ front ++ x ∷ back → name_text p (length front) ≡ x.name.items
name_at_split p earlier rest front x back c e = (name_split p earlier rest front x back c e).0

pub name_of_split : (p : Program) (earlier rest front : List Decl) (x : Decl) (back : List Decl) → Context p earlier rest → earlier ≡ front ++ x ∷ back → NameIs p earlier (length front)
name_of_split p earlier rest front x back c e = (name_split p earlier rest front x back c e).1

pub name_is_at : (p : Program) (earlier rest : List Decl) (id : ℕ) → Context p earlier rest → id < length earlier → NameIs p earlier id
name_is_at p earlier rest id c h =
    let s = split_at earlier id h in
    subst (NameIs p earlier) s.place (name_of_split p earlier rest s.front s.item s.back c s.whole)

-- a declaration's own name is new
pub own_name_new : (p : Program) (earlier : List Decl) (d : Decl) (rest : List Decl) → Context p earlier (d ∷ rest) → place_of (names_of earlier) d.name.items ≡ None
own_name_new p earlier d rest c =
    let e : names_of p.decls.items ≡ names_of earlier ++ d.name.items ∷ names_of rest = ap names_of c.whole ∙ map-append (λ d. d.name.items) earlier (d ∷ rest) in
    new_name (names_of earlier) (names_of rest) d.name.items (subst (λ ns. AllPairs (λ a b. a ≢ b) ns) e c.distinct)
