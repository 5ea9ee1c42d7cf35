-- What the names of declarations stand for, by their places.
use Rattle.std.proofs.Common.{◌≡◌, ◌<◌, ◌+◌, ℕ, zero, suc, List, [], ◌∷◌, ◌++◌, length, take, drop, refl, sym, ap, ◌∙◌, arith, append_assoc, length-append}
use Rattle.std.specs.Prelude.{None, Some, slice_get, fold, unwrap_or}
use Rattle.std.proofs.lemmas.List.{append-nil, take-append-drop}
use Rattle.std.proofs.lemmas.List.Sums.{fold-append}
use Rattle.re_terms.specs.Kinds.{Sort, Device, sort_of, with_sort, sorts_of}
use Rattle.re_terms.specs.declared.program.Decl.{Decl}

-- what an earlier part of a list has at a place, the whole has there
pub slice_get-front : {X : Type 0} (xs ys : List X) (i : ℕ) (x : X) → slice_get xs i ≡ Some x → slice_get (xs ++ ys) i ≡ Some x
slice_get-front [] ys i x h = absurd (let e : None ≡ Some x = h in cc)
slice_get-front (y ∷ xs) ys zero x h = h
slice_get-front (y ∷ xs) ys (suc i) x h = slice_get-front xs ys i x h

slice_get-behind : {X : Type 0} (xs : List X) (x : X) → slice_get (xs ++ x ∷ []) (length xs) ≡ Some x
slice_get-behind [] x = refl
slice_get-behind (y ∷ xs) x = slice_get-behind xs x

-- the sort of one declaration more
abbrev pub next_sort : List Sort → Decl → Sort
next_sort sorts d = unwrap_or (sort_of sorts d.body) Device

record Extends (sorts all : List Sort) : Type 0 where
  more : List Sort
  whole : all ≡ sorts ++ more

extends : (sorts : List Sort) (decls : List Decl) → Extends sorts (fold with_sort sorts decls)
extends sorts [] = record { more = []; whole = sym (append-nil sorts) }
extends sorts (d ∷ decls) =
    let e = extends (with_sort sorts d) decls in
    record { more = next_sort sorts d ∷ e.more; whole = e.whole ∙ append_assoc sorts (next_sort sorts d ∷ []) e.more }

found_from : (sorts : List Sort) (decls : List Decl) (id : ℕ) (d : Decl) → slice_get decls id ≡ Some d → slice_get (fold with_sort sorts decls) (length sorts + id) ≡ Some (next_sort (fold with_sort sorts (take id decls)) d)
found_from sorts [] id d at = absurd (let e : None ≡ Some d = at in cc)
found_from sorts (x ∷ decls) zero d at =
    let own : Some x ≡ Some d = at in
    let same : x ≡ d = cc in
    let e = extends (with_sort sorts x) decls in
    let none : length sorts + zero ≡ length sorts = omega arith in
    ap (slice_get (fold with_sort (with_sort sorts x) decls)) none
    ∙ ap (λ all. slice_get all (length sorts)) e.whole
    ∙ slice_get-front (with_sort sorts x) e.more (length sorts) (next_sort sorts x) (slice_get-behind sorts (next_sort sorts x))
    ∙ ap (λ y. Some (next_sort sorts y)) same
found_from sorts (x ∷ decls) (suc id) d at =
    let long : length (with_sort sorts x) ≡ length sorts + 1 = length-append sorts (next_sort sorts x ∷ []) in
    let place : length sorts + suc id ≡ length (with_sort sorts x) + id = omega (arith, long) in
    ap (slice_get (fold with_sort (with_sort sorts x) decls)) place ∙ found_from (with_sort sorts x) decls id d at

-- the sort of a declaration, over those before it
pub sort_found : (decls : List Decl) (id : ℕ) (d : Decl) → slice_get decls id ≡ Some d → slice_get (sorts_of decls) id ≡ Some (next_sort (sorts_of (take id decls)) d)
sort_found decls id d at = let none : id ≡ 0 + id = omega arith in ap (slice_get (sorts_of decls)) none ∙ found_from [] decls id d at

-- what the sorts of the first declarations have, those of all have
pub sort_kept : (decls : List Decl) (n id : ℕ) (s : Sort) → slice_get (sorts_of (take n decls)) id ≡ Some s → slice_get (sorts_of decls) id ≡ Some s
sort_kept decls n id s at =
    let e = extends (sorts_of (take n decls)) (drop n decls) in
    ap (λ ds. slice_get (sorts_of ds) id) (sym (take-append-drop n decls))
    ∙ ap (λ all. slice_get all id) (fold-append with_sort [] (take n decls) (drop n decls) ∙ e.whole)
    ∙ slice_get-front (sorts_of (take n decls)) e.more id s at

-- there is a declaration at each place
pub declared : {X : Type 0} (xs : List X) (n : ℕ) → n < length xs → (x : X) × (slice_get xs n ≡ Some x)
declared [] n h = absurd (omega arith)
declared (x ∷ xs) zero h = (x, refl)
declared (x ∷ xs) (suc n) h = declared xs n (omega arith)
