-- What the names of a program stand for, declaration by declaration.
use Rattle.std.proofs.Common.{ℕ, zero, suc, ◌≡◌, ◌<◌, ◌≤◌, ◌+◌, true, List, [], ◌∷◌, ◌++◌, length, take, drop, Option, Some, None, is_some, unwrap_or, refl, sym, ap, ◌∙◌, zero-add, drop-cons, arith}
use Rattle.std.specs.Prelude.{slice_get, fold}
use Rattle.std.proofs.lemmas.List.{length-append, take-append-drop, length-take-le}
use Rattle.std.proofs.lemmas.List.Sums.{fold-append}
use Rattle.std.proofs.lemmas.Option.{slice_get_within, get_or_from_slice_get}
use Rattle.re_terms.specs.declared.program.Decl.{Decl}
use Rattle.re_terms.specs.declared.program.Program.{Program}
use Rattle.re_terms.specs.Kinds.{Sort, Device, sort_of, sorts_of, with_sort}
use Rattle.re_terms.specs.Programs.{IsProgram}

slice_get-first : {A : Type 0} (xs ys : List A) (i : ℕ) → i < length xs → slice_get (xs ++ ys) i ≡ slice_get xs i
slice_get-first [] ys i within = absurd (omega arith)
slice_get-first (x ∷ xs) ys zero within = refl
slice_get-first (x ∷ xs) ys (suc i) within = slice_get-first xs ys i (omega arith)

slice_get-seam : {A : Type 0} (xs : List A) (y : A) → slice_get (xs ++ y ∷ []) (length xs) ≡ Some y
slice_get-seam [] y = refl
slice_get-seam (x ∷ xs) y = slice_get-seam xs y

with_sort-length : (sorts : List Sort) (d : Decl) → length (with_sort sorts d) ≡ length sorts + 1
with_sort-length sorts d = length-append sorts (unwrap_or (sort_of sorts d.body) Device ∷ [])

-- further declarations change nothing of those before them
kept_sorts : (sorts : List Sort) (decls : List Decl) (i : ℕ) → i < length sorts → slice_get (fold with_sort sorts decls) i ≡ slice_get sorts i
kept_sorts sorts [] i within = refl
kept_sorts sorts (d ∷ decls) i within =
    let longer = with_sort-length sorts d in
    kept_sorts (with_sort sorts d) decls i (omega arith) ∙ slice_get-first sorts (unwrap_or (sort_of sorts d.body) Device ∷ []) i within

fold-length : (sorts : List Sort) (decls : List Decl) → length (fold with_sort sorts decls) ≡ length sorts + length decls
fold-length sorts [] = omega arith
fold-length sorts (d ∷ decls) =
    let rest = fold-length (with_sort sorts d) decls in
    let one = with_sort-length sorts d in
    omega (arith, rest, one)

-- one sort for each declaration
pub sorts_of-length : (decls : List Decl) → length (sorts_of decls) ≡ length decls
sorts_of-length decls = fold-length [] decls ∙ zero-add (length decls)

-- a declaration splits the list
pub split_at : (decls : List Decl) (id : ℕ) (d : Decl) → slice_get decls id ≡ Some d → decls ≡ take id decls ++ d ∷ drop (suc id) decls
split_at decls id d at =
    let within = slice_get_within decls id d at in
    sym (take-append-drop id decls) ∙ ap (λ rest. take id decls ++ rest) (drop-cons decls id d within ∙ ap (λ x. x ∷ drop (suc id) decls) (get_or_from_slice_get decls id d d at))

-- what the name of a declaration stands for is said by its body over those before it
pub sort_at : (decls : List Decl) (id : ℕ) (d : Decl) → slice_get decls id ≡ Some d → slice_get (sorts_of decls) id ≡ Some (unwrap_or (sort_of (sorts_of (take id decls)) d.body) Device)
sort_at decls id d at =
    let within = slice_get_within decls id d at in
    let earlier = sorts_of (take id decls) in
    let own = unwrap_or (sort_of earlier d.body) Device in
    let place : length earlier ≡ id = sorts_of-length (take id decls) ∙ length-take-le id decls (omega arith) in
    let longer = with_sort-length earlier d in
    let whole : sorts_of decls ≡ fold with_sort (with_sort earlier d) (drop (suc id) decls) = ap sorts_of (split_at decls id d at) ∙ fold-append with_sort [] (take id decls) (d ∷ drop (suc id) decls) in
    ap (λ sorts. slice_get sorts id) whole
    ∙ kept_sorts (with_sort earlier d) (drop (suc id) decls) id (omega arith)
    ∙ ap (λ i. slice_get (with_sort earlier d) i) (sym place)
    ∙ slice_get-seam earlier own

-- two lists that begin with the same declarations have the same sorts there
pub sort_before : (decls : List Decl) (n id : ℕ) → id < n → n ≤ length decls → slice_get (sorts_of (take n decls)) id ≡ slice_get (sorts_of decls) id
sort_before decls n id below within =
    let long = sorts_of-length (take n decls) ∙ length-take-le n decls within in
    sym (ap (λ xs. slice_get (sorts_of xs) id) (sym (take-append-drop n decls)) ∙ ap (λ sorts. slice_get sorts id) (fold-append with_sort [] (take n decls) (drop n decls)) ∙ kept_sorts (sorts_of (take n decls)) (drop n decls) id (omega arith))

some_of : {A : Type 0} (o : Option A) → is_some o ≡ true → (x : A) × (o ≡ Some x)
some_of (Some x) e = (x, refl)
some_of None e = absurd (cc)

-- the sort of a program's declaration: its body gives it over those before it, and it stands at the declaration's place
pub record IsSortAt (decls : List Decl) (id : ℕ) (d : Decl) (s : Sort) : Type 0 where
  pub given : sort_of (sorts_of (take id decls)) d.body ≡ Some s
  pub stands : slice_get (sorts_of decls) id ≡ Some s

-- each declaration of a program has a sort
pub program_sort : (p : Program) → IsProgram p → (id : ℕ) (d : Decl) → slice_get p.decls.items id ≡ Some d → (s : Sort) × IsSortAt p.decls.items id d s
program_sort p is id d at =
    let found = some_of (sort_of (sorts_of (take id p.decls.items)) d.body) (is.kinds id d at) in
    (found.0, record { given = found.1; stands = sort_at p.decls.items id d at ∙ ap (λ o. Some (unwrap_or o Device)) found.1 })
