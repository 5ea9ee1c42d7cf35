-- The numbers of symbols and the places of replicated cells, by how many stand before a declaration.
use Rattle.std.proofs.Common.{ℕ, suc, ◌≡◌, ◌<◌, ◌≤◌, ◌+◌, Bool, true, false, cond, if◌then◌else◌, List, [], ◌∷◌, ◌++◌, take, drop, Option, Some, None, unwrap_or, refl, ap, ◌∙◌, arith}
use Rattle.std.specs.Prelude.{slice_get, count_by, fold, option_map}
use Rattle.std.proofs.lemmas.List.{take-append-drop}
use Rattle.std.proofs.lemmas.List.Sums.{sum_by-append, sum_by-cons}
use Rattle.re_terms.specs.Kinds.{Sort, Device, Symbol, Value, Set, Event, ◌>>=◌, only_if, kind_eq, is_symbol_sort, is_start, is_of_kind, expr_kind, in_signal, at_event, event_kind, value_kind, sort_of, sorts_of, with_sort}
use Rattle.re_terms.specs.Programs.{is_symbol_body, is_symbol}
use Rattle.re_terms.specs.declared.program.Body.{Body}
use Rattle.re_terms.specs.declared.program.Body.TheVariants as body
use Rattle.re_terms.specs.declared.program.Decl.{Decl}
use Rattle.re_types.specs.Resolving.{symbol_of}
use Rattle.re_types.proofs.Sorts.{sort_at, split_at}
use Rattle.re_types.proofs.Declaring.{count_by-push}

-- it is no symbol's
abbrev IsOther : Option Sort → Type 0
IsOther o = is_symbol_sort (unwrap_or o Device) ≡ false

other-only_if : (c : Bool) (s : Sort) → is_symbol_sort s ≡ false → IsOther (only_if c s)
other-only_if true s e = e
other-only_if false s e = refl

other-bind : {A : Type 0} (o : Option A) (f : A → Option Sort) → ((a : A) → IsOther (f a)) → IsOther (o >>= f)
other-bind (Some a) f h = h a
other-bind None f h = refl

other-map : {A : Type 0} (o : Option A) (f : A → Sort) → ((a : A) → is_symbol_sort (f a) ≡ false) → IsOther (option_map f o)
other-map (Some a) f h = h a
other-map None f h = refl

-- a declaration's name stands for a symbol exactly where the declaration is one
sort-symbol : (sorts : List Sort) (b : Body) → is_symbol_sort (unwrap_or (sort_of sorts b) Device) ≡ is_symbol_body b
sort-symbol sorts body.Device = refl
sort-symbol sorts body.Symbol = refl
sort-symbol sorts (body.Var k start region) = other-only_if (is_start k start) (Value k) refl
sort-symbol sorts (body.Event k) = refl
sort-symbol sorts (body.Signal k expr) = other-only_if (is_of_kind k (expr_kind sorts in_signal expr)) (Value k) refl
sort-symbol sorts (body.Changed of) = other-map (value_kind sorts of) Event (λ a. refl)
sort-symbol sorts (body.Map source k expr) = other-bind (event_kind sorts source) _ (λ arg. other-only_if (is_of_kind k (expr_kind sorts (at_event arg) expr)) (Event k) refl)
sort-symbol sorts (body.Filter source expr) = other-bind (event_kind sorts source) _ (λ arg. other-only_if _ (Event arg) refl)
sort-symbol sorts (body.Either left right) = other-bind (event_kind sorts left) _ (λ a. other-bind (event_kind sorts right) _ (λ b. other-only_if (kind_eq a b) (Event a) refl))
sort-symbol sorts (body.Fold k start source expr region) = other-bind (event_kind sorts source) _ (λ arg. other-only_if _ (Value k) refl)
sort-symbol sorts body.Counter = refl
sort-symbol sorts (body.Set k) = refl
sort-symbol sorts (body.Register k start) = other-only_if (is_start k start) (Value k) refl

counts : (sorts : List Sort) (decls : List Decl) → count_by is_symbol_sort (fold with_sort sorts decls) ≡ count_by is_symbol_sort sorts + count_by is_symbol decls
counts sorts [] = omega arith
counts sorts (d ∷ decls) =
    let rest : count_by is_symbol_sort (fold with_sort sorts (d ∷ decls)) ≡ count_by is_symbol_sort (with_sort sorts d) + count_by is_symbol decls = counts (with_sort sorts d) decls in
    let split : count_by is_symbol (d ∷ decls) ≡ (if is_symbol d then 1 else 0) + count_by is_symbol decls = sum_by-cons (λ (x : Decl). cond (is_symbol x) 1 0) d decls in
    let own = count_by-push is_symbol_sort sorts (unwrap_or (sort_of sorts d.body) Device) in
    let same : ◌≡◌ {A = ℕ} (if is_symbol_sort (unwrap_or (sort_of sorts d.body) Device) then 1 else 0) (if is_symbol d then 1 else 0) = ap (λ (b : Bool). if b then 1 else 0) (sort-symbol sorts d.body) in
    omega (arith, rest, split, own, same)

-- as many names stand for symbols as there are symbols
symbols-of : (decls : List Decl) → count_by is_symbol_sort (sorts_of decls) ≡ count_by is_symbol decls
symbols-of decls = let all = counts [] decls in omega (arith, all)

no_symbol : (s : Sort) → is_symbol_sort s ≡ false → symbol_of (Some s) ≡ None
no_symbol Device e = refl
no_symbol (Symbol n) e = absurd (cc)
no_symbol (Value k) e = refl
no_symbol (Set k) e = refl
no_symbol (Event k) e = refl

no_number : (sorts : List Sort) (b : Body) → is_symbol_body b ≡ false → symbol_of (Some (unwrap_or (sort_of sorts b) Device)) ≡ None
no_number sorts b other = no_symbol (unwrap_or (sort_of sorts b) Device) (sort-symbol sorts b ∙ other)

own_number : (sorts : List Sort) (b : Body) → is_symbol_body b ≡ true → symbol_of (Some (unwrap_or (sort_of sorts b) Device)) ≡ Some (count_by is_symbol_sort sorts)
own_number sorts body.Symbol e = refl
own_number sorts body.Device e = absurd (cc)
own_number sorts (body.Var k start region) e = absurd (cc)
own_number sorts (body.Event k) e = absurd (cc)
own_number sorts (body.Signal k expr) e = absurd (cc)
own_number sorts (body.Changed of) e = absurd (cc)
own_number sorts (body.Map source k expr) e = absurd (cc)
own_number sorts (body.Filter source expr) e = absurd (cc)
own_number sorts (body.Either left right) e = absurd (cc)
own_number sorts (body.Fold k start source expr region) e = absurd (cc)
own_number sorts body.Counter e = absurd (cc)
own_number sorts (body.Set k) e = absurd (cc)
own_number sorts (body.Register k start) e = absurd (cc)

-- the number of a symbol is how many stand before it
pub symbol_number : (decls : List Decl) (id : ℕ) (d : Decl) → slice_get decls id ≡ Some d → is_symbol d ≡ true → symbol_of (slice_get (sorts_of decls) id) ≡ Some (count_by is_symbol (take id decls))
symbol_number decls id d at is =
    ap symbol_of (sort_at decls id d at) ∙ own_number (sorts_of (take id decls)) d.body is ∙ ap Some (symbols-of (take id decls))

-- what is no symbol has none
pub symbol_number-none : (decls : List Decl) (id : ℕ) (d : Decl) → slice_get decls id ≡ Some d → is_symbol d ≡ false → symbol_of (slice_get (sorts_of decls) id) ≡ None
symbol_number-none decls id d at is = ap symbol_of (sort_at decls id d at) ∙ no_number (sorts_of (take id decls)) d.body is

-- fewer stand before it than there are
pub count_before : (p : Decl → Bool) (decls : List Decl) (id : ℕ) (d : Decl) → slice_get decls id ≡ Some d → p d ≡ true → count_by p (take id decls) < count_by p decls
count_before p decls id d at is =
    let all : count_by p decls ≡ count_by p (take id decls ++ d ∷ drop (suc id) decls) = ap (count_by p) (split_at decls id d at) in
    let parts : count_by p (take id decls ++ d ∷ drop (suc id) decls) ≡ count_by p (take id decls) + (cond (p d) 1 0 + count_by p (drop (suc id) decls)) = sum_by-append (λ x. cond (p x) 1 0) (take id decls) (d ∷ drop (suc id) decls) ∙ ap (λ n. count_by p (take id decls) + n) (sum_by-cons (λ x. cond (p x) 1 0) d (drop (suc id) decls)) in
    let one : ◌≡◌ {A = ℕ} (cond (p d) 1 0) 1 = ap (λ b. cond b 1 0) is in
    omega (arith, all, parts, one)

-- and no more before any place
pub count_first : (p : Decl → Bool) (decls : List Decl) (id : ℕ) → count_by p (take id decls) ≤ count_by p decls
count_first p decls id =
    let all : count_by p (take id decls ++ drop id decls) ≡ count_by p decls = ap (count_by p) (take-append-drop id decls) in
    let parts : count_by p (take id decls ++ drop id decls) ≡ count_by p (take id decls) + count_by p (drop id decls) = sum_by-append (λ x. cond (p x) 1 0) (take id decls) (drop id decls) in
    omega (arith, all, parts)
