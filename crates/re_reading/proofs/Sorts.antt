-- What earlier names stand for.
use Rattle.std.proofs.Common.{ℕ, zero, suc, ◌≡◌, ◌<◌, ◌+◌, Bool, true, false, cond, List, [], ◌∷◌, ◌++◌, length, Option, Some, None, option_map, refl, sym, ap, subst, ◌∙◌, arith, append_assoc, length-append}
use Rattle.std.specs.Prelude.{slice_get, count_by, fold, unwrap_or, filter}
use Rattle.std.proofs.lemmas.Bool.{cond-true}
use Rattle.std.proofs.lemmas.List.{append-nil}
use Rattle.std.proofs.lemmas.List.Sums.{fold-append, sum_by-append, length-filter}
use Rattle.std.proofs.lemmas.List.Elements.{filter-append}
use Rattle.re_terms.specs.Kinds.{Sort, Device, Symbol, Value, Event, ◌>>=◌, only_if, is_symbol_sort, sort_of, with_sort, sorts_of, value_kind, event_kind}
use Rattle.re_terms.specs.Programs.{is_symbol_body, is_symbol, names_of}
use Rattle.re_terms.specs.Tokens.{is_name}
use Rattle.re_terms.specs.declared.word.Kind.{Kind}
use Rattle.re_terms.specs.declared.program.Body.{Body}
use Rattle.re_terms.specs.declared.program.Body.TheVariants as body
use Rattle.re_terms.specs.declared.program.Decl.{Decl}
use Rattle.re_terms.specs.declared.program.Program.{Program}
use Rattle.re_types.specs.Resolving.{place_of}
use Rattle.re_print.specs.Canonical.{declared_name, name_text, symbol_text}
use Rattle.re_reading.proofs.NamePlaces.{Context, get_split, name_at_split, name_of_split}

-- the sort of one declaration more
abbrev pub next_sort : List Sort → Decl → Sort
next_sort sorts d = unwrap_or (sort_of sorts d.body) Device

record Extends (sorts all : List Sort) : Type 0 where
  more : List Sort
  whole : all ≡ sorts ++ more

extends : (sorts : List Sort) (decls : List Decl) → Extends sorts (fold with_sort sorts decls)
extends sorts [] = record { more = []; whole = sym (append-nil sorts) }
extends sorts (d ∷ decls) =
    let e = extends (with_sort sorts d) decls in
    record { more = next_sort sorts d ∷ e.more; whole = e.whole ∙ append_assoc sorts (next_sort sorts d ∷ []) e.more }

sorts_long : (sorts : List Sort) (decls : List Decl) → length (fold with_sort sorts decls) ≡ length sorts + length decls
sorts_long sorts [] = omega arith
sorts_long sorts (d ∷ decls) =
    let e = sorts_long (with_sort sorts d) decls in
    let f : length (with_sort sorts d) ≡ length sorts + 1 = length-append sorts (next_sort sorts d ∷ []) in
    omega arith

pub sorts_length : (decls : List Decl) → length (sorts_of decls) ≡ length decls
sorts_length decls = let e = sorts_long [] decls in omega arith

-- the sort of an earlier declaration
pub sort_at : (front : List Decl) (d : Decl) (back decls : List Decl) → decls ≡ front ++ d ∷ back → slice_get (sorts_of decls) (length front) ≡ Some (next_sort (sorts_of front) d)
sort_at front d back decls e =
    let x = extends (with_sort (sorts_of front) d) back in
    let all : sorts_of decls ≡ sorts_of front ++ next_sort (sorts_of front) d ∷ x.more = ap sorts_of e ∙ fold-append with_sort [] front (d ∷ back) ∙ x.whole ∙ append_assoc (sorts_of front) (next_sort (sorts_of front) d ∷ []) x.more in
    get_split (sorts_of front) (next_sort (sorts_of front) d) x.more (sorts_of decls) (length front) all (sorts_length front)

-- only a symbol's declaration has a symbol's sort
chosen : (c : Bool) (s : Sort) → is_symbol_sort s ≡ false → is_symbol_sort (unwrap_or (only_if c s) Device) ≡ false
chosen true s h = h
chosen false s h = refl

mapped_event : (o : Option Kind) → is_symbol_sort (unwrap_or (option_map Event o) Device) ≡ false
mapped_event None = refl
mapped_event (Some k) = refl

bound : {A : Type 0} (o : Option A) (f : A → Option Sort) → ((a : A) → is_symbol_sort (unwrap_or (f a) Device) ≡ false) → is_symbol_sort (unwrap_or (o >>= f) Device) ≡ false
bound None f h = refl
bound (Some a) f h = h a

symbol_sort : (sorts : List Sort) (b : Body) → is_symbol_sort (unwrap_or (sort_of sorts b) Device) ≡ is_symbol_body b
symbol_sort sorts body.Device = refl
symbol_sort sorts body.Symbol = refl
symbol_sort sorts (body.Var k start region) = chosen _ (Value k) refl
symbol_sort sorts (body.Event k) = refl
symbol_sort sorts (body.Signal k e) = chosen _ (Value k) refl
symbol_sort sorts (body.Changed of) = mapped_event (value_kind sorts of)
symbol_sort sorts (body.Map source k e) = bound (event_kind sorts source) _ (λ arg. chosen _ (Event k) refl)
symbol_sort sorts (body.Filter source e) = bound (event_kind sorts source) _ (λ arg. chosen _ (Event arg) refl)
symbol_sort sorts (body.Either left right) = bound (event_kind sorts left) _ (λ a. bound (event_kind sorts right) _ (λ b. chosen _ (Event a) refl))
symbol_sort sorts (body.Fold k start source e region) = bound (event_kind sorts source) _ (λ arg. chosen _ (Value k) refl)
symbol_sort sorts body.Counter = refl
symbol_sort sorts (body.Set k) = refl
symbol_sort sorts (body.Register k start) = chosen _ (Value k) refl

-- one where a test holds
abbrev pub one_if : Bool → ℕ
one_if c = cond c 1 0

-- the first of a list counted
pub count_first : {A : Type 0} (q : A → Bool) (x : A) (xs : List A) → count_by q (x ∷ xs) ≡ one_if (q x) + count_by q xs
count_first q x xs =
    let e : count_by q (x ∷ xs) ≡ count_by q (x ∷ []) + count_by q xs = sum_by-append (λ k. cond (q k) 1 0) (x ∷ []) xs in
    let f : count_by q (x ∷ []) ≡ one_if (q x) = omega arith in
    omega arith

symbols_from : (sorts : List Sort) (decls : List Decl) → count_by is_symbol_sort (fold with_sort sorts decls) ≡ count_by is_symbol_sort sorts + count_by is_symbol decls
symbols_from sorts [] = omega arith
symbols_from sorts (d ∷ decls) =
    let e = symbols_from (with_sort sorts d) decls in
    let f : count_by is_symbol_sort (with_sort sorts d) ≡ count_by is_symbol_sort sorts + count_by is_symbol_sort (next_sort sorts d ∷ []) = sum_by-append (λ s. cond (is_symbol_sort s) 1 0) sorts (next_sort sorts d ∷ []) in
    let g : one_if (is_symbol_sort (next_sort sorts d)) ≡ one_if (is_symbol d) = ap one_if (symbol_sort sorts d.body) in
    let h = count_first is_symbol_sort (next_sort sorts d) [] in
    let k = count_first is_symbol d decls in
    omega arith

pub symbols_counted : (decls : List Decl) → count_by is_symbol_sort (sorts_of decls) ≡ count_by is_symbol decls
symbols_counted decls = let e = symbols_from [] decls in omega arith

-- the declaration of a symbol
pub record SymbolSplit (decls : List Decl) (number : ℕ) : Type 0 where
  pub front : List Decl
  pub symbol : Decl
  pub back : List Decl
  pub whole : decls ≡ front ++ symbol ∷ back
  pub is : is_symbol symbol ≡ true
  pub count : count_by is_symbol front ≡ number

symbol_by : (c : Bool) (d : Decl) (decls : List Decl) (number : ℕ) → is_symbol d ≡ c → number < one_if c + count_by is_symbol decls → ((k : ℕ) → k < count_by is_symbol decls → SymbolSplit decls k) → SymbolSplit (d ∷ decls) number
symbol_by true d decls zero e h more = record { front = []; symbol = d; back = decls; whole = refl; is = e; count = refl }
symbol_by true d decls (suc k) e h more =
    let s = more k (omega arith) in
    let one : one_if (is_symbol d) ≡ 1 = ap one_if e in
    let count = s.count in
    let first = count_first is_symbol d s.front in
    record { front = d ∷ s.front; symbol = s.symbol; back = s.back; whole = ap (λ ds. d ∷ ds) s.whole; is = s.is; count = omega arith }
symbol_by false d decls number e h more =
    let s = more number (omega arith) in
    let none : one_if (is_symbol d) ≡ 0 = ap one_if e in
    let count = s.count in
    let first = count_first is_symbol d s.front in
    record { front = d ∷ s.front; symbol = s.symbol; back = s.back; whole = ap (λ ds. d ∷ ds) s.whole; is = s.is; count = omega arith }

pub symbol_split : (decls : List Decl) (number : ℕ) → number < count_by is_symbol decls → SymbolSplit decls number
symbol_split [] number h = absurd (omega arith)
symbol_split (d ∷ decls) number h = symbol_by (is_symbol d) d decls number refl (subst (λ n. number < n) (count_first is_symbol d decls) h) (λ k l. symbol_split decls k l)

-- a symbol's name leads to it
pub record SymbolIs (p : Program) (earlier : List Decl) (number : ℕ) : Type 0 where
  pub id : ℕ
  pub named : is_name (symbol_text p number) ≡ true
  pub place : place_of (names_of earlier) (symbol_text p number) ≡ Some id
  pub sort : slice_get (sorts_of earlier) id ≡ Some (Symbol number)

-- the body of a symbol's declaration
symbol_sort_is : (sorts : List Sort) (b : Body) → is_symbol_body b ≡ true → unwrap_or (sort_of sorts b) Device ≡ Symbol (count_by is_symbol_sort sorts)
symbol_sort_is sorts body.Symbol h = refl
symbol_sort_is sorts body.Device h = absurd (cc)
symbol_sort_is sorts (body.Var k start region) h = absurd (cc)
symbol_sort_is sorts (body.Event k) h = absurd (cc)
symbol_sort_is sorts (body.Signal k e) h = absurd (cc)
symbol_sort_is sorts (body.Changed of) h = absurd (cc)
symbol_sort_is sorts (body.Map source k e) h = absurd (cc)
symbol_sort_is sorts (body.Filter source e) h = absurd (cc)
symbol_sort_is sorts (body.Either left right) h = absurd (cc)
symbol_sort_is sorts (body.Fold k start source e region) h = absurd (cc)
symbol_sort_is sorts body.Counter h = absurd (cc)
symbol_sort_is sorts (body.Set k) h = absurd (cc)
symbol_sort_is sorts (body.Register k start) h = absurd (cc)

pub symbol_is_at : (p : Program) (earlier rest : List Decl) (number : ℕ) → Context p earlier rest → number < count_by is_symbol earlier → SymbolIs p earlier number
symbol_is_at p earlier rest number c h =
    let s = symbol_split earlier number h in
    let all : p.decls.items ≡ s.front ++ s.symbol ∷ (s.back ++ rest) = c.whole ∙ ap (λ ds. ds ++ rest) s.whole ∙ append_assoc s.front (s.symbol ∷ s.back) rest in
    let kept : filter is_symbol p.decls.items ≡ filter is_symbol s.front ++ s.symbol ∷ filter is_symbol (s.back ++ rest) =
    ap (filter is_symbol) all ∙ filter-append is_symbol s.front (s.symbol ∷ (s.back ++ rest)) ∙ ap (λ ds. filter is_symbol s.front ++ ds) (cond-true (is_symbol s.symbol) (s.symbol ∷ filter is_symbol (s.back ++ rest)) (filter is_symbol (s.back ++ rest)) s.is) in
    let text : symbol_text p number ≡ s.symbol.name.items = ap declared_name (get_split (filter is_symbol s.front) s.symbol (filter is_symbol (s.back ++ rest)) (filter is_symbol p.decls.items) number kept (length-filter is_symbol s.front ∙ s.count)) in
    let same : symbol_text p number ≡ name_text p (length s.front) = text ∙ sym (name_at_split p earlier rest s.front s.symbol s.back c s.whole) in
    let n = name_of_split p earlier rest s.front s.symbol s.back c s.whole in
    record {
      id = length s.front;
      named = ap is_name same ∙ n.named;
      place = ap (place_of (names_of earlier)) same ∙ n.place;
      sort = sort_at s.front s.symbol s.back earlier s.whole ∙ ap Some (symbol_sort_is (sorts_of s.front) s.symbol.body s.is ∙ ap Symbol (symbols_counted s.front ∙ s.count));
    }
