-- What the names in a program's expressions stand for.
use Rattle.std.proofs.Common.{◌≡◌, ◌<◌, ◌≤◌, ℕ, Bool, true, false, List, length, take, refl, sym, ap, ◌∙◌, arith}
use Rattle.std.specs.Prelude.{Option, None, Some, count_by, is_some, option_map, slice_get}
use Rattle.std.specs.Option.{option_map_or}
use Rattle.re_terms.specs.declared.program.Body.{Body}
use Rattle.re_terms.specs.declared.program.Body.TheVariants as body
use Rattle.re_terms.specs.declared.program.Program.{Program}
use Rattle.re_terms.specs.declared.word.Kind.TheVariants as kind
use Rattle.re_terms.specs.Kinds.{Sort, Device, Symbol, Value, Set, Event, agrees_with, at_event, event_kind, expr_kind, in_signal, is_of_kind, is_start, is_symbol_sort, kind_eq, set_kind, set_kind_of, sort_of, sorts_of, value_kind, value_kind_of}
use Rattle.re_terms.specs.Programs.{IsProgram}
use Rattle.re_terms.specs.Worlds.{is_set_at, is_set_body}
use Rattle.re_terms.proofs.DeclaredSorts.{declared, sort_kept}
use Rattle.re_terms.proofs.KindsKept.{ValueCases, by_value, declared_sort, earlier_value}
use Rattle.re_terms.proofs.Ordered.{mapped, set_found, sorts_of-count, through}
use Rattle.re_terms.proofs.WordMeanings.{only}
use Rattle.std.proofs.lemmas.Option.{slice_get_within}
use Rattle.re_prop.specs.Reading.{is_valued_at, is_valued_body}

some_is : {A : Type 0} (o : Option A) → is_some o ≡ true → (x : A) × (o ≡ Some x)
some_is None h = absurd (no h)
  where
    no : false ≡ true → ⊥
    no e = cc
some_is (Some x) h = (x, refl)

valued_cases : (sorts : List Sort) → ValueCases sorts (λ b k. is_valued_body b ≡ true)
valued_cases sorts = record {
  var = λ k start region. refl;
  signal = λ k expr agreed. refl;
  fold = λ k arg start source expr region event agreed. refl;
  counter = refl;
  register = λ k start. refl;
}

abbrev is_set_sort : Sort → Bool
is_set_sort s = is_some (set_kind_of (Some s))

-- the sort of a set, and of nothing else, is that of a set
set_sort : (sorts : List Sort) (b : Body) (s : Sort) → sort_of sorts b ≡ Some s → is_set_sort s ≡ is_set_body b
set_sort sorts body.Device s h = let same : Device ≡ s = cc in ap is_set_sort (sym same)
set_sort sorts body.Symbol s h = let same : Symbol (count_by is_symbol_sort sorts) ≡ s = cc in ap is_set_sort (sym same)
set_sort sorts (body.Var j start region) s h = ap is_set_sort (sym (only (is_start j start) (Value j) s h).1)
set_sort sorts (body.Event j) s h = let same : Event j ≡ s = cc in ap is_set_sort (sym same)
set_sort sorts (body.Signal j expr) s h = ap is_set_sort (sym (only (is_of_kind j (expr_kind sorts in_signal expr)) (Value j) s h).1)
set_sort sorts (body.Changed of) s h =
    let m = mapped Event (value_kind sorts of) s h in
    let is : Some (Event m.0) ≡ Some s = ap (option_map Event) (sym m.1) ∙ h in
    let same : Event m.0 ≡ s = cc in
    ap is_set_sort (sym same)
set_sort sorts (body.Map source j expr) s h =
    let a = through (event_kind sorts source) _ s h in
    ap is_set_sort (sym (only (is_of_kind j (expr_kind sorts (at_event a.value) expr)) (Event j) s a.then_is).1)
set_sort sorts (body.Filter source expr) s h =
    let a = through (event_kind sorts source) _ s h in
    ap is_set_sort (sym (only (agrees_with kind.Bool (expr_kind sorts (at_event a.value) expr)) (Event a.value) s a.then_is).1)
set_sort sorts (body.Either left right) s h =
    let a = through (event_kind sorts left) _ s h in
    let b = through (event_kind sorts right) _ s a.then_is in
    ap is_set_sort (sym (only (kind_eq a.value b.value) (Event a.value) s b.then_is).1)
set_sort sorts (body.Fold j start source expr region) s h =
    let a = through (event_kind sorts source) _ s h in
    ap is_set_sort (sym (only _ (Value j) s a.then_is).1)
set_sort sorts body.Counter s h = let same : Value kind.Int ≡ s = cc in ap is_set_sort (sym same)
set_sort sorts (body.Set j) s h = let same : Set j ≡ s = cc in ap is_set_sort (sym same)
set_sort sorts (body.Register j start) s h = ap is_set_sort (sym (only (is_start j start) (Value j) s h).1)

module _ (p : Program) (program : IsProgram p) (n : ℕ) (within : n ≤ length p.decls.items) where
  abbrev sorts : List Sort
  sorts = sorts_of (take n p.decls.items)

  -- an earlier name that stands for a word is a declaration that has one
  pub valued_from : (id : ℕ) → is_some (value_kind sorts id) ≡ true → is_valued_at p.decls.items id ≡ true
  valued_from id h =
      let k = some_is (value_kind sorts id) h in
      let e = earlier_value p program n id k.0 within k.1 in
      let d = declared p.decls.items id (omega (arith, e.0)) in
      let s = declared_sort p program id d.0 d.1 in
      let valued = by_value (sorts_of (take id p.decls.items)) (λ b k. is_valued_body b ≡ true) (valued_cases _) d.0.body s.sort k.0 s.is (ap value_kind_of (sym s.at) ∙ e.1) in
      ap (λ o. option_map_or (λ d. is_valued_body d.body) o false) d.1 ∙ valued

  -- and one that stands for a set is a set
  pub set_from : (id : ℕ) → is_some (set_kind sorts id) ≡ true → is_set_at p.decls.items id ≡ true
  set_from id h =
      let k = some_is (set_kind sorts id) h in
      let f = set_found (slice_get sorts id) k.0 k.1 in
      let all = sort_kept p.decls.items n id f.0 f.1 in
      let inside : id < length p.decls.items = omega (arith, slice_get_within (sorts_of p.decls.items) id f.0 all, sorts_of-count p.decls.items) in
      let d = declared p.decls.items id inside in
      let s = declared_sort p program id d.0 d.1 in
      let same : Some f.0 ≡ Some s.sort = sym all ∙ s.at in
      ap (λ o. option_map_or (λ d. is_set_body d.body) o false) d.1
      ∙ sym (set_sort (sorts_of (take id p.decls.items)) d.0.body s.sort s.is)
      ∙ ap (λ o. is_some (set_kind_of o)) (sym same)
      ∙ ap (λ o. is_some (set_kind_of o)) (sym f.1)
      ∙ h
