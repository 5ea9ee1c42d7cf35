-- A program's declarations name earlier ones alone, and its regions are few.
use Rattle.std.proofs.Common.{ℕ, ◌≡◌, ◌<◌, ◌≤◌, ◌+◌, ◌&&◌, Bool, true, false, List, [], ◌∷◌, ◌++◌, length, length-append, take, Option, Some, None, unwrap_or, refl, sym, ap, subst, ◌∙◌, zero-add, arith}
use Rattle.std.specs.Prelude.{slice_get, fold, is_some, option_and_then, option_map, nat_le}
use Rattle.std.specs.List.{All}
use Rattle.std.specs.Option.{option_map_or}
use Rattle.std.proofs.lemmas.Bool.{and_parts, leb-true}
use Rattle.std.proofs.lemmas.List.{length-take-le}
use Rattle.std.proofs.lemmas.List.Elements.{All-nil, All-cons, All-append}
use Rattle.std.proofs.lemmas.Option.{slice_get_within, slice_get-map}
use Rattle.re_terms.specs.declared.expr.Expr.{Expr, roll-Expr, map-Expr}
use Rattle.re_terms.specs.declared.expr.Expr.TheOpen.{Expr-F, Lit, Name, Arg, Own, Not, Bin, If, Recover, Size, Has}
use Rattle.re_terms.specs.declared.expr.Expr.TheFolds.{fold-roll-Expr, ind-Expr}
use Rattle.re_terms.specs.declared.word.Kind.{Kind}
use Rattle.re_terms.specs.declared.program.Body.{Body}
use Rattle.re_terms.specs.declared.program.Body.TheVariants as body
use Rattle.re_terms.specs.declared.program.Decl.{Decl}
use Rattle.re_terms.specs.declared.program.Program.{Program}
use Rattle.re_terms.specs.declared.word.Kind.TheVariants as kind
use Rattle.re_terms.specs.Kinds.{Sort, Device, Value, Event, SomeKind, Place, only_if, is_of_kind, agrees_with, is_start, value_kind_of, set_kind_of, event_kind_of, value_kind, set_kind, event_kind, expr_kind, kind_step, in_signal, at_event, in_fold, sort_of, with_sort, sorts_of}
use Rattle.re_terms.specs.Dependencies.{PlainNode, expr_names, names_step, inputs, cell_region, node_of, graph_of, inputs_at, region_at, IsOrdered, HasRegions}
use Rattle.re_terms.specs.Programs.{IsProgram, is_ranged, is_ranged_expr, is_literal_word}
use Rattle.re_terms.specs.Trees.{is_region}

with_sort-length : (sorts : List Sort) (d : Decl) → length (with_sort sorts d) ≡ length sorts + 1
with_sort-length sorts d = length-append sorts (unwrap_or (sort_of sorts d.body) Device ∷ [])

fold-length : (sorts : List Sort) (decls : List Decl) → length (fold with_sort sorts decls) ≡ length sorts + length decls
fold-length sorts [] = omega arith
fold-length sorts (d ∷ decls) =
    let rest = fold-length (with_sort sorts d) decls in
    let one = with_sort-length sorts d in
    omega (arith, rest, one)

-- one sort for each declaration
pub sorts_of-count : (decls : List Decl) → length (sorts_of decls) ≡ length decls
sorts_of-count decls = fold-length [] decls ∙ zero-add (length decls)

-- what is behind a step that came through
pub record Through {A B : Type 0} (o : Option A) (f : A → Option B) (y : B) : Type 0 where
  pub value : A
  pub is : o ≡ Some value
  pub then_is : f value ≡ Some y

pub through : {A B : Type 0} (o : Option A) (f : A → Option B) (y : B) → option_and_then f o ≡ Some y → Through o f y
through None f y h = absurd (cc)
through (Some a) f y h = record { value = a; is = refl; then_is = h }

pub mapped : {A B : Type 0} (f : A → B) (o : Option A) (y : B) → option_map f o ≡ Some y → (x : A) × (o ≡ Some x)
mapped f None y h = absurd (cc)
mapped f (Some x) y h = (x, refl)

pub chosen : {A : Type 0} (b : Bool) (x y : A) → only_if b x ≡ Some y → b ≡ true
chosen true x y h = refl
chosen false x y h = absurd (cc)

pub value_found : (o : Option Sort) (k : Kind) → value_kind_of o ≡ Some k → (s : Sort) × (o ≡ Some s)
value_found None k h = absurd (cc)
value_found (Some s) k h = (s, refl)

pub set_found : (o : Option Sort) (k : Kind) → set_kind_of o ≡ Some k → (s : Sort) × (o ≡ Some s)
set_found None k h = absurd (cc)
set_found (Some s) k h = (s, refl)

pub event_found : (o : Option Sort) (k : Kind) → event_kind_of o ≡ Some k → (s : Sort) × (o ≡ Some s)
event_found None k h = absurd (cc)
event_found (Some s) k h = (s, refl)

value_below : (sorts : List Sort) (id : ℕ) (k : Kind) → value_kind sorts id ≡ Some k → id < length sorts
value_below sorts id k h = let s = value_found (slice_get sorts id) k h in slice_get_within sorts id s.0 s.1

set_below : (sorts : List Sort) (id : ℕ) (k : Kind) → set_kind sorts id ≡ Some k → id < length sorts
set_below sorts id k h = let s = set_found (slice_get sorts id) k h in slice_get_within sorts id s.0 s.1

event_below : (sorts : List Sort) (id : ℕ) (k : Kind) → event_kind sorts id ≡ Some k → id < length sorts
event_below sorts id k h = let s = event_found (slice_get sorts id) k h in slice_get_within sorts id s.0 s.1

abbrev AreBelow : ℕ → List ℕ → Type 0
AreBelow n = All (λ id. id < n)

below_nil : (n : ℕ) → AreBelow n []
below_nil n = All-nil (λ id. id < n)

below_one : (n id : ℕ) → id < n → AreBelow n (id ∷ [])
below_one n id h = All-cons (λ i. i < n) id [] h (below_nil n)

-- ---- what an expression names

module _ (sorts : List Sort) (place : Place) where
  abbrev NamesBelow : Expr → Type 0
  NamesBelow e = (k : SomeKind) → expr_kind sorts place e ≡ Some k → AreBelow (length sorts) (expr_names e)

  abbrev Part : Type 0
  Part = (e : Expr) × NamesBelow e

  kind_roll : (d : Expr-F Expr) → expr_kind sorts place (roll-Expr d) ≡ kind_step sorts place (map-Expr Expr (Option SomeKind) (expr_kind sorts place) d)
  kind_roll d = fold-roll-Expr (Option SomeKind) (kind_step sorts place) d

  names_roll : (d : Expr-F Expr) → expr_names (roll-Expr d) ≡ names_step (map-Expr Expr (List ℕ) expr_names d)
  names_roll d = fold-roll-Expr (List ℕ) names_step d

  two : (xs ys : List ℕ) → AreBelow (length sorts) xs → AreBelow (length sorts) ys → AreBelow (length sorts) (xs ++ ys)
  two xs ys h k = All-append (λ id. id < length sorts) xs ys h k

  layer : (d : Expr-F Part) (k : SomeKind) → kind_step sorts place (map-Expr Expr (Option SomeKind) (expr_kind sorts place) (map-Expr Part Expr (λ e. e.0) d)) ≡ Some k
      → AreBelow (length sorts) (names_step (map-Expr Expr (List ℕ) expr_names (map-Expr Part Expr (λ e. e.0) d)))
  layer (Lit w) k h = below_nil (length sorts)
  layer (Name id) k h = let m = mapped Some (value_kind sorts id) k h in below_one (length sorts) id (value_below sorts id m.0 m.1)
  layer Arg k h = below_nil (length sorts)
  layer Own k h = below_nil (length sorts)
  layer (Not operand) k h = let a = through (expr_kind sorts place operand.0) _ k h in operand.1 a.value a.is
  layer (Bin o left right) k h =
      let a = through (expr_kind sorts place left.0) _ k h in
      let b = through (expr_kind sorts place right.0) _ k a.then_is in
      two (expr_names left.0) (expr_names right.0) (left.1 a.value a.is) (right.1 b.value b.is)
  layer (If condition x y) k h =
      let c = through (expr_kind sorts place condition.0) _ k h in
      let a = through (expr_kind sorts place x.0) _ k c.then_is in
      let b = through (expr_kind sorts place y.0) _ k a.then_is in
      two (expr_names condition.0 ++ expr_names x.0) (expr_names y.0) (two (expr_names condition.0) (expr_names x.0) (condition.1 c.value c.is) (x.1 a.value a.is)) (y.1 b.value b.is)
  layer (Recover tried other) k h =
      let a = through (expr_kind sorts place tried.0) _ k h in
      let b = through (expr_kind sorts place other.0) _ k a.then_is in
      two (expr_names tried.0) (expr_names other.0) (tried.1 a.value a.is) (other.1 b.value b.is)
  layer (Size set) k h = let m = mapped (λ elements. Some kind.Int) (set_kind sorts set) k h in below_one (length sorts) set (set_below sorts set m.0 m.1)
  layer (Has set element) k h =
      let s = through (set_kind sorts set) _ k h in
      let a = through (expr_kind sorts place element.0) _ k s.then_is in
      All-cons (λ id. id < length sorts) set (expr_names element.0) (set_below sorts set s.value s.is) (element.1 a.value a.is)

  rolled : (y : Expr-F Part) → NamesBelow (roll-Expr (map-Expr Part Expr (λ e. e.0) y))
  rolled y k h =
      let d = map-Expr Part Expr (λ e. e.0) y in
      subst (AreBelow (length sorts)) (sym (names_roll d)) (layer y k (sym (kind_roll d) ∙ h))

  -- what an expression names is declared before it, where it has a kind
  names_below : (e : Expr) → NamesBelow e
  names_below = ind-Expr NamesBelow (λ x y is. subst (λ z. NamesBelow (roll-Expr z)) is (rolled y))

of_kind_found : (k : Kind) (e : Option SomeKind) → is_of_kind k e ≡ true → (s : SomeKind) × (e ≡ Some s)
of_kind_found k None h = absurd (cc)
of_kind_found k (Some s) h = (s, refl)

agrees_found : (k : Kind) (e : Option SomeKind) → agrees_with k e ≡ true → (s : SomeKind) × (e ≡ Some s)
agrees_found k None h = absurd (cc)
agrees_found k (Some s) h = (s, refl)

-- an event, and an expression beside it
beside : (sorts : List Sort) (place : Place) (source : ℕ) (k : Kind) (expr : Expr) (s : SomeKind) → event_kind sorts source ≡ Some k → expr_kind sorts place expr ≡ Some s → AreBelow (length sorts) (source ∷ expr_names expr)
beside sorts place source k expr s event is = All-cons (λ id. id < length sorts) source (expr_names expr) (event_below sorts source k event) (names_below sorts place expr s is)

-- what a body names is declared before it, where it keeps the kind rules
body_below : (sorts : List Sort) (b : Body) (s : Sort) → sort_of sorts b ≡ Some s → AreBelow (length sorts) (inputs b)
body_below sorts body.Device s h = below_nil (length sorts)
body_below sorts body.Symbol s h = below_nil (length sorts)
body_below sorts (body.Var k start region) s h = below_nil (length sorts)
body_below sorts (body.Event k) s h = below_nil (length sorts)
body_below sorts (body.Signal k expr) s h =
    let e = of_kind_found k (expr_kind sorts in_signal expr) (chosen (is_of_kind k (expr_kind sorts in_signal expr)) (Value k) s h) in
    names_below sorts in_signal expr e.0 e.1
body_below sorts (body.Changed of) s h = let m = mapped Event (value_kind sorts of) s h in below_one (length sorts) of (value_below sorts of m.0 m.1)
body_below sorts (body.Map source k expr) s h =
    let a = through (event_kind sorts source) _ s h in
    let e = of_kind_found k (expr_kind sorts (at_event a.value) expr) (chosen (is_of_kind k (expr_kind sorts (at_event a.value) expr)) (Event k) s a.then_is) in
    beside sorts (at_event a.value) source a.value expr e.0 a.is e.1
body_below sorts (body.Filter source expr) s h =
    let a = through (event_kind sorts source) _ s h in
    let e = agrees_found kind.Bool (expr_kind sorts (at_event a.value) expr) (chosen (agrees_with kind.Bool (expr_kind sorts (at_event a.value) expr)) (Event a.value) s a.then_is) in
    beside sorts (at_event a.value) source a.value expr e.0 a.is e.1
body_below sorts (body.Either left right) s h =
    let a = through (event_kind sorts left) _ s h in
    let b = through (event_kind sorts right) _ s a.then_is in
    All-cons (λ id. id < length sorts) left (right ∷ []) (event_below sorts left a.value a.is) (below_one (length sorts) right (event_below sorts right b.value b.is))
body_below sorts (body.Fold k start source expr region) s h =
    let a = through (event_kind sorts source) _ s h in
    let both = and_parts (is_start k start) (agrees_with k (expr_kind sorts (in_fold a.value k) expr)) (chosen (is_start k start && agrees_with k (expr_kind sorts (in_fold a.value k) expr)) (Value k) s a.then_is) in
    let e = agrees_found k (expr_kind sorts (in_fold a.value k) expr) both.1 in
    beside sorts (in_fold a.value k) source a.value expr e.0 a.is e.1
body_below sorts body.Counter s h = below_nil (length sorts)
body_below sorts (body.Set k) s h = below_nil (length sorts)
body_below sorts (body.Register k start) s h = below_nil (length sorts)

pub some_sort : (o : Option Sort) → is_some o ≡ true → (s : Sort) × (o ≡ Some s)
some_sort None h = absurd (cc)
some_sort (Some s) h = (s, refl)

-- what a program's declaration names is declared before it
pub inputs-before : (p : Program) → IsProgram p → (id : ℕ) (d : Decl) → slice_get p.decls.items id ≡ Some d → All (λ input. input < id) (inputs d.body)
inputs-before p h id d at =
    let earlier = take id p.decls.items in
    let s = some_sort (sort_of (sorts_of earlier) d.body) (h.kinds id d at) in
    let within : id < length p.decls.items = slice_get_within p.decls.items id d at in
    let count : length (sorts_of earlier) ≡ id = sorts_of-count earlier ∙ length-take-le id p.decls.items (omega arith) in
    subst (λ n. AreBelow n (inputs d.body)) count (body_below (sorts_of earlier) d.body s.0 s.1)

found_inputs : (decls : List Decl) (id : ℕ) (o : Option Decl) → slice_get decls id ≡ o → ((d : Decl) → o ≡ Some d → AreBelow id (inputs d.body)) → AreBelow id (inputs_at (graph_of decls) id)
found_inputs decls id None at each = let e = slice_get-map node_of decls id in rw (e, at) (below_nil id)
found_inputs decls id (Some d) at each = let e = slice_get-map node_of decls id in rw (e, at) (each d refl)

-- a program's graph is in order
pub program-ordered : (p : Program) → IsProgram p → IsOrdered (graph_of p.decls.items)
program-ordered p h id = found_inputs p.decls.items id (slice_get p.decls.items id) refl (λ d at. inputs-before p h id d at)

region_low : (r region : ℕ) → is_region r ≡ true → Some r ≡ Some region → region ≤ 4
region_low r region h e =
    let both = and_parts (nat_le 1 r) (nat_le r 4) h in
    let low = leb-true r 4 both.1 in
    let same : r ≡ region = cc in
    omega (arith, low, same)

low_region : (symbols : ℕ) (b : Body) (region : ℕ) → is_ranged symbols b ≡ true → cell_region b ≡ Some region → region ≤ 4
low_region symbols (body.Var k start r) region h e = let both = and_parts (is_literal_word symbols start) (is_region r) h in region_low r region both.1 e
low_region symbols (body.Fold k start source expr r) region h e =
    let both = and_parts (is_literal_word symbols start && is_ranged_expr symbols expr) (is_region r) h in
    region_low r region both.1 e
low_region symbols body.Counter region h e = let same : region ≡ 0 = cc in omega (arith, same)
low_region symbols (body.Set k) region h e = let same : region ≡ 0 = cc in omega (arith, same)
low_region symbols (body.Register k start) region h e = let same : region ≡ 0 = cc in omega (arith, same)
low_region symbols b region h e = absurd (cc)

found_region : (decls : List Decl) (id region : ℕ) (o : Option Decl) → slice_get decls id ≡ o → region_at (graph_of decls) id ≡ Some region → ((d : Decl) → o ≡ Some d → cell_region d.body ≡ Some region → region ≤ 4) → region ≤ 4
found_region decls id region None at is each =
    let none : region_at (graph_of decls) id ≡ None = ap (λ found. option_map_or (λ (node : PlainNode). node.region) found None) (slice_get-map node_of decls id ∙ ap (option_map node_of) at) in
    let e : None ≡ Some region = sym none ∙ is in
    absurd (cc)
found_region decls id region (Some d) at is each =
    let some : region_at (graph_of decls) id ≡ cell_region d.body = ap (λ found. option_map_or (λ (node : PlainNode). node.region) found None) (slice_get-map node_of decls id ∙ ap (option_map node_of) at) in
    each d refl (sym some ∙ is)

-- and its regions are few
pub program-regions : (p : Program) → IsProgram p → HasRegions (graph_of p.decls.items)
program-regions p h id region is = found_region p.decls.items id region (slice_get p.decls.items id) refl is (λ d at e. low_region _ d.body region (h.ranges id d at) e)
