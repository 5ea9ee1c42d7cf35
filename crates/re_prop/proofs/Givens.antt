-- What the expressions of a program name is there.
use Rattle.std.proofs.Common.{◌≡◌, ℕ, Bool, true, false, ◌&&◌, List, take, refl, sym, ap, subst, ◌∙◌}
use Rattle.std.specs.Prelude.{Option, None, Some, is_some, slice_get, option_map, option_and_then}
use Rattle.re_terms.specs.declared.expr.Expr.{Expr, roll-Expr, map-Expr}
use Rattle.re_terms.specs.declared.expr.Expr.TheOpen.{Expr-F, Lit, Name, Arg, Own, Not, Bin, If, Recover, Size, Has}
use Rattle.re_terms.specs.declared.expr.Expr.TheFolds.{fold-roll-Expr, ind-Expr}
use Rattle.re_terms.specs.declared.program.Body.{Body}
use Rattle.re_terms.specs.declared.program.Body.TheVariants as body
use Rattle.re_terms.specs.declared.program.Decl.{Decl}
use Rattle.re_terms.specs.declared.program.Program.{Program}
use Rattle.re_terms.specs.Kinds.{Sort, SomeKind, Place, in_signal, at_event, kind_step, expr_kind, is_of_kind, agrees_with, only_if, event_kind, set_kind, taking, sort_of, sorts_of}
use Rattle.re_terms.specs.declared.word.Kind.{Kind}
use Rattle.re_terms.specs.declared.word.Kind.TheVariants as kind
use Rattle.re_terms.specs.Programs.{IsProgram}
use Rattle.re_eval.specs.Given.{is_given, given_step}
use Rattle.re_eval.proofs.Givens.{is_given-both}
use Rattle.re_prop.specs.Evaluated.{is_given_body}

-- what is made of a value that is there
bind_then : {A B P : Type 0} (o : Option A) (f : A → Option B) → is_some (option_and_then f o) ≡ true → ((x : A) → o ≡ Some x → is_some (f x) ≡ true → P) → P
bind_then None f h next = absurd (no h)
  where
    no : false ≡ true → ⊥
    no e = cc
bind_then (Some x) f h next = next x refl h

bind_some : {A B : Type 0} (o : Option A) (f : A → Option B) → is_some (option_and_then f o) ≡ true → is_some o ≡ true
bind_some o f h = bind_then o f h (λ x is more. ap is_some is)

map_some : {A B : Type 0} (o : Option A) (f : A → B) → is_some (option_map f o) ≡ true → is_some o ≡ true
map_some None f h = h
map_some (Some x) f h = refl

both : (a b : Bool) → a ≡ true → b ≡ true → (a && b) ≡ true
both a b p q = ap (λ v. v && b) p ∙ q

module _ (sorts : List Sort) (place : Place) where
  abbrev IsGiven : Expr → Type 0
  IsGiven e = is_some (expr_kind sorts place e) ≡ true → is_given (is_some place.arg) (is_some place.own) e ≡ true

  abbrev Part : Type 0
  Part = (e : Expr) × IsGiven e

  layer : (d : Expr-F Part) → is_some (kind_step sorts place (map-Expr Expr (Option SomeKind) (expr_kind sorts place) (map-Expr Part Expr (λ e. e.0) d))) ≡ true → given_step (is_some place.arg) (is_some place.own) (map-Expr Expr Bool (is_given (is_some place.arg) (is_some place.own)) (map-Expr Part Expr (λ e. e.0) d)) ≡ true
  layer (Lit w) h = refl
  layer (Name id) h = refl
  layer Arg h = map_some place.arg Some h
  layer Own h = map_some place.own Some h
  layer (Not operand) h = operand.1 (bind_some _ _ h)
  layer (Bin op left right) h = bind_then _ _ h (λ a is rest. both _ _ (left.1 (ap is_some is)) (right.1 (bind_some _ _ rest)))
  layer (If condition a b) h = bind_then _ _ h (λ c is rest. bind_then _ _ rest (λ x at more. both _ _ (both _ _ (condition.1 (ap is_some is)) (a.1 (ap is_some at))) (b.1 (bind_some _ _ more))))
  layer (Recover tried other) h = bind_then _ _ h (λ a is rest. both _ _ (tried.1 (ap is_some is)) (other.1 (bind_some _ _ rest)))
  layer (Size set) h = refl
  layer (Has set element) h = bind_then {A = Kind} {B = SomeKind} (set_kind sorts set) _ h (λ elements is rest. element.1 (bind_some _ (λ a. taking (Some elements) (Some kind.Bool) a) rest))

  -- an expression that keeps the kind rules at a place names only what is there
  pub is_given-kind : (e : Expr) → is_some (expr_kind sorts place e) ≡ true → is_given (is_some place.arg) (is_some place.own) e ≡ true
  is_given-kind = ind-Expr IsGiven (λ x y is. subst (λ z. IsGiven (roll-Expr z)) is (λ h. fold-roll-Expr Bool (given_step (is_some place.arg) (is_some place.own)) (map-Expr Part Expr (λ e. e.0) y) ∙ layer y (sym (ap is_some (fold-roll-Expr (Option SomeKind) (kind_step sorts place) (map-Expr Part Expr (λ e. e.0) y))) ∙ h)))

only_some : {A : Type 0} (b : Bool) (x : A) → is_some (only_if b x) ≡ true → b ≡ true
only_some true x h = refl
only_some false x h = h

kind_some : (k : Kind) (e : Option SomeKind) → is_of_kind k e ≡ true → is_some e ≡ true
kind_some k None h = h
kind_some k (Some e) h = refl

agrees_some : (k : Kind) (e : Option SomeKind) → agrees_with k e ≡ true → is_some e ≡ true
agrees_some k None h = h
agrees_some k (Some e) h = refl

body_given : (sorts : List Sort) (b : Body) → is_some (sort_of sorts b) ≡ true → is_given_body b ≡ true
body_given sorts (body.Signal k expr) h = is_given-kind sorts in_signal expr (kind_some k _ (only_some _ _ h))
body_given sorts (body.Map source k expr) h = bind_then (event_kind sorts source) _ h (λ arg is rest. is_given-kind sorts (at_event arg) expr (kind_some k _ (only_some _ _ rest)))
body_given sorts (body.Filter source expr) h = bind_then (event_kind sorts source) _ h (λ arg is rest. is_given-kind sorts (at_event arg) expr (agrees_some kind.Bool _ (only_some _ _ rest)))
body_given sorts (body.Fold k start source expr region) h = is_given-both expr
body_given sorts body.Device h = refl
body_given sorts body.Symbol h = refl
body_given sorts (body.Var k start region) h = refl
body_given sorts (body.Event k) h = refl
body_given sorts (body.Changed of) h = refl
body_given sorts (body.Either left right) h = refl
body_given sorts body.Counter h = refl
body_given sorts (body.Set k) h = refl
body_given sorts (body.Register k start) h = refl

-- each declaration of a program has what its expression names
pub given_of : (p : Program) (id : ℕ) (d : Decl) → IsProgram p → slice_get p.decls.items id ≡ Some d → is_given_body d.body ≡ true
given_of p id d program at = body_given (sorts_of (take id p.decls.items)) d.body (program.kinds id d at)
