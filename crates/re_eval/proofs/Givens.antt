-- What every expression needs, and what is enough.
use Rattle.std.proofs.Common.{◌≡◌, Bool, true, ◌&&◌, refl, ap, subst, ◌∙◌}
use Rattle.re_terms.specs.declared.expr.Expr.{Expr, roll-Expr, map-Expr}
use Rattle.re_terms.specs.declared.expr.Expr.TheOpen.{Expr-F, Lit, Name, Arg, Own, Not, Bin, If, Recover, Size, Has}
use Rattle.re_terms.specs.declared.expr.Expr.TheFolds.{fold-roll-Expr, ind-Expr}
use Rattle.re_eval.specs.Given.{is_given, given_step}

-- one layer
given_roll : (arg own : Bool) (d : Expr-F Expr) → is_given arg own (roll-Expr d) ≡ given_step arg own (map-Expr Expr Bool (is_given arg own) d)
given_roll arg own d = fold-roll-Expr Bool (given_step arg own) d

abbrev HasAll : Expr → Type 0
HasAll e = is_given true true e ≡ true

both : (a b : Bool) → a ≡ true → b ≡ true → (a && b) ≡ true
both a b p q = ap (λ v. v && b) p ∙ q

abbrev Part : Type 0
Part = (e : Expr) × HasAll e

layer_given : (d : Expr-F Part) → given_step true true (map-Expr Expr Bool (is_given true true) (map-Expr Part Expr (λ e. e.0) d)) ≡ true
layer_given (Lit w) = refl
layer_given (Name id) = refl
layer_given Arg = refl
layer_given Own = refl
layer_given (Not operand) = operand.1
layer_given (Bin op left right) = both _ _ left.1 right.1
layer_given (If condition a b) = both _ _ (both _ _ condition.1 a.1) b.1
layer_given (Recover tried other) = both _ _ tried.1 other.1
layer_given (Size set) = refl
layer_given (Has set element) = element.1

-- with a value of the occurrence and a word of the fold every expression has what it names
pub is_given-both : (e : Expr) → is_given true true e ≡ true
is_given-both = ind-Expr HasAll (λ x y is. subst (λ z. HasAll (roll-Expr z)) is (given_roll true true (map-Expr Part Expr (λ e. e.0) y) ∙ layer_given y))
