-- Whether what an expression names beside its cells is there.
-- Read against: `self + 10 / arg` needs both, `recover(self, 7)` needs the fold's word alone, `x + 1` needs neither.
use Rattle.std.specs.Prelude.{Bool, true, ◌&&◌}
use Rattle.re_terms.specs.declared.expr.Expr.{Expr, fold-Expr}
use Rattle.re_terms.specs.declared.expr.Expr.TheOpen.{Expr-F, Lit, Name, Arg, Own, Not, Bin, If, Recover, Size, Has}

-- one case for each form of expression: `arg` needs the value of the occurrence, `self` the fold's word
abbrev pub given_step : Bool → Bool → Expr-F Bool → Bool
given_step arg own (Lit w) = true
given_step arg own (Name id) = true
given_step arg own Arg = arg
given_step arg own Own = own
given_step arg own (Not operand) = operand
given_step arg own (Bin op left right) = left && right
given_step arg own (If condition a b) = condition && a && b
given_step arg own (Recover tried other) = tried && other
given_step arg own (Size set) = true
given_step arg own (Has set element) = element

-- there is a value of the occurrence (the first) and a word of the fold (the second) where the expression names them
abbrev pub is_given : Bool → Bool → Expr → Bool
is_given arg own = fold-Expr Bool (given_step arg own)
