-- Phrases of each level.
use Rattle.std.proofs.Common.{ℕ, ◌≡◌, ◌≤◌, ◌<◌, ◌+◌, Some, refl, arith}
use Rattle.re_terms.specs.declared.token.Mark.{Mark}
use Rattle.re_terms.specs.declared.word.Kind.{Kind}
use Rattle.re_terms.specs.declared.word.Kind.TheVariants as kind
use Rattle.re_terms.specs.declared.expr.Op.{Op}
use Rattle.re_terms.specs.declared.expr.Op.TheVariants as op
use Rattle.re_terms.specs.declared.raw_expr.RawExpr.{RawExpr}
use Rattle.re_terms.specs.declared.raw_expr.RawExpr.TheVariants as expr
use Rattle.re_syntax.specs.Grammar.{kind_of, operator_of, level_of, Expression, Level, Primary, Reads, plain, operands, primary, last, again, once}
use Rattle.re_syntax.specs.Places.{open_limit}
use Rattle.re_reading.proofs.Unresolved.{operator_mark, kind_mark}

pub operator_is : (o : Op) → operator_of (operator_mark o) ≡ Some o
unfolding operator_of
operator_is op.Add = refl
operator_is op.Sub = refl
operator_is op.Mul = refl
operator_is op.Div = refl
operator_is op.Rem = refl
operator_is op.Lt = refl
operator_is op.Le = refl
operator_is op.Gt = refl
operator_is op.Ge = refl
operator_is op.Eq = refl
operator_is op.Ne = refl
operator_is op.And = refl
operator_is op.Or = refl

pub kind_is : (k : Kind) → kind_of (kind_mark k) ≡ Some k
unfolding kind_of
kind_is kind.Int = refl
kind_is kind.Bool = refl
kind_is kind.Sym = refl

-- an operand of one level alone is one of the level below
alone : (at : ℕ → Mark) (level opened : ℕ) (e : RawExpr) (i n : ℕ) → level < 5 → Reads at open_limit (Level (level + 1)) opened e i n → Reads at open_limit (Level level) opened e i n
alone at level opened e i n h r = operands h r last

from_five : (at : ℕ → Mark) (opened : ℕ) (e : RawExpr) (i n : ℕ) → Reads at open_limit Primary opened e i n → Reads at open_limit (Level 5) opened e i n
from_five at opened e i n r = primary refl r

from_four : (at : ℕ → Mark) (opened : ℕ) (e : RawExpr) (i n : ℕ) → Reads at open_limit Primary opened e i n → Reads at open_limit (Level 4) opened e i n
from_four at opened e i n r = alone at 4 opened e i n (omega arith) (from_five at opened e i n r)

from_three : (at : ℕ → Mark) (opened : ℕ) (e : RawExpr) (i n : ℕ) → Reads at open_limit Primary opened e i n → Reads at open_limit (Level 3) opened e i n
from_three at opened e i n r = alone at 3 opened e i n (omega arith) (from_four at opened e i n r)

from_two : (at : ℕ → Mark) (opened : ℕ) (e : RawExpr) (i n : ℕ) → Reads at open_limit Primary opened e i n → Reads at open_limit (Level 2) opened e i n
from_two at opened e i n r = alone at 2 opened e i n (omega arith) (from_three at opened e i n r)

from_one : (at : ℕ → Mark) (opened : ℕ) (e : RawExpr) (i n : ℕ) → Reads at open_limit Primary opened e i n → Reads at open_limit (Level 1) opened e i n
from_one at opened e i n r = alone at 1 opened e i n (omega arith) (from_two at opened e i n r)

from_zero : (at : ℕ → Mark) (opened : ℕ) (e : RawExpr) (i n : ℕ) → Reads at open_limit Primary opened e i n → Reads at open_limit (Level 0) opened e i n
from_zero at opened e i n r = alone at 0 opened e i n (omega arith) (from_one at opened e i n r)

-- a phrase that needs no brackets is an expression
pub whole : (at : ℕ → Mark) (opened : ℕ) (e : RawExpr) (i n : ℕ) → opened ≤ 128 → Reads at open_limit Primary opened e i n → Reads at open_limit Expression opened e i n
whole at opened e i n h r = plain h (from_zero at opened e i n r)

down_one : (at : ℕ → Mark) (opened : ℕ) (e : RawExpr) (i n : ℕ) → Reads at open_limit (Level 1) opened e i n → Reads at open_limit (Level 0) opened e i n
down_one at opened e i n r = alone at 0 opened e i n (omega arith) r

down_two : (at : ℕ → Mark) (opened : ℕ) (e : RawExpr) (i n : ℕ) → Reads at open_limit (Level 2) opened e i n → Reads at open_limit (Level 0) opened e i n
down_two at opened e i n r = down_one at opened e i n (alone at 1 opened e i n (omega arith) r)

down_three : (at : ℕ → Mark) (opened : ℕ) (e : RawExpr) (i n : ℕ) → Reads at open_limit (Level 3) opened e i n → Reads at open_limit (Level 0) opened e i n
down_three at opened e i n r = down_two at opened e i n (alone at 2 opened e i n (omega arith) r)

down_four : (at : ℕ → Mark) (opened : ℕ) (e : RawExpr) (i n : ℕ) → Reads at open_limit (Level 4) opened e i n → Reads at open_limit (Level 0) opened e i n
down_four at opened e i n r = down_three at opened e i n (alone at 3 opened e i n (omega arith) r)

-- two operands that need no brackets, and an operator between them
joined_zero : (at : ℕ → Mark) (opened i k n : ℕ) (l r : RawExpr) (o : Op) → level_of o ≡ 0 → operator_of (at k) ≡ Some o → Reads at open_limit Primary opened l i k → Reads at open_limit Primary opened r (k + 1) n → Reads at open_limit (Level 0) opened (expr.Bin o l r) i n
joined_zero at opened i k n l r o e h a b = operands (omega arith) (from_one at opened l i k a) (again h e (λ q. absurd (omega arith)) (from_one at opened r (k + 1) n b) last)

joined_one : (at : ℕ → Mark) (opened i k n : ℕ) (l r : RawExpr) (o : Op) → level_of o ≡ 1 → operator_of (at k) ≡ Some o → Reads at open_limit Primary opened l i k → Reads at open_limit Primary opened r (k + 1) n → Reads at open_limit (Level 0) opened (expr.Bin o l r) i n
joined_one at opened i k n l r o e h a b = down_one at opened (expr.Bin o l r) i n (operands (omega arith) (from_two at opened l i k a) (again h e (λ q. absurd (omega arith)) (from_two at opened r (k + 1) n b) last))

joined_two : (at : ℕ → Mark) (opened i k n : ℕ) (l r : RawExpr) (o : Op) → level_of o ≡ 2 → operator_of (at k) ≡ Some o → Reads at open_limit Primary opened l i k → Reads at open_limit Primary opened r (k + 1) n → Reads at open_limit (Level 0) opened (expr.Bin o l r) i n
joined_two at opened i k n l r o e h a b = down_two at opened (expr.Bin o l r) i n (operands (omega arith) (from_three at opened l i k a) (once h e refl (from_three at opened r (k + 1) n b)))

joined_three : (at : ℕ → Mark) (opened i k n : ℕ) (l r : RawExpr) (o : Op) → level_of o ≡ 3 → operator_of (at k) ≡ Some o → Reads at open_limit Primary opened l i k → Reads at open_limit Primary opened r (k + 1) n → Reads at open_limit (Level 0) opened (expr.Bin o l r) i n
joined_three at opened i k n l r o e h a b = down_three at opened (expr.Bin o l r) i n (operands (omega arith) (from_four at opened l i k a) (again h e (λ q. absurd (omega arith)) (from_four at opened r (k + 1) n b) last))

joined_four : (at : ℕ → Mark) (opened i k n : ℕ) (l r : RawExpr) (o : Op) → level_of o ≡ 4 → operator_of (at k) ≡ Some o → Reads at open_limit Primary opened l i k → Reads at open_limit Primary opened r (k + 1) n → Reads at open_limit (Level 0) opened (expr.Bin o l r) i n
joined_four at opened i k n l r o e h a b = down_four at opened (expr.Bin o l r) i n (operands (omega arith) (from_five at opened l i k a) (again h e (λ q. absurd (omega arith)) (from_five at opened r (k + 1) n b) last))

pub joined : (at : ℕ → Mark) (opened i k n : ℕ) (l r : RawExpr) (o : Op) → operator_of (at k) ≡ Some o → Reads at open_limit Primary opened l i k → Reads at open_limit Primary opened r (k + 1) n → Reads at open_limit (Level 0) opened (expr.Bin o l r) i n
joined at opened i k n l r op.Or h a b = joined_zero at opened i k n l r op.Or refl h a b
joined at opened i k n l r op.And h a b = joined_one at opened i k n l r op.And refl h a b
joined at opened i k n l r op.Lt h a b = joined_two at opened i k n l r op.Lt refl h a b
joined at opened i k n l r op.Le h a b = joined_two at opened i k n l r op.Le refl h a b
joined at opened i k n l r op.Gt h a b = joined_two at opened i k n l r op.Gt refl h a b
joined at opened i k n l r op.Ge h a b = joined_two at opened i k n l r op.Ge refl h a b
joined at opened i k n l r op.Eq h a b = joined_two at opened i k n l r op.Eq refl h a b
joined at opened i k n l r op.Ne h a b = joined_two at opened i k n l r op.Ne refl h a b
joined at opened i k n l r op.Add h a b = joined_three at opened i k n l r op.Add refl h a b
joined at opened i k n l r op.Sub h a b = joined_three at opened i k n l r op.Sub refl h a b
joined at opened i k n l r op.Mul h a b = joined_four at opened i k n l r op.Mul refl h a b
joined at opened i k n l r op.Div h a b = joined_four at opened i k n l r op.Div refl h a b
joined at opened i k n l r op.Rem h a b = joined_four at opened i k n l r op.Rem refl h a b
