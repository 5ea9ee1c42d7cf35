-- The word of an expression.
-- Read against: with x 0, `10 / x` is fault 2 and `recover(10 / x, 7)` is 7; with temp 200, `if temp > 300 then 2 else 1` is 1.
use Rattle.std.specs.Prelude.{ℕ, pos, Bool, Option, unwrap_or}
use Rattle.re_terms.specs.declared.word.Word.{Word}
use Rattle.re_terms.specs.declared.word.Word.TheVariants as word
use Rattle.re_terms.specs.declared.expr.Expr.{Expr, fold-Expr}
use Rattle.re_terms.specs.declared.expr.Expr.TheOpen.{Expr-F, Lit, Name, Arg, Own, Not, Bin, If, Recover, Size, Has}
use Rattle.re_terms.specs.Arithmetic.{operator_word, not_word, if_word, recover_word}

-- what an expression is read in: each named cell's word, each set's size and members,
-- the value of the occurrence, and the fold's word before the entry
pub record Environment : Type 0 where
  pub word : ℕ → Word
  pub size : ℕ → ℕ
  pub has : ℕ → Word → Bool
  pub arg : Option Word
  pub own : Option Word

-- whether a set has an element; the element's fault where it is one
abbrev pub has_word : (Word → Bool) → Word → Word
has_word has (word.Fault c) = word.Fault c
has_word has element = word.Bool (has element)

-- one case for each form of expression; an absent `arg` or `self` is named by no expression
abbrev pub meaning_step : Expr-F (Environment → Word) → Environment → Word
meaning_step (Lit w) env = w
meaning_step (Name id) env = env.word id
meaning_step Arg env = unwrap_or env.arg (word.Fault 2)
meaning_step Own env = unwrap_or env.own (word.Fault 2)
meaning_step (Not operand) env = not_word (operand env)
meaning_step (Bin op left right) env = operator_word op (left env) (right env)
meaning_step (If condition a b) env = if_word (condition env) (a env) (b env)
meaning_step (Recover tried other) env = recover_word (tried env) (other env)
meaning_step (Size set) env = word.Int (pos (env.size set))
meaning_step (Has set element) env = has_word (env.has set) (element env)

-- the word of an expression in an environment
abbrev pub meaning : Expr → Environment → Word
meaning = fold-Expr (Environment → Word) meaning_step
