-- The grammar of programs: what the marks of a text are, from one place to another.
-- Read against: in `signal s = 1 - 2 - 3;` the marks from place 3 to 8 are `(1 - 2) - 3`; in `1 < 2 < 3` no expression goes beyond place 3; `var x: int = - 0;` starts with 0 in region 1.
use Rattle.std.specs.Prelude.{ℕ, ◌+◌, ◌^◌, ◌<◌, ◌≤◌, ◌==◌, ◌≡◌, ◌≢◌, true, false, List, [], ◌∷◌, length, map, slice_index_or, Option, Some, None, if◌then◌else◌, pos, ◌-ℤ◌}
use Rattle.re_terms.specs.Listed.{Listed}
use Rattle.re_terms.specs.declared.reserved.TheConstants.{DEVICE, SYMBOL, VAR, EVENT, SIGNAL, FOLD, COUNTER, SET, REGISTER, CHANGED, MAP, FILTER, EITHER, ON, DO, IN, ARG, SELF, IF, THEN, ELSE, AND, OR, NOT, RECOVER, FAULT, SIZE, HAS, TRUE, FALSE, INT, BOOL, SYM}
use Rattle.re_terms.specs.declared.signs.TheConstants.{SEMICOLON, COLON, EQUALS, COMMA, OPEN, CLOSE, PLUS, MINUS, TIMES, DIVIDE, REMAINDER, LESS, GREATER, EQUAL, NOT_EQUAL, AT_MOST, AT_LEAST}
use Rattle.re_terms.specs.declared.token.Mark.{Mark}
use Rattle.re_terms.specs.declared.token.Mark.TheVariants as mark
use Rattle.re_terms.specs.declared.token.Token.{Token}
use Rattle.re_terms.specs.declared.word.Kind.{Kind}
use Rattle.re_terms.specs.declared.word.Kind.TheVariants as kind
use Rattle.re_terms.specs.declared.expr.Op.{Op}
use Rattle.re_terms.specs.declared.expr.Op.TheVariants as op
use Rattle.re_terms.specs.declared.raw_expr.RawLit.{RawLit}
use Rattle.re_terms.specs.declared.raw_expr.RawLit.TheVariants as literal
use Rattle.re_terms.specs.declared.raw_expr.RawExpr.{RawExpr}
use Rattle.re_terms.specs.declared.raw_expr.RawExpr.TheVariants as expr
use Rattle.re_terms.specs.declared.raw.RawBody.{RawBody}
use Rattle.re_terms.specs.declared.raw.RawBody.TheVariants as body
use Rattle.re_terms.specs.declared.raw.RawDecl.{RawDecl}

-- the marks of a list of tokens
abbrev pub marks_of : List Token → List Mark
marks_of tokens = map (λ token. token.mark) tokens

-- the mark at a place; the end of the text stands behind the last one too
abbrev pub mark_at : List Mark → ℕ → Mark
mark_at marks place = slice_index_or marks place mark.End

-- Kind = "int" | "bool" | "sym"
unfoldable pub kind_of : Mark → Option Kind
kind_of (mark.Reserved word) = if word == INT then Some kind.Int else if word == BOOL then Some kind.Bool else if word == SYM then Some kind.Sym else None
kind_of m = None

-- the operator of a sign
abbrev pub operator_of_sign : ℕ → Option Op
operator_of_sign sign = if sign == PLUS then Some op.Add else if sign == MINUS then Some op.Sub
    else if sign == TIMES then Some op.Mul else if sign == DIVIDE then Some op.Div else if sign == REMAINDER then Some op.Rem
    else if sign == LESS then Some op.Lt else if sign == AT_MOST then Some op.Le
    else if sign == GREATER then Some op.Gt else if sign == AT_LEAST then Some op.Ge
    else if sign == EQUAL then Some op.Eq else if sign == NOT_EQUAL then Some op.Ne else None

-- the operator that a mark stands for behind an operand
unfoldable pub operator_of : Mark → Option Op
operator_of (mark.Sign sign) = operator_of_sign sign
operator_of (mark.Reserved word) = if word == AND then Some op.And else if word == OR then Some op.Or else None
operator_of m = None

-- how tightly an operator binds: `or` 0, `and` 1, comparisons 2, sums 3, products 4
abbrev pub level_of : Op → ℕ
level_of op.Or = 0
level_of op.And = 1
level_of op.Lt = 2
level_of op.Le = 2
level_of op.Gt = 2
level_of op.Ge = 2
level_of op.Eq = 2
level_of op.Ne = 2
level_of op.Add = 3
level_of op.Sub = 3
level_of op.Mul = 4
level_of op.Div = 4
level_of op.Rem = 4

-- Lit = NUMBER | "-" NUMBER | "true" | "false" | NAME, where a number fits 64 bits with its sign
pub data Literal (at : ℕ → Mark) : RawLit → ℕ → ℕ → Type 0 where
  number : {i n : ℕ} → at i ≡ mark.Number n → n < 2 ^ 63 → Literal at (literal.Int (pos n)) i (i + 1)
  negative : {i n : ℕ} → at i ≡ mark.Sign MINUS → at (i + 1) ≡ mark.Number n → n ≤ 2 ^ 63 → Literal at (literal.Int (pos 0 -ℤ pos n)) i (i + 2)
  truth : {i : ℕ} → at i ≡ mark.Reserved TRUE → Literal at (literal.Bool true) i (i + 1)
  falsity : {i : ℕ} → at i ≡ mark.Reserved FALSE → Literal at (literal.Bool false) i (i + 1)
  name : {i : ℕ} {t : Listed ℕ} → at i ≡ mark.Name t → Literal at (literal.Name t) i (i + 1)

-- Region = [ "in" NUMBER ], from 1 to 4, and 1 where nothing is written
pub data Region (at : ℕ → Mark) : ℕ → ℕ → ℕ → Type 0 where
  unwritten : {i : ℕ} → Region at 1 i i
  written : {i n : ℕ} → at i ≡ mark.Reserved IN → at (i + 1) ≡ mark.Number n → 1 ≤ n → n ≤ 4 → Region at n i (i + 2)

-- the phrases of which expressions consist
pub data Phrase : Type 0 where
  Expression : Phrase
  -- an operand of operators that bind less tightly than this level
  Level : ℕ → Phrase
  -- an operand of this level and those that follow it, behind an expression that is their left operand
  Further : ℕ → RawExpr → Phrase
  Primary : Phrase

-- what the marks from one place to another are; `opened` counts the expressions that are open there, and the limit on them
-- goes by the place of an expression's first mark
pub data Reads (at : ℕ → Mark) (limit : ℕ → ℕ) : Phrase → ℕ → RawExpr → ℕ → ℕ → Type 0 where
  -- Expr = "if" Expr "then" Expr "else" Expr | Or
  condition : {opened i j k n : ℕ} {c a b : RawExpr} → opened ≤ limit i → at i ≡ mark.Reserved IF → Reads at limit Expression (opened + 1) c (i + 1) j
      → at j ≡ mark.Reserved THEN → Reads at limit Expression (opened + 1) a (j + 1) k
      → at k ≡ mark.Reserved ELSE → Reads at limit Expression (opened + 1) b (k + 1) n → Reads at limit Expression opened (expr.If c a b) i n
  plain : {opened i n : ℕ} {e : RawExpr} → opened ≤ limit i → Reads at limit (Level 0) opened e i n → Reads at limit Expression opened e i n
  -- Or = And { "or" And }, And = Cmp { "and" Cmp }, Cmp = Sum [ comparison Sum ], Sum = Prod { ("+" | "-") Prod }, Prod = Prim { ("*" | "/" | "%") Prim }
  operands : {level opened i k n : ℕ} {l e : RawExpr} → level < 5 → Reads at limit (Level (level + 1)) opened l i k → Reads at limit (Further level l) opened e k n
      → Reads at limit (Level level) opened e i n
  primary : {level opened i n : ℕ} {e : RawExpr} → level ≡ 5 → Reads at limit Primary opened e i n → Reads at limit (Level level) opened e i n
  -- operators of one level group to the left, and a comparison is no operand of a comparison
  last : {level opened i : ℕ} {l : RawExpr} → Reads at limit (Further level l) opened l i i
  again : {level opened i k n : ℕ} {l r e : RawExpr} {o : Op} → operator_of (at i) ≡ Some o → level_of o ≡ level → level ≢ 2
      → Reads at limit (Level (level + 1)) opened r (i + 1) k → Reads at limit (Further level (expr.Bin o l r)) opened e k n
      → Reads at limit (Further level l) opened e i n
  once : {level opened i n : ℕ} {l r : RawExpr} {o : Op} → operator_of (at i) ≡ Some o → level_of o ≡ level → level ≡ 2
      → Reads at limit (Level (level + 1)) opened r (i + 1) n → Reads at limit (Further level l) opened (expr.Bin o l r) i n
  -- Prim = Lit | "arg" | "self" | "(" Expr ")" | "not" "(" Expr ")" | "recover" "(" Expr "," Expr ")"
  --      | "fault" "(" NUMBER ")" | "size" "(" NAME ")" | "has" "(" NAME "," Expr ")", where a fault's number is from 100 to 999
  literal_ : {opened i n : ℕ} {v : RawLit} → Literal at v i n → Reads at limit Primary opened (expr.Lit v) i n
  arg : {opened i : ℕ} → at i ≡ mark.Reserved ARG → Reads at limit Primary opened expr.Arg i (i + 1)
  own : {opened i : ℕ} → at i ≡ mark.Reserved SELF → Reads at limit Primary opened expr.Own i (i + 1)
  brackets : {opened i n : ℕ} {e : RawExpr} → at i ≡ mark.Sign OPEN → Reads at limit Expression (opened + 1) e (i + 1) n → at n ≡ mark.Sign CLOSE
      → Reads at limit Primary opened e i (n + 1)
  negation : {opened i n : ℕ} {e : RawExpr} → at i ≡ mark.Reserved NOT → at (i + 1) ≡ mark.Sign OPEN → Reads at limit Expression (opened + 1) e (i + 2) n
      → at n ≡ mark.Sign CLOSE → Reads at limit Primary opened (expr.Not e) i (n + 1)
  recovery : {opened i k n : ℕ} {a b : RawExpr} → at i ≡ mark.Reserved RECOVER → at (i + 1) ≡ mark.Sign OPEN → Reads at limit Expression (opened + 1) a (i + 2) k
      → at k ≡ mark.Sign COMMA → Reads at limit Expression (opened + 1) b (k + 1) n → at n ≡ mark.Sign CLOSE
      → Reads at limit Primary opened (expr.Recover a b) i (n + 1)
  fault : {opened i code : ℕ} → at i ≡ mark.Reserved FAULT → at (i + 1) ≡ mark.Sign OPEN → at (i + 2) ≡ mark.Number code → 100 ≤ code → code ≤ 999
      → at (i + 3) ≡ mark.Sign CLOSE → Reads at limit Primary opened (expr.Fault code) i (i + 4)
  size : {opened i : ℕ} {t : Listed ℕ} → at i ≡ mark.Reserved SIZE → at (i + 1) ≡ mark.Sign OPEN → at (i + 2) ≡ mark.Name t
      → at (i + 3) ≡ mark.Sign CLOSE → Reads at limit Primary opened (expr.Size t) i (i + 4)
  membership : {opened i n : ℕ} {t : Listed ℕ} {e : RawExpr} → at i ≡ mark.Reserved HAS → at (i + 1) ≡ mark.Sign OPEN → at (i + 2) ≡ mark.Name t
      → at (i + 3) ≡ mark.Sign COMMA → Reads at limit Expression (opened + 1) e (i + 4) n → at n ≡ mark.Sign CLOSE
      → Reads at limit Primary opened (expr.Has t e) i (n + 1)

-- the expression of a declaration, which is the first that is opened there
abbrev pub ReadsWhole : (ℕ → Mark) → (ℕ → ℕ) → RawExpr → ℕ → ℕ → Type 0
ReadsWhole at limit e i n = Reads at limit Expression 1 e i n

-- Ev = "changed" "(" NAME ")" | "map" "(" NAME "," Expr ")" | "filter" "(" NAME "," Expr ")" | "either" "(" NAME "," NAME ")"
pub data Source (at : ℕ → Mark) (limit : ℕ → ℕ) : RawBody → ℕ → ℕ → Type 0 where
  changed : {i : ℕ} {t : Listed ℕ} → at i ≡ mark.Reserved CHANGED → at (i + 1) ≡ mark.Sign OPEN → at (i + 2) ≡ mark.Name t → at (i + 3) ≡ mark.Sign CLOSE
      → Source at limit (body.Changed t) i (i + 4)
  mapped : {i n : ℕ} {t : Listed ℕ} {e : RawExpr} → at i ≡ mark.Reserved MAP → at (i + 1) ≡ mark.Sign OPEN → at (i + 2) ≡ mark.Name t → at (i + 3) ≡ mark.Sign COMMA
      → ReadsWhole at limit e (i + 4) n → at n ≡ mark.Sign CLOSE → Source at limit (body.Map t e) i (n + 1)
  filtered : {i n : ℕ} {t : Listed ℕ} {e : RawExpr} → at i ≡ mark.Reserved FILTER → at (i + 1) ≡ mark.Sign OPEN → at (i + 2) ≡ mark.Name t → at (i + 3) ≡ mark.Sign COMMA
      → ReadsWhole at limit e (i + 4) n → at n ≡ mark.Sign CLOSE → Source at limit (body.Filter t e) i (n + 1)
  either : {i : ℕ} {t u : Listed ℕ} → at i ≡ mark.Reserved EITHER → at (i + 1) ≡ mark.Sign OPEN → at (i + 2) ≡ mark.Name t → at (i + 3) ≡ mark.Sign COMMA
      → at (i + 4) ≡ mark.Name u → at (i + 5) ≡ mark.Sign CLOSE → Source at limit (body.Either t u) i (i + 6)

-- what stands between a declaration's name and its `;`, by the word that the declaration begins with
pub data Content (at : ℕ → Mark) (limit : ℕ → ℕ) (word : ℕ) : RawBody → ℕ → ℕ → Type 0 where
  device : {i : ℕ} → word ≡ DEVICE → Content at limit word body.Device i i
  symbol : {i : ℕ} → word ≡ SYMBOL → Content at limit word body.Symbol i i
  -- "var" NAME ":" Kind "=" Lit Region ";"
  var : {i j n r : ℕ} {k : Kind} {v : RawLit} → word ≡ VAR → at i ≡ mark.Sign COLON → kind_of (at (i + 1)) ≡ Some k → at (i + 2) ≡ mark.Sign EQUALS
      → Literal at v (i + 3) j → Region at r j n → Content at limit word (body.Var k v r) i n
  -- "event" NAME ":" Kind ";" | "event" NAME "=" Ev ";"
  event : {i : ℕ} {k : Kind} → word ≡ EVENT → at i ≡ mark.Sign COLON → kind_of (at (i + 1)) ≡ Some k → Content at limit word (body.Event k) i (i + 2)
  derived : {i n : ℕ} {b : RawBody} → word ≡ EVENT → at i ≡ mark.Sign EQUALS → Source at limit b (i + 1) n → Content at limit word b i n
  -- "signal" NAME "=" Expr ";"
  signal : {i n : ℕ} {e : RawExpr} → word ≡ SIGNAL → at i ≡ mark.Sign EQUALS → ReadsWhole at limit e (i + 1) n → Content at limit word (body.Signal e) i n
  -- "fold" NAME ":" Kind "=" Lit "on" NAME "do" Expr Region ";"
  fold : {i j m n r : ℕ} {k : Kind} {v : RawLit} {t : Listed ℕ} {e : RawExpr} → word ≡ FOLD → at i ≡ mark.Sign COLON → kind_of (at (i + 1)) ≡ Some k
      → at (i + 2) ≡ mark.Sign EQUALS → Literal at v (i + 3) j → at j ≡ mark.Reserved ON → at (j + 1) ≡ mark.Name t → at (j + 2) ≡ mark.Reserved DO
      → ReadsWhole at limit e (j + 3) m → Region at r m n → Content at limit word (body.Fold k v t e r) i n
  counter : {i : ℕ} → word ≡ COUNTER → Content at limit word body.Counter i i
  set : {i : ℕ} {k : Kind} → word ≡ SET → at i ≡ mark.Sign COLON → kind_of (at (i + 1)) ≡ Some k → Content at limit word (body.Set k) i (i + 2)
  -- "register" NAME ":" Kind "=" Lit ";"
  register : {i n : ℕ} {k : Kind} {v : RawLit} → word ≡ REGISTER → at i ≡ mark.Sign COLON → kind_of (at (i + 1)) ≡ Some k → at (i + 2) ≡ mark.Sign EQUALS
      → Literal at v (i + 3) n → Content at limit word (body.Register k v) i n

-- a declaration
pub record Declaration (at : ℕ → Mark) (limit : ℕ → ℕ) (d : RawDecl) (i n : ℕ) : Type 0 where
  pub word : ℕ
  pub last : ℕ
  pub begins : at i ≡ mark.Reserved word
  pub named : at (i + 1) ≡ mark.Name d.name
  pub content : Content at limit word d.body (i + 2) last
  pub ends : at last ≡ mark.Sign SEMICOLON
  pub next : n ≡ last + 1

-- declarations, in order
pub data Declarations (at : ℕ → Mark) (limit : ℕ → ℕ) : List RawDecl → ℕ → ℕ → Type 0 where
  none : {i : ℕ} → Declarations at limit [] i i
  more : {i k n : ℕ} {d : RawDecl} {ds : List RawDecl} → Declaration at limit d i k → Declarations at limit ds k n → Declarations at limit (d ∷ ds) i n

-- Program = { Decl }: these marks are these declarations, within the limit on open expressions, and then the end of the text
pub record Derives (limit : ℕ → ℕ) (marks : List Mark) (ds : List RawDecl) : Type 0 where
  pub last : ℕ
  pub declarations : Declarations (mark_at marks) limit ds 0 last
  pub end : mark_at marks last ≡ mark.End
  pub all : length marks ≡ last + 1
