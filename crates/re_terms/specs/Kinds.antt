-- The kind rules: what each name stands for, and the kind of each expression.
-- Read against: with a var x of kind int, `x + true` breaks a rule, `x == fault(100)` is of kind bool, `if true then fault(100) else x` of kind int, and `fault(100)` of any kind.
use Rattle.std.specs.Prelude.{ℕ, ◌&&◌, Bool, true, false, if◌then◌else◌, List, [], ◌∷◌, ◌++◌, Option, None, Some, option_and_then, option_map, unwrap_or, is_some, slice_get, count_by, fold}
use Rattle.re_terms.specs.declared.word.Word.{Word}
use Rattle.re_terms.specs.declared.word.Word.TheVariants as word
use Rattle.re_terms.specs.declared.word.Kind.{Kind}
use Rattle.re_terms.specs.declared.word.Kind.TheVariants as kind
use Rattle.re_terms.specs.declared.expr.Op.{Op}
use Rattle.re_terms.specs.declared.expr.Op.TheVariants as op
use Rattle.re_terms.specs.declared.expr.Expr.{Expr, fold-Expr}
use Rattle.re_terms.specs.declared.expr.Expr.TheOpen.{Expr-F, Lit, Name, Arg, Own, Not, Bin, If, Recover, Size, Has}
use Rattle.re_terms.specs.declared.program.Body.{Body}
use Rattle.re_terms.specs.declared.program.Body.TheVariants as body
use Rattle.re_terms.specs.declared.program.Decl.{Decl}

-- what is made of a value, where there is one
infixl 10 ◌>>=◌
abbrev pub ◌>>=◌ : {A B : Type 0} → Option A → (A → Option B) → Option B
o >>= f = option_and_then f o

-- the value where a test holds
abbrev pub only_if : {A : Type 0} → Bool → A → Option A
only_if holds x = if holds then Some x else None

-- two kinds are the same
abbrev pub kind_eq : Kind → Kind → Bool
kind_eq kind.Int kind.Int = true
kind_eq kind.Bool kind.Bool = true
kind_eq kind.Sym kind.Sym = true
kind_eq a b = false

-- what a declared name stands for
pub data Sort : Type 0 where
  Device : Sort
  -- a symbol, by its number
  Symbol : (number : ℕ) → Sort
  -- a var, signal, fold, counter or register, by the kind of its word
  Value : (kind : Kind) → Sort
  -- a set, by the kind of its elements
  Set : (kind : Kind) → Sort
  -- an event, by the kind of its value
  Event : (kind : Kind) → Sort

-- the name is a symbol
abbrev pub is_symbol_sort : Sort → Bool
is_symbol_sort (Symbol number) = true
is_symbol_sort s = false

-- the kind of the word that a name stands for, where it stands for one
abbrev pub value_kind_of : Option Sort → Option Kind
value_kind_of (Some (Value k)) = Some k
value_kind_of s = None

-- the kind of a set's elements
abbrev pub set_kind_of : Option Sort → Option Kind
set_kind_of (Some (Set k)) = Some k
set_kind_of s = None

-- the kind of an event's value
abbrev pub event_kind_of : Option Sort → Option Kind
event_kind_of (Some (Event k)) = Some k
event_kind_of s = None

-- the kind of the word of the declaration with this id, where it is a var, signal, fold, counter or register
abbrev pub value_kind : List Sort → ℕ → Option Kind
value_kind sorts id = value_kind_of (slice_get sorts id)

-- the kind of its elements, where it is a set
abbrev pub set_kind : List Sort → ℕ → Option Kind
set_kind sorts id = set_kind_of (slice_get sorts id)

-- the kind of its value, where it is an event
abbrev pub event_kind : List Sort → ℕ → Option Kind
event_kind sorts id = event_kind_of (slice_get sorts id)

-- one kind, or None for any kind, as `fault(n)` has
abbrev pub SomeKind : Type 0
SomeKind = Option Kind

-- the kind of a word
abbrev pub word_kind : Word → SomeKind
word_kind (word.Int z) = Some kind.Int
word_kind (word.Bool b) = Some kind.Bool
word_kind (word.Sym number) = Some kind.Sym
word_kind (word.Fault code) = None

-- two operands agree where their kinds are equal or one is any; the common kind is the one that isn't any
abbrev pub common_kind : SomeKind → SomeKind → Option SomeKind
common_kind None b = Some b
common_kind (Some a) None = Some (Some a)
common_kind (Some a) (Some b) = only_if (kind_eq a b) (Some a)

-- what an operator takes beside operands that agree: `==` and `!=` take any kind
abbrev pub operand_kind : Op → SomeKind
operand_kind op.Eq = None
operand_kind op.Ne = None
operand_kind op.And = Some kind.Bool
operand_kind op.Or = Some kind.Bool
operand_kind o = Some kind.Int

-- what an operator gives
abbrev pub result_kind : Op → Kind
result_kind op.Add = kind.Int
result_kind op.Sub = kind.Int
result_kind op.Mul = kind.Int
result_kind op.Div = kind.Int
result_kind op.Rem = kind.Int
result_kind o = kind.Bool

-- an operand that agrees with this kind, in an expression that then has the other kind
abbrev pub taking : SomeKind → SomeKind → SomeKind → Option SomeKind
taking wanted given operand = option_map (λ common. given) (common_kind operand wanted)

-- the operands agree with each other and with what the operator takes
abbrev pub operator_kind : Op → SomeKind → SomeKind → Option SomeKind
operator_kind o left right = do
  common ← common_kind left right
  taking (operand_kind o) (Some (result_kind o)) common

-- what the words `arg` and `self` stand for, where they may stand
pub record Place : Type 0 where
  pub arg : Option Kind
  pub own : Option Kind

-- in a signal neither of them may stand
abbrev pub in_signal : Place
in_signal = record { arg = None; own = None }

-- in `map` and `filter` the word `arg` has the event's kind
abbrev pub at_event : Kind → Place
at_event event = record { arg = Some event; own = None }

-- in a fold, besides, `self` has the fold's kind
abbrev pub in_fold : Kind → Kind → Place
in_fold event own = record { arg = Some event; own = Some own }

-- one case for each form of expression, over the kinds of its operands; None where a rule is broken
abbrev pub kind_step : List Sort → Place → Expr-F (Option SomeKind) → Option SomeKind
kind_step sorts place (Lit w) = Some (word_kind w)
kind_step sorts place (Name id) = option_map Some (value_kind sorts id)
kind_step sorts place Arg = option_map Some place.arg
kind_step sorts place Own = option_map Some place.own
kind_step sorts place (Not operand) = do
  a ← operand
  taking (Some kind.Bool) (Some kind.Bool) a
kind_step sorts place (Bin o left right) = do
  a ← left
  b ← right
  operator_kind o a b
kind_step sorts place (If condition first second) = do
  c ← condition
  a ← first
  b ← second
  common ← common_kind a b
  taking (Some kind.Bool) common c
kind_step sorts place (Recover tried other) = do
  a ← tried
  b ← other
  common_kind a b
kind_step sorts place (Size set) = option_map (λ elements. Some kind.Int) (set_kind sorts set)
kind_step sorts place (Has set element) = do
  elements ← set_kind sorts set
  a ← element
  taking (Some elements) (Some kind.Bool) a

-- the kind of an expression over the declarations before it, at this place; None where a rule is broken
abbrev pub expr_kind : List Sort → Place → Expr → Option SomeKind
expr_kind sorts place = fold-Expr (Option SomeKind) (kind_step sorts place)

-- an expression is of this one kind
abbrev pub is_of_kind : Kind → Option SomeKind → Bool
is_of_kind k (Some (Some a)) = kind_eq a k
is_of_kind k e = false

-- an expression agrees with this kind
abbrev pub agrees_with : Kind → Option SomeKind → Bool
agrees_with k (Some (Some a)) = kind_eq a k
agrees_with k (Some None) = true
agrees_with k None = false

-- a start literal is a word of the declared kind
abbrev pub is_start : Kind → Word → Bool
is_start k w = is_of_kind k (Some (word_kind w))

-- what a declaration's name stands for, over those before it; None where it breaks a kind rule
abbrev pub sort_of : List Sort → Body → Option Sort
sort_of sorts body.Device = Some Device
sort_of sorts body.Symbol = Some (Symbol (count_by is_symbol_sort sorts))
sort_of sorts (body.Var k start region) = only_if (is_start k start) (Value k)
sort_of sorts (body.Event k) = Some (Event k)
sort_of sorts (body.Signal k expr) = only_if (is_of_kind k (expr_kind sorts in_signal expr)) (Value k)
sort_of sorts (body.Changed of) = option_map Event (value_kind sorts of)
sort_of sorts (body.Map source k expr) = do
  arg ← event_kind sorts source
  only_if (is_of_kind k (expr_kind sorts (at_event arg) expr)) (Event k)
sort_of sorts (body.Filter source expr) = do
  arg ← event_kind sorts source
  only_if (agrees_with kind.Bool (expr_kind sorts (at_event arg) expr)) (Event arg)
sort_of sorts (body.Either left right) = do
  a ← event_kind sorts left
  b ← event_kind sorts right
  only_if (kind_eq a b) (Event a)
sort_of sorts (body.Fold k start source expr region) = do
  arg ← event_kind sorts source
  only_if (is_start k start && agrees_with k (expr_kind sorts (in_fold arg k) expr)) (Value k)
sort_of sorts body.Counter = Some (Value kind.Int)
sort_of sorts (body.Set k) = Some (Set k)
sort_of sorts (body.Register k start) = only_if (is_start k start) (Value k)

-- one declaration more; one that breaks a rule counts as a device, whose name no body may hold
abbrev pub with_sort : List Sort → Decl → List Sort
with_sort sorts d = sorts ++ unwrap_or (sort_of sorts d.body) Device ∷ []

-- what the names of these declarations stand for, in order
abbrev pub sorts_of : List Decl → List Sort
sorts_of decls = fold with_sort [] decls

-- the body keeps the kind rules behind these declarations
abbrev pub keeps_kinds : List Decl → Body → Bool
keeps_kinds earlier b = is_some (sort_of (sorts_of earlier) b)
