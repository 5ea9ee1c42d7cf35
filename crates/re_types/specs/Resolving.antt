-- What a tree means: the program, or the first fault of its first faulty declaration.
-- Read against: `device a; signal s = t;` has an unknown name in declaration 1 from 0, `device a; device a;` is declared twice in 1, `device a; signal s = 1 + true;` breaks a kind rule in 1, 17 devices are too many in 16, and nothing has no device.
use Rattle.std.specs.Prelude.{ℕ, ◌&&◌, ◌||◌, not, Bool, true, false, if◌then◌else◌, List, [], ◌∷◌, ◌++◌, length, nat_lt, Option, None, Some, is_some, option_map, Result, Ok, Err, slice_get, count_by, position}
use Rattle.std.specs.Str.{bytes_eq}
use Rattle.re_terms.specs.Listed.{Listed, plain}
use Rattle.re_terms.specs.Cells.{is_cell}
use Rattle.re_terms.specs.Kinds.{Sort, Symbol, SomeKind, ◌>>=◌, event_kind, expr_kind, in_signal, at_event, sort_of, sorts_of}
use Rattle.re_terms.specs.Programs.{is_device, is_replicated, names_of}
use Rattle.re_terms.specs.declared.word.Word.{Word}
use Rattle.re_terms.specs.declared.word.Word.TheVariants as word
use Rattle.re_terms.specs.declared.word.Kind.{Kind}
use Rattle.re_terms.specs.declared.expr.Expr.{Expr}
use Rattle.re_terms.specs.declared.expr.Expr.TheVariants as expr
use Rattle.re_terms.specs.declared.program.Body.{Body}
use Rattle.re_terms.specs.declared.program.Body.TheVariants as body
use Rattle.re_terms.specs.declared.program.Decl.{Decl}
use Rattle.re_terms.specs.declared.program.Program.{Program}
use Rattle.re_terms.specs.declared.raw_expr.RawLit.{RawLit}
use Rattle.re_terms.specs.declared.raw_expr.RawLit.TheVariants as literal
use Rattle.re_terms.specs.declared.raw_expr.RawExpr.{RawExpr, fold-RawExpr}
use Rattle.re_terms.specs.declared.raw_expr.RawExpr.TheOpen.{RawExpr-F, Lit, Arg, Own, Fault, Not, Bin, If, Recover, Size, Has}
use Rattle.re_terms.specs.declared.raw.RawBody.{RawBody}
use Rattle.re_terms.specs.declared.raw.RawBody.TheVariants as raw
use Rattle.re_terms.specs.declared.raw.RawDecl.{RawDecl}
use Rattle.re_terms.specs.declared.raw.Tree.{Tree}
use Rattle.re_types.specs.declared.fault.TypeFault.{TypeFault}
use Rattle.re_types.specs.declared.fault.TypeFault.TheVariants as fault

-- what is declared before a declaration: names, and what they stand for, in order
pub record Scope : Type 0 where
  pub names : List (List ℕ)
  pub sorts : List Sort

-- what these declarations declare
abbrev pub scope_of : List Decl → Scope
scope_of decls = record { names = names_of decls; sorts = sorts_of decls }

-- the id of the declaration with this name
abbrev pub place_of : List (List ℕ) → List ℕ → Option ℕ
place_of names name = position (bytes_eq name) names

-- a declaration has this name
abbrev pub is_known : List (List ℕ) → Listed ℕ → Bool
is_known names name = is_some (place_of names name.items)

-- a literal's name is declared
abbrev pub knows_literal : List (List ℕ) → RawLit → Bool
knows_literal names (literal.Name name) = is_known names name
knows_literal names l = true

-- one case for each form of expression, by what holds of its operands
abbrev pub knows_step : List (List ℕ) → RawExpr-F Bool → Bool
knows_step names (Lit l) = knows_literal names l
knows_step names Arg = true
knows_step names Own = true
knows_step names (Fault code) = true
knows_step names (Not operand) = operand
knows_step names (Bin op left right) = left && right
knows_step names (If condition first second) = condition && first && second
knows_step names (Recover tried other) = tried && other
knows_step names (Size set) = is_known names set
knows_step names (Has set element) = is_known names set && element

-- each name in the expression is declared
abbrev pub knows_expr : List (List ℕ) → RawExpr → Bool
knows_expr names = fold-RawExpr Bool (knows_step names)

-- each name in the body is declared
abbrev pub knows_body : List (List ℕ) → RawBody → Bool
knows_body names raw.Device = true
knows_body names raw.Symbol = true
knows_body names (raw.Var kind start region) = knows_literal names start
knows_body names (raw.Event kind) = true
knows_body names (raw.Signal expr) = knows_expr names expr
knows_body names (raw.Changed of) = is_known names of
knows_body names (raw.Map source expr) = is_known names source && knows_expr names expr
knows_body names (raw.Filter source expr) = is_known names source && knows_expr names expr
knows_body names (raw.Either left right) = is_known names left && is_known names right
knows_body names (raw.Fold kind start source expr region) = knows_literal names start && is_known names source && knows_expr names expr
knows_body names raw.Counter = true
knows_body names (raw.Set kind) = true
knows_body names (raw.Register kind start) = knows_literal names start

-- the number of a symbol
abbrev pub symbol_of : Option Sort → Option ℕ
symbol_of (Some (Symbol number)) = Some number
symbol_of s = None

-- the word of a start literal: a name is a symbol's
abbrev pub start_word : Scope → RawLit → Option Word
start_word scope (literal.Int z) = Some (word.Int z)
start_word scope (literal.Bool b) = Some (word.Bool b)
start_word scope (literal.Name name) = do
  id ← place_of scope.names name.items
  number ← symbol_of (slice_get scope.sorts id)
  Some (word.Sym number)

-- the name of a declaration of this sort: a symbol is a literal
abbrev pub name_expr : Option Sort → ℕ → Expr
name_expr (Some (Symbol number)) id = expr.Lit (word.Sym number)
name_expr s id = expr.Name id

-- the expression that a literal means: a name is that of any declaration
abbrev pub literal_expr : Scope → RawLit → Option Expr
literal_expr scope (literal.Int z) = Some (expr.Lit (word.Int z))
literal_expr scope (literal.Bool b) = Some (expr.Lit (word.Bool b))
literal_expr scope (literal.Name name) = do
  id ← place_of scope.names name.items
  Some (name_expr (slice_get scope.sorts id) id)

-- one case for each form of expression; None where a name isn't declared
abbrev pub resolved_step : Scope → RawExpr-F (Option Expr) → Option Expr
resolved_step scope (Lit l) = literal_expr scope l
resolved_step scope Arg = Some expr.Arg
resolved_step scope Own = Some expr.Own
resolved_step scope (Fault code) = Some (expr.Lit (word.Fault code))
resolved_step scope (Not operand) = option_map expr.Not operand
resolved_step scope (Bin op left right) = do
  a ← left
  b ← right
  Some (expr.Bin op a b)
resolved_step scope (If condition first second) = do
  c ← condition
  a ← first
  b ← second
  Some (expr.If c a b)
resolved_step scope (Recover tried other) = do
  a ← tried
  b ← other
  Some (expr.Recover a b)
resolved_step scope (Size set) = option_map expr.Size (place_of scope.names set.items)
resolved_step scope (Has set element) = do
  id ← place_of scope.names set.items
  a ← element
  Some (expr.Has id a)

-- the expression over ids that an expression over names means
abbrev pub resolved_expr : Scope → RawExpr → Option Expr
resolved_expr scope = fold-RawExpr (Option Expr) (resolved_step scope)

-- an expression's kind, where it has one and isn't of any
abbrev pub one_kind : Option SomeKind → Option Kind
one_kind (Some k) = k
one_kind None = None

-- the body over ids; None where a start literal is no symbol's name, an event is none, or an expression has no one kind
abbrev pub resolved_body : Scope → RawBody → Option Body
resolved_body scope raw.Device = Some body.Device
resolved_body scope raw.Symbol = Some body.Symbol
resolved_body scope (raw.Var kind start region) = do
  w ← start_word scope start
  Some (body.Var kind w region)
resolved_body scope (raw.Event kind) = Some (body.Event kind)
resolved_body scope (raw.Signal expr) = do
  e ← resolved_expr scope expr
  kind ← one_kind (expr_kind scope.sorts in_signal e)
  Some (body.Signal kind e)
resolved_body scope (raw.Changed of) = option_map body.Changed (place_of scope.names of.items)
resolved_body scope (raw.Map source expr) = do
  id ← place_of scope.names source.items
  e ← resolved_expr scope expr
  arg ← event_kind scope.sorts id
  kind ← one_kind (expr_kind scope.sorts (at_event arg) e)
  Some (body.Map id kind e)
resolved_body scope (raw.Filter source expr) = do
  id ← place_of scope.names source.items
  e ← resolved_expr scope expr
  Some (body.Filter id e)
resolved_body scope (raw.Either left right) = do
  a ← place_of scope.names left.items
  b ← place_of scope.names right.items
  Some (body.Either a b)
resolved_body scope (raw.Fold kind start source expr region) = do
  w ← start_word scope start
  id ← place_of scope.names source.items
  e ← resolved_expr scope expr
  Some (body.Fold kind w id e region)
resolved_body scope raw.Counter = Some body.Counter
resolved_body scope (raw.Set kind) = Some (body.Set kind)
resolved_body scope (raw.Register kind start) = do
  w ← start_word scope start
  Some (body.Register kind w)

-- the body over ids, where it keeps the kind rules
abbrev pub kinded_body : Scope → RawBody → Option Body
kinded_body scope r = do
  b ← resolved_body scope r
  sort ← sort_of scope.sorts b
  Some b

-- it declares a device
abbrev pub is_raw_device : RawBody → Bool
is_raw_device raw.Device = true
is_raw_device b = false

-- a var or a fold
abbrev pub is_raw_cell : RawBody → Bool
is_raw_cell (raw.Var kind start region) = true
is_raw_cell (raw.Fold kind start source expr region) = true
is_raw_cell b = false

-- a counter, a set or a register
abbrev pub is_raw_replicated : RawBody → Bool
is_raw_replicated raw.Counter = true
is_raw_replicated (raw.Set kind) = true
is_raw_replicated (raw.Register kind start) = true
is_raw_replicated b = false

-- behind so many declarations, devices, vars and folds, and replicated cells, it passes no limit
abbrev pub has_room_behind : ℕ → ℕ → ℕ → ℕ → RawBody → Bool
has_room_behind declarations devices cells replicated b = nat_lt declarations 512
    && (not (is_raw_device b) || nat_lt devices 16)
    && (not (is_raw_cell b) || nat_lt cells 256)
    && (not (is_raw_replicated b) || nat_lt replicated 32)

-- behind these declarations it passes no limit
abbrev pub has_room : List Decl → RawBody → Bool
has_room earlier b = has_room_behind (length earlier) (count_by is_device earlier) (count_by is_cell earlier) (count_by is_replicated earlier) b

-- the declaration with this body, where there is one, or the fault of the one at this place
abbrev pub kinded : ℕ → Listed ℕ → Option Body → Result Decl TypeFault
kinded place name (Some b) = Ok (record { name = name; body = b })
kinded place name None = Err (fault.Kind place)

-- what a declaration means behind earlier ones, or its first fault in the order of the lines; its place is how many there are
abbrev pub declared : List Decl → RawDecl → Result Decl TypeFault
declared earlier d =
    if not (has_room earlier d.body) then Err (fault.TooMany (length earlier))
    else if is_known (names_of earlier) d.name then Err (fault.Twice (length earlier))
    else if not (knows_body (names_of earlier) d.body) then Err (fault.Unknown (length earlier))
    else kinded (length earlier) d.name (kinded_body (scope_of earlier) d.body)

-- a fault, or what comes of the other declarations behind this one
abbrev pub then_others : List Decl → Result Decl TypeFault → (List Decl → Result (List Decl) TypeFault) → Result (List Decl) TypeFault
then_others earlier (Ok d) others = others (earlier ++ d ∷ [])
then_others earlier (Err f) others = Err f

-- the earlier declarations and what these mean, each behind those before it, or the fault of the first faulty one
abbrev pub declarations : List Decl → List RawDecl → Result (List Decl) TypeFault
declarations earlier [] = Ok earlier
declarations earlier (d ∷ decls) = then_others earlier (declared earlier d) (λ next. declarations next decls)

-- the program of these declarations, where one is a device
abbrev pub program_with : Result (List Decl) TypeFault → Result Program TypeFault
program_with (Ok decls) = if nat_lt 0 (count_by is_device decls) then Ok (record { decls = plain decls }) else Err fault.NoDevice
program_with (Err f) = Err f

-- the program that a tree means, or why it means none
abbrev pub resolved : Tree → Result Program TypeFault
resolved tree = program_with (declarations [] tree.decls.items)
