-- What a program is.
-- Read against: `device a; var x: int = 2; signal s = x + 3;` is a program; without the device, with a second x, or with s before x it is none.
use Rattle.std.specs.Prelude.{ℕ, suc, ◌≡◌, ◌≤◌, ◌≢◌, ◌&&◌, Bool, true, false, List, length, map, take, max, nat_lt, nat_le, AllPairs, Some, slice_get, count_by}
use Rattle.std.specs.List.{list_all}
use Rattle.re_terms.specs.Arithmetic.{is_word_number}
use Rattle.re_terms.specs.Trees.{is_name_text, is_fault_code, is_region}
use Rattle.re_terms.specs.Cells.{is_cell}
use Rattle.re_terms.specs.Kinds.{keeps_kinds}
use Rattle.re_terms.specs.declared.word.Word.{Word}
use Rattle.re_terms.specs.declared.word.Word.TheVariants as word
use Rattle.re_terms.specs.declared.expr.Expr.{Expr, fold-Expr}
use Rattle.re_terms.specs.declared.expr.Expr.TheOpen.{Expr-F, Lit, Not, Bin, If, Recover, Has}
use Rattle.re_terms.specs.declared.program.Body.{Body}
use Rattle.re_terms.specs.declared.program.Body.TheVariants as body
use Rattle.re_terms.specs.declared.program.Decl.{Decl}
use Rattle.re_terms.specs.declared.program.Program.{Program}

-- a device
abbrev pub is_device_body : Body → Bool
is_device_body body.Device = true
is_device_body b = false

abbrev pub is_device : Decl → Bool
is_device d = is_device_body d.body

-- a symbol
abbrev pub is_symbol_body : Body → Bool
is_symbol_body body.Symbol = true
is_symbol_body b = false

abbrev pub is_symbol : Decl → Bool
is_symbol d = is_symbol_body d.body

-- a replicated cell: a counter, a set or a register
abbrev pub is_replicated_body : Body → Bool
is_replicated_body body.Counter = true
is_replicated_body (body.Set kind) = true
is_replicated_body (body.Register kind start) = true
is_replicated_body b = false

abbrev pub is_replicated : Decl → Bool
is_replicated d = is_replicated_body d.body

-- the names of declarations, in order
abbrev pub names_of : List Decl → List (List ℕ)
names_of decls = map (λ d. d.name.items) decls

-- an int of 64 bits, a symbol below so many, a code from 100 to 999
abbrev pub is_literal_word : ℕ → Word → Bool
is_literal_word symbols (word.Int z) = is_word_number z
is_literal_word symbols (word.Bool b) = true
is_literal_word symbols (word.Sym number) = nat_lt number symbols
is_literal_word symbols (word.Fault code) = is_fault_code code

-- one case for each form of expression
abbrev pub literals_step : ℕ → Expr-F Bool → Bool
literals_step symbols (Lit w) = is_literal_word symbols w
literals_step symbols (Not operand) = operand
literals_step symbols (Bin op left right) = left && right
literals_step symbols (If condition first second) = condition && first && second
literals_step symbols (Recover tried other) = tried && other
literals_step symbols (Has set element) = element
literals_step symbols e = true

-- the literals of an expression are such words
abbrev pub has_literals : ℕ → Expr → Bool
has_literals symbols = fold-Expr Bool (literals_step symbols)

-- the depth of an expression: 1 for what has no operand, else 1 more than its deepest operand
abbrev pub expr_depth_step : Expr-F ℕ → ℕ
expr_depth_step (Not operand) = suc operand
expr_depth_step (Bin op left right) = suc (max left right)
expr_depth_step (If condition first second) = suc (max condition (max first second))
expr_depth_step (Recover tried other) = suc (max tried other)
expr_depth_step (Has set element) = suc element
expr_depth_step e = 1

abbrev pub expr_depth : Expr → ℕ
expr_depth = fold-Expr ℕ expr_depth_step

-- its literals are in their ranges, and its depth is at most 64
abbrev pub is_ranged_expr : ℕ → Expr → Bool
is_ranged_expr symbols e = has_literals symbols e && nat_le (expr_depth e) 64

-- literals, depths and regions are in their ranges, behind so many symbols
abbrev pub is_ranged : ℕ → Body → Bool
is_ranged symbols (body.Var kind start region) = is_literal_word symbols start && is_region region
is_ranged symbols (body.Signal kind expr) = is_ranged_expr symbols expr
is_ranged symbols (body.Map source kind expr) = is_ranged_expr symbols expr
is_ranged symbols (body.Filter source expr) = is_ranged_expr symbols expr
is_ranged symbols (body.Fold kind start source expr region) = is_literal_word symbols start && is_ranged_expr symbols expr && is_region region
is_ranged symbols (body.Register kind start) = is_literal_word symbols start
is_ranged symbols b = true

-- what each program is
pub record IsProgram (p : Program) : Type 0 where
  -- nothing is reserved in its list
  pub plain : p.decls.spare ≡ 0
  -- it has at most 512 declarations, 256 vars and folds, and 32 replicated cells
  pub few : length p.decls.items ≤ 512
  pub cells : count_by is_cell p.decls.items ≤ 256
  pub replicated : count_by is_replicated p.decls.items ≤ 32
  -- it has 1 to 16 devices
  pub device : 1 ≤ count_by is_device p.decls.items
  pub devices : count_by is_device p.decls.items ≤ 16
  -- names are names, with nothing reserved in their lists
  pub names : list_all (λ d. is_name_text d.name) p.decls.items ≡ true
  -- no two names are equal
  pub distinct : AllPairs (λ a b. a ≢ b) (names_of p.decls.items)
  -- each declaration keeps the kind rules behind those before it, and names only these
  pub kinds : (id : ℕ) (d : Decl) → slice_get p.decls.items id ≡ Some d → keeps_kinds (take id p.decls.items) d.body ≡ true
  -- its literals, depths and regions are in their ranges
  pub ranges : (id : ℕ) (d : Decl) → slice_get p.decls.items id ≡ Some d → is_ranged (count_by is_symbol (take id p.decls.items)) d.body ≡ true
