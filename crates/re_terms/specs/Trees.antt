-- What each tree is that is read: names are names, numbers are in their ranges, and expressions are not too deep.
-- Read against: `1 + 2` has depth 2, `(1)` and `fault(100)` have depth 1, `not(has(s, 1))` has depth 3.
use Rattle.std.specs.Prelude.{ℕ, suc, ◌==◌, ◌≡◌, ◌&&◌, Bool, true, nat_le, max}
use Rattle.std.specs.List.{list_all}
use Rattle.re_terms.specs.Arithmetic.{is_word_number}
use Rattle.re_terms.specs.Listed.{Listed}
use Rattle.re_terms.specs.Tokens.{is_name}
use Rattle.re_terms.specs.declared.raw_expr.RawLit.{RawLit}
use Rattle.re_terms.specs.declared.raw_expr.RawLit.TheVariants as literal
use Rattle.re_terms.specs.declared.raw_expr.RawExpr.{RawExpr, fold-RawExpr}
use Rattle.re_terms.specs.declared.raw_expr.RawExpr.TheOpen.{RawExpr-F, Lit, Arg, Own, Fault, Not, Bin, If, Recover, Size, Has}
use Rattle.re_terms.specs.declared.raw.RawBody.{RawBody}
use Rattle.re_terms.specs.declared.raw.RawBody.TheVariants as raw
use Rattle.re_terms.specs.declared.raw.RawDecl.{RawDecl}
use Rattle.re_terms.specs.declared.raw.Tree.{Tree}

-- the depth of an expression: 1 for what has no operand, else 1 more than its deepest operand
abbrev pub depth_step : RawExpr-F ℕ → ℕ
depth_step (Not operand) = suc operand
depth_step (Bin op left right) = suc (max left right)
depth_step (If condition a b) = suc (max condition (max a b))
depth_step (Recover tried other) = suc (max tried other)
depth_step (Has set element) = suc element
depth_step e = 1

abbrev pub raw_depth : RawExpr → ℕ
raw_depth = fold-RawExpr ℕ depth_step

-- a name as a tree holds it; nothing is reserved in its list
abbrev pub is_name_text : Listed ℕ → Bool
is_name_text t = is_name t.items && (t.spare == 0)

-- the code of `fault(n)` is from 100 to 999
abbrev pub is_fault_code : ℕ → Bool
is_fault_code n = nat_le 100 n && nat_le n 999

-- a region that may be written is from 1 to 4
abbrev pub is_region : ℕ → Bool
is_region n = nat_le 1 n && nat_le n 4

abbrev pub is_literal : RawLit → Bool
is_literal (literal.Int z) = is_word_number z
is_literal (literal.Bool b) = true
is_literal (literal.Name t) = is_name_text t

-- the names, numbers and codes of an expression are in their ranges
abbrev pub expr_step : RawExpr-F Bool → Bool
expr_step (Lit l) = is_literal l
expr_step Arg = true
expr_step Own = true
expr_step (Fault code) = is_fault_code code
expr_step (Not operand) = operand
expr_step (Bin op left right) = left && right
expr_step (If condition a b) = condition && a && b
expr_step (Recover tried other) = tried && other
expr_step (Size set) = is_name_text set
expr_step (Has set element) = is_name_text set && element

abbrev pub is_expr : RawExpr → Bool
is_expr = fold-RawExpr Bool expr_step

-- an expression of a declaration: its depth is at most 64
abbrev pub is_whole_expr : RawExpr → Bool
is_whole_expr e = is_expr e && nat_le (raw_depth e) 64

abbrev pub is_body : RawBody → Bool
is_body raw.Device = true
is_body raw.Symbol = true
is_body (raw.Var kind start region) = is_literal start && is_region region
is_body (raw.Event kind) = true
is_body (raw.Signal expr) = is_whole_expr expr
is_body (raw.Changed of) = is_name_text of
is_body (raw.Map source expr) = is_name_text source && is_whole_expr expr
is_body (raw.Filter source expr) = is_name_text source && is_whole_expr expr
is_body (raw.Either left right) = is_name_text left && is_name_text right
is_body (raw.Fold kind start source expr region) = is_literal start && is_name_text source && is_whole_expr expr && is_region region
is_body raw.Counter = true
is_body (raw.Set kind) = true
is_body (raw.Register kind start) = is_literal start

abbrev pub is_declaration : RawDecl → Bool
is_declaration d = is_name_text d.name && is_body d.body

-- what each tree is that a text gives
pub record IsTree (tree : Tree) : Type 0 where
  pub plain : tree.decls.spare ≡ 0
  pub declarations : list_all is_declaration tree.decls.items ≡ true
