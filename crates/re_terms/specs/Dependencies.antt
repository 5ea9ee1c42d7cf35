-- What the declarations of a program depend on: inputs, levels, what is reached, supports and footprints' regions.
-- Read against: `var x: int = 1; signal p = x + 1; signal q = x * 2; signal r = p + q; event e = changed(r); fold n: int = 0 on e do self + 1;`
-- as declarations 0 to 5: the inputs of r are 1 and 2, those of n are 4 alone; the levels are 0, 1, 1, 2, 3, 4; 2 reaches 2, 3, 4, 5; the support of n is 0 and 5.
use Rattle.std.specs.Prelude.{ℕ, zero, suc, ◌≡◌, ◌<◌, ◌≤◌, ◌==◌, ◌||◌, ◌&&◌, Bool, false, List, [], ◌∷◌, ◌++◌, Option, None, Some, if◌then◌else◌, map, filter, length, max, slice_get}
use Rattle.std.specs.Option.{is_some, option_map_or}
use Rattle.std.specs.List.{All, list_any, range_with_len}
use Rattle.re_terms.specs.declared.expr.Expr.{Expr, fold-Expr}
use Rattle.re_terms.specs.declared.expr.Expr.TheOpen.{Expr-F, Lit, Name, Arg, Own, Not, Bin, If, Recover, Size, Has}
use Rattle.re_terms.specs.declared.program.Body.{Body}
use Rattle.re_terms.specs.declared.program.Body.TheVariants as body
use Rattle.re_terms.specs.declared.program.Decl.{Decl}

-- the cells and sets that stand in an expression; a symbol is a literal
abbrev pub names_step : Expr-F (List ℕ) → List ℕ
names_step (Lit w) = []
names_step (Name id) = id ∷ []
names_step Arg = []
names_step Own = []
names_step (Not operand) = operand
names_step (Bin op left right) = left ++ right
names_step (If condition a b) = condition ++ a ++ b
names_step (Recover tried other) = tried ++ other
names_step (Size set) = set ∷ []
names_step (Has set element) = set ∷ element

abbrev pub expr_names : Expr → List ℕ
expr_names = fold-Expr (List ℕ) names_step

-- the declarations that a body names; a fold's `self` is no name
abbrev pub inputs : Body → List ℕ
inputs (body.Signal kind expr) = expr_names expr
inputs (body.Changed of) = of ∷ []
inputs (body.Map source kind expr) = source ∷ expr_names expr
inputs (body.Filter source expr) = source ∷ expr_names expr
inputs (body.Either left right) = left ∷ right ∷ []
inputs (body.Fold kind start source expr region) = source ∷ expr_names expr
inputs b = []

-- the region of a cell: a var's or fold's own, and 0 for a replicated one; nothing else is a cell
abbrev pub cell_region : Body → Option ℕ
cell_region (body.Var kind start region) = Some region
cell_region (body.Fold kind start source expr region) = Some region
cell_region body.Counter = Some 0
cell_region (body.Set kind) = Some 0
cell_region (body.Register kind start) = Some 0
cell_region b = None

-- a declaration in the graph: what it names, and its region where it is a cell
pub record PlainNode : Type 0 where
  pub inputs : List ℕ
  pub region : Option ℕ

abbrev pub node_of : Decl → PlainNode
node_of d = record { inputs = inputs d.body; region = cell_region d.body }

-- the dependency graph of a list of declarations
abbrev pub graph_of : List Decl → List PlainNode
graph_of = map node_of

abbrev pub inputs_at : List PlainNode → ℕ → List ℕ
inputs_at graph id = option_map_or (λ node. node.inputs) (slice_get graph id) []

abbrev pub region_at : List PlainNode → ℕ → Option ℕ
region_at graph id = option_map_or (λ node. node.region) (slice_get graph id) None

-- the ids of all declarations, ascending
abbrev pub ids : List PlainNode → List ℕ
ids graph = range_with_len 0 (length graph)

-- each input of a declaration is declared before it
abbrev pub IsOrdered : List PlainNode → Type 0
IsOrdered graph = (id : ℕ) → All (λ input. input < id) (inputs_at graph id)

-- each region is at most 4
abbrev pub HasRegions : List PlainNode → Type 0
HasRegions graph = (id region : ℕ) → region_at graph id ≡ Some region → region ≤ 4

-- what a step makes of a declaration below a place and of what it made of the earlier ones, by recursion on the place; `none` from the place on
abbrev pub below : {A : Type 0} → A → (ℕ → (ℕ → A) → A) → ℕ → ℕ → A
below none step zero id = none
below none step (suc n) id = if id == n then step n (below none step n) else below none step n id

-- 0 for no levels, else 1 more than the greatest
abbrev pub level_above : List ℕ → ℕ
level_above [] = 0
level_above (l ∷ levels) = max (suc l) (level_above levels)

-- a declaration without inputs has level 0, any other 1 more than its inputs' greatest level
abbrev pub level : List PlainNode → ℕ → ℕ
level graph = below 0 (λ id earlier. level_above (map earlier (inputs_at graph id))) (length graph)

-- a declaration is touched, or one of its inputs is reached
abbrev pub is_reached : List PlainNode → List ℕ → ℕ → Bool
is_reached graph touched = below false (λ id earlier. list_any (λ t. t == id) touched || list_any earlier (inputs_at graph id)) (length graph)

-- what is reached from the touched declarations, ascending
abbrev pub reach : List PlainNode → List ℕ → List ℕ
reach graph touched = filter (is_reached graph touched) (ids graph)

-- a cell is the declaration itself, or is behind one of its inputs
abbrev pub is_behind : List PlainNode → ℕ → ℕ → Bool
is_behind graph cell = below false (λ id earlier. (cell == id) || list_any earlier (inputs_at graph id)) (length graph)

-- the cells behind a declaration, itself among them where it is one, ascending
abbrev pub support : List PlainNode → ℕ → List ℕ
support graph id = filter (λ cell. is_some (region_at graph cell) && is_behind graph cell id) (ids graph)
