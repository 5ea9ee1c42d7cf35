-- Vars and folds, whose words a state keeps.
-- Read against: in `device a; var x: int = 2; signal s = x; fold n: int = 0 on e do self;` x and n are kept, x's word in place 0 and n's in place 1.
use Rattle.std.specs.Prelude.{ℕ, Bool, true, false, List, take, count_by}
use Rattle.re_terms.specs.declared.program.Body.{Body}
use Rattle.re_terms.specs.declared.program.Body.TheVariants as body
use Rattle.re_terms.specs.declared.program.Decl.{Decl}

-- a var or a fold: its word is kept in the state
abbrev pub is_cell_body : Body → Bool
is_cell_body (body.Var kind start region) = true
is_cell_body (body.Fold kind start source expr region) = true
is_cell_body b = false

abbrev pub is_cell : Decl → Bool
is_cell d = is_cell_body d.body

-- the place of a var's or fold's word in a state: how many vars and folds are declared before it
abbrev pub cell_place : List Decl → ℕ → ℕ
cell_place decls id = count_by is_cell (take id decls)
