-- Folds among declarations.
-- Read against: of `device a; event e: int; fold n: int = 0 on e do self + 1;` the declaration 2 is a fold.
use Rattle.std.specs.Prelude.{ℕ, ◌≡◌, Bool, true, false, List, slice_get}
use Rattle.std.specs.Option.{option_map_or}
use Rattle.re_terms.specs.declared.program.Body.{Body}
use Rattle.re_terms.specs.declared.program.Body.TheVariants as body
use Rattle.re_terms.specs.declared.program.Decl.{Decl}

abbrev pub is_fold_body : Body → Bool
is_fold_body (body.Fold kind start source expr region) = true
is_fold_body b = false

-- the declaration with this id is a fold
abbrev pub IsFoldAt : List Decl → ℕ → Type 0
IsFoldAt decls id = option_map_or (λ d. is_fold_body d.body) (slice_get decls id) false ≡ true
