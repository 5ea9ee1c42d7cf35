-- What was found of declarations.
-- Read against: where 2 was found to have the word 5, and 3 has the word 7 before the entry, 2 has 5 and 3 has 7.
use Rattle.std.specs.Prelude.{ℕ, ◌==◌, Bool, true, false, List, count_by, find, slice_get}
use Rattle.std.specs.Option.{option_map_or}
use Rattle.re_terms.specs.declared.program.Body.{Body}
use Rattle.re_terms.specs.declared.program.Body.TheVariants as body
use Rattle.re_terms.specs.declared.program.Decl.{Decl}
use Rattle.re_terms.specs.declared.program.Program.{Program}
use Rattle.re_terms.specs.Dependencies.{graph_of, reach}
use Rattle.re_levels.specs.Seen.{Sight, seen}
use Rattle.re_terms.specs.Propagation.{Effect, word_effect}
use Rattle.re_eval.specs.Told.{Told}
use Rattle.re_levels.specs.declared.found.Found.{Found as One}

abbrev pub effect_of : One → Effect
effect_of f = record { word = f.word; occurrence = f.value }

-- what a declaration has: what was found, else its word before the entry
abbrev pub effect_among : Told → List One → ℕ → Effect
effect_among old found id = option_map_or effect_of (find (λ f. f.id == id) found) (word_effect (old.word id))

-- what an expression is told
abbrev pub told_among : Told → Told → List One → Told
told_among old new found = record { word = λ id. (effect_among old found id).word; size = new.size; has = new.has }

-- a declaration with an expression
abbrev pub has_expression : Body → Bool
has_expression (body.Signal kind expr) = true
has_expression (body.Map source kind expr) = true
has_expression (body.Filter source expr) = true
has_expression (body.Fold kind start source expr region) = true
has_expression b = false

abbrev pub has_expression_at : List Decl → ℕ → Bool
has_expression_at decls id = option_map_or (λ d. has_expression d.body) (slice_get decls id) false

-- what is seen of a declaration, as it is kept
abbrev pub seen_one : Program → Sight → ℕ → One
seen_one p s id = record { id = id; word = (seen p s id).word; value = (seen p s id).occurrence }

-- how many declarations with an expression are reached
abbrev pub expressions_reached : Program → List ℕ → ℕ
expressions_reached p touched = count_by (has_expression_at p.decls.items) (reach (graph_of p.decls.items) touched)
