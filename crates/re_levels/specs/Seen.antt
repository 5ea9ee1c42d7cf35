-- What an entry does along the declarations that it reaches, as it is seen through two environments.
-- Read against: of `var x: int = 1; var y: int = 7; signal s = x + y; signal t = y;` a turn that sets x to 5 and touches it alone reaches x and s;
-- where the first environment tells 1, 7, 8, 7 of them, x has 5 after it, s has 12, and y and t keep 7 without being looked at.
use Rattle.std.specs.Prelude.{ℕ, List, None, Some, option_map, option_and_then, unwrap_or, if◌then◌else◌, length, slice_get}
use Rattle.std.specs.Option.{option_map_or}
use Rattle.re_terms.specs.declared.entry.Put.{Put}
use Rattle.re_terms.specs.declared.entry.Entry.{Entry}
use Rattle.re_terms.specs.declared.program.Body.{Body}
use Rattle.re_terms.specs.declared.program.Body.TheVariants as body
use Rattle.re_terms.specs.declared.program.Program.{Program}
use Rattle.re_terms.specs.Dependencies.{below, graph_of, is_reached}
use Rattle.re_terms.specs.Meaning.{meaning}
use Rattle.re_terms.specs.Propagation.{Effect, change_of, either_of, filtered, fires_of, no_effect, occurs, put_word, sets_of, word_effect}
use Rattle.re_eval.specs.Told.{Told, environment}

-- what is seen of an entry: what stands before it, the replicated cells after it, what it sets and fires, and what it touches
pub record Sight : Type 0 where
  pub old : Told
  pub new : Told
  pub sets : List Put
  pub fires : List Put
  pub touched : List ℕ

abbrev pub sight_of : Entry → List ℕ → Told → Told → Sight
sight_of e touched old new = record { old = old; new = new; sets = sets_of e; fires = fires_of e; touched = touched }

-- what an expression is told, where the declarations have these effects
abbrev pub told_over : Sight → (ℕ → Effect) → Told
told_over s earlier = record { word = λ id. (earlier id).word; size = s.new.size; has = s.new.has }

-- what a reached declaration with this body has, over what the earlier ones have
abbrev pub body_seen : Sight → ℕ → Body → (ℕ → Effect) → Effect
body_seen s id (body.Var kind start region) earlier = word_effect (unwrap_or (put_word s.sets id) (s.old.word id))
body_seen s id (body.Signal kind expr) earlier = word_effect (meaning expr (environment (told_over s earlier) None None))
body_seen s id (body.Fold kind start source expr region) earlier =
    word_effect (option_map_or (λ value. meaning expr (environment (told_over s earlier) (Some value) (Some (s.old.word id)))) (earlier source).occurrence (s.old.word id))
body_seen s id body.Counter earlier = word_effect (s.new.word id)
body_seen s id (body.Register kind start) earlier = word_effect (s.new.word id)
body_seen s id (body.Event kind) earlier = occurs (put_word s.fires id)
body_seen s id (body.Changed of) earlier = occurs (change_of (s.old.word of) (earlier of).word)
body_seen s id (body.Map source kind expr) earlier =
    occurs (option_map (λ value. meaning expr (environment (told_over s earlier) (Some value) None)) (earlier source).occurrence)
body_seen s id (body.Filter source expr) earlier =
    occurs (option_and_then (λ value. filtered (meaning expr (environment (told_over s earlier) (Some value) None)) value) (earlier source).occurrence)
body_seen s id (body.Either left right) earlier = occurs (either_of (earlier left).occurrence (earlier right).occurrence)
body_seen s id b earlier = no_effect

-- the same of the declaration at a place
abbrev pub reached_seen : Program → Sight → ℕ → (ℕ → Effect) → Effect
reached_seen p s id earlier = option_map_or (λ d. body_seen s id d.body earlier) (slice_get p.decls.items id) no_effect

-- a declaration that isn't reached keeps its word, and doesn't occur
abbrev pub place_seen : Program → Sight → ℕ → (ℕ → Effect) → Effect
place_seen p s id earlier = if is_reached (graph_of p.decls.items) s.touched id then reached_seen p s id earlier else word_effect (s.old.word id)

-- what a declaration is seen to have after the entry
abbrev pub seen : Program → Sight → ℕ → Effect
seen p s = below no_effect (place_seen p s) (length p.decls.items)
