-- The words that the outcome of an entry is computed from.
-- Read against: on `var x: int = 1; var y: int = 2; signal s = x + y; event e = changed(y); fold n: int = 0 on e do self + s;` a turn that sets x
-- reads x, y, s and n, since it reaches x, s and n, whose inputs are x, y, s and the event e, which has no word.
use Rattle.std.specs.Prelude.{ℕ, ◌==◌, ◌&&◌, ◌||◌, Bool, true, false, List, map, filter, length, slice_get}
use Rattle.std.specs.Option.{option_map_or}
use Rattle.std.specs.List.{list_any, range_with_len}
use Rattle.re_terms.specs.declared.entry.Put.{Put}
use Rattle.re_terms.specs.declared.entry.Entry.{Entry}
use Rattle.re_terms.specs.declared.entry.State.{State}
use Rattle.re_terms.specs.declared.replicated.RState.{RState}
use Rattle.re_terms.specs.declared.program.Body.{Body}
use Rattle.re_terms.specs.declared.program.Body.TheVariants as body
use Rattle.re_terms.specs.declared.program.Decl.{Decl}
use Rattle.re_terms.specs.declared.program.Program.{Program}
use Rattle.re_terms.specs.Dependencies.{PlainNode, graph_of, inputs_at, reach}
use Rattle.re_terms.specs.SignalWords.{signal_word}
use Rattle.re_terms.specs.Views.{view_of}
use Rattle.re_prop.specs.Touched.{touched}

-- a declaration that has a word: a var, signal, fold, counter or register
abbrev pub is_valued_body : Body → Bool
is_valued_body (body.Var kind start region) = true
is_valued_body (body.Signal kind expr) = true
is_valued_body (body.Fold kind start source expr region) = true
is_valued_body body.Counter = true
is_valued_body (body.Register kind start) = true
is_valued_body b = false

-- the declaration with this id is such a one
abbrev pub is_valued_at : List Decl → ℕ → Bool
is_valued_at decls id = option_map_or (λ d. is_valued_body d.body) (slice_get decls id) false

-- the declaration is one of these, or an input of one
abbrev pub is_used : List PlainNode → List ℕ → ℕ → Bool
is_used graph reached id = list_any (λ other. (other == id) || list_any (λ input. input == id) (inputs_at graph other)) reached

-- the words before an entry of what has a word and is reached from what the entry touches or is an input of it, ascending
abbrev pub words_read : Program → State → Entry → RState → List Put
words_read p s e behind = map (λ id. record { id = id; word = signal_word p s.words.items (view_of s.rep) id }) (filter (λ id. is_valued_at p.decls.items id && is_used (graph_of p.decls.items) (reach (graph_of p.decls.items) (touched p s e behind)) id) (range_with_len 0 (length p.decls.items)))
