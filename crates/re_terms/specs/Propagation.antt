-- What one entry does along the declarations.
-- Read against: with `var x: int = 1; signal p = x + 1; signal q = x * 2; signal r = p + q; event e = changed(r); fold n: int = 0 on e do self + 1;`
-- a first turn that sets x to 5 gives r the word 16, e occurs with it, and n becomes 1; a first turn that sets x to 1 changes nothing.
use Rattle.std.specs.Prelude.{ℕ, ◌==◌, ◌&&◌, Bool, true, false, not, List, [], ◌∷◌, Option, None, Some, option_map, option_and_then, unwrap_or, if◌then◌else◌, map, filter, length, slice_get, slice_index_or}
use Rattle.std.specs.Option.{option_map_or}
use Rattle.std.specs.List.{range_with_len}
use Rattle.re_terms.specs.declared.word.Word.{Word}
use Rattle.re_terms.specs.declared.word.Word.TheVariants as word
use Rattle.re_terms.specs.declared.entry.Put.{Put}
use Rattle.re_terms.specs.declared.entry.Entry.{Entry}
use Rattle.re_terms.specs.declared.entry.Entry.TheVariants as entry
use Rattle.re_terms.specs.declared.entry.State.{State}
use Rattle.re_terms.specs.declared.replicated.RState.{RState}
use Rattle.re_terms.specs.declared.program.Body.{Body}
use Rattle.re_terms.specs.declared.program.Body.TheVariants as body
use Rattle.re_terms.specs.declared.program.Decl.{Decl}
use Rattle.re_terms.specs.declared.program.Program.{Program}
use Rattle.re_terms.specs.Dependencies.{below}
use Rattle.re_terms.specs.Meaning.{meaning}
use Rattle.re_terms.specs.Cells.{is_cell, cell_place}
use Rattle.re_terms.specs.SignalWords.{no_word, names_environment, replicated_place, signal_word}
use Rattle.re_terms.specs.Views.{View, view_of}
use Rattle.re_terms.specs.WordOrder.{same_word}

-- what stands before an entry, and what the entry brings
pub record Step : Type 0 where
  -- the words of vars and folds before it, in order of declaration
  pub words : List Word
  -- the replicated cells before it and after it
  pub old_view : View
  pub new_view : View
  -- the vars that it sets and the source events that it fires
  pub sets : List Put
  pub fires : List Put

-- the vars that an entry sets, and the source events that it fires: none where it is a merge
abbrev pub sets_of : Entry → List Put
sets_of (entry.Turn t) = t.sets.items
sets_of (entry.Merge r) = []

abbrev pub fires_of : Entry → List Put
fires_of (entry.Turn t) = t.fires.items
fires_of (entry.Merge r) = []

-- what stands before an entry in this state, and what the entry brings, where the replicated state is this one after it
abbrev pub step_in : State → Entry → RState → Step
step_in s e after = record { words = s.words.items; old_view = view_of s.rep; new_view = view_of after; sets = sets_of e; fires = fires_of e }

-- what a declaration has after an entry: its word, and its value where it is an event that occurs
pub record Effect : Type 0 where
  pub word : Word
  pub occurrence : Option Word

abbrev pub no_effect : Effect
no_effect = record { word = no_word; occurrence = None }

-- a name with this word
abbrev pub word_effect : Word → Effect
word_effect w = record { word = w; occurrence = None }

-- an event that occurs with this value, if any
abbrev pub occurs : Option Word → Effect
occurs value = record { word = no_word; occurrence = value }

-- the word that is put for an id, if any
abbrev pub put_word : List Put → ℕ → Option Word
put_word [] id = None
put_word (x ∷ puts) id = if x.id == id then Some x.word else put_word puts id

-- `changed`: it occurs with the new word where this differs from the old one
abbrev pub change_of : Word → Word → Option Word
change_of old new = if same_word old new then None else Some new

-- `filter`: the event's value where the condition is true, none where it is false, and the condition's fault
abbrev pub filtered : Word → Word → Option Word
filtered (word.Bool true) value = Some value
filtered (word.Fault code) value = Some (word.Fault code)
filtered c value = None

-- `either`: the first event's value, else the second's
abbrev pub either_of : Option Word → Option Word → Option Word
either_of None second = second
either_of (Some value) second = Some value

-- what the declaration with this body has, over what the earlier ones have
abbrev pub body_effect : Program → Step → ℕ → Body → (ℕ → Effect) → Effect
body_effect p s id b earlier = by_body b
  where
    decls : List Decl
    decls = p.decls.items

    words : ℕ → Word
    words name = (earlier name).word

    kept : Word
    kept = slice_index_or s.words (cell_place decls id) no_word

    by_body : Body → Effect
    by_body (body.Var kind start region) = word_effect (unwrap_or (put_word s.sets id) kept)
    by_body (body.Signal kind expr) = word_effect (meaning expr (names_environment decls s.new_view words None None))
    by_body (body.Fold kind start source expr region) =
        word_effect (option_map_or (λ value. meaning expr (names_environment decls s.new_view words (Some value) (Some kept))) (earlier source).occurrence kept)
    by_body body.Counter = word_effect (s.new_view.word (replicated_place decls id))
    by_body (body.Register kind start) = word_effect (s.new_view.word (replicated_place decls id))
    by_body (body.Event kind) = occurs (put_word s.fires id)
    by_body (body.Changed of) = occurs (change_of (signal_word p s.words s.old_view of) (words of))
    by_body (body.Map source kind expr) =
        occurs (option_map (λ value. meaning expr (names_environment decls s.new_view words (Some value) None)) (earlier source).occurrence)
    by_body (body.Filter source expr) =
        occurs (option_and_then (λ value. filtered (meaning expr (names_environment decls s.new_view words (Some value) None)) value) (earlier source).occurrence)
    by_body (body.Either left right) = occurs (either_of (earlier left).occurrence (earlier right).occurrence)
    by_body b = no_effect

-- the same of the declaration at a place
abbrev pub place_effect : Program → Step → ℕ → (ℕ → Effect) → Effect
place_effect p s id earlier = option_map_or (λ d. body_effect p s id d.body earlier) (slice_get p.decls.items id) no_effect

-- what a declaration has after an entry
abbrev pub effect : Program → Step → ℕ → Effect
effect p s = below no_effect (place_effect p s) (length p.decls.items)

-- the declaration with this id is a var or a fold
abbrev pub is_cell_at : List Decl → ℕ → Bool
is_cell_at decls id = option_map_or is_cell (slice_get decls id) false

-- the ids of vars and folds, ascending
abbrev pub cell_ids : List Decl → List ℕ
cell_ids decls = filter (is_cell_at decls) (range_with_len 0 (length decls))

-- the words of vars and folds after an entry, in order of declaration
abbrev pub words_after : Program → Step → List Word
words_after p s = map (λ id. (effect p s id).word) (cell_ids p.decls.items)

-- the names of one sort whose word differs from the one before, each with its new word, ascending
abbrev pub differing : (ℕ → Bool) → Program → Step → List Put
differing is_wanted p s = map (λ id. record { id = id; word = (effect p s id).word }) (filter (λ id. is_wanted id && not (same_word (signal_word p s.words s.old_view id) (effect p s id).word)) (range_with_len 0 (length p.decls.items)))

-- the vars and folds whose word an entry changes
abbrev pub changes : Program → Step → List Put
changes p s = differing (is_cell_at p.decls.items) p s

abbrev pub is_signal_body : Body → Bool
is_signal_body (body.Signal kind expr) = true
is_signal_body b = false

-- the declaration with this id is a signal
abbrev pub is_signal_at : List Decl → ℕ → Bool
is_signal_at decls id = option_map_or (λ d. is_signal_body d.body) (slice_get decls id) false

-- the signals whose word an entry changes
abbrev pub signal_changes : Program → Step → List Put
signal_changes p s = differing (is_signal_at p.decls.items) p s
