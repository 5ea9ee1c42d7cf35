-- Words of their kinds, in the states, views and entries of a program.
-- Read against: with `symbol red; var x: int = 2; event e: int; fold n: int = 0 on e do self + 10 / arg; register r: sym = red;` 5 is a word of x, and `true`, fault 2 and 2^63 are none;
-- fault 2 and fault 100 are words of n, and fault 7 is none; the symbol 0 is a word of r, and the symbol 1 is none. A change of e, and one of x to fault 2, are no changes.
use Rattle.std.specs.Prelude.{ℕ, pos, ◌≡◌, ◌==◌, ◌||◌, Bool, true, false, List, length, Some, slice_get, slice_index_or, count_by}
use Rattle.std.specs.List.{list_all}
use Rattle.std.specs.Option.{option_map_or}
use Rattle.re_terms.specs.Admission.{AreAscending, is_put_of, source_kind, symbol_count, var_kind}
use Rattle.re_terms.specs.Arithmetic.{is_word_number}
use Rattle.re_terms.specs.Cells.{is_cell, cell_place}
use Rattle.re_terms.specs.Kinds.{Place, Sort, set_kind, value_kind}
use Rattle.re_terms.specs.Meaning.{Environment}
use Rattle.re_terms.specs.Propagation.{Step}
use Rattle.re_terms.specs.Shapes.{FitsShape, is_word_of, replicated_kinds, shape_of}
use Rattle.re_terms.specs.SignalWords.{no_word}
use Rattle.re_terms.specs.Trees.{is_fault_code}
use Rattle.re_terms.specs.Views.{View}
use Rattle.re_terms.specs.declared.word.Kind.{Kind}
use Rattle.re_terms.specs.declared.word.Kind.TheVariants as kind
use Rattle.re_terms.specs.declared.word.Word.{Word}
use Rattle.re_terms.specs.declared.word.Word.TheVariants as word
use Rattle.re_terms.specs.declared.entry.Put.{Put}
use Rattle.re_terms.specs.declared.entry.State.{State}
use Rattle.re_terms.specs.declared.program.Body.{Body}
use Rattle.re_terms.specs.declared.program.Body.TheVariants as body
use Rattle.re_terms.specs.declared.program.Decl.{Decl}
use Rattle.re_terms.specs.declared.program.Program.{Program}
use Rattle.re_terms.specs.declared.replicated.RKind.{RKind}
use Rattle.re_terms.specs.declared.replicated.RKind.TheVariants as replicated

-- a fault's code: 1, 2 or 100 to 999
abbrev pub is_code : ℕ → Bool
is_code code = (code == 1) || (code == 2) || is_fault_code code

-- a word of this kind, or a fault in the place of one
abbrev pub is_word_or_fault : ℕ → Kind → Word → Bool
is_word_or_fault symbols k (word.Fault code) = is_code code
is_word_or_fault symbols k w = is_word_of symbols k w

-- ---- expressions

-- where an expression is read: each name's word is of its kind or a fault, sizes are ints of 64 bits, and so are `arg` and `self` of their kinds or faults where they are there
pub record IsEnvironmentOf (symbols : ℕ) (sorts : List Sort) (place : Place) (env : Environment) : Type 0 where
  pub words : (id : ℕ) (k : Kind) → value_kind sorts id ≡ Some k → is_word_or_fault symbols k (env.word id) ≡ true
  pub sizes : (id : ℕ) (k : Kind) → set_kind sorts id ≡ Some k → is_word_number (pos (env.size id)) ≡ true
  pub arg : (k : Kind) (w : Word) → place.arg ≡ Some k → env.arg ≡ Some w → is_word_or_fault symbols k w ≡ true
  pub own : (k : Kind) (w : Word) → place.own ≡ Some k → env.own ≡ Some w → is_word_or_fault symbols k w ≡ true

-- ---- states

-- a word that a declaration keeps: a var's is of its kind, a fold's of its kind or a fault, and nothing else keeps one
abbrev pub is_kept_word : ℕ → Body → Word → Bool
is_kept_word symbols (body.Var k start region) w = is_word_of symbols k w
is_kept_word symbols (body.Fold k start source expr region) w = is_word_or_fault symbols k w
is_kept_word symbols b w = false

-- one word for each var and fold, in order of declaration, of its kind
pub record AreWordsOf (p : Program) (words : List Word) : Type 0 where
  pub count : length words ≡ count_by is_cell p.decls.items
  pub kinds : (id : ℕ) (d : Decl) → slice_get p.decls.items id ≡ Some d → is_cell d ≡ true → is_kept_word (symbol_count p.decls.items) d.body (slice_index_or words (cell_place p.decls.items id) no_word) ≡ true

-- a state of a program
pub record IsStateOf (p : Program) (s : State) : Type 0 where
  pub words : AreWordsOf p s.words.items
  pub rep : FitsShape (shape_of p) s.rep

-- ---- views

-- what a replicated cell shows as its word: a counter an int or a fault, a register a word of its kind
abbrev pub is_shown_word : ℕ → RKind → Word → Bool
is_shown_word symbols replicated.Counter w = is_word_or_fault symbols kind.Int w
is_shown_word symbols (replicated.Set k) w = true
is_shown_word symbols (replicated.Register k start) w = is_word_of symbols k w

-- what the replicated cells of a program show: such words, and sizes that are ints of 64 bits
pub record IsViewOf (p : Program) (view : View) : Type 0 where
  pub words : (place : ℕ) (k : RKind) → slice_get (replicated_kinds p.decls.items) place ≡ Some k → is_shown_word (symbol_count p.decls.items) k (view.word place) ≡ true
  pub sizes : (place : ℕ) → is_word_number (pos (view.size place)) ≡ true

-- ---- entries

-- what stands before an entry and what it brings: words of their kinds, and puts of vars and source events of theirs
pub record IsStepOf (p : Program) (s : Step) : Type 0 where
  pub words : AreWordsOf p s.words
  pub old_view : IsViewOf p s.old_view
  pub new_view : IsViewOf p s.new_view
  pub sets : list_all (is_put_of var_kind p.decls.items) s.sets ≡ true
  pub fires : list_all (is_put_of source_kind p.decls.items) s.fires ≡ true

-- a change of a var or fold, to a word that it may keep
abbrev pub is_change_of : List Decl → Put → Bool
is_change_of decls put = option_map_or (λ d. is_kept_word (symbol_count decls) d.body put.word) (slice_get decls put.id) false

-- changes of vars and folds, by strictly ascending ids
pub record AreChangesOf (p : Program) (puts : List Put) : Type 0 where
  pub order : AreAscending puts
  pub kinds : list_all (is_change_of p.decls.items) puts ≡ true
