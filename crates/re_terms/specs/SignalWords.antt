-- The words of names: what vars and folds hold, what replicated cells show, and what signals mean.
-- Read against: `var x: int = 2; signal s = x + 3;` has s 5 at the start, and 8 where x is 5; with a counter c of word 4, `signal t = c + s` is 9 at the start.
use Rattle.std.specs.Prelude.{ℕ, pos, List, Option, None, length, take, slice_get, slice_index_or, count_by}
use Rattle.std.specs.Option.{option_map_or}
use Rattle.re_terms.specs.declared.word.Word.{Word}
use Rattle.re_terms.specs.declared.word.Word.TheVariants as word
use Rattle.re_terms.specs.declared.program.Body.{Body}
use Rattle.re_terms.specs.declared.program.Body.TheVariants as body
use Rattle.re_terms.specs.declared.program.Decl.{Decl}
use Rattle.re_terms.specs.declared.program.Program.{Program}
use Rattle.re_terms.specs.Dependencies.{below}
use Rattle.re_terms.specs.Meaning.{Environment, meaning}
use Rattle.re_terms.specs.Programs.{is_replicated}
use Rattle.re_terms.specs.Cells.{cell_place}
use Rattle.re_terms.specs.Views.{View}

-- what stands in place of a word where a declaration has none
abbrev pub no_word : Word
no_word = word.Int (pos 0)

-- the place of a replicated cell among the replicated ones
abbrev pub replicated_place : List Decl → ℕ → ℕ
replicated_place decls id = count_by is_replicated (take id decls)

-- what an expression is read in, where the names have these words and the replicated cells this view
abbrev pub names_environment : List Decl → View → (ℕ → Word) → Option Word → Option Word → Environment
names_environment decls view words arg own = record {
  word = words;
  size = λ id. view.size (replicated_place decls id);
  has = λ id. view.has (replicated_place decls id);
  arg = arg;
  own = own;
}

-- the word of the declaration with this body: a var's and a fold's is kept, a replicated cell's is seen, and a signal's is its expression's over the words of earlier declarations
abbrev pub body_word : List Decl → List Word → View → ℕ → Body → (ℕ → Word) → Word
body_word decls cells view id (body.Signal kind expr) words = meaning expr (names_environment decls view words None None)
body_word decls cells view id (body.Var kind start region) words = slice_index_or cells (cell_place decls id) no_word
body_word decls cells view id (body.Fold kind start source expr region) words = slice_index_or cells (cell_place decls id) no_word
body_word decls cells view id body.Counter words = view.word (replicated_place decls id)
body_word decls cells view id (body.Register kind start) words = view.word (replicated_place decls id)
body_word decls cells view id b words = no_word

-- the same of the declaration at a place
abbrev pub place_word : List Decl → List Word → View → ℕ → (ℕ → Word) → Word
place_word decls cells view id words = option_map_or (λ d. body_word decls cells view id d.body words) (slice_get decls id) no_word

-- the word of a var, fold, signal, counter or register, where the vars and folds have these words and the replicated cells this view
abbrev pub signal_word : Program → List Word → View → ℕ → Word
signal_word p cells view id = below no_word (place_word p.decls.items cells view) (length p.decls.items) id
