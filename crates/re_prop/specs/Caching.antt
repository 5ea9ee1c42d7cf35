-- The words that are kept of signals, and lists of words into which words are put.
-- Read against: `var x: int = 2; signal s = x + 3; var y: int = 7;` has the words of signals 0, 5, 0 at the start; putting 8 for s gives 0, 8, 0.
use Rattle.std.specs.Prelude.{ℕ, List, [], ◌∷◌, if◌then◌else◌, map, length, slice_set}
use Rattle.std.specs.List.{range_with_len}
use Rattle.re_terms.specs.declared.word.Word.{Word}
use Rattle.re_terms.specs.declared.entry.Put.{Put}
use Rattle.re_terms.specs.declared.program.Program.{Program}
use Rattle.re_terms.specs.Propagation.{is_signal_at}
use Rattle.re_terms.specs.SignalWords.{no_word, signal_word}
use Rattle.re_terms.specs.Views.{View}

-- a signal's word; no word for any other declaration
abbrev pub cached_word : Program → List Word → View → ℕ → Word
cached_word p words view id = if is_signal_at p.decls.items id then signal_word p words view id else no_word

-- one word for each declaration: a signal's own
abbrev pub signal_words : Program → List Word → View → List Word
signal_words p words view = map (cached_word p words view) (range_with_len 0 (length p.decls.items))

-- a list of words with these put at the places of their ids, the last where an id stands twice
abbrev pub put_at : (ℕ → ℕ) → List Word → List Put → List Word
put_at place words [] = words
put_at place words (x ∷ puts) = put_at place (slice_set words (place x.id) x.word) puts

-- the same where each declaration has a word
abbrev pub put_all : List Word → List Put → List Word
put_all words puts = put_at (λ id. id) words puts
