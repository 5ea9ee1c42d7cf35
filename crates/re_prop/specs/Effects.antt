-- The effects of declarations, as they are found one by one.
-- Read against: after an entry on `var x: int = 1; event e: int;` with x set to 5 and e not fired, the words are 5 and 0, and the values None and None.
use Rattle.std.specs.Prelude.{ℕ, List, Option, None, map, length, slice_index_or}
use Rattle.std.specs.List.{range_with_len}
use Rattle.re_terms.specs.declared.word.Word.{Word}
use Rattle.re_terms.specs.declared.entry.State.{State}
use Rattle.re_terms.specs.declared.program.Program.{Program}
use Rattle.re_terms.specs.Propagation.{Effect}
use Rattle.re_terms.specs.SignalWords.{no_word, signal_word}
use Rattle.re_terms.specs.Views.{view_of}

-- the effect of each declaration with these words and values
abbrev pub effects_at : List Word → List (Option Word) → ℕ → Effect
effects_at words values id = record { word = slice_index_or words id no_word; occurrence = slice_index_or values id None }

-- the words of all declarations before an entry
abbrev pub words_before : Program → State → List Word
words_before p s = map (signal_word p s.words.items (view_of s.rep)) (range_with_len 0 (length p.decls.items))
