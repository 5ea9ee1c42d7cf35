-- Words of chosen declarations.
-- Read against: of the marks false, true, true and the words 4, 5, 6 there are put 5 for 1 and 6 for 2.
use Rattle.std.specs.Prelude.{Bool, false, List, map, filter, length, slice_index_or}
use Rattle.std.specs.List.{range_with_len}
use Rattle.re_terms.specs.declared.word.Word.{Word}
use Rattle.re_terms.specs.declared.entry.Put.{Put}
use Rattle.re_terms.specs.SignalWords.{no_word}

-- the word for each place that is marked, ascending
abbrev pub chosen_words : List Bool → List Word → List Put
chosen_words marks words = map (λ id. record { id = id; word = slice_index_or words id no_word }) (filter (λ id. slice_index_or marks id false) (range_with_len 0 (length marks)))
