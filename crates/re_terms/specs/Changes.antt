-- Changes put into the words of a state.
-- Read against: with `var x: int = 2; signal s = x + 3; var y: int = 7;` putting 5 for x and 6 for y, by their ids 0 and 2, into the words 2, 7 of vars and folds gives 5, 6.
use Rattle.std.specs.Prelude.{List, [], ◌∷◌, slice_set}
use Rattle.re_terms.specs.Cells.{cell_place}
use Rattle.re_terms.specs.declared.word.Word.{Word}
use Rattle.re_terms.specs.declared.entry.Put.{Put}
use Rattle.re_terms.specs.declared.program.Decl.{Decl}

-- the words of vars and folds with these put at the places of their ids, the last where an id stands twice
abbrev pub with_changes : List Decl → List Word → List Put → List Word
with_changes decls words [] = words
with_changes decls words (x ∷ puts) = with_changes decls (slice_set words (cell_place decls x.id) x.word) puts
