-- What is read of replicated cells.
-- Read against: rows with increments 3 and 2 and decrements 1 have the word 4; a set with the pairs of 4 by two dots and of 9 by one has size 2, and has 4 and 9.
use Rattle.std.specs.Prelude.{ℕ, Bool, false, pos, ◌-ℤ◌, List, [], length, Option, Some, slice_get}
use Rattle.std.specs.List.{sum, list_any}
use Rattle.re_terms.specs.Arithmetic.{whole}
use Rattle.re_terms.specs.WordOrder.{same_word, elements_of}
use Rattle.re_terms.specs.declared.word.Word.{Word}
use Rattle.re_terms.specs.declared.word.Word.TheVariants as word
use Rattle.re_terms.specs.declared.replicated.Rows.{Rows}
use Rattle.re_terms.specs.declared.replicated.RCell.{RCell}
use Rattle.re_terms.specs.declared.replicated.RCell.TheVariants as cell
use Rattle.re_terms.specs.declared.replicated.RState.{RState}

-- each replicated cell's word, size and members, by its place among the replicated cells
pub record View : Type 0 where
  pub word : ℕ → Word
  pub size : ℕ → ℕ
  pub has : ℕ → Word → Bool

-- a counter's word: its increments less its decrements, or fault 1 where that isn't a number of 64 bits
abbrev pub total : Rows → Word
total r = whole (pos (sum r.plus) -ℤ pos (sum r.minus))

-- the word of a counter or a register
abbrev pub cell_word : Option RCell → Word
cell_word (Some (cell.Counter rows)) = total rows
cell_word (Some (cell.Register written)) = written.word
cell_word c = word.Int (pos 0)

-- how many elements a set has
abbrev pub cell_size : Option RCell → ℕ
cell_size (Some (cell.Set pairs)) = length (elements_of pairs.items)
cell_size c = 0

-- whether a set has an element
abbrev pub cell_has : Option RCell → Word → Bool
cell_has (Some (cell.Set pairs)) w = list_any (λ p. same_word p.element w) pairs.items
cell_has c w = false

-- a set's elements, each once, ascending
abbrev pub cell_elements : Option RCell → List Word
cell_elements (Some (cell.Set pairs)) = elements_of pairs.items
cell_elements c = []

-- what a replicated state shows
abbrev pub view_of : RState → View
view_of r = record { word = λ c. cell_word (slice_get r.cells.items c); size = λ c. cell_size (slice_get r.cells.items c); has = λ c. cell_has (slice_get r.cells.items c) }
