-- The values that updates give the replicated cells, by which updates there are.
-- Read against: of `add 2` and `add -3` the word is -1, of `add 9223372036854775807` twice it is fault 1; of two inserts of 4 and one of 9 that nobody took the elements are 4 and 9;
-- of no write a register of `register m: int = 7` has the word 7.
use Rattle.std.specs.Prelude.{ℕ, ℤ, pos, ◌+ℤ◌, Bool, false, cond, List, [], ◌∷◌, length, nat_eq, Option, Some, option_map, slice_get}
use Rattle.std.specs.List.{list_any}
use Rattle.re_terms.specs.Arithmetic.{whole}
use Rattle.re_terms.specs.CellStates.{Pairing.AddWins, live, written_of}
use Rattle.re_terms.specs.Updates.{Update}
use Rattle.re_terms.specs.Views.{View}
use Rattle.re_terms.specs.WordOrder.{same_word, elements_of}
use Rattle.re_terms.specs.declared.word.Word.{Word}
use Rattle.re_terms.specs.declared.word.Word.TheVariants as word
use Rattle.re_terms.specs.declared.replicated.Act.{Act}
use Rattle.re_terms.specs.declared.replicated.Act.TheVariants.{Add, Insert, Remove, Write}
use Rattle.re_terms.specs.declared.replicated.RKind.{RKind}
use Rattle.re_terms.specs.declared.replicated.RKind.TheVariants as kind
use Rattle.re_terms.specs.declared.replicated.Shape.{Shape}

-- what an act adds to a counter
abbrev pub amount : Act → ℤ
amount (Add n) = n
amount (Insert e) = pos 0
amount (Remove e) = pos 0
amount (Write w) = pos 0

-- the sum of a cell's amounts
unfoldable pub total_amount : ℕ → List Update → ℤ
total_amount cell [] = pos 0
total_amount cell (u ∷ us) = cond (nat_eq u.cell cell) (amount u.act) (pos 0) +ℤ total_amount cell us

-- a word, or a set's elements in their order
pub data CellValue : Type 0 where
  One : (word : Word) → CellValue
  Elements : (words : List Word) → CellValue

-- a counter's sum, the elements with a live insert, the word of the greatest write
abbrev pub cell_value : RKind → ℕ → List Update → CellValue
cell_value kind.Counter cell us = One (whole (total_amount cell us))
cell_value (kind.Set k) cell us = Elements (elements_of (live AddWins cell us))
cell_value (kind.Register k start) cell us = One (written_of start cell us).word

-- the value of the cell at a place, where there is one
abbrev pub value_at : Shape → List Update → ℕ → Option CellValue
value_at shape us place = option_map (λ k. cell_value k place us) (slice_get shape.cells.items place)

abbrev pub value_word : Option CellValue → Word
value_word (Some (One w)) = w
value_word v = word.Int (pos 0)

abbrev pub value_size : Option CellValue → ℕ
value_size (Some (Elements ws)) = length ws
value_size v = 0

abbrev pub value_has : Option CellValue → Word → Bool
value_has (Some (Elements ws)) w = list_any (λ e. same_word e w) ws
value_has v w = false

abbrev pub value_elements : Option CellValue → List Word
value_elements (Some (Elements ws)) = ws
value_elements v = []

-- what the updates show
abbrev pub view_of_updates : Shape → List Update → View
view_of_updates shape us = record { word = λ place. value_word (value_at shape us place); size = λ place. value_size (value_at shape us place); has = λ place. value_has (value_at shape us place) }
