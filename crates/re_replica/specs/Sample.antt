-- A shape for tests, and states of it.
-- Read against: with two devices it has the places 0 of a counter, 1 of a set of ints and 2 of a register of ints that starts with 0; its state with the count 3 and the stamp 0 has the vector 3, 0 and nothing else.
use Rattle.std.specs.Prelude.{ℕ, pos, [], ◌∷◌, slice_set}
use Rattle.re_terms.specs.Listed.{plain}
use Rattle.re_terms.specs.Shapes.{zeros}
use Rattle.re_terms.specs.declared.word.Kind.TheVariants as kind
use Rattle.re_terms.specs.declared.word.Word.TheVariants as word
use Rattle.re_terms.specs.declared.replicated.RCell.TheVariants as cell
use Rattle.re_terms.specs.declared.replicated.RKind.TheVariants as replicated
use Rattle.re_terms.specs.declared.replicated.RState.{RState}
use Rattle.re_terms.specs.declared.replicated.Shape.{Shape}

-- two devices, a counter, a set and a register
abbrev pub sample : Shape
sample = record { devices = 2; symbols = 0; cells = plain (replicated.Counter ∷ replicated.Set kind.Int ∷ replicated.Register kind.Int (word.Int (pos 0)) ∷ []) }

-- device 0 has this count of dots, and the register this stamp
abbrev pub sample_state : ℕ → ℕ → RState
sample_state count stamp = record {
  vector = record { counts = slice_set zeros 0 count };
  cells = plain (cell.Counter (record { plus = zeros; minus = zeros }) ∷ cell.Set (plain []) ∷ cell.Register (record { stamp = stamp; device = 0; word = word.Int (pos 0) }) ∷ []);
}
