-- Pairs for tests.
-- Read against: the element 4 by the dot 2 is inserted by the device 0 as its second operation.
use Rattle.std.specs.Prelude.{ℕ}
use Rattle.re_terms.specs.declared.word.Word.{Word}
use Rattle.re_terms.specs.declared.replicated.Pair.{Pair}

-- an element, by the dot of the device 0 with this number
abbrev pub numbered : Word → ℕ → Pair
numbered element number = record { element = element; dot = record { device = 0; number = number } }
