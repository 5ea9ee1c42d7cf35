-- A list of bytes with more of them at its end.
-- Read against: with the items 1 and 2 and a spare of 5, the bytes 3 and 4 make the items 1, 2, 3 and 4 and leave a spare of 3; a spare of 1 they use up.
use Rattle.std.specs.Prelude.{ℕ, ◌-◌, ◌++◌, List, length}
use Rattle.re_outside.specs.Listed.{Listed}

-- as by a push of each
abbrev pub appended : Listed ℕ → List ℕ → Listed ℕ
appended l bytes = record { items = l.items ++ bytes; spare = l.spare - length bytes }
