-- The names of tests: capitals alone.
-- Read against: `AB` is such a name, and `aB`, `A1` and the empty text are none.
use Rattle.std.specs.Prelude.{ℕ, ◌==◌, ◌&&◌, not, Bool, List, length, nat_le}
use Rattle.std.specs.List.{list_all}

-- 1 to 32 capitals
abbrev pub is_capitals : List ℕ → Bool
is_capitals word = not (length word == 0) && nat_le (length word) 32 && list_all (λ b. nat_le 65 b && nat_le b 90) word
