-- The draws of a sample: a linear congruence over numbers.
-- Read against: from 7 the states are 1282168116, 642666333 and 712265938, and the draws below 3, 10 and 100 are 1, 6 and 68.
use Rattle.std.specs.Prelude.{ℕ, zero, suc, ◌+◌, ◌*◌, ◌/◌, ◌%◌, ◌^◌}

-- the state after so many draws
unfoldable pub state_at : ℕ → ℕ → ℕ
state_at number zero = number % 2 ^ 31
state_at number (suc taken) = (state_at number taken * 1103515245 + 12345) % 2 ^ 31

-- the draw with this index, counted from 1, below a bound
abbrev pub draw : ℕ → ℕ → ℕ → ℕ
draw number index bound = state_at number index / 65536 % bound
