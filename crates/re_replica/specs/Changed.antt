-- Bits of numbers.
-- Read against: 5 has the bits 0 and 2, and not the bit 1.
use Rattle.std.specs.Prelude.{ℕ, ◌/◌, ◌%◌, ◌^◌, Bool, nat_eq}

-- the bit at this place, counted from the least
unfoldable pub has_bit : ℕ → ℕ → Bool
has_bit n place = nat_eq (n / 2 ^ place % 2) 1
