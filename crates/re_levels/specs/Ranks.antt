-- Sets of ranks, as bits.
-- Read against: with 70 put into it, the set of nothing has 70 alone; its lowest number is 70, and without it nothing is left.
use Rattle.std.specs.Prelude.{ℕ, ◌≡◌, ◌<◌, ◌/◌, ◌%◌, ◌==◌, ◌&&◌, Bool, true, false, not, List, slice_index}
use Rattle.std.specs.Int.{bit_at}
use Rattle.re_levels.specs.declared.ranks.Ranks.{Ranks as Set}

-- 64 numbers a word, the lowest first
abbrev pub has_bit : List ℕ → ℕ → Bool
has_bit words rank = bit_at (slice_index words (rank / 64)) (rank % 64) == 1

-- the set has this number
abbrev pub has_rank : Set → ℕ → Bool
has_rank set rank = has_bit set.bits rank

-- a number is the lowest of a set, and the new set has all others
pub record TakesLowest (old new : Set) (rank : ℕ) : Type 0 where
  pub small : rank < 512
  pub had : has_rank old rank ≡ true
  pub lowest : (other : ℕ) → other < rank → has_rank old other ≡ false
  pub left : (other : ℕ) → has_rank new other ≡ (has_rank old other && not (rank == other))
