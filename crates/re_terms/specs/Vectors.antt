-- Version vectors: what they cover, their order and their join.
-- Read against: a vector with 2 for device 0 covers the dots (0, 1) and (0, 2), and neither (0, 0) nor (0, 3) nor (1, 1); its join with one that has 1 for device 0 and 4 for device 1 has 2 and 4.
use Rattle.std.specs.Prelude.{ℕ, ◌&&◌, ◌≤◌, Bool, List, [], ◌∷◌, map, max, nat_lt, nat_le, slice_index, slice_set}
use Rattle.std.specs.List.{range_with_len}
use Rattle.re_terms.specs.declared.replicated.Dot.{Dot}

-- a vector covers the numbers of a device from 1 to its own
unfoldable pub covers : List ℕ → Dot → Bool
covers v dot = nat_lt 0 dot.number && nat_le dot.number (slice_index v dot.device)

-- at most, in each place
abbrev pub AtMost : List ℕ → List ℕ → Type 0
AtMost v w = (device : ℕ) → slice_index v device ≤ slice_index w device

-- a list with one number for each of 16 devices
unfoldable pub by_device : (ℕ → ℕ) → List ℕ
by_device f = map f (range_with_len 0 16)

-- the greater number in each place
unfoldable pub greater_each : List ℕ → List ℕ → List ℕ
greater_each [] ys = ys
greater_each (x ∷ xs) [] = x ∷ xs
greater_each (x ∷ xs) (y ∷ ys) = max x y ∷ greater_each xs ys

-- the vector that covers what either covers
abbrev pub join_vectors : List ℕ → List ℕ → List ℕ
join_vectors v w = greater_each v w

-- the vector that also covers this dot, the next of its device
abbrev pub with_dot : List ℕ → Dot → List ℕ
with_dot v dot = slice_set v dot.device dot.number
