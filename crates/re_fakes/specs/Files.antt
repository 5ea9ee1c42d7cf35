-- The files of all devices, as a list of bytes for each place.
use Rattle.std.specs.Prelude.{ℕ, ◌≡◌, ◌≢◌, ◌+◌, ◌*◌, List, [], map, slice_index_or, nat_lt, if◌then◌else◌}
use Rattle.re_outside.specs.Listed.{Listed}

-- the bytes of each list, without its spare
abbrev pub all_bytes : List (Listed ℕ) → List (List ℕ)
all_bytes lists = map (λ (bytes : Listed ℕ). bytes.items) lists

-- the place of a file of a device
abbrev pub place_of : ℕ → ℕ → ℕ
place_of device file = 2 * device + file

-- the bytes at a place, none where it isn't in the list
abbrev pub file_at : List (List ℕ) → ℕ → List ℕ
file_at files place = slice_index_or files place []

-- the bytes of a file of a device, which has files 0 and 1 alone
abbrev pub file_in : List (List ℕ) → ℕ → ℕ → List ℕ
file_in files device file = if nat_lt file 2 then file_at files (place_of device file) else []

-- each place has the bytes that it had
abbrev pub SameFiles : List (List ℕ) → List (List ℕ) → Type 0
SameFiles old new = (place : ℕ) → file_at new place ≡ file_at old place

-- these bytes are put at this place, and each other place keeps its own
pub record IsPut (old new : List (List ℕ)) (place : ℕ) (bytes : List ℕ) : Type 0 where
  pub own : file_at new place ≡ bytes
  pub others : (other : ℕ) → other ≢ place → file_at new other ≡ file_at old other
