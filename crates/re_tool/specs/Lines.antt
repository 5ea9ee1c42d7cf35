-- Lines of the input.
use Rattle.std.specs.Prelude.{ℕ, ◌≡◌, ◌==◌, ◌-◌, List, [], ◌∷◌, ◌++◌, false, if◌then◌else◌, take, length, slice_index_or}

-- the byte stands before the first line
abbrev pub onto : ℕ → List (List ℕ) × List ℕ → List (List ℕ) × List ℕ
onto b ([], rest) = ([], b ∷ rest)
onto b (line ∷ lines, rest) = ((b ∷ line) ∷ lines, rest)

-- the whole lines without their LFs, and what stands behind the last LF
abbrev pub split : List ℕ → List (List ℕ) × List ℕ
split [] = ([], [])
split (b ∷ bytes) = if b == 10 then ([] ∷ (split bytes).0, (split bytes).1) else onto b (split bytes)

-- a line with its LF
abbrev pub ended : List ℕ → List ℕ
ended line = line ++ 10 ∷ []

-- no LF is among the bytes
abbrev pub IsPlain : List ℕ → Type 0
IsPlain [] = Unit {0}
IsPlain (b ∷ bytes) = ((b == 10) ≡ false) × IsPlain bytes

-- each of these lines is plain
abbrev pub ArePlain : List (List ℕ) → Type 0
ArePlain [] = Unit {0}
ArePlain (line ∷ lines) = IsPlain line × ArePlain lines

-- a whole line without the one CR before its LF
abbrev pub without_return : List ℕ → List ℕ
without_return line = if slice_index_or line (length line - 1) 0 == 13 then take (length line - 1) line else line
