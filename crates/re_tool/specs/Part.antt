-- The program part of an input, and the lines behind it.
-- Read against: `device a;` LF `---` LF LF LF has the part `device a;` LF and the lines '', '' and, at the end, ''.
use Rattle.std.specs.Prelude.{ℕ, ◌≡◌, true, false, List, [], ◌∷◌, ◌++◌, Bool, ◌||◌, Option, Some, None, IsSome, option_map, if◌then◌else◌, map, take, length, nat_lt, codes}
use Rattle.std.specs.List.{flat_map}
use Rattle.std.specs.Str.{bytes_eq}
use Rattle.re_tool.specs.Lines.{split, ended, without_return}
use Rattle.re_tool.specs.Reads.{limit}

-- the program part, and the lines of the session without their ends
pub record Part : Type 0 where
  pub text : List ℕ
  pub lines : List (List ℕ)

-- the line that ends the program part
abbrev pub is_separator : List ℕ → Bool
is_separator line = bytes_eq line (codes "---")

-- the whole lines before the first separator, and those behind it
abbrev pub divided : List (List ℕ) → Option (List (List ℕ) × List (List ℕ))
divided [] = None
divided (line ∷ lines) = if is_separator (without_return line) then Some ([], lines) else option_map (λ p. (line ∷ p.0, p.1)) (divided lines)

-- a whole line that ends the program part was read
abbrev pub HasSeparator : List ℕ → Type 0
HasSeparator read = IsSome (divided (split read).0)

-- none of these lines is a separator
abbrev pub Undivided : List (List ℕ) → Type 0
Undivided [] = Unit {0}
Undivided (line ∷ lines) = (is_separator (without_return line) ≡ false) × Undivided lines

-- The first separator of these lines stands between these.
pub record IsFirstSeparator (lines front back : List (List ℕ)) : Type 0 where
  pub line : List ℕ
  pub whole : lines ≡ front ++ line ∷ back
  pub separates : is_separator (without_return line) ≡ true
  pub first : Undivided front

-- a last line without its LF counts where the input was read to its end
abbrev pub last_lines : Bool → List ℕ → List (List ℕ)
last_lines is_cut rest = if is_cut then [] else rest ∷ []

-- without a separator the whole input is the program part, where it was read to its end
abbrev pub part_by : List (List ℕ) → List ℕ → Bool → Option (List (List ℕ) × List (List ℕ)) → Option Part
part_by whole rest is_cut (Some (front, back)) = Some (record { text = flat_map ended front; lines = map without_return back ++ last_lines is_cut rest })
part_by whole rest is_cut None = if is_cut then None
    else if is_separator rest then Some (record { text = flat_map ended whole; lines = [] })
    else Some (record { text = flat_map ended whole ++ rest; lines = [] })

abbrev pub part_in : List (List ℕ) × List ℕ → Bool → Option Part
part_in (whole, rest) is_cut = part_by whole rest is_cut (divided whole)

-- more bytes came than may be taken
abbrev pub is_over : List ℕ → Bool
is_over read = nat_lt limit (length read)

-- the program part and the lines of the bytes read, None where the part didn't end before the input failed or was too long
abbrev pub part_of : List ℕ → Bool → Option Part
part_of read failed = part_in (split (take limit read)) (is_over read || failed)
