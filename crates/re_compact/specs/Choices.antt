-- What the heads of two files say of them together.
-- Read against: two files of generation 2 are refused in file 1 at 5; one of generation 1 beside one of generation 2 doesn't count.
use Rattle.std.specs.Prelude.{◌≡◌, ℕ, Bool, true, List}
use Rattle.re_outside.specs.Frame.{is_blank, IsGeneration, HasGeneration, IsOlder, HasBadHead}
use Rattle.re_compact.specs.declared.choice.Choice.{Choice}
use Rattle.re_compact.specs.declared.choice.Choice.TheVariants.{Blank, Bad, First, Second}

-- this file counts, and the other one is blank or not as told
abbrev pub IsCounting : List ℕ → List ℕ → ℕ → Bool → Type 0
IsCounting own other g blank = HasGeneration own g × IsOlder other g × (blank ≡ is_blank other)

-- the two files are this
abbrev pub IsChoice : Choice → List ℕ → List ℕ → Type 0
IsChoice Blank first second = (is_blank first ≡ true) × (is_blank second ≡ true)
IsChoice (Bad file at) first second = HasBadHead first second file at
IsChoice (First g blank) first second = IsCounting first second g blank
IsChoice (Second g blank) first second = IsCounting second first g blank

-- the generation of the file that counts, where one does, is a number that may be one
abbrev pub ChoosesFittingGeneration : Choice → Type 0
ChoosesFittingGeneration Blank = Unit {0}
ChoosesFittingGeneration (Bad file at) = Unit {0}
ChoosesFittingGeneration (First g blank) = IsGeneration g
ChoosesFittingGeneration (Second g blank) = IsGeneration g
