-- What the front of a file says of it: it is blank, its length or generation is refused, or both read.
-- Read against: the bytes 01 00 00 00 46 are refused at 5, for the generation is cut off; 01 00 00 00 07 at 1, since a snapshot has at
-- least 8 bytes; 07 and whatever stands behind it is blank.
use Rattle.std.specs.Prelude.{◌≡◌, ℕ, true, List}
use Rattle.re_outside.specs.Frame.{is_blank, IsGeneration, IsBadHead, HasGeneration}
use Rattle.re_compact.specs.declared.heads.Head.{Head}
use Rattle.re_compact.specs.declared.heads.Head.TheVariants.{Blank, Bad, Numbered}

-- the file has this head
abbrev pub IsHead : Head → List ℕ → Type 0
IsHead Blank file = is_blank file ≡ true
IsHead (Bad at) file = IsBadHead file at
IsHead (Numbered generation) file = HasGeneration file generation

-- the generation of the head, where it has one, is a number that may be one
abbrev pub HasFittingGeneration : Head → Type 0
HasFittingGeneration Blank = Unit {0}
HasFittingGeneration (Bad at) = Unit {0}
HasFittingGeneration (Numbered generation) = IsGeneration generation
