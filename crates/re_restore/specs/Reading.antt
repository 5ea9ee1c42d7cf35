-- Which snapshot or record of one file is refused.
-- Read against: with `device a; var x: int = 0;` the snapshot of the start and the record of the turn x = 5 behind it, in a file of 110 bytes, aren't refused; with a tag of 2 at the word of x they are refused at 58, and with one at the entry at 81.
use Rattle.std.specs.Prelude.{ℕ, ◌⊎◌, List}
use Rattle.re_record.specs.Stores.{HasBadRecord, HasBadSnapshot}
use Rattle.re_terms.specs.declared.program.Program.{Program}

-- the snapshot or a record behind it is refused, at this place of the file
abbrev pub IsRefusedStore : Program → ℕ → List ℕ → List (List ℕ) → ℕ → Type 0
IsRefusedStore p device body bodies place = HasBadSnapshot p device body place ⊎ HasBadRecord p device body bodies place
