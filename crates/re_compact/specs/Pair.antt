-- What the two files of a device hold, what a stop may leave of them, and where a journal stands on them.
-- Read against: beside a file 0 with a store, a file 1 of the bytes 00 00 leaves the store of file 0; one that begins with 01 and a
-- snapshot of the next generation, with a closed gate behind it, is the store of that snapshot with no record.
use Rattle.std.specs.Prelude.{◌≡◌, ◌⊎◌, ℕ, ◌-◌, ◌==◌, List, [], ◌∷◌}
use Rattle.re_outside.specs.Frame.{StoreFrame, Blank, Bad, Store, HasStoreFrame, IsOlder}
use Rattle.re_outside.specs.Trace.{Past, content_of, IsCrashImageOf}
use Rattle.re_outside.specs.Moment.{IsSettled, OnlyDeviceMoves}
use Rattle.re_journal.specs.Journals.{frame_of, other_file, StandsOn, StandsOnBlank}
use Rattle.re_journal.specs.declared.journal.Journal.{Journal}
use Rattle.re_compact.specs.Laying.{IsSnapshot}

-- both files are blank, or they hold a store in this one
abbrev pub IsIn : ℕ → StoreFrame → Type 0
IsIn file Blank = Unit {0}
IsIn file (Bad number place) = ⊥
IsIn file (Store number snapshot bodies) = number ≡ file

-- each pair of files that a stop may leave holds something that has P, and no file of another device has moved
pub record Holds (P : StoreFrame → Type 0) (old now : Past) : Type 0 where
  pub images : (first second : List ℕ) → IsCrashImageOf now 0 first → IsCrashImageOf now 1 second → (frame : StoreFrame) × HasStoreFrame first second frame × P frame
  pub others : OnlyDeviceMoves old now

-- both files are settled, and hold this
pub record Rests (held : StoreFrame) (now : Past) : Type 0 where
  pub first : IsSettled 0 (content_of now 0) now
  pub second : IsSettled 1 (content_of now 1) now
  pub frame : HasStoreFrame (content_of now 0) (content_of now 1) held

-- the journal stands on its own file and knows the other: on the store that the two hold, or on two blank files
abbrev pub StandsOnFrame : Journal → StoreFrame → Past → Type 0
StandsOnFrame journal Blank now = StandsOnBlank journal now
StandsOnFrame journal (Bad number place) now = ⊥
StandsOnFrame journal (Store number snapshot bodies) now = StandsOn journal snapshot bodies now

-- the files hold this, in the journal's own one where it is a store, and the journal stands there
pub record StandsIn (journal : Journal) (held : StoreFrame) (now : Past) : Type 0 where
  pub rests : Rests held now
  pub here : IsIn journal.file held
  pub stands : StandsOnFrame journal held now

-- a snapshot stands in the journal's other file behind a closed gate, settled, with a closed gate behind it
abbrev pub IsPrepared : Journal → List ℕ → Past → Type 0
IsPrepared journal snapshot now = IsSettled (other_file journal.file) (0 ∷ frame_of snapshot) now

-- the snapshot may take the place of what this file holds: the file is blank, or of a lesser generation
pub record MayReplace (own snapshot : List ℕ) : Type 0 where
  pub generation : ℕ
  pub snapshot_fits : IsSnapshot snapshot generation
  pub newer : IsOlder own generation

-- what was held, or the new store of this snapshot alone
abbrev pub IsOldOrNew : StoreFrame → ℕ → List ℕ → StoreFrame → Type 0
IsOldOrNew held file snapshot frame = (frame ≡ held) ⊎ (frame ≡ Store file snapshot [])

-- the journal took the other file for its own, which holds a snapshot behind an open gate and no record, and has made so many calls
pub record TurnsOver (count : ℕ) (old new : Journal) : Type 0 where
  pub file : new.file ≡ other_file old.file
  pub start : new.start ≡ old.other_length - 1
  pub gate : new.gate ≡ old.other_length - 1
  pub length : new.length ≡ old.other_length
  pub calls : new.calls ≡ count
  pub other_length : new.other_length ≡ old.length
  pub other_blank : new.other_blank ≡ (old.start == 0)
  pub running : new.stopped ≡ old.stopped
