-- What of a file is still to be read.
-- Read against: of the file 01 00 00 00 46, read in pieces of 3 bytes, the bytes 00 46 are to come behind the first three.
use Rattle.std.specs.Prelude.{◌≡◌, ◌⊎◌, ℕ, ◌+◌, ◌-◌, ◌<◌, ◌≤◌, Bool, true, false, List, [], ◌∷◌, ◌++◌, length, take, drop, Option, None, Some}
use Rattle.std.specs.Int.{w32, to_be_bytes}
use Rattle.re_outside.specs.Listed.{Listed}
use Rattle.re_outside.specs.Frame.{IsRecordLength, framed, opened, IsRefusedBody, IsClosed}
use Rattle.re_outside.specs.Trace.{Past, content_of}
use Rattle.re_journal.specs.declared.reader.Reader.{Reader}

-- the rest of the piece in hand, and the file behind it
abbrev pub coming : Reader → Past → List ℕ
coming reader past = drop reader.used (take reader.filled reader.piece.items) ++ drop (reader.place + (reader.filled - reader.used)) (content_of past reader.file)

-- the reader knows how many bytes the file has
abbrev pub KnowsSize : Reader → Past → Type 0
KnowsSize reader past = reader.size ≡ length (content_of past reader.file)

-- the reader has gone on by n bytes of its file
pub record Passes (n : ℕ) (old new : Reader) : Type 0 where
  pub file : new.file ≡ old.file
  pub size : new.size ≡ old.size
  pub place : new.place ≡ old.place + n

-- the same, where something was found
abbrev pub PassesFound : {T : Type 0} → ℕ → Reader → Reader → Option T → Type 0
PassesFound n old new None = Unit {0}
PassesFound n old new (Some x) = Passes n old new

-- a byte was read, or the file is at its end
abbrev pub FoundByte : Reader → Reader → Past → Option ℕ → Type 0
FoundByte old new past None = coming old past ≡ []
FoundByte old new past (Some byte) = coming old past ≡ byte ∷ coming new past

-- a number of four bytes was read, or fewer bytes are left
abbrev pub FoundNumber : Reader → Reader → Past → Option ℕ → Type 0
FoundNumber old new past None = length (coming old past) < 4
FoundNumber old new past (Some n) = coming old past ≡ to_be_bytes w32 n ++ coming new past

-- so many bytes were read, or fewer are left
abbrev pub FoundBody : ℕ → Reader → Reader → Past → Option (Listed ℕ) → Type 0
FoundBody size old new past None = length (coming old past) < size
FoundBody size old new past (Some body) = coming old past ≡ body.items ++ coming new past

-- a length that is at least one and at most another
abbrev pub IsBetween : ℕ → ℕ → ℕ → Type 0
IsBetween least most n = (least ≤ n) × (n ≤ most)

-- a body was read behind its length
abbrev pub FoundFramed : List ℕ → Reader → Reader → Past → Type 0
FoundFramed body old new past = coming old past ≡ framed body ++ coming new past

-- the place is refused where the reader stands, or that many bytes behind it, for a reason that has P
abbrev pub RefusesBehind : (ℕ → Type 0) → Reader → ℕ → Type 0
RefusesBehind P old place = (k : ℕ) × (place ≡ old.place + k) × P k

-- a closed gate stands there, or an open one that may be open and a record
abbrev pub FoundRecord : Bool → Reader → Reader → Past → Option (Listed ℕ) → Type 0
FoundRecord may old new past None = IsClosed (coming old past)
FoundRecord may old new past (Some body) = (may ≡ true) × IsRecordLength (length body.items) × (coming old past ≡ opened body.items ++ coming new past)

-- the reader has gone on by a gate, or by a gate and a record with its length
abbrev pub PassesRecord : Reader → Reader → Option (Listed ℕ) → Type 0
PassesRecord old new None = Passes 1 old new
PassesRecord old new (Some body) = Passes (5 + length body.items) old new

-- bytes are refused at their place k, where a record is looked for: the gate is missing; it is open and may not be; or the record
-- behind it is refused
abbrev pub IsRefusedRecord : Bool → List ℕ → ℕ → Type 0
IsRefusedRecord may bytes k =
    ((bytes ≡ []) × (k ≡ 0)) ⊎ (((behind : List ℕ) × (bytes ≡ 1 ∷ behind) × (may ≡ false) × (k ≡ 0))
    ⊎ ((behind : List ℕ) × (i : ℕ) × (bytes ≡ 1 ∷ behind) × (may ≡ true) × IsRefusedBody IsRecordLength behind i × (k ≡ 1 + i)))
