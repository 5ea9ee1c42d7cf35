-- What the two files of a device are to a program, and the state to which they open.
-- Read against: with `device a; var x: int = 0;` a file of 110 bytes with the snapshot of the start, the turn x = 5 and a closed gate, beside an empty file, is a store of generation 1 with one entry, and opens to x = 5 and entry number 1; so it does with a closed gate of 7 and any bytes behind it.
-- With its gate before the record closed it opens to x = 0 and entry number 0. To `device a; var x: int = 1;` it is another program's. With a format of 2 it is bad at 13, with a tag of 2 at the word of x at 58, with a tag of 2 at its entry at 81, and with an id of 0 at its set at 83, all in file 0.
-- The file of one byte 1 is blank, and opens to the start.
use Rattle.std.specs.Prelude.{◌≡◌, ℕ, ◌+◌, ◌⊎◌, List, [], ◌∷◌, ◌++◌, length, Err, Option, None, Some}
use Rattle.std.specs.List.{flat_map}
use Rattle.re_outside.specs.Frame as frame
use Rattle.re_outside.specs.Frame.{HasStoreFrame, front}
use Rattle.re_record.specs.Logs.{IsRecordOf, IsSnapshotOf}
use Rattle.re_record.specs.Reading.{record_at}
use Rattle.re_record.specs.Restoring.{Opened, AreAccepted, IsFirstRefused, after_all, unopened}
use Rattle.re_record.specs.Snapshots.{HasOtherText, snapshot_at}
use Rattle.re_record.specs.Spellings.{logged_bytes, record_bytes, snapshot_bytes}
use Rattle.re_record.specs.declared.fault.SnapshotFault.TheVariants.{At}
use Rattle.re_record.specs.declared.snapshots.Snapshot.{Snapshot}
use Rattle.re_terms.specs.Shapes.{shape_of}
use Rattle.re_terms.specs.declared.entry.Logged.{Logged}
use Rattle.re_terms.specs.declared.program.Program.{Program}

-- what two files are to a program and a device: both blank; refused in one of them at a place; the store of another program; or a store with a generation, a snapshot and the entries behind it
pub data Stored : Type 0 where
  Blank : Stored
  Bad : (file place : ℕ) → Stored
  OtherProgram : Stored
  Store : (generation : ℕ) (snapshot : Snapshot) (entries : List Logged) → Stored

-- what the snapshot of a store opens to
abbrev pub laid : Snapshot → Opened
laid s = record { state = s.state; number = s.number }

-- ---- records

-- these bodies are the records of these entries, and no limit refuses one of them, each behind those before it
abbrev pub AreRecordsOf : Program → ℕ → Opened → List (List ℕ) → List Logged → Type 0
AreRecordsOf p device o [] entries = entries ≡ []
AreRecordsOf p device o (body ∷ bodies) entries =
    (first : List Logged) × (others : List Logged) × (entries ≡ first ++ others)
    × IsRecordOf p first × (body ≡ record_bytes (shape_of p).devices first) × AreAccepted p device o first
    × AreRecordsOf p device (after_all p device first o) bodies others

-- where an entry's tag stands in a record, behind these entries
abbrev pub tag_place : Program → List Logged → ℕ
tag_place p before = 1 + length (flat_map (logged_bytes (shape_of p).devices) before)

-- a limit refuses an entry of a record that reads, at the entry's tag
pub record IsPastLimit (p : Program) (device : ℕ) (o : Opened) (body : List ℕ) (place : ℕ) : Type 0 where
  pub entries : List Logged
  pub before : List Logged
  pub fits : IsRecordOf p entries
  pub whole : body ≡ record_bytes (shape_of p).devices entries
  pub first : IsFirstRefused p device o entries before
  pub place_is : place ≡ tag_place p before

-- a record is refused at this place of it: by its bytes, or, where all of them read, by a limit
abbrev pub IsBadRecord : Program → ℕ → Opened → List ℕ → ℕ → Type 0
IsBadRecord p device o body place = (record_at p (shape_of p) body ≡ Err place) ⊎ IsPastLimit p device o body place

-- ---- the bodies of a store

-- the snapshot is this one
abbrev pub HasSnapshot : Program → ℕ → List ℕ → Snapshot → Type 0
HasSnapshot p device body s = IsSnapshotOf p s.number s.state × (body ≡ snapshot_bytes p device (frame.generation body) s.number s.state)

-- the snapshot is refused, at this place of its file
abbrev pub HasBadSnapshot : Program → ℕ → List ℕ → ℕ → Type 0
HasBadSnapshot p device body place = (k : ℕ) × (snapshot_at p (shape_of p) device body ≡ Err (At k)) × (place ≡ 5 + k)

-- the snapshot reads, and behind some records that read the next one is refused, at this place of its file
pub record HasBadRecord (p : Program) (device : ℕ) (body : List ℕ) (bodies : List (List ℕ)) (place : ℕ) : Type 0 where
  pub snapshot : Snapshot
  pub before : List (List ℕ)
  pub refused : List ℕ
  pub behind : List (List ℕ)
  pub entries : List Logged
  pub k : ℕ
  pub reads : HasSnapshot p device body snapshot
  pub split : bodies ≡ before ++ refused ∷ behind
  pub records : AreRecordsOf p device (laid snapshot) before entries
  pub bad : IsBadRecord p device (after_all p device entries (laid snapshot)) refused k
  -- a gate and four bytes of length stand before the record
  pub place_is : place ≡ length (front body before) + 5 + k

-- the snapshot reads, and with the entries of the records behind it this is what a device has
pub record ComesTo (p : Program) (device : ℕ) (body : List ℕ) (bodies : List (List ℕ)) (o : Opened) : Type 0 where
  pub snapshot : Snapshot
  pub entries : List Logged
  pub reads : HasSnapshot p device body snapshot
  pub records : AreRecordsOf p device (laid snapshot) bodies entries
  pub opened : o ≡ after_all p device entries (laid snapshot)

-- ---- stores

-- the two files are this; lengths, bodies and gates are read first, then the snapshot, and then the records in order
abbrev pub HasStore : Program → ℕ → List ℕ → List ℕ → Stored → Type 0
HasStore p device first second Blank = HasStoreFrame first second frame.Blank
HasStore p device first second (Bad file place) =
    HasStoreFrame first second (frame.Bad file place)
    ⊎ ((body : List ℕ) × (bodies : List (List ℕ)) × HasStoreFrame first second (frame.Store file body bodies) × (HasBadSnapshot p device body place ⊎ HasBadRecord p device body bodies place))
HasStore p device first second OtherProgram =
    (file : ℕ) × (body : List ℕ) × (bodies : List (List ℕ)) × HasStoreFrame first second (frame.Store file body bodies) × HasOtherText p device body
HasStore p device first second (Store generation snapshot entries) =
    (file : ℕ) × (body : List ℕ) × (bodies : List (List ℕ)) × HasStoreFrame first second (frame.Store file body bodies) × (frame.generation body ≡ generation)
    × HasSnapshot p device body snapshot × AreRecordsOf p device (laid snapshot) bodies entries

-- ---- opening

-- a store of this generation with these records may have been made: its journal was short enough at each open gate
abbrev pub MayBeOpened : ℕ → List (List ℕ) → Type 0
MayBeOpened generation bodies = (before behind : List (List ℕ)) (body : List ℕ) → bodies ≡ before ++ body ∷ behind → frame.MayOpen generation before

-- the state and the entry number of blank files and of a store
abbrev pub opened : Program → ℕ → Stored → Option Opened
opened p device Blank = Some (unopened p)
opened p device (Bad file place) = None
opened p device OtherProgram = None
opened p device (Store generation snapshot entries) = Some (after_all p device entries (laid snapshot))

-- the two files open to this state and entry number
abbrev pub OpensTo : Program → ℕ → List ℕ → List ℕ → Opened → Type 0
OpensTo p device first second o = (s : Stored) × HasStore p device first second s × (opened p device s ≡ Some o)
