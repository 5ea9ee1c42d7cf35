-- What a record and a snapshot of a program may hold.
-- Read against: with `device a; var x: int = 0;` the turn x = 5 with the change of x to 5 may be held, also with no change; a change of x to a fault, one of `a`, a turn without parts, and a record of no entry or of ten may not.
use Rattle.std.specs.Prelude.{◌≡◌, ℕ, ◌^◌, ◌<◌, ◌≤◌, List, length}
use Rattle.std.specs.List.{All}
use Rattle.re_terms.specs.Admission.{IsEntryOf, part_count}
use Rattle.re_terms.specs.Shapes.{FitsShape}
use Rattle.re_terms.specs.WordKinds.{AreChangesOf, IsStateOf}
use Rattle.re_terms.specs.declared.entry.Entry.{Entry}
use Rattle.re_terms.specs.declared.entry.Entry.TheVariants as entry
use Rattle.re_terms.specs.declared.entry.Logged.{Logged}
use Rattle.re_terms.specs.declared.entry.State.{State}
use Rattle.re_terms.specs.declared.program.Program.{Program}
use Rattle.re_terms.specs.declared.replicated.Shape.{Shape}

-- ---- what has bytes

-- a turn of at most 64 parts, or a replicated state of the shape
abbrev pub HasEntryBytes : Shape → Entry → Type 0
HasEntryBytes shape (entry.Turn t) = part_count t ≤ 64
HasEntryBytes shape (entry.Merge r) = FitsShape shape r

-- such an entry, with at most 256 changes
pub record HasBytes (shape : Shape) (l : Logged) : Type 0 where
  pub entry : HasEntryBytes shape l.entry
  pub changes : length l.changes.items ≤ 256

-- a record: 1 to 9 entries that have bytes
pub record IsRecord (shape : Shape) (entries : List Logged) : Type 0 where
  pub some : 1 ≤ length entries
  pub few : length entries ≤ 9
  pub each : All (HasBytes shape) entries

-- an entry is a turn
abbrev pub IsTurn : Entry → Type 0
IsTurn (entry.Turn t) = Unit {0}
IsTurn (entry.Merge r) = ⊥

-- ---- what may be read

-- nothing is reserved in the lists of an entry
abbrev pub IsPlain : Entry → Type 0
IsPlain (entry.Turn t) = (t.sets.spare ≡ 0) × (t.fires.spare ≡ 0) × (t.ops.spare ≡ 0)
IsPlain (entry.Merge r) = r.cells.spare ≡ 0

-- an entry of the program, with at most 256 changes of its vars and folds, and nothing reserved in its lists
pub record IsLoggedOf (p : Program) (l : Logged) : Type 0 where
  pub entry : IsEntryOf p l.entry
  pub changes : AreChangesOf p l.changes.items
  pub few : length l.changes.items ≤ 256
  pub entry_plain : IsPlain l.entry
  pub changes_plain : l.changes.spare ≡ 0

-- a record of the program: 1 to 9 such entries
pub record IsRecordOf (p : Program) (entries : List Logged) : Type 0 where
  pub some : 1 ≤ length entries
  pub few : length entries ≤ 9
  pub each : All (IsLoggedOf p) entries

-- a state of the program after so many entries, with nothing reserved in its list of words
pub record IsSnapshotOf (p : Program) (number : ℕ) (s : State) : Type 0 where
  pub few : number < 2 ^ 48
  pub state : IsStateOf p s
  pub plain : s.words.spare ≡ 0
