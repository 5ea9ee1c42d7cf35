-- A device as the entries of its store are replayed.
-- Read against: with `device a; var x: int = 2; signal s = x + 3; var y: int = 7;` a replay of the start has the words 2 and 7 and the places 0, 0, 1, 1 of words, and stands for the start with the number 0.
use Rattle.std.specs.Prelude.{◌≡◌, ◌<◌, ◌^◌, ℕ, ◌+◌, true, List, ◌++◌, ◌∷◌, map, length}
use Rattle.std.specs.List.{flat_map, list_all}
use Rattle.re_outside.specs.Frame.{opened}
use Rattle.re_outside.specs.Listed.{Listed}
use Rattle.re_record.specs.Logs.{IsRecordOf}
use Rattle.re_record.specs.Restoring.{AreAccepted, Opened, after_all}
use Rattle.re_record.specs.Spellings.{record_bytes}
use Rattle.re_record.specs.Stores.{AreRecordsOf, IsBadRecord}
use Rattle.re_restore.specs.declared.replay.Replay.{Replay}
use Rattle.re_terms.specs.Placing.{places_of}
use Rattle.re_terms.specs.ShapedUpdates.{is_operation_in}
use Rattle.re_terms.specs.Shapes.{FitsShape, shape_of}
use Rattle.re_terms.specs.WordKinds.{AreWordsOf}
use Rattle.re_terms.specs.declared.entry.Entry.{Entry}
use Rattle.re_terms.specs.declared.entry.Entry.TheVariants as entry
use Rattle.re_terms.specs.declared.entry.Logged.{Logged}
use Rattle.re_terms.specs.declared.program.Program.{Program}
use Rattle.re_terms.specs.declared.replicated.Shape.{Shape}

-- a replicated state of this shape may do the entry: the operations of a turn are of its cells, and a merged state is of its shape
abbrev pub TakesEntry : Shape → Entry → Type 0
TakesEntry shape (entry.Turn t) = list_all (is_operation_in shape) t.ops.items ≡ true
TakesEntry shape (entry.Merge r) = FitsShape shape r

-- a replay of a program's device has a word for each var and fold, of its kind, and a replica of the program's shape
pub record IsReplayOf (p : Program) (r : Replay) : Type 0 where
  pub words : AreWordsOf p r.words.items
  pub unreserved : r.words.spare ≡ 0
  pub places : r.places ≡ places_of p.decls.items
  pub shape : r.replica.shape ≡ shape_of p
  pub number : r.number < 2 ^ 48

-- the state and the entry number that it has come to
abbrev pub replayed : Replay → Opened
replayed r = record { state = record { words = r.words; rep = r.replica.state }; number = r.number }

-- the bytes of each of these
abbrev pub items_of : List (Listed ℕ) → List (List ℕ)
items_of bodies = map (λ (body : Listed ℕ). body.items) bodies

-- these bodies are records of entries that are done one behind the other, from one state and number to another
abbrev pub HasReplayed : Program → ℕ → Opened → List (List ℕ) → Opened → Type 0
HasReplayed p device o bodies now = (entries : List Logged) × AreRecordsOf p device o bodies entries × (now ≡ after_all p device entries o)

-- the body is a record of entries that are done, from one state and number to another
abbrev pub HasReplayedRecord : Program → ℕ → Opened → List ℕ → Opened → Type 0
HasReplayedRecord p device o body now = (entries : List Logged) × IsRecordOf p entries × (body ≡ record_bytes (shape_of p).devices entries) × AreAccepted p device o entries × (now ≡ after_all p device entries o)

-- of these bodies, whose first gate stands at start, the first ones are records whose entries are done, and the one behind them is refused, at this place
pub record HasRefusedRecord (p : Program) (device : ℕ) (o : Opened) (start : ℕ) (bodies : List (List ℕ)) (place : ℕ) : Type 0 where
  pub before : List (List ℕ)
  pub refused : List ℕ
  pub behind : List (List ℕ)
  pub entries : List Logged
  pub k : ℕ
  pub split : bodies ≡ before ++ refused ∷ behind
  pub records : AreRecordsOf p device o before entries
  pub bad : IsBadRecord p device (after_all p device entries o) refused k
  -- a gate and four bytes of length stand before the record
  pub place_is : place ≡ start + length (flat_map opened before) + 5 + k
