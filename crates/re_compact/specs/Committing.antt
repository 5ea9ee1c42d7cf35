-- The commit of a record to the store on which a journal stands, behind a new snapshot where one is due.
-- Read against: beside a store of generation 1 in file 0 a commit behind a snapshot of generation 2 leaves at each moment the old store
-- with all its records, the new snapshot in file 1 with no record, or with the one; one with no snapshot leaves the old records, or one
-- more. Into a blank file of no bytes it takes ten calls, six for the snapshot and four for the record.
-- Where the sixth of these fails the record's gate doesn't read as open, whatever stands there; where the tenth fails it does.
use Rattle.std.specs.Prelude.{◌≡◌, ◌⊎◌, ℕ, ◌+◌, ◌-◌, ◌<◌, ◌==◌, ◌&&◌, Bool, true, false, nat_lt, List, [], ◌∷◌, ◌++◌, length, slice_index, Option, Some, None}
use Rattle.re_outside.specs.Frame.{StoreFrame, Store, HasStoreFrame, IsRecordLength, generation}
use Rattle.re_outside.specs.Trace.{Past, content_of}
use Rattle.re_outside.specs.declared.step.Step.{Step}
use Rattle.re_journal.specs.Commits.{commit_steps}
use Rattle.re_journal.specs.Journals.{calls_after, other_file, frame_of, MayFollow, Commits}
use Rattle.re_journal.specs.declared.journal.Journal.{Journal}
use Rattle.re_compact.specs.Laying.{prepare_steps, publish_steps, laying_calls, IsSnapshot}

-- ---- what may be committed

-- a new snapshot may take the place of this one: it may be one, and its generation is greater
pub record Succeeds (snapshot new : List ℕ) : Type 0 where
  pub number : ℕ
  pub fits : IsSnapshot new number
  pub newer : generation snapshot < number

-- what is handed in is the frame of the body, which may stand behind these records; or the frame of a new snapshot too, which may take
-- the place of this one
abbrev pub MayCommit : List ℕ → List (List ℕ) → Option (List ℕ) → List ℕ → Option (List ℕ) → List ℕ → Type 0
MayCommit snapshot bodies None body next framed = (next ≡ None) × MayFollow snapshot bodies body framed
MayCommit snapshot bodies (Some new) body next framed = (next ≡ Some (frame_of new)) × Succeeds snapshot new × (framed ≡ frame_of body) × IsRecordLength (length body)

-- ---- the calls

-- the steps on device d: the record goes behind the records of the journal's own file; or the next snapshot is laid into the other file,
-- its gate is opened, and the record goes behind it there
abbrev pub committing_steps : ℕ → Journal → Option (List ℕ) → List ℕ → List Step
committing_steps d journal None framed = commit_steps d journal.file journal.gate framed
committing_steps d journal (Some next) framed =
    prepare_steps d (other_file journal.file) journal.other_blank journal.other_length next ++ (publish_steps d (other_file journal.file) ++ commit_steps d (other_file journal.file) (length next) framed)

-- how many calls they take
abbrev pub committing_calls : Journal → Option (List ℕ) → ℕ
committing_calls journal None = 4
committing_calls journal (Some next) = laying_calls journal.other_blank journal.other_length + 6

-- the journal after a frame of n bytes was committed in what was its other file, behind a snapshot whose frame has so many
pub record CommitsBehind (laid n : ℕ) (old new : Journal) : Type 0 where
  pub file : new.file ≡ other_file old.file
  pub start : new.start ≡ laid
  pub gate : new.gate ≡ laid + n
  pub length : new.length ≡ laid + 1 + n
  pub calls : new.calls ≡ calls_after (laying_calls old.other_blank old.other_length + 6) old.calls
  pub other_length : new.other_length ≡ old.length
  pub other_blank : new.other_blank ≡ (old.start == 0)
  pub running : new.stopped ≡ old.stopped

-- the journal after the commit of this frame, behind the next snapshot where one is handed in
abbrev pub HasCommitted : Option (List ℕ) → List ℕ → Journal → Journal → Type 0
HasCommitted None framed old new = Commits (length framed) old new
HasCommitted (Some next) framed old new = CommitsBehind (length next) (length framed) old new

-- ---- the store

-- the store after the commit
abbrev pub store_after : ℕ → List ℕ → List (List ℕ) → Option (List ℕ) → List ℕ → StoreFrame
store_after file snapshot bodies None body = Store file snapshot (bodies ++ body ∷ [])
store_after file snapshot bodies (Some new) body = Store (other_file file) new (body ∷ [])

-- this is the new snapshot alone, where there is one
abbrev pub IsNewAlone : ℕ → Option (List ℕ) → StoreFrame → Type 0
IsNewAlone file None frame = ⊥
IsNewAlone file (Some new) frame = frame ≡ Store (other_file file) new []

-- what a stop within the commit may leave: the store before it, the new snapshot alone, or the store after it
abbrev pub IsLeftBy : ℕ → List ℕ → List (List ℕ) → Option (List ℕ) → List ℕ → StoreFrame → Type 0
IsLeftBy file snapshot bodies new body frame = (frame ≡ Store file snapshot bodies) ⊎ (IsNewAlone file new frame ⊎ (frame ≡ store_after file snapshot bodies new body))

-- ---- what reads give

-- how many steps were added since; a commit's call adds one, and where it fails and did nothing it may add none
abbrev pub steps_since : Past → Past → ℕ
steps_since old now = length now.trace - length old.trace

-- how many calls lay the new snapshot and open its gate, where there is one
abbrev pub snapshot_calls : Journal → Option (List ℕ) → ℕ
snapshot_calls journal None = 0
snapshot_calls journal (Some next) = laying_calls journal.other_blank journal.other_length + 2

-- the file into which the record goes
abbrev pub record_file : Journal → Option (List ℕ) → ℕ
record_file journal None = journal.file
record_file journal (Some next) = other_file journal.file

-- the place of the gate that opens the record
abbrev pub record_gate : Journal → Option (List ℕ) → ℕ
record_gate journal None = journal.gate
record_gate journal (Some next) = length next

-- a call behind those that lay the new snapshot added its step, and the record's gate reads as open
abbrev pub reads_open : Journal → Option (List ℕ) → Past → Past → Bool
reads_open journal next old now = nat_lt (snapshot_calls journal next) (steps_since old now) && (slice_index (content_of now (record_file journal next)) (record_gate journal next) == 1)

-- what reads give: the store after the commit where the record's gate reads as open, else the store before it or the new snapshot alone
abbrev pub IsReadBy : ℕ → List ℕ → List (List ℕ) → Option (List ℕ) → List ℕ → Bool → StoreFrame → Type 0
IsReadBy file snapshot bodies new body true frame = frame ≡ store_after file snapshot bodies new body
IsReadBy file snapshot bodies new body false frame = (frame ≡ Store file snapshot bodies) ⊎ IsNewAlone file new frame

-- the two files read as something that has P
abbrev pub ReadAs : (StoreFrame → Type 0) → Past → Type 0
ReadAs P now = (frame : StoreFrame) × HasStoreFrame (content_of now 0) (content_of now 1) frame × P frame
