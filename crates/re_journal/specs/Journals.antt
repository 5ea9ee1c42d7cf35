-- What a journal knows of the two files of its device, and where it stands on them.
-- Read against: a file of a snapshot of 70 bytes and one record of 29 has its gates at 0, 75 and 109, which is closed, and 110 bytes; its
-- journal starts at 75, has its gate at 109, and 33 bytes. Blank files have a journal that starts at 0, has its gate at 0, and no bytes.
use Rattle.std.specs.Prelude.{◌≡◌, ◌⊎◌, ℕ, ◌+◌, ◌-◌, ◌^◌, ◌≤◌, min, max, true, List, [], ◌∷◌, ◌++◌, length}
use Rattle.re_outside.specs.Frame.{IsRecordLength, framed, opened, generation, front, MayOpen, HasFrame, is_blank}
use Rattle.re_outside.specs.Moment.{IsSettled}
use Rattle.re_outside.specs.Trace.{Past, content_of}
use Rattle.re_journal.specs.declared.journal.Journal.{Journal}

-- the file of a device that isn't this one
abbrev pub other_file : ℕ → ℕ
other_file file = 1 - file

-- a number of calls after n more, which stands still at 2^64 - 1
abbrev pub calls_after : ℕ → ℕ → ℕ
calls_after n calls = min (calls + n) (2 ^ 64 - 1)

-- a body behind its length, with a closed gate behind it
abbrev pub frame_of : List ℕ → List ℕ
frame_of body = framed body ++ 0 ∷ []

-- both files are settled, and the journal knows the length of each and whether the other one is blank
pub record KnowsFiles (journal : Journal) (past : Past) : Type 0 where
  pub own : IsSettled journal.file (content_of past journal.file) past
  pub own_length : journal.length ≡ length (content_of past journal.file)
  pub other : IsSettled (other_file journal.file) (content_of past (other_file journal.file)) past
  pub other_length : journal.other_length ≡ length (content_of past (other_file journal.file))
  pub other_blank : journal.other_blank ≡ is_blank (content_of past (other_file journal.file))

-- the gates of the journal stand around these records: behind the snapshot, and behind the last record, where it is closed
pub record HasGates (journal : Journal) (file snapshot : List ℕ) (bodies : List (List ℕ)) : Type 0 where
  pub frame : HasFrame file snapshot bodies
  pub start : journal.start ≡ length (opened snapshot)
  pub gate : journal.gate ≡ length (front snapshot bodies)

-- the journal stands on a store with this snapshot and these records
pub record StandsOn (journal : Journal) (snapshot : List ℕ) (bodies : List (List ℕ)) (past : Past) : Type 0 where
  pub files : KnowsFiles journal past
  pub gates : HasGates journal (content_of past journal.file) snapshot bodies

-- the journal stands on two blank files
pub record StandsOnBlank (journal : Journal) (past : Past) : Type 0 where
  pub files : KnowsFiles journal past
  pub own_blank : is_blank (content_of past journal.file) ≡ true
  pub other_blank : journal.other_blank ≡ true
  pub start : journal.start ≡ 0
  pub gate : journal.gate ≡ 0

-- a frame of a body that may be a record, and may stand behind the records of the store
pub record MayFollow (snapshot : List ℕ) (bodies : List (List ℕ)) (body frame : List ℕ) : Type 0 where
  pub whole : frame ≡ frame_of body
  pub fits : IsRecordLength (length body)
  pub opens : MayOpen (generation snapshot) bodies

-- the file has the snapshot and the records with a closed gate behind them, or one record more, whole, with a closed gate behind it
abbrev pub HasAllOrOneMore : List ℕ → List (List ℕ) → List ℕ → List ℕ → Type 0
HasAllOrOneMore snapshot bodies body file = HasFrame file snapshot bodies ⊎ HasFrame file snapshot (bodies ++ body ∷ [])

-- the journal after a frame of n bytes was committed
pub record Commits (n : ℕ) (old new : Journal) : Type 0 where
  pub file : new.file ≡ old.file
  pub start : new.start ≡ old.start
  pub gate : new.gate ≡ old.gate + n
  pub length : new.length ≡ max old.length (old.gate + 1 + n)
  pub calls : new.calls ≡ calls_after 4 old.calls
  pub other_length : new.other_length ≡ old.other_length
  pub other_blank : new.other_blank ≡ old.other_blank
  pub running : new.stopped ≡ old.stopped
