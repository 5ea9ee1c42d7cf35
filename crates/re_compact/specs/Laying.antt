-- How a snapshot is laid into the file that isn't in use: the file is emptied where it holds something, the snapshot is written behind a
-- closed gate, and then the gate is opened. Each change is synced before the next.
-- Read against: a blank file of no bytes is laid by two changes, the closed gate and the frame; one of 110 bytes that begins with 1 by
-- four, the gate closed, a cut to one byte, the closed gate and the frame; a blank one of 110 bytes by three.
use Rattle.std.specs.Prelude.{◌≡◌, ℕ, ◌+◌, nat_le, Bool, if◌then◌else◌, List, [], ◌∷◌, ◌++◌, length}
use Rattle.std.specs.Int.{w64, to_be_bytes}
use Rattle.re_outside.specs.Frame.{IsSnapshotLength, IsGeneration}
use Rattle.re_outside.specs.Plan.{FileChange, WriteAt, CutAt, synced_steps}
use Rattle.re_outside.specs.declared.step.Step.{Step}
use Rattle.re_journal.specs.Journals.{calls_after}

-- the changes that write a frame behind a closed gate, into a file of so many bytes that is blank or isn't
abbrev pub laying : Bool → ℕ → List ℕ → List FileChange
laying blank size framed = (if blank then [] else WriteAt 0 (0 ∷ []) ∷ []) ++ (if nat_le size 1 then [] else CutAt 1 ∷ []) ++ (WriteAt 0 (0 ∷ []) ∷ WriteAt 1 framed ∷ [])

-- how many calls they take
abbrev pub laying_calls : Bool → ℕ → ℕ
laying_calls blank size = (if blank then 0 else 2) + (if nat_le size 1 then 0 else 2) + 4

-- the change that opens the gate
abbrev pub opening : List FileChange
opening = WriteAt 0 (1 ∷ []) ∷ []

-- the steps that write a frame behind a closed gate of file g of device d
abbrev pub prepare_steps : ℕ → ℕ → Bool → ℕ → List ℕ → List Step
prepare_steps d g blank size framed = synced_steps d g (laying blank size framed)

-- the first of these steps: the gate is shut, unless the file is blank
abbrev pub shut_steps : ℕ → ℕ → Bool → List Step
shut_steps d g blank = synced_steps d g (if blank then [] else WriteAt 0 (0 ∷ []) ∷ [])

-- those behind them: the file is cut to one byte, unless it has no more
abbrev pub trim_steps : ℕ → ℕ → ℕ → List Step
trim_steps d g size = synced_steps d g (if nat_le size 1 then [] else CutAt 1 ∷ [])

-- the last of them: the closed gate and the frame are written
abbrev pub frame_steps : ℕ → ℕ → List ℕ → List Step
frame_steps d g framed = synced_steps d g (WriteAt 0 (0 ∷ []) ∷ WriteAt 1 framed ∷ [])

-- a number of calls after two more, unless there are none
abbrev pub two_unless : Bool → ℕ → ℕ
two_unless none calls = if none then calls else calls_after 2 calls

-- the steps that open the gate
abbrev pub publish_steps : ℕ → ℕ → List Step
publish_steps d g = synced_steps d g opening

-- these bytes may be a snapshot, and begin with this generation
pub record IsSnapshot (snapshot : List ℕ) (generation : ℕ) : Type 0 where
  pub rest : List ℕ
  pub whole : snapshot ≡ to_be_bytes w64 generation ++ rest
  pub size : IsSnapshotLength (length snapshot)
  pub number : IsGeneration generation
