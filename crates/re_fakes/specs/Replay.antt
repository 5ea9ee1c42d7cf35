-- The steps of a trace gone through again, with what reads give and what a stop leaves.
use Rattle.std.specs.Prelude.{ℕ, ◌≡◌, ◌≢◌, ◌<◌, max, true, false, ◌||◌, ◌&&◌, ◌==◌, if◌then◌else◌, nat_le, Option, None, Some, MatchOption, List, [], ◌∷◌, length, slice_index}
use Rattle.re_outside.specs.FileAct.{FileAct, Wrote, CutTo, Synced, WriteFailed, CutFailed, SyncFailed}
use Rattle.re_outside.specs.Image.{after, content, up_to_sync, since_sync, write_end, is_in_write}
use Rattle.re_outside.specs.Trace.{act_of, acts_of}
use Rattle.re_outside.specs.declared.step.Step.{Step}
use Rattle.re_outside.specs.declared.step.Step.TheVariants as steps
use Rattle.re_fakes.specs.Files.{file_at, place_of}
use Rattle.re_fakes.specs.Stops.{IsFilled}
use Rattle.re_fakes.specs.declared.stops.Choice.{Choice}
use Rattle.re_fakes.specs.declared.stops.Choice.TheVariants.{Stable, Read, Sevens, Ones}

-- the byte that a choice puts at each pending place
abbrev pub fill_of : Choice → Option ℕ
fill_of Stable = None
fill_of Read = None
fill_of Sevens = Some 7
fill_of Ones = Some 1

-- a write of so many bytes to a file of this size, after which it had the length reached, is marked by a byte
pub record IsMarked (byte size at count reached : ℕ) (old new : List ℕ) : Type 0 where
  pub longer : length new ≡ max (length old) (max size (max (write_end at count) reached))
  pub marked : (i : ℕ) → i < length new → (is_in_write size at count i || nat_le (length old) i) ≡ true → slice_index new i ≡ byte
  pub others : (i : ℕ) → i < length new → (is_in_write size at count i || nat_le (length old) i) ≡ false → slice_index new i ≡ slice_index old i

-- the same where a byte is given, and else nothing
abbrev pub Marks : Option ℕ → ℕ → ℕ → ℕ → ℕ → List ℕ → List ℕ → Type 0
Marks None size at count reached old new = new ≡ old
Marks (Some byte) size at count reached old new = IsMarked byte size at count reached old new

-- the same at one place
pub record MarksAt (fill : Option ℕ) (place size at count reached : ℕ) (old new : List (List ℕ)) : Type 0 where
  pub own : Marks fill size at count reached (file_at old place) (file_at new place)
  pub others : (other : ℕ) → other ≢ place → file_at new other ≡ file_at old other

-- what a stop leaves after an act, where it left old before and reads gave now
abbrev pub LeftBy : Option ℕ → FileAct → List ℕ → List ℕ → List ℕ → Type 0
LeftBy fill (Wrote at bytes) now old new = Marks fill (length now) at (length bytes) 0 old new
LeftBy fill (CutTo n) now old new = new ≡ old
LeftBy fill Synced now old new = new ≡ now
LeftBy fill (WriteFailed at bytes content) now old new = Marks fill (length now) at (length bytes) (length content) old new
LeftBy fill (CutFailed n content) now old new = Marks fill (length now) 0 0 (length content) old new
LeftBy fill SyncFailed now old new = new ≡ old

-- at most one act is followed
abbrev pub Follows : Option ℕ → List FileAct → List ℕ → List ℕ → List ℕ → List ℕ → Type 0
Follows fill [] now left now' left' = (now' ≡ now) × (left' ≡ left)
Follows fill (a ∷ acts) now left now' left' = (now' ≡ after now a) × LeftBy fill a now left left'

-- an act on one file is followed, and each other file stays
abbrev pub FollowsAct : Option ℕ → ℕ → ℕ → FileAct → List (List ℕ) → List (List ℕ) → List (List ℕ) → List (List ℕ) → Type 0
FollowsAct fill device file a now left now' left' = (d f : ℕ) → f < 2 → let p = place_of d f in Follows fill (if d == device && f == file then a ∷ [] else []) (file_at now p) (file_at left p) (file_at now' p) (file_at left' p)

-- a step is followed in each file
abbrev pub FollowsStep : Option ℕ → Step → List (List ℕ) → List (List ℕ) → List (List ℕ) → List (List ℕ) → Type 0
FollowsStep fill step now left now' left' = (d f : ℕ) → f < 2 → let p = place_of d f in Follows fill (act_of d f step) (file_at now p) (file_at left p) (file_at now' p) (file_at left' p)

-- what is left of a file that was start at first, after these acts
abbrev pub IsLeft : Option ℕ → List ℕ → List FileAct → List ℕ → Type 0
IsLeft None start acts left = left ≡ content start (up_to_sync acts)
IsLeft (Some byte) start acts left = IsFilled byte (content start (up_to_sync acts)) (since_sync acts) left

-- the file that a step names, and 0 where it names none
abbrev pub file_of : Step → ℕ
file_of (steps.Write device file at bytes) = file
file_of (steps.Cut device file length) = file
file_of (steps.Sync device file) = file
file_of (steps.Say bytes) = 0
file_of (steps.Fail call device file at bytes content) = file

-- the steps were followed in each file
abbrev pub Followed : Option ℕ → List (List ℕ) → List Step → List (List ℕ) → List (List ℕ) → Type 0
Followed fill start steps now left = (d f : ℕ) → f < 2 → let p = place_of d f in (file_at now p ≡ content (file_at start p) (acts_of d f steps)) × IsLeft fill (file_at start p) (acts_of d f steps) (file_at left p)
