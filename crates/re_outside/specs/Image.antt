-- What reads of one file give, and what a stop may leave of it.
-- Read against: a file of three bytes whose byte at 1 was written and isn't synced may be left with any byte there, and with
-- no other byte changed; one of one byte that was written at 2 may be left with at most three bytes.
use Rattle.std.specs.Prelude.{◌≡◌, ℕ, zero, suc, ◌+◌, ◌-◌, ◌<◌, ◌≤◌, min, max, Bool, true, false, ◌&&◌, ◌||◌, nat_lt, nat_le, if◌then◌else◌, List, [], ◌∷◌, ◌++◌, length, slice_index, take, drop, replicate}
use Rattle.std.specs.List.{list_any}
use Rattle.re_outside.specs.FileAct.{FileAct, Wrote, CutTo, Synced, WriteFailed, CutFailed, SyncFailed}

-- old with these bytes at this place, behind zeros where it is past the end; no byte written leaves it as it was
abbrev pub written : List ℕ → ℕ → List ℕ → List ℕ
written old at [] = old
written old at (b ∷ bytes) = take at old ++ (replicate (at - length old) 0 ++ (b ∷ bytes)) ++ drop (at + length (b ∷ bytes)) old

-- what reads give after an act, where they gave old before it
abbrev pub after : List ℕ → FileAct → List ℕ
after old (Wrote at bytes) = written old at bytes
after old (CutTo n) = take n old
after old Synced = old
after old (WriteFailed at bytes left) = left
after old (CutFailed n left) = left
after old SyncFailed = old

-- what reads give after these acts on a file that was start at first
abbrev pub content : List ℕ → List FileAct → List ℕ
content start [] = start
content start (a ∷ acts) = content (after start a) acts

-- a sync that came through
abbrev pub is_sync : FileAct → Bool
is_sync (Wrote at bytes) = false
is_sync (CutTo n) = false
is_sync Synced = true
is_sync (WriteFailed at bytes left) = false
is_sync (CutFailed n left) = false
is_sync SyncFailed = false

-- the acts up to the last successful sync
abbrev pub up_to_sync : List FileAct → List FileAct
up_to_sync [] = []
up_to_sync (a ∷ acts) = if list_any is_sync (a ∷ acts) then a ∷ up_to_sync acts else []

-- the acts behind the last successful sync, all of them where there is none
abbrev pub since_sync : List FileAct → List FileAct
since_sync [] = []
since_sync (a ∷ acts) = if list_any is_sync (a ∷ acts) then since_sync acts else a ∷ acts

-- the length that an act asks for, whether it came through or not
abbrev pub asked_length : List ℕ → FileAct → ℕ
asked_length old (Wrote at bytes) = length (written old at bytes)
asked_length old (CutTo n) = min n (length old)
asked_length old Synced = length old
asked_length old (WriteFailed at bytes left) = length (written old at bytes)
asked_length old (CutFailed n left) = min n (length old)
asked_length old SyncFailed = length old

-- the least length that the file had since start, those asked for among them
abbrev pub least_length : List ℕ → List FileAct → ℕ
least_length start [] = length start
least_length start (a ∷ acts) = min (length start) (min (asked_length start a) (least_length (after start a) acts))

-- the greatest length that the file had since start, those asked for among them
abbrev pub greatest_length : List ℕ → List FileAct → ℕ
greatest_length start [] = length start
greatest_length start (a ∷ acts) = max (length start) (max (asked_length start a) (greatest_length (after start a) acts))

-- where a write of n bytes ends; one of no bytes does nothing
abbrev pub write_end : ℕ → ℕ → ℕ
write_end at zero = 0
write_end at (suc n) = at + suc n

-- place i is in the range of a write of n bytes to a file of this size, or in the gap that it fills
abbrev pub is_in_write : ℕ → ℕ → ℕ → ℕ → Bool
is_in_write size at n i = nat_le (min at size) i && nat_lt i (write_end at n)

-- place i counts as written by this act
abbrev pub is_written_by : List ℕ → FileAct → ℕ → Bool
is_written_by old (Wrote at bytes) i = is_in_write (length old) at (length bytes) i
is_written_by old (CutTo n) i = false
is_written_by old Synced i = false
is_written_by old (WriteFailed at bytes left) i = is_in_write (length old) at (length bytes) i
is_written_by old (CutFailed n left) i = false
is_written_by old SyncFailed i = false

-- place i counts as written by one of these acts
abbrev pub is_written : List ℕ → List FileAct → ℕ → Bool
is_written start [] i = false
is_written start (a ∷ acts) i = is_written_by start a i || is_written (after start a) acts i

-- a stop after these acts, none of which is a successful sync, may leave this of a file that was synced as start: its length is
-- one that the file had or that was asked for, or lies between two of these, and each byte that was there and in no written range is kept
pub record IsUnsyncedImage (start : List ℕ) (acts : List FileAct) (file : List ℕ) : Type 0 where
  pub no_shorter : least_length start acts ≤ length file
  pub no_longer : length file ≤ greatest_length start acts
  pub kept : (i : ℕ) → i < length start → i < length file → is_written start acts i ≡ false → slice_index file i ≡ slice_index start i

-- a stop after these acts may leave this of a file that was start at first, and synced
abbrev pub IsCrashImage : List ℕ → List FileAct → List ℕ → Type 0
IsCrashImage start acts file = IsUnsyncedImage (content start (up_to_sync acts)) (since_sync acts) file

-- a stop may leave new after one act more than before, where it may leave old and reads gave now before the act
pub record IsChanged (now : List ℕ) (a : FileAct) (old new : List ℕ) : Type 0 where
  pub no_shorter : min (length old) (min (asked_length now a) (length (after now a))) ≤ length new
  pub no_longer : length new ≤ max (length old) (max (asked_length now a) (length (after now a)))
  pub above : min (length new) (length now) ≤ length old
  pub below : length old ≤ max (length new) (length now)
  pub kept : (i : ℕ) → i < length old → i < length new → is_written_by now a i ≡ false → slice_index new i ≡ slice_index old i

-- new is old after a write of n bytes at this place of which any part was made, where reads gave size bytes before it
pub record IsTorn (size at n : ℕ) (old new : List ℕ) : Type 0 where
  pub no_shorter : length old ≤ length new
  pub no_longer : length new ≤ max (length old) (write_end at n)
  pub kept : (i : ℕ) → i < length old → is_in_write size at n i ≡ false → slice_index new i ≡ slice_index old i

-- new is old after a cut to n bytes that may not have gone all the way
pub record IsCutShort (n : ℕ) (old new : List ℕ) : Type 0 where
  pub no_shorter : min n (length old) ≤ length new
  pub front : new ≡ take (length new) old

-- new is old, where a call that fails changes nothing
abbrev pub IsUnchanged : List ℕ → List ℕ → Type 0
IsUnchanged old new = new ≡ old

-- a failed act leaves to reads what such a call may leave
abbrev pub IsHonest : List ℕ → FileAct → Type 0
IsHonest old (Wrote at bytes) = Unit {0}
IsHonest old (CutTo n) = Unit {0}
IsHonest old Synced = Unit {0}
IsHonest old (WriteFailed at bytes left) = IsTorn (length old) at (length bytes) old left
IsHonest old (CutFailed n left) = IsCutShort n old left
IsHonest old SyncFailed = Unit {0}

-- each failed act leaves to reads what such a call may leave
abbrev pub AreHonest : List ℕ → List FileAct → Type 0
AreHonest start [] = Unit {0}
AreHonest start (a ∷ acts) = IsHonest start a × AreHonest (after start a) acts
