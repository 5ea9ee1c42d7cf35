-- What is taken to be left of the files at a stop.
-- Read against: a synced file of bytes 1 2 3 to which 9 9 is written at 2 is left as 1 2 3 by `Stable`, as 1 2 9 9 by
-- `Read` and as 1 2 7 7 by `Sevens`.
use Rattle.std.specs.Prelude.{ℕ, ◌≡◌, ◌<◌, Bool, true, false, ◌||◌, nat_le, List, length, slice_index}
use Rattle.re_outside.specs.FileAct.{FileAct}
use Rattle.re_outside.specs.Image.{content, up_to_sync, since_sync, is_written, greatest_length}
use Rattle.re_fakes.specs.declared.stops.Choice.{Choice}
use Rattle.re_fakes.specs.declared.stops.Choice.TheVariants.{Stable, Read, Sevens, Ones}

-- place i is in a range written since the sync, or past the synced length
abbrev pub is_pending : List ℕ → List FileAct → ℕ → Bool
is_pending synced acts i = is_written synced acts i || nat_le (length synced) i

-- a file that was synced, at its greatest length since then, with this byte at each pending place
pub record IsFilled (byte : ℕ) (synced : List ℕ) (acts : List FileAct) (file : List ℕ) : Type 0 where
  pub longest : length file ≡ greatest_length synced acts
  pub pending : (i : ℕ) → i < length file → is_pending synced acts i ≡ true → slice_index file i ≡ byte
  pub kept : (i : ℕ) → i < length file → is_pending synced acts i ≡ false → slice_index file i ≡ slice_index synced i

-- what a choice takes to be left of a file that was start at first, after these acts
abbrev pub IsChosen : Choice → List ℕ → List FileAct → List ℕ → Type 0
IsChosen Stable start acts file = file ≡ content start (up_to_sync acts)
IsChosen Read start acts file = file ≡ content start acts
IsChosen Sevens start acts file = IsFilled 7 (content start (up_to_sync acts)) (since_sync acts) file
IsChosen Ones start acts file = IsFilled 1 (content start (up_to_sync acts)) (since_sync acts) file
