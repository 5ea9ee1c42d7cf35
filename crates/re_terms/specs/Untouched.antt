-- What a step leaves of a device, and what it settles.
-- Read against: a turn of device 0 leaves all of device 1, and not how many entries device 0 took; behind one unsettled entry it settles two.
use Rattle.std.specs.Prelude.{◌≡◌, ℕ, List, [], ◌++◌}
use Rattle.re_terms.specs.DeviceWorlds.{World, settled_taken}
use Rattle.re_terms.specs.Entries.{PlainEntry, run_updates}

-- a device stands in a new world as in an old one, in all that a world keeps of a device
pub record IsUntouched (d : ℕ) (old new : World) : Type 0 where
  pub base : new.base d ≡ old.base d
  pub base_number : new.base_number d ≡ old.base_number d
  pub settled : new.settled d ≡ old.settled d
  pub unsettled : new.unsettled d ≡ old.unsettled d
  pub in_doubt : new.in_doubt d ≡ old.in_doubt d
  pub reads : new.reads d ≡ old.reads d
  pub count : new.count d ≡ old.count d
  pub stop : new.stop d ≡ old.stop d
  pub up : new.up d ≡ old.up d

-- a device's entries have become settled, and it has no unsettled one
pub record HasSettled (d : ℕ) (entries : List PlainEntry) (old new : World) : Type 0 where
  pub settled : new.settled d ≡ old.settled d ++ entries
  pub unsettled : new.unsettled d ≡ []
  -- their updates are behind the log
  pub log : new.log ≡ old.log ++ run_updates d (settled_taken old d) entries
