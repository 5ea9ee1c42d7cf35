-- A world whose updates stand in one causal log.
-- Read against: a world of blank files is one; one in which device 1 has merged an update of device 0 that isn't in the log is none.
use Rattle.std.specs.Prelude.{◌≡◌, ℕ, ◌<◌, ◌≤◌, true, false, [], None, Some}
use Rattle.re_terms.specs.DeviceWorlds.{World, settled_taken}
use Rattle.re_terms.specs.Parts.{AreParts, AllFit}
use Rattle.re_terms.specs.TakenIn.{IsTakenIn}
use Rattle.re_terms.specs.Updates.{Update, IsIn, IsCausalLog}

-- The world of so many devices is that of one causal log: each device took in a part of it by its settled entries, each packet is such a part,
-- and what is unsettled or in doubt may come next.
pub record IsCausalWorld (devices : ℕ) (w : World) : Type 0 where
  pub few : devices ≤ 16
  pub causal : IsCausalLog w.log
  pub of_devices : (u : Update) → IsIn u w.log → u.dot.device < devices
  pub taken_in : (d : ℕ) → d < devices → IsTakenIn w.log d (settled_taken w d)
  pub packets : AreParts w.log w.packets
  pub unsettled : (d : ℕ) → AllFit w.log (w.unsettled d)
  pub in_doubt : (d : ℕ) → AllFit w.log (w.in_doubt d)
  -- only devices of the program are up, a stopped device is up, and one that is down has nothing unsettled
  pub ups : (d : ℕ) → w.up d ≡ true → d < devices
  pub stops : (d : ℕ) (at : ℕ) → w.stop d ≡ Some at → w.up d ≡ true
  pub downs : (d : ℕ) → w.up d ≡ false → w.unsettled d ≡ []
  -- nothing is in doubt of a device that is up and isn't stopped
  pub settles : (d : ℕ) → w.up d ≡ true → w.stop d ≡ None → w.in_doubt d ≡ []
