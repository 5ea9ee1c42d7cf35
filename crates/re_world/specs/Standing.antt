-- Where the devices of a program, their packets and their files stand: as one world of the definitions has it.
-- Read against: on `device a; counter c;` right after the opening of blank files the world is the one of blank files, and the device stands on a store of generation 1.
-- After a turn whose third call failed, a's files open to no entry or to one, whatever a stop leaves; where the record's gate reads as open they open to one, as they read.
use Rattle.std.specs.Prelude.{◌≡◌, ◌⊎◌, ℕ, ◌<◌, false, List, ◌++◌, map, Option, None, Some}
use Rattle.std.specs.List.{All}
use Rattle.re_device.specs.Device.{DeviceState}
use Rattle.re_device.specs.Standing.{StandsSettled}
use Rattle.re_device.specs.Stepping.{IsDeviceOf}
use Rattle.re_outside.specs.Outside.{Seen}
use Rattle.re_outside.specs.Port.{past_in}
use Rattle.re_outside.specs.Trace.{Past, IsCrashImageOf, content_of}
use Rattle.re_terms.specs.Admission.{device_count}
use Rattle.re_terms.specs.CausalWorlds.{IsCausalWorld}
use Rattle.re_terms.specs.DeviceWorlds.{World, recovered, spelled}
use Rattle.re_terms.specs.Shapes.{FitsShape, shape_of}
use Rattle.re_terms.specs.UpdateStates.{state_of_updates}
use Rattle.re_terms.specs.declared.program.Program.{Program}
use Rattle.re_world.specs.Images.{OpensAfter}
use Rattle.re_world.specs.State.{WorldState, device_in}

-- what a stop leaves of a device's files opens to its settled entries, or to these and those in doubt; as they read they open to its settled entries and those in doubt that they hold
pub record RestsAs (p : Program) (w : World) (d : ℕ) (now : Past) : Type 0 where
  pub images : (first second : List ℕ) → IsCrashImageOf now 0 first → IsCrashImageOf now 1 second → OpensAfter p w d first second (w.settled d) ⊎ OpensAfter p w d first second (w.settled d ++ w.in_doubt d)
  pub reads : OpensAfter p w d (content_of now 0) (content_of now 1) (w.settled d ++ recovered w d)

-- the device is down, or it is the world's and, where it isn't stopped, stands on its files
abbrev pub HasDevice : Program → World → ℕ → Option DeviceState → Past → Type 0
HasDevice p w d None now = w.up d ≡ false
HasDevice p w d (Some device) now = IsDeviceOf p w device × (device.memory.device ≡ d) × (w.stop d ≡ None → StandsSettled device now)

-- this is the world of the definitions: its updates stand in one causal log, and the devices, their files and the packets are as it has them
pub record IsWorldOf (p : Program) (w : World) (v : WorldState) (s : Seen) : Type 0 where
  pub program : v.program ≡ p
  pub causal : IsCausalWorld (device_count p.decls.items) w
  pub devices : (d : ℕ) → d < device_count p.decls.items → HasDevice p w d (device_in v d) (past_in d s)
  pub files : (d : ℕ) → d < device_count p.decls.items → RestsAs p w d (past_in d s)
  pub packets : v.packets ≡ map (spelled p) w.packets
  pub fit : All (λ us. FitsShape (shape_of p) (state_of_updates (shape_of p) us)) w.packets
