-- What is known of a program's devices and their packets.
-- Read against: on `device a; device b; counter c;` after the commands send a and crash b the world has a's device, none of b, and the packet of no update.
use Rattle.std.specs.Prelude.{◌≡◌, ℕ, ◌≤◌, List, length, map, Option, None, Some, option_and_then, slice_get}
use Rattle.std.specs.List.{All}
use Rattle.re_print.specs.Canonical.{program_text}
use Rattle.re_outside.specs.Listed.{Listed}
use Rattle.re_terms.specs.Admission.{device_count}
use Rattle.re_terms.specs.Programs.{IsProgram}
use Rattle.re_terms.specs.Shapes.{FitsShape, shape_of}
use Rattle.re_terms.specs.Spellings.{packet_bytes}
use Rattle.re_terms.specs.declared.program.Program.{Program}
use Rattle.re_terms.specs.declared.replicated.RState.{RState}
use Rattle.re_device.specs.Device.{DeviceState}
use Rattle.re_world.specs.declared.world.World.TheInside.{Inside}

pub record WorldState : Type 0 where
  pub program : Program
  -- the devices by their numbers, none where one is down
  pub devices : List (Option DeviceState)
  -- the packets, by their bytes
  pub packets : List (List ℕ)

-- the device with this number, where it is up
abbrev pub device_in : WorldState → ℕ → Option DeviceState
device_in v d = option_and_then (λ (x : Option DeviceState). x) (slice_get v.devices d)

-- ---- what is kept

abbrev pub state_of : Inside → WorldState
state_of w = record { program = w.program; devices = w.devices.items; packets = map (λ (bytes : Listed ℕ). bytes.items) w.packets.items }

-- a device of this program, with this place among its devices
pub record IsDeviceIn (p : Program) (d : ℕ) (device : DeviceState) : Type 0 where
  pub program : device.memory.program ≡ p
  pub number_is : device.memory.device ≡ d

-- the device with this number, where it is up, is the program's
abbrev pub IsPlaced : Program → ℕ → Option DeviceState → Type 0
IsPlaced p d None = Unit {0}
IsPlaced p d (Some device) = IsDeviceIn p d device

-- all of these are
abbrev pub AllPlaced : Program → List (Option DeviceState) → Type 0
AllPlaced p devices = (d : ℕ) → IsPlaced p d (option_and_then (λ (x : Option DeviceState). x) (slice_get devices d))

-- the bytes are those of a packet of the program
abbrev pub IsPacket : Program → List ℕ → Type 0
IsPacket p bytes = (r : RState) × FitsShape (shape_of p) r × (bytes ≡ packet_bytes (shape_of p).devices r)

pub record IsKept (w : Inside) : Type 0 where
  pub is_program : IsProgram w.program
  pub text : length (program_text w.program) ≤ 65536
  pub shape : w.shape ≡ shape_of w.program
  pub count : length w.devices.items ≡ device_count w.program.decls.items
  pub placed : AllPlaced w.program w.devices.items
  pub packets : All (IsPacket w.program) (state_of w).packets
  pub few : length w.packets.items ≤ 10000
