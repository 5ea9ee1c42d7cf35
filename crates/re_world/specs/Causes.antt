-- Why a command is refused, by what is in memory.
-- Read against: on `device a; counter c;` after crash a the command turn a add c 1 is refused with 26, and restart a isn't refused; where turn a add c 1 failed at its third call turn a add c 1, get a c and send a are refused with 34 at 3, and crash a isn't. A delivery of packet 0 before any send is refused with 28, whether a is down or up. Want of memory, 36, may come in the place of each of these.
use Rattle.std.specs.Prelude.{◌<◌, Bool, true, false, length, nat_le, Option, None, option_and_then}
use Rattle.std.specs.Option.{option_map_or, option_or}
use Rattle.re_device.specs.Causes.{IsCausedBy, entry_refusal, stop_refusal, unsettled_refusal}
use Rattle.re_device.specs.Device.{DeviceState}
use Rattle.re_terms.specs.DeviceWorlds.{device_of, refused_where}
use Rattle.re_terms.specs.Worlds.{PlainAnswer}
use Rattle.re_terms.specs.declared.command.Command.{Command}
use Rattle.re_terms.specs.declared.command.Command.TheVariants as command
use Rattle.re_terms.specs.declared.entry.Entry.TheVariants as entry
use Rattle.re_terms.specs.declared.replicated.RState.{RState}
use Rattle.re_world.specs.FileSteps.{IsPacketState}
use Rattle.re_world.specs.State.{WorldState, device_in}

-- the device that the command is for, where it is up
abbrev pub device_for : WorldState → Command → Option DeviceState
device_for v c = option_and_then (device_in v) (device_of c)

-- ---- the refusals, in their order

-- there is no packet with the command's number
abbrev pub lacks : WorldState → Command → Bool
lacks v (command.Deliver k d) = nat_le (length v.packets) k
lacks v (command.Hex k) = nat_le (length v.packets) k
lacks v c = false

-- its device is down, and has to be up
abbrev pub finds_down : WorldState → Command → Bool
finds_down v (command.Hex k) = false
finds_down v (command.Restart d) = false
finds_down v c = option_map_or (λ (x : DeviceState). false) (device_for v c) true

-- its device is up, and has to be down
abbrev pub finds_up : WorldState → Command → Bool
finds_up v (command.Restart d) = option_map_or (λ (x : DeviceState). true) (device_in v d) false
finds_up v c = false

-- what its device, where it is up, refuses it for; the state is that of the packet that it delivers
abbrev pub device_refusal : WorldState → RState → Command → DeviceState → Option PlainAnswer
device_refusal v state (command.Turn d t) x = entry_refusal x (entry.Turn t.turn)
device_refusal v state (command.Lazy d t) x = unsettled_refusal x (entry.Turn t.turn)
device_refusal v state (command.Settle d) x = stop_refusal x
device_refusal v state (command.Get d id) x = stop_refusal x
device_refusal v state (command.Send d) x = option_or (stop_refusal x) (refused_where (nat_le 10000 (length v.packets)) 35)
device_refusal v state (command.Deliver k d) x = entry_refusal x (entry.Merge state)
device_refusal v state c x = None

-- the refusal of a command, if any
abbrev pub refusal_in : WorldState → RState → Command → Option PlainAnswer
refusal_in v state c =
    option_or (refused_where (lacks v c) 28)
    (option_or (refused_where (finds_down v c) 26)
    (option_or (refused_where (finds_up v c) 27)
    (option_and_then (device_refusal v state c) (device_for v c))))

-- ---- causes

-- this is the state of the packet that the command delivers, where there is such a packet
abbrev pub Merges : WorldState → Command → RState → Type 0
Merges v (command.Deliver k d) state = k < length v.packets → IsPacketState v k state
Merges v c state = Unit {0}

-- a command is refused for what is in memory exactly where that refuses it, unless memory runs out; where it delivers no packet that is there any state serves
abbrev pub HasCause : WorldState → Command → PlainAnswer → Type 0
HasCause v c a = (state : RState) × Merges v c state × IsCausedBy (refusal_in v state c) a
