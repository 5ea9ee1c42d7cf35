-- What a command leaves in memory of its own device, by its answer, whatever the outside tells.
-- Read against: on `device a; var x: int = 0;` over blank files lazy a x = 5 is answered applied 1, and a then has the entry unsettled and the store that it had; settle a is answered settled 1, and the entry is settled.
-- turn a x = 6 is answered ok 2, and a has both entries settled and none unsettled. get a x leaves all devices; crash a leaves none of a, and restart a, answered up 2, leaves it as it was opened, with no entry since.
use Rattle.std.specs.Prelude.{◌≡◌, ℕ, ◌+◌, None, Some}
use Rattle.re_device.specs.Device.{DeviceState, all_settled, current, logged, with_entry}
use Rattle.re_terms.specs.DeviceWorlds.{device_of}
use Rattle.re_terms.specs.Worlds.{Applied, Down, Entered, Hex, Members, Packet, PlainAnswer, Settled, Up, Value}
use Rattle.re_terms.specs.declared.command.Command.{Command}
use Rattle.re_terms.specs.declared.command.Command.TheVariants as command
use Rattle.re_terms.specs.declared.entry.Entry.{Entry}
use Rattle.re_terms.specs.declared.entry.Entry.TheVariants as entry
use Rattle.re_terms.specs.declared.replicated.RState.{RState}
use Rattle.re_world.specs.FileSteps.{IsPacketState}
use Rattle.re_world.specs.Opening.{IsOpened}
use Rattle.re_world.specs.State.{WorldState, device_in}

-- ---- the device and the entry

-- the device that the command is for is up, before it and after it
pub record OwnDevice (old new : WorldState) (c : Command) : Type 0 where
  pub number : ℕ
  pub number_is : device_of c ≡ Some number
  pub before : DeviceState
  pub place : device_in old number ≡ Some before
  pub after : DeviceState
  pub place_after : device_in new number ≡ Some after

-- the command's own entry, which is to be unsettled
abbrev pub IsUnsettledEntry : Command → Entry → Type 0
IsUnsettledEntry (command.Lazy d t) e = e ≡ entry.Turn t.turn
IsUnsettledEntry c e = ⊥

-- the command's own entry, which is to be settled
abbrev pub IsSettledEntry : WorldState → Command → Entry → Type 0
IsSettledEntry v (command.Turn d t) e = e ≡ entry.Turn t.turn
IsSettledEntry v (command.Deliver k d) e = (state : RState) × IsPacketState v k state × (e ≡ entry.Merge state)
IsSettledEntry v c e = ⊥

-- ---- what is left

-- the entry is the last unsettled one and has this number, and the store is as it was
pub record TakesUnsettled (old new : WorldState) (c : Command) (number : ℕ) : Type 0 where
  pub own : OwnDevice old new c
  pub taken : Entry
  pub taken_is : IsUnsettledEntry c taken
  pub number_is : number ≡ (current own.before.memory).number + 1
  pub memory : own.after.memory ≡ with_entry own.before.memory (logged own.before.memory taken)
  pub journal : own.after.journal ≡ own.before.journal
  pub generation : own.after.generation ≡ own.before.generation

-- the entry has this number and is settled, with all that were unsettled
pub record TakesSettled (old new : WorldState) (c : Command) (number : ℕ) : Type 0 where
  pub own : OwnDevice old new c
  pub taken : Entry
  pub taken_is : IsSettledEntry old c taken
  pub number_is : number ≡ (current own.before.memory).number + 1
  pub memory : own.after.memory ≡ all_settled (with_entry own.before.memory (logged own.before.memory taken))

-- all entries are settled, the last of which has this number
pub record SettlesAll (old new : WorldState) (c : Command) (number : ℕ) : Type 0 where
  pub own : OwnDevice old new c
  pub command_is : c ≡ command.Settle own.number
  pub number_is : number ≡ (current own.before.memory).number
  pub memory : own.after.memory ≡ all_settled own.before.memory

-- nothing of the device is in memory
pub record PutsDown (new : WorldState) (c : Command) : Type 0 where
  pub device : ℕ
  pub command_is : c ≡ command.Crash device
  pub down : device_in new device ≡ None

-- the device is as it was opened, at this number
pub record PutsUp (old new : WorldState) (c : Command) (number : ℕ) : Type 0 where
  pub device : ℕ
  pub command_is : c ≡ command.Restart device
  pub after : DeviceState
  pub place_after : device_in new device ≡ Some after
  pub opened : IsOpened old.program device after
  pub number_is : number ≡ (current after.memory).number

-- what a command leaves, by its answer; of a refusal nothing is said here
abbrev pub Takes : WorldState → WorldState → Command → PlainAnswer → Type 0
Takes old new c (Applied number) = TakesUnsettled old new c number
Takes old new c (Entered number) = TakesSettled old new c number
Takes old new c (Settled number) = SettlesAll old new c number
Takes old new c (Value word) = new.devices ≡ old.devices
Takes old new c (Members elements) = new.devices ≡ old.devices
Takes old new c (Packet number) = new.devices ≡ old.devices
Takes old new c (Hex bytes) = new.devices ≡ old.devices
Takes old new c Down = PutsDown new c
Takes old new c (Up number) = PutsUp old new c number
Takes old new c a = Unit {0}
