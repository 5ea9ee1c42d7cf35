-- What is worked out of an entry before it is taken.
-- Read against: on `device a; var x: int = 1; signal s = x + 1;` the turn x = 5 changes x to 5 and s to 6, and leaves the replicated state.
use Rattle.std.specs.Prelude.{◌≡◌, ◌⊎◌, ℕ, unwrap_or, Option, None, Some}
use Rattle.re_terms.specs.Admission.{IsEntryOf}
use Rattle.re_terms.specs.Limits.{OperationFault}
use Rattle.re_terms.specs.Listed.{plain}
use Rattle.re_terms.specs.Propagation.{signal_changes}
use Rattle.re_terms.specs.Shapes.{FitsShape, shape_of}
use Rattle.re_terms.specs.declared.entry.Entry.{Entry}
use Rattle.re_device.specs.Device.{DeviceMemory, current, limit_against, logged, rep_after, step_by}
use Rattle.re_device.specs.Refusals.{fault_of_limit}
use Rattle.re_device.specs.declared.fault.DeviceFault.{DeviceFault}
use Rattle.re_device.specs.declared.fault.DeviceFault.TheVariants as fault
use Rattle.re_device.specs.declared.taking.Taken.{Taken}

-- this is what the entry does
pub record IsTakenBy (m : DeviceMemory) (entry : Entry) (taken : Taken) : Type 0 where
  pub logged_is : taken.logged ≡ logged m entry
  pub signals : taken.signals ≡ plain (signal_changes m.program (step_by m entry))
  pub after : unwrap_or taken.after (current m).state.rep ≡ rep_after m entry
  pub fits : FitsShape (shape_of m.program) (rep_after m entry)

-- this is what an entry of the program does, against which no limit stands
pub record MayBeTaken (m : DeviceMemory) (taken : Taken) : Type 0 where
  pub entry : Entry
  pub of_program : IsEntryOf m.program entry
  pub free : limit_against m entry ≡ None
  pub is : IsTakenBy m entry taken

-- memory ran out, or the refusal is for the limit that stands against the entry
abbrev pub IsTakingFault : DeviceFault → Option OperationFault → Type 0
IsTakingFault f limit = (f ≡ fault.Memory) ⊎ ((l : OperationFault) × (limit ≡ Some l) × (f ≡ fault_of_limit l))

-- why a settling is refused
abbrev pub IsSettlingFault : DeviceFault → Type 0
IsSettlingFault f = (f ≡ fault.Memory) ⊎ ((f ≡ fault.Disk) ⊎ ((at : ℕ) × (f ≡ fault.Stopped at)))

-- why a commit of a device that runs is refused
abbrev pub IsCommitFault : DeviceFault → Type 0
IsCommitFault f = (f ≡ fault.Memory) ⊎ (f ≡ fault.Disk)
