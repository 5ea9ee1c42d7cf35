-- The refusals of a device, by those of its replicated state and of its journal, and by the limits of entries.
-- Read against: where a replicated state has no room for an element, the device answers that its sets are full; where its journal stopped at the third call, that it stopped at 3.
use Rattle.std.specs.Prelude.{Option, Some, None}
use Rattle.re_journal.specs.declared.fault.JournalFault.{JournalFault}
use Rattle.re_journal.specs.declared.fault.JournalFault.TheVariants as journal
use Rattle.re_replica.specs.declared.fault.ReplicaFault.{ReplicaFault}
use Rattle.re_replica.specs.declared.fault.ReplicaFault.TheVariants as replica
use Rattle.re_terms.specs.Limits as limit
use Rattle.re_terms.specs.Limits.{OperationFault}
use Rattle.re_device.specs.declared.fault.DeviceFault.{DeviceFault}
use Rattle.re_device.specs.declared.fault.DeviceFault.TheVariants.{Memory, Disk, Stopped, SetFull, CounterFull, DotsSpent}

abbrev pub fault_of_replica : ReplicaFault → DeviceFault
fault_of_replica replica.Memory = Memory
fault_of_replica replica.SetFull = SetFull
fault_of_replica replica.CounterFull = CounterFull
fault_of_replica replica.DotsSpent = DotsSpent

abbrev pub fault_of_journal : JournalFault → DeviceFault
fault_of_journal journal.Disk = Disk
fault_of_journal (journal.Stopped at) = Stopped at

-- the refusal for a limit
abbrev pub fault_of_limit : OperationFault → DeviceFault
fault_of_limit limit.DotsSpent = DotsSpent
fault_of_limit limit.SetFull = SetFull
fault_of_limit limit.CounterFull = CounterFull

-- the limit that a replicated state names
abbrev pub limit_of : ReplicaFault → Option OperationFault
limit_of replica.Memory = None
limit_of replica.SetFull = Some limit.SetFull
limit_of replica.CounterFull = Some limit.CounterFull
limit_of replica.DotsSpent = Some limit.DotsSpent
