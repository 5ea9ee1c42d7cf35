-- Why entries, records and stores aren't replayed, by the refusals of the parts below.
-- Read against: where a replicated state has no room for an element, its entry passes a limit; where a record can't be read at its place 2, it is refused there.
use Rattle.std.specs.Prelude.{ℕ, ◌+◌}
use Rattle.re_compact.specs.declared.fault.OpenFault.{OpenFault}
use Rattle.re_compact.specs.declared.fault.OpenFault.TheVariants as opening
use Rattle.re_record.specs.declared.fault.SnapshotFault.{SnapshotFault}
use Rattle.re_record.specs.declared.fault.SnapshotFault.TheVariants as snapshot
use Rattle.re_replica.specs.declared.fault.ReplicaFault.{ReplicaFault}
use Rattle.re_replica.specs.declared.fault.ReplicaFault.TheVariants as replica
use Rattle.re_restore.specs.declared.entries.EntryFault.{EntryFault}
use Rattle.re_restore.specs.declared.entries.EntryFault.TheVariants as entry
use Rattle.re_restore.specs.declared.records.ReplayFault.{ReplayFault}
use Rattle.re_restore.specs.declared.records.ReplayFault.TheVariants as replay
use Rattle.re_restore.specs.declared.stores.StoreFault.{StoreFault}
use Rattle.re_restore.specs.declared.stores.StoreFault.TheVariants as store
use Rattle.re_wire.specs.declared.fault.WireFault.{WireFault}
use Rattle.re_wire.specs.declared.fault.WireFault.TheVariants as wire

-- an operation or a merge that a replicated state refuses, as an entry that is refused
abbrev pub entry_fault_of : ReplicaFault → EntryFault
entry_fault_of replica.Memory = entry.Memory
entry_fault_of replica.SetFull = entry.Limit
entry_fault_of replica.CounterFull = entry.Limit
entry_fault_of replica.DotsSpent = entry.Limit

-- bytes that are refused, as a record that is
abbrev pub replay_fault_of : WireFault → ReplayFault
replay_fault_of wire.Memory = replay.Memory
replay_fault_of (wire.At place) = replay.At place

-- a snapshot that is refused, behind a gate and four bytes of length
abbrev pub snapshot_refusal : SnapshotFault → StoreFault
snapshot_refusal snapshot.Memory = store.Memory
snapshot_refusal (snapshot.At place) = store.At (5 + place)
snapshot_refusal snapshot.OtherText = store.OtherProgram

-- a record that is refused
abbrev pub record_refusal : ReplayFault → StoreFault
record_refusal replay.Memory = store.Memory
record_refusal (replay.At place) = store.At place

-- the store of this file, where it is refused
abbrev pub refusal_in : ℕ → StoreFault → OpenFault
refusal_in file store.Memory = opening.Memory
refusal_in file (store.At at) = opening.BadStore file at
refusal_in file store.OtherProgram = opening.OtherProgram
