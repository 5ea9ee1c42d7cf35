-- Which entries a replicated state may do, and the refusals for limits.
use Rattle.std.proofs.Common.{◌≡◌, inl, inr, Option, refl, ap, ◌∙◌}
use Rattle.re_device.specs.Advancing.{IsLimit, TakesEntry}
use Rattle.re_device.specs.Device.{DeviceMemory, current, limit_against}
use Rattle.re_device.specs.Refusals.{fault_of_replica}
use Rattle.re_device.specs.Taking.{IsTakingFault}
use Rattle.re_record.specs.Restoring.{entry_fault}
use Rattle.re_replica.specs.declared.fault.ReplicaFault.{ReplicaFault}
use Rattle.re_replica.specs.declared.fault.ReplicaFault.TheVariants as replica
use Rattle.re_terms.specs.Admission.{IsEntryOf}
use Rattle.re_terms.specs.Limits.{OperationFault}
use Rattle.re_terms.specs.Limits as limits
use Rattle.re_terms.specs.Shapes.{shape_of}
use Rattle.re_terms.specs.declared.entry.Entry.{Entry}
use Rattle.re_terms.specs.declared.entry.Entry.TheVariants as entry
use Rattle.re_terms.specs.declared.program.Program.{Program}
use Rattle.re_terms.specs.declared.replicated.RState.{RState}
use Rattle.re_terms.specs.declared.replicated.Shape.{Shape}

-- a replicated state of the program does an entry of it
pub takes_entry : (p : Program) (e : Entry) → IsEntryOf p e → TakesEntry (shape_of p) e
takes_entry p (entry.Turn t) is = is.operations
takes_entry p (entry.Merge r) is = is

-- a refusal of the replicated state is one for the limit that it names
pub taking_fault : (f : ReplicaFault) (limit : Option OperationFault) → IsLimit f limit → IsTakingFault (fault_of_replica f) limit
taking_fault replica.Memory limit is = inl refl
taking_fault replica.SetFull limit (inl other) = absurd (let e : replica.SetFull ≡ replica.Memory = other in cc)
taking_fault replica.SetFull limit (inr is) = inr (limits.SetFull, is, refl)
taking_fault replica.CounterFull limit (inl other) = absurd (let e : replica.CounterFull ≡ replica.Memory = other in cc)
taking_fault replica.CounterFull limit (inr is) = inr (limits.CounterFull, is, refl)
taking_fault replica.DotsSpent limit (inl other) = absurd (let e : replica.DotsSpent ≡ replica.Memory = other in cc)
taking_fault replica.DotsSpent limit (inr is) = inr (limits.DotsSpent, is, refl)

-- the limit against an entry, by the state that is kept
pub same_limit : (m : DeviceMemory) (shape : Shape) (rep : RState) (e : Entry) → shape ≡ shape_of m.program → rep ≡ (current m).state.rep → entry_fault shape m.device e rep ≡ limit_against m e
same_limit m shape rep e shape_is rep_is = ap (λ (s : Shape). entry_fault s m.device e rep) shape_is ∙ ap (λ (r : RState). entry_fault (shape_of m.program) m.device e r) rep_is
