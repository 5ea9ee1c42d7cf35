-- The entry may be done, and is refused for its limit or for want of memory.
use Rattle.std.proofs.Common.{◌≡◌, sym, subst}
use Rattle.re_device.proofs.LimitFaults.{same_limit, takes_entry, taking_fault}
use Rattle.re_device.proofs.device.Device.take.Goals as goal
use Rattle.re_device.specs.Advancing.{IsLimit, TakesEntry}
use Rattle.re_device.specs.Device.{DeviceState, limit_against}
use Rattle.re_device.specs.Keeping.{memory_of}
use Rattle.re_device.specs.Refusals.{fault_of_replica}
use Rattle.re_device.specs.Taking.{IsTakingFault}
use Rattle.std.specs.Result.{IsErrAnd}
use Rattle.re_terms.proofs.ProgramShapes.{program_shape}
use Rattle.re_terms.specs.Admission.{IsEntryOf}
use Rattle.re_terms.specs.Shapes.{IsShape}
use Rattle.re_terms.specs.declared.replicated.Shape.{Shape}

pub advanced-requires-clause-shape : goal.advanced-requires-clause-shape
advanced-requires-clause-shape g c = subst IsShape (sym c.self.invariant.shape) (program_shape c.self.inside.program c.self.invariant.is_program)

pub advanced-requires-clause-entry : goal.advanced-requires-clause-entry
advanced-requires-clause-entry g c =
    subst (λ (s : Shape). TakesEntry s c.args.entry) (sym c.self.invariant.shape)
    (takes_entry c.self.inside.program c.args.entry (subst (λ (v : DeviceState). IsEntryOf v.memory.program c.args.entry) (sym c.self.view_is) c.requires))

pub returns-in_err-after-clause-refused : goal.returns-in_err-after-clause-refused
returns-in_err-after-clause-refused g c = λ f is.
    let m = memory_of c.self.inside in
    let same = same_limit m c.self.inside.shape c.self.inside.state.rep c.args.entry c.self.invariant.shape c.self.invariant.current.rep in
    let limit = subst (IsLimit c.in_err-after.field-0.0) same (c.advanced.ensures.fault c.in_err-after.field-0.0 c.in_err-after.was) in
    let made : f ≡ fault_of_replica c.in_err-after.field-0.0 = subst (λ r. IsErrAnd r (λ x. x ≡ fault_of_replica c.in_err-after.field-0.0)) is c.from_residual.ensures.1 in
    subst (λ (v : DeviceState). IsTakingFault f (limit_against v.memory c.args.entry)) c.self.view_is
    (subst (λ x. IsTakingFault x (limit_against m c.args.entry)) (sym made) (taking_fault c.in_err-after.field-0.0 (limit_against m c.args.entry) limit))
