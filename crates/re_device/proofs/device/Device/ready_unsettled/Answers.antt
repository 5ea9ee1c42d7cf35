-- The unsettled entries may stand in a record.
use Rattle.std.proofs.Common.{◌≡◌, ◌∙◌, [], ℕ, length, sym, ap, subst, arith}
use Rattle.re_device.proofs.Records.{settle_unsettled, settles_long, settles_record, some_of}
use Rattle.re_device.proofs.device.Device.ready_unsettled.Goals as goal
use Rattle.re_device.specs.Device.{DeviceState}
use Rattle.re_device.specs.Keeping.{memory_of, unsettled_of}
use Rattle.re_device.specs.Ready.{MaySettle}
use Rattle.re_outside.specs.Listed.{Listed}
use Rattle.re_record.specs.Logs.{IsRecord}
use Rattle.re_record.specs.Spellings.{record_bytes}
use Rattle.re_terms.proofs.ProgramShapes.{program_shape}
use Rattle.re_terms.specs.Shapes.{IsShape, shape_of}
use Rattle.re_terms.specs.declared.replicated.Shape.{Shape}

pub put_record-requires-clause-shape : goal.put_record-requires-clause-shape
put_record-requires-clause-shape c = subst IsShape (sym c.self.invariant.shape) (program_shape c.self.inside.program c.self.invariant.is_program)

pub put_record-requires-clause-bytes : goal.put_record-requires-clause-bytes
put_record-requires-clause-bytes c =
    let d = c.self.inside in
    let inv = c.self.invariant in
    let m = memory_of d in
    let (x, xs, some) = some_of m.unsettled (λ none. c.requires (subst (λ (v : DeviceState). v.memory.unsettled ≡ []) c.self.view_is none)) in
    let may = settle_unsettled m x xs some inv.few_unsettled inv.unsettled inv.accepted in
    let here : unsettled_of d ≡ c.unsettled.result.now = ap (λ (v : DeviceState). v.memory.unsettled) c.self.view_is ∙ sym c.unsettled.ensures in
    subst (IsRecord d.shape) here (subst (λ (s : Shape). IsRecord s (unsettled_of d)) (sym inv.shape) (settles_record m m.unsettled inv.is_program may))

pub frame-requires : goal.frame-requires
frame-requires c =
    let d = c.self.inside in
    let inv = c.self.invariant in
    let m = memory_of d in
    let (x, xs, some) = some_of m.unsettled (λ none. c.requires (subst (λ (v : DeviceState). v.memory.unsettled ≡ []) c.self.view_is none)) in
    let may = settle_unsettled m x xs some inv.few_unsettled inv.unsettled inv.accepted in
    let here : c.unsettled.result.now ≡ unsettled_of d = c.unsettled.ensures ∙ sym (ap (λ (v : DeviceState). v.memory.unsettled) c.self.view_is) in
    let long = settles_long m m.unsettled inv.is_program may in
    let bytes : c.as_slice.result.now ≡ record_bytes (shape_of d.program).devices (unsettled_of d) =
    c.as_slice.ensures ∙ ap (λ (l : Listed ℕ). l.items) c.in_ok-body.ensures
    ∙ ap (λ (s : Shape). record_bytes s.devices c.unsettled.result.now) inv.shape
    ∙ ap (record_bytes (shape_of d.program).devices) here in
    omega (arith, long.1, ap length bytes)

pub returns-clause-settles : goal.returns-clause-settles
returns-clause-settles c =
    let d = c.self.inside in
    let inv = c.self.invariant in
    let m = memory_of d in
    let (x, xs, some) = some_of m.unsettled (λ none. c.requires (subst (λ (v : DeviceState). v.memory.unsettled ≡ []) c.self.view_is none)) in
    subst (λ (v : DeviceState). MaySettle v.memory v.memory.unsettled) c.self.view_is (settle_unsettled m x xs some inv.few_unsettled inv.unsettled inv.accepted)
