-- The unsettled entries may stand in a record, with the new one behind them.
use Rattle.std.proofs.Common.{◌≡◌, ◌∙◌, ◌++◌, ◌∷◌, [], ℕ, List, length, false, refl, sym, ap, subst, arith}
use Rattle.re_device.proofs.Entered.{now_accepted, taken_of}
use Rattle.re_device.proofs.Records.{settling_long, settling_record}
use Rattle.re_device.proofs.device.Device.ready_with.Goals as goal
use Rattle.re_device.specs.Device.{DeviceState, takes_no_more}
use Rattle.re_device.specs.Ready.{MaySettle}
use Rattle.re_device.specs.Keeping.{memory_of, unsettled_of}
use Rattle.re_device.specs.Taking.{MayBeTaken}
use Rattle.re_outside.specs.Listed.{Listed}
use Rattle.re_record.specs.Logs.{IsRecord}
use Rattle.re_record.specs.Spellings.{record_bytes}
use Rattle.re_terms.proofs.ProgramShapes.{program_shape}
use Rattle.re_terms.specs.Shapes.{IsShape, shape_of}
use Rattle.re_terms.specs.declared.entry.Logged.{Logged}
use Rattle.re_terms.specs.declared.replicated.Shape.{Shape}

pub put_record_with-requires-clause-shape : goal.put_record_with-requires-clause-shape
put_record_with-requires-clause-shape c = subst IsShape (sym c.self.invariant.shape) (program_shape c.self.inside.program c.self.invariant.is_program)

pub put_record_with-requires-clause-bytes : goal.put_record_with-requires-clause-bytes
put_record_with-requires-clause-bytes c =
    let d = c.self.inside in
    let inv = c.self.invariant in
    let l = c.args.taken.now.logged in
    let may = subst (λ (v : DeviceState). MayBeTaken v.memory c.args.taken.now) (sym c.self.view_is) c.requires in
    let here : unsettled_of d ++ l ∷ [] ≡ c.unsettled-unsettled.result.now ++ l ∷ [] = ap (λ (us : List Logged). us ++ l ∷ []) (ap (λ (v : DeviceState). v.memory.unsettled) c.self.view_is ∙ sym c.unsettled-unsettled.ensures) in
    subst (IsRecord d.shape) here (subst (λ (s : Shape). IsRecord s (unsettled_of d ++ l ∷ [])) (sym inv.shape) (settling_record d.program inv.is_program (unsettled_of d) l inv.few_unsettled inv.unsettled (taken_of d inv c.args.taken.now may)))

pub frame-requires : goal.frame-requires
frame-requires c =
    let d = c.self.inside in
    let inv = c.self.invariant in
    let l = c.args.taken.now.logged in
    let may = subst (λ (v : DeviceState). MayBeTaken v.memory c.args.taken.now) (sym c.self.view_is) c.requires in
    let here : c.unsettled-unsettled.result.now ≡ unsettled_of d = c.unsettled-unsettled.ensures ∙ sym (ap (λ (v : DeviceState). v.memory.unsettled) c.self.view_is) in
    let long = settling_long d.program inv.is_program (unsettled_of d) l inv.few_unsettled inv.unsettled (taken_of d inv c.args.taken.now may) in
    let bytes : c.as_slice.result.now ≡ record_bytes (shape_of d.program).devices (unsettled_of d ++ l ∷ []) =
    c.as_slice.ensures ∙ ap (λ (bs : Listed ℕ). bs.items) c.in_ok-body.ensures
    ∙ ap (λ (s : Shape). record_bytes s.devices (c.unsettled-unsettled.result.now ++ l ∷ [])) inv.shape
    ∙ ap (λ (us : List Logged). record_bytes (shape_of d.program).devices (us ++ l ∷ [])) here in
    omega (arith, long.1, ap length bytes)

pub returns-clause-settles : goal.returns-clause-settles
returns-clause-settles c = λ more.
    let d = c.self.inside in
    let inv = c.self.invariant in
    let m = memory_of d in
    let l = c.args.taken.now.logged in
    let may = subst (λ (v : DeviceState). MayBeTaken v.memory c.args.taken.now) (sym c.self.view_is) c.requires in
    let free = subst (λ (v : DeviceState). takes_no_more v.memory ≡ false) (sym c.self.view_is) more in
    let settles : MaySettle m (m.unsettled ++ l ∷ []) = record {
      turns = m.unsettled;
      last = l;
      split = refl;
      few = inv.few_unsettled;
      unsettled = inv.unsettled;
      taken = taken_of d inv c.args.taken.now may;
      accepted = now_accepted d inv c.args.taken.now may free;
    } in
    subst (λ (v : DeviceState). MaySettle v.memory (v.memory.unsettled ++ l ∷ [])) c.self.view_is settles
