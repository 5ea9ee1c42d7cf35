-- One device more is opened.
use Rattle.std.proofs.Common.{◌≡◌, inl, inr, ℕ, List, Option, Some, Ok, Err, refl, sym, ap, subst}
use Rattle.re_compact.specs.declared.fault.OpenFault.TheVariants.{BadStore, OtherProgram}
use Rattle.re_device.specs.Device.{DeviceState}
use Rattle.re_outside.specs.Outside.{content_in}
use Rattle.re_outside.specs.Port.{disk_faults, other_faults, past_in}
use Rattle.re_record.specs.Stores as stores
use Rattle.re_record.specs.Stores.{HasStore}
use Rattle.re_restore.specs.Opening.{HasRestoreCause}
use Rattle.re_terms.specs.Listed.{Listed}
use Rattle.re_world.proofs.Opened.{cause_handed, each_more, handed_on, moments_by, opened_by, placed_more, pushed_items}
use Rattle.re_world.proofs.OpeningSteps.{steps_handed}
use Rattle.re_world.specs.Opening.{AreOpened, EachOpened, HasNextSteps, HasOpeningSteps, IsOpened}
use Rattle.re_world.specs.State.{AllPlaced}
use Rattle.re_world.proofs.opening.open_next.Goals as goal

pub returns-in_err-device-clause-moments : goal.returns-in_err-device-clause-moments
returns-in_err-device-clause-moments g c = λ start tells are.
    let now = g.O.Outside.seen c.open_outside.new.out in
    moments_by c.args.p.now c.args.devices.now.items start (g.O.Outside.seen c.args.out.now) now are c.len-number.result c.len-number.ensures
    (past_in c.len-number.result (g.O.Outside.seen c.args.out.now)) (past_in c.len-number.result now) refl refl (c.open_outside.ensures.each_moment tells)

pub returns-clause-placed : goal.returns-clause-placed
returns-clause-placed g c = λ all.
    let reserved = ap (λ (l : Listed (Option DeviceState)). l.items) c.in-Ok.ensures.ok in
    let items = pushed_items c.args.devices.now c.reserve.new.self c.push.new.self (Some c.in_ok-device.device) c.push.result c.unwrap.result c.unwrap.ensures c.push.ensures.ok reserved in
    subst (AllPlaced c.args.p.now) (sym items)
    (placed_more c.args.p.now c.args.devices.now.items c.in_ok-device.device all (subst (λ (k : ℕ). IsOpened c.args.p.now k c.in_ok-device.device) c.len-number.ensures c.in_ok-device.ensures.opened))

pub returns-clause-each : goal.returns-clause-each
returns-clause-each g c = λ each.
    let reserved = ap (λ (l : Listed (Option DeviceState)). l.items) c.in-Ok.ensures.ok in
    let items = pushed_items c.args.devices.now c.reserve.new.self c.push.new.self (Some c.in_ok-device.device) c.push.result c.unwrap.result c.unwrap.ensures c.push.ensures.ok reserved in
    subst (EachOpened c.args.p.now) (sym items)
    (each_more c.args.p.now c.args.devices.now.items c.in_ok-device.device each (subst (λ (k : ℕ). IsOpened c.args.p.now k c.in_ok-device.device) c.len-number.ensures c.in_ok-device.ensures.opened))

pub returns-clause-opened : goal.returns-clause-opened
returns-clause-opened g c = λ start tells are.
    let now = g.O.Outside.seen c.open_outside.new.out in
    let reserved = ap (λ (l : Listed (Option DeviceState)). l.items) c.in-Ok.ensures.ok in
    let items = pushed_items c.args.devices.now c.reserve.new.self c.push.new.self (Some c.in_ok-device.device) c.push.result c.unwrap.result c.unwrap.ensures c.push.ensures.ok reserved in
    subst (λ (l : List (Option DeviceState)). AreOpened c.args.p.now l start now) (sym items)
    (opened_by c.args.p.now c.args.devices.now.items start (g.O.Outside.seen c.args.out.now) now are c.len-number.result c.len-number.ensures
    (past_in c.len-number.result (g.O.Outside.seen c.args.out.now)) (past_in c.len-number.result now) refl refl (c.open_outside.ensures.each_moment tells)
    c.in_ok-device.device c.in_ok-device.ensures.opened (c.in_ok-device.ensures.settled tells) (c.in_ok-device.ensures.stands tells))

pub returns-clause-moments : goal.returns-clause-moments
returns-clause-moments g c = λ start tells are.
    let now = g.O.Outside.seen c.open_outside.new.out in
    moments_by c.args.p.now c.args.devices.now.items start (g.O.Outside.seen c.args.out.now) now are c.len-number.result c.len-number.ensures
    (past_in c.len-number.result (g.O.Outside.seen c.args.out.now)) (past_in c.len-number.result now) refl refl (c.open_outside.ensures.each_moment tells)

pub returns-in_err-device-clause-bad : goal.returns-in_err-device-clause-bad
returns-in_err-device-clause-bad g c file at tells refused =
    let s = g.O.Outside.seen c.args.out.now in
    subst (λ (k : ℕ). HasStore c.args.p.now k (content_in s k 0) (content_in s k 1) (stores.Bad file at)) c.len-number.ensures
    (c.in_err-device.ensures.bad file at tells (ap Err (handed_on c.from_residual.result c.in_err-device.field-0.0 (BadStore file at) c.from_residual.ensures.1 refused)))

pub returns-in_err-device-clause-other : goal.returns-in_err-device-clause-other
returns-in_err-device-clause-other g c tells refused =
    let s = g.O.Outside.seen c.args.out.now in
    subst (λ (k : ℕ). HasStore c.args.p.now k (content_in s k 0) (content_in s k 1) stores.OtherProgram) c.len-number.ensures
    (c.in_err-device.ensures.other tells (ap Err (handed_on c.from_residual.result c.in_err-device.field-0.0 OtherProgram c.from_residual.ensures.1 refused)))

pub returns-in_err-device-clause-cause : goal.returns-in_err-device-clause-cause
returns-in_err-device-clause-cause g c =
    let old = g.O.Outside.seen c.args.out.now in
    let now = g.O.Outside.seen c.open_outside.new.out in
    subst (λ (k : ℕ). HasRestoreCause (disk_faults k old) (disk_faults k now) c.from_residual.result) c.len-number.ensures
    (cause_handed DeviceState c.from_residual.result c.in_err-device.field-0.0 (disk_faults c.len-number.result old) (disk_faults c.len-number.result now) c.from_residual.ensures.1 c.in_err-device.ensures.cause)

pub returns-in_err-device-clause-others : goal.returns-in_err-device-clause-others
returns-in_err-device-clause-others g c =
    let old = g.O.Outside.seen c.args.out.now in
    let now = g.O.Outside.seen c.open_outside.new.out in
    subst (λ (k : ℕ). other_faults k now ≡ other_faults k old) c.len-number.ensures c.open_outside.ensures.others

pub returns-clause-cause : goal.returns-clause-cause
returns-clause-cause g c =
    let old = g.O.Outside.seen c.args.out.now in
    let now = g.O.Outside.seen c.open_outside.new.out in
    subst (λ (k : ℕ). disk_faults k now ≡ disk_faults k old) c.len-number.ensures c.in_ok-device.ensures.cause

pub returns-clause-others : goal.returns-clause-others
returns-clause-others g c =
    let old = g.O.Outside.seen c.args.out.now in
    let now = g.O.Outside.seen c.open_outside.new.out in
    subst (λ (k : ℕ). other_faults k now ≡ other_faults k old) c.len-number.ensures c.open_outside.ensures.others

pub returns-in_err-device-clause-steps : goal.returns-in_err-device-clause-steps
returns-in_err-device-clause-steps g c tells =
    let old = g.O.Outside.seen c.args.out.now in
    let now = g.O.Outside.seen c.open_outside.new.out in
    subst (λ (k : ℕ). HasNextSteps c.args.p.now k (past_in k old) (past_in k now) c.from_residual.result) c.len-number.ensures
    (inr (steps_handed DeviceState c.args.p.now c.len-number.result c.from_residual.result c.in_err-device.field-0.0 (past_in c.len-number.result old) (past_in c.len-number.result now) c.from_residual.ensures.1 (c.in_err-device.ensures.steps tells)))

pub returns-in_default-clause-steps : goal.returns-in_default-clause-steps
returns-in_default-clause-steps g c tells = inl refl

pub returns-clause-steps : goal.returns-clause-steps
returns-clause-steps g c tells =
    let old = g.O.Outside.seen c.args.out.now in
    let now = g.O.Outside.seen c.open_outside.new.out in
    inr (subst (λ (k : ℕ). HasOpeningSteps c.args.p.now k (past_in k old) (past_in k now) (Ok c.in_ok-device.device)) c.len-number.ensures (c.in_ok-device.ensures.steps tells))
