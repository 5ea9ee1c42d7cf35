-- The devices are opened one behind the other.
use Rattle.std.proofs.Common.{◌≡◌, ◌∙◌, ◌+◌, ℕ, Err, List, Option, length, refl, sym, ap, subst, arith}
use Rattle.re_compact.specs.declared.fault.OpenFault.TheVariants.{BadStore, OtherProgram}
use Rattle.re_device.specs.Device.{DeviceState}
use Rattle.re_outside.proofs.Moments.{goes_nothing}
use Rattle.re_outside.specs.Port.{disk_faults, other_faults, past_in}
use Rattle.re_outside.specs.Trace.{as_device, with_steps}
use Rattle.re_record.specs.Stores as stores
use Rattle.re_restore.specs.Opening.{HasRestoreCause}
use Rattle.re_terms.specs.Admission.{device_count}
use Rattle.re_terms.specs.Listed.{Listed}
use Rattle.re_terms.specs.declared.program.Decl.{Decl}
use Rattle.re_world.proofs.Opened.{all_faults, caused, held_before, none_opened, open_before, same_refusal}
use Rattle.re_world.proofs.OpeningSteps.{made, steps_more}
use Rattle.re_world.specs.Opening.{AreOpened, EachOpened, HasNextSteps, opening_steps}
use Rattle.re_world.specs.State.{AllPlaced}
use Rattle.re_world.proofs.opening.open_all.Goals as goal

pub loop-number-init : goal.loop-number-init
loop-number-init g c =
    let none = ap (λ (l : Listed (Option DeviceState)). l.items) c.new-devices.ensures in
    let s = g.O.Outside.seen c.args.out.now in
    record {
      count = ap (λ (l : List (Option DeviceState)). length l) none;
      placed = subst (AllPlaced c.args.p.now) (sym none) (λ d. tt);
      each = subst (EachOpened c.args.p.now) (sym none) (λ d below. absurd (omega (arith, below)));
      faults = refl;
      left = λ tells. refl;
      opened = λ tells. subst (λ (l : List (Option DeviceState)). AreOpened c.args.p.now l s s) (sym none) (none_opened c.args.p.now s);
      moment = λ tells. goes_nothing (past_in 0 s);
    }

pub returns-in-Err-clause-moments : goal.returns-in-Err-clause-moments
returns-in-Err-clause-moments g c = λ tells. c.open_next.ensures.moments (g.O.Outside.seen c.args.out.now) tells (c.loop-number.invariant.opened tells)

pub loop-number-preserved : goal.loop-number-preserved
loop-number-preserved g c = record {
  count = c.in_default.ensures.count ∙ ap (λ (n : ℕ). n + 1) c.loop-number.invariant.count;
  placed = c.in_default.ensures.placed c.loop-number.invariant.placed;
  each = c.in_default.ensures.each c.loop-number.invariant.each;
  faults = all_faults (length c.loop-number.devices.items) (g.O.Outside.seen c.loop-number.out) (g.O.Outside.seen c.open_next.new.out) c.in_default.ensures.cause c.open_next.ensures.others ∙ c.loop-number.invariant.faults;
  left = λ tells. c.open_next.ensures.left tells ∙ c.loop-number.invariant.left tells;
  opened = λ tells. c.in_default.ensures.opened (g.O.Outside.seen c.args.out.now) tells (c.loop-number.invariant.opened tells);
  moment = λ tells.
      let n = c.loop-number.number in
      let start = g.O.Outside.seen c.args.out.now in
      let mid = g.O.Outside.seen c.loop-number.out in
      let now = g.O.Outside.seen c.open_next.new.out in
      let are = c.loop-number.invariant.opened tells in
      let count = c.loop-number.invariant.count in
      steps_more c.args.p.now n (past_in 0 start) (past_in 0 mid) (past_in 0 now) (c.loop-number.invariant.moment tells)
      (λ f. (are.others n f (omega (arith, count))).content)
      (subst (λ (k : ℕ). past_in k now ≡ with_steps (past_in k mid) (opening_steps c.args.p.now k (past_in k mid))) count (made (c.in_default.ensures.steps tells)))
      refl;
}

pub returns-in-Err-clause-bad : goal.returns-in-Err-clause-bad
returns-in-Err-clause-bad g c d file at tells refused =
    let is = same_refusal c.loop-number.number d c.in-Err.fault (BadStore file at) refused in
    held_before c.args.p.now c.loop-number.devices.items (g.O.Outside.seen c.args.out.now) (g.O.Outside.seen c.loop-number.out) (c.loop-number.invariant.opened tells) d (stores.Bad file at) (c.loop-number.invariant.count ∙ is.0)
    (c.open_next.ensures.bad file at tells (c.in-Err.is ∙ ap Err is.1))

pub returns-in-Err-clause-other : goal.returns-in-Err-clause-other
returns-in-Err-clause-other g c d tells refused =
    let is = same_refusal c.loop-number.number d c.in-Err.fault OtherProgram refused in
    held_before c.args.p.now c.loop-number.devices.items (g.O.Outside.seen c.args.out.now) (g.O.Outside.seen c.loop-number.out) (c.loop-number.invariant.opened tells) d stores.OtherProgram (c.loop-number.invariant.count ∙ is.0)
    (c.open_next.ensures.other tells (c.in-Err.is ∙ ap Err is.1))

pub returns-in-Err-clause-cause : goal.returns-in-Err-clause-cause
returns-in-Err-clause-cause g c =
    let old = g.O.Outside.seen c.loop-number.out in
    let now = g.O.Outside.seen c.open_next.new.out in
    caused (Unit {0}) (Unit {0}) c.loop-number.number (g.O.Outside.seen c.args.out.now) old now c.in-Err.fault c.loop-number.invariant.faults
    (subst (λ (k : ℕ). HasRestoreCause {T = Unit {0}} (disk_faults k old) (disk_faults k now) (Err c.in-Err.fault)) c.loop-number.invariant.count c.in-Err.ensures.cause)
    (subst (λ (k : ℕ). other_faults k now ≡ other_faults k old) c.loop-number.invariant.count c.open_next.ensures.others)

pub returns-in-Err-clause-first : goal.returns-in-Err-clause-first
returns-in-Err-clause-first g c d fault tells refused =
    open_before c.args.p.now c.loop-number.devices.items (g.O.Outside.seen c.args.out.now) (g.O.Outside.seen c.loop-number.out) (c.loop-number.invariant.opened tells) d
    (c.loop-number.invariant.count ∙ (same_refusal c.loop-number.number d c.in-Err.fault fault refused).0)

pub returns-in-Err-clause-left : goal.returns-in-Err-clause-left
returns-in-Err-clause-left g c tells = c.open_next.ensures.left tells ∙ c.loop-number.invariant.left tells

pub returns-in-Err-clause-steps : goal.returns-in-Err-clause-steps
returns-in-Err-clause-steps g c = λ tells.
    let p = c.args.p.now in
    let mid = g.O.Outside.seen c.loop-number.out in
    let now = g.O.Outside.seen c.open_next.new.out in
    subst (λ q. HasNextSteps {T = Unit {0}} p c.loop-number.number (as_device c.loop-number.number q) (past_in c.loop-number.number now) (Err c.in-Err.fault)) (c.loop-number.invariant.moment tells)
    (subst (λ (k : ℕ). HasNextSteps {T = Unit {0}} p k (past_in k mid) (past_in k now) (Err c.in-Err.fault)) c.loop-number.invariant.count (c.in-Err.ensures.steps tells))

pub returns-in-Err-clause-number : goal.returns-in-Err-clause-number
returns-in-Err-clause-number g c d fault refused =
    let is = (same_refusal c.loop-number.number d c.in-Err.fault fault refused).0 in
    let listed : device_count c.as_slice.result.now ≡ device_count c.args.p.now.decls.items = ap (λ (l : List Decl). device_count l) c.as_slice.ensures in
    omega (arith, is, listed)
