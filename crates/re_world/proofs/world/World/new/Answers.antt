-- What was opened is the world of the start, and a stop within the opening leaves what restores to it.
use Rattle.std.proofs.Common.{◌≡◌, ◌∙◌, inl, ℕ, ◌<◌, List, Option, None, Result, Err, map, refl, sym, ap, subst, arith}
use Rattle.std.specs.Prelude.{option_and_then}
use Rattle.re_device.specs.Device.{DeviceState}
use Rattle.re_compact.specs.declared.fault.OpenFault.TheVariants.{BadStore, Disk, Memory, OtherProgram}
use Rattle.re_outside.proofs.Moments.{goes_nothing, weaken}
use Rattle.re_outside.specs.Listed.{Listed as Bytes}
use Rattle.re_outside.specs.Moment.{Throughout}
use Rattle.re_outside.specs.Port.{past_in}
use Rattle.re_outside.specs.Trace.{IsJointImage, Past}
use Rattle.re_terms.specs.DeviceWorlds.{start_world}
use Rattle.re_terms.specs.Listed.{Listed}
use Rattle.re_terms.specs.Programs.{IsProgram}
use Rattle.re_terms.specs.Runs.{PlainState}
use Rattle.re_terms.specs.Updates.{Update}
use Rattle.re_terms.specs.declared.program.Program.{Program}
use Rattle.re_world.proofs.Beginning.{is_world}
use Rattle.re_world.proofs.Opened.{calm_unless, for_disk, handed_on, is_refused, none_opened, open_before, same_refusal}
use Rattle.re_world.proofs.OpeningSteps.{all_handed}
use Rattle.re_world.proofs.Started.{start_restores}
use Rattle.re_world.specs.Images.{Restores}
use Rattle.re_world.specs.Opening.{KeepsOpening}
use Rattle.re_world.specs.Starting.{StartsAt}
use Rattle.re_world.proofs.world.World.new.Goals as goal

-- one result has one refusal
handed_by : {T E : Type 0} (r : Result T E) (e f : E) → r ≡ Err e → r ≡ Err f → e ≡ f
handed_by r e f is same = let both = sym is ∙ same in cc

restores_throughout : (p : Program) (base : ℕ → PlainState) (base_number : ℕ → ℕ) (log : List Update) (old now : Past) → IsProgram p → StartsAt p base base_number log old → Throughout old now (KeepsOpening p old)
    → Throughout old now (λ m. (files : ℕ → ℕ → List ℕ) → IsJointImage m files → Restores p (start_world p base base_number log) None files)
restores_throughout p base base_number log old now is_program starts moments =
    weaken old now (KeepsOpening p old) (λ m. (files : ℕ → ℕ → List ℕ) → IsJointImage m files → Restores p (start_world p base base_number log) None files) (start_restores p base base_number log old is_program starts) moments

pub returns-in_err-devices-clause-restores : goal.returns-in_err-devices-clause-restores
returns-in_err-devices-clause-restores g c = λ base base_number log tells starts.
    restores_throughout c.args.p base base_number log (past_in 0 (g.O.Outside.seen c.args.out.now)) (past_in 0 (g.O.Outside.seen c.open_all.new.out)) c.requires.program starts (c.open_all.ensures.moments tells)

pub returns-in_default-clause-restores : goal.returns-in_default-clause-restores
returns-in_default-clause-restores g c = λ base base_number log tells starts.
    restores_throughout c.args.p base base_number log (past_in 0 (g.O.Outside.seen c.args.out.now)) (past_in 0 (g.O.Outside.seen c.args.out.now)) c.requires.program starts (none_opened c.args.p (g.O.Outside.seen c.args.out.now)).moments

pub returns-clause-restores : goal.returns-clause-restores
returns-clause-restores g c = λ base base_number log tells starts.
    restores_throughout c.args.p base base_number log (past_in 0 (g.O.Outside.seen c.args.out.now)) (past_in 0 (g.O.Outside.seen c.open_all.new.out)) c.requires.program starts (c.open_all.ensures.moments tells)

pub returns-clause-world : goal.returns-clause-world
returns-clause-world g c = λ base base_number log tells starts.
    let old = g.O.Outside.seen c.args.out.now in
    let now = g.O.Outside.seen c.open_all.new.out in
    is_world c.args.p base base_number log old now c.requires.program starts c.in_ok-devices.devices.items c.in_ok-devices.ensures.count (c.in_ok-devices.ensures.opened tells)
    (λ d f. g.met.O.Outside.reads_left c.open_all.new.out d f (g.met.O.Outside.tells_always c.open_all.new.out ∙ tells)) _ refl refl
    (ap (λ (l : Listed (Bytes ℕ)). map (λ (bytes : Bytes ℕ). bytes.items) l.items) c.new.ensures)

pub returns-in_err-devices-clause-bad : goal.returns-in_err-devices-clause-bad
returns-in_err-devices-clause-bad g c d file at tells refused =
    c.open_all.ensures.bad d file at tells (c.in_err-devices.was ∙ ap Err (handed_on c.from_residual.result c.in_err-devices.field-0.0 (d, BadStore file at) c.from_residual.ensures.1 refused))

pub returns-in_err-devices-clause-other : goal.returns-in_err-devices-clause-other
returns-in_err-devices-clause-other g c d tells refused =
    c.open_all.ensures.other d tells (c.in_err-devices.was ∙ ap Err (handed_on c.from_residual.result c.in_err-devices.field-0.0 (d, OtherProgram) c.from_residual.ensures.1 refused))

pub returns-in_err-devices-clause-disk : goal.returns-in_err-devices-clause-disk
returns-in_err-devices-clause-disk g c d refused =
    (for_disk c.open_all.result d (g.O.Outside.seen c.args.out.now) (g.O.Outside.seen c.open_all.new.out) c.open_all.ensures.cause (c.in_err-devices.was ∙ ap Err (handed_on c.from_residual.result c.in_err-devices.field-0.0 (d, Disk) c.from_residual.ensures.1 refused))).0

pub returns-in_err-devices-clause-others : goal.returns-in_err-devices-clause-others
returns-in_err-devices-clause-others g c d refused =
    (for_disk c.open_all.result d (g.O.Outside.seen c.args.out.now) (g.O.Outside.seen c.open_all.new.out) c.open_all.ensures.cause (c.in_err-devices.was ∙ ap Err (handed_on c.from_residual.result c.in_err-devices.field-0.0 (d, Disk) c.from_residual.ensures.1 refused))).1

pub returns-in_err-devices-clause-calm : goal.returns-in_err-devices-clause-calm
returns-in_err-devices-clause-calm g c other =
    let is = is_refused c.from_residual.result c.in_err-devices.field-0.0 c.from_residual.ensures.1 in
    calm_unless c.open_all.result (g.O.Outside.seen c.args.out.now) (g.O.Outside.seen c.open_all.new.out) c.open_all.ensures.cause
    (λ d same. other d (is ∙ ap Err (handed_by c.open_all.result c.in_err-devices.field-0.0 (d, Disk) c.in_err-devices.was same)))

pub returns-in_err-devices-clause-first : goal.returns-in_err-devices-clause-first
returns-in_err-devices-clause-first g c d fault tells refused =
    c.open_all.ensures.first d fault tells (c.in_err-devices.was ∙ ap Err (handed_on c.from_residual.result c.in_err-devices.field-0.0 (d, fault) c.from_residual.ensures.1 refused))

pub returns-in_err-devices-clause-goes_on : goal.returns-in_err-devices-clause-goes_on
returns-in_err-devices-clause-goes_on g c tells = (c.open_all.ensures.moments tells).goes_on

pub returns-in_default-clause-calm : goal.returns-in_default-clause-calm
returns-in_default-clause-calm g c other = refl

pub returns-in_default-clause-first : goal.returns-in_default-clause-first
returns-in_default-clause-first g c d fault tells refused before below =
    let none : d ≡ 0 = sym (same_refusal 0 d Memory fault refused).0 in
    absurd (omega (arith, none, below))

pub returns-in_default-clause-goes_on : goal.returns-in_default-clause-goes_on
returns-in_default-clause-goes_on g c tells = (none_opened c.args.p (g.O.Outside.seen c.args.out.now)).moments.goes_on

pub returns-clause-calm : goal.returns-clause-calm
returns-clause-calm g c other = c.in_ok-devices.ensures.cause

pub returns-clause-goes_on : goal.returns-clause-goes_on
returns-clause-goes_on g c tells = (c.open_all.ensures.moments tells).goes_on

pub returns-in_default-clause-steps : goal.returns-in_default-clause-steps
returns-in_default-clause-steps g c tells = inl (goes_nothing (past_in 0 (g.O.Outside.seen c.args.out.now)))

pub returns-in_err-devices-clause-steps : goal.returns-in_err-devices-clause-steps
returns-in_err-devices-clause-steps g c tells =
    all_handed (Listed (Option DeviceState)) c.args.p c.from_residual.result c.in_err-devices.field-0.0 (past_in 0 (g.O.Outside.seen c.args.out.now)) (past_in 0 (g.O.Outside.seen c.open_all.new.out)) c.from_residual.ensures.1 (c.in_err-devices.ensures.steps tells)

pub returns-clause-all : goal.returns-clause-all
returns-clause-all g c = λ tells.
    open_before c.args.p c.in_ok-devices.devices.items (g.O.Outside.seen c.args.out.now) (g.O.Outside.seen c.open_all.new.out) (c.in_ok-devices.ensures.opened tells) _ c.in_ok-devices.ensures.count

pub returns-clause-opened : goal.returns-clause-opened
returns-clause-opened g c = λ d below.
    let found = c.in_ok-devices.ensures.each d (subst (λ n. d < n) (sym c.in_ok-devices.ensures.count) below) in
    (found.0, ap (λ (o : Option (Option DeviceState)). option_and_then (λ (y : Option DeviceState). y) o) found.1, found.2)

pub returns-in_err-devices-clause-number : goal.returns-in_err-devices-clause-number
returns-in_err-devices-clause-number g c d fault refused =
    c.open_all.ensures.number d fault (c.in_err-devices.was ∙ ap Err (handed_on c.from_residual.result c.in_err-devices.field-0.0 (d, fault) c.from_residual.ensures.1 refused))

pub returns-in_default-clause-number : goal.returns-in_default-clause-number
returns-in_default-clause-number g c d fault refused =
    let none : d ≡ 0 = sym (same_refusal 0 d Memory fault refused).0 in
    let some = c.requires.program.device in
    omega (arith, none, some)
