-- A device over what was restored.
use Rattle.std.proofs.Common.{◌≡◌, ◌∙◌, Err, Some, sym, ap, subst}
use Rattle.re_compact.specs.declared.fault.OpenFault.TheVariants.{BadStore}
use Rattle.re_device.specs.Device.{DeviceState, opened_at}
use Rattle.re_device.specs.Standing.{StandsSettled}
use Rattle.re_outside.specs.Trace.{content_of}
use Rattle.re_record.specs.Stores as stores
use Rattle.re_record.specs.Stores.{OpensTo}
use Rattle.re_terms.proofs.Ordered.{program-ordered, program-regions}
use Rattle.re_terms.specs.declared.program.Program.{Program}
use Rattle.re_world.proofs.Opened.{handed_on}
use Rattle.re_world.proofs.Restored.{opens_restored, settled_is, stands_restored}
use Rattle.re_world.proofs.opening.open_device.Goals as goal

pub returns-in_err-restored-clause-bad : goal.returns-in_err-restored-clause-bad
returns-in_err-restored-clause-bad g c = λ file at tells e.
    c.in_err-restored.ensures.bad file at tells (ap Err (handed_on c.from_residual.result c.in_err-restored.field-0.0 (BadStore file at) c.from_residual.ensures.1 e))

pub build-requires-clause-ordered : goal.build-requires-clause-ordered
build-requires-clause-ordered g c = program-ordered c.args.p.now c.requires.program

pub build-requires-clause-regions : goal.build-requires-clause-regions
build-requires-clause-regions g c = program-regions c.args.p.now c.requires.program

pub returns-in-Ok-clause-opened : goal.returns-in-Ok-clause-opened
returns-in-Ok-clause-opened g c =
    let r = c.in_ok-restored.restored in
    let is = c.in-Ok.ensures ∙ ap (λ (q : Program). record { memory = opened_at q c.args.number r.state r.number; room = 0; generation = r.generation; journal = r.journal }) c.in-Ok-Ok.ensures in
    record {
      state = r.state;
      entry = r.number;
      state_is = c.in_ok-restored.ensures.restored.state;
      memory = ap (λ (d : DeviceState). d.memory) is;
      running = ap (λ (d : DeviceState). d.journal.stopped) is ∙ c.in_ok-restored.ensures.running.1;
      calls = ap (λ (d : DeviceState). d.journal.calls) is ∙ c.in_ok-restored.ensures.running.0;
    }

pub returns-in-Ok-clause-settled : goal.returns-in-Ok-clause-settled
returns-in-Ok-clause-settled g c = λ tells.
    let r = c.in_ok-restored.restored in
    let is = c.in-Ok.ensures ∙ ap (λ (q : Program). record { memory = opened_at q c.args.number r.state r.number; room = 0; generation = r.generation; journal = r.journal }) c.in-Ok-Ok.ensures in
    let first = content_of (g.D.Disk.past c.args.disk.now) 0 in
    let second = content_of (g.D.Disk.past c.args.disk.now) 1 in
    subst (λ (d : DeviceState). OpensTo c.args.p.now c.args.number first second d.memory.settled) (sym is)
    (opens_restored c.args.p.now c.args.number r (g.D.Disk.past c.restore.new.disk) (c.in_ok-restored.ensures.stands tells) 0 first second (c.in_ok-restored.ensures.opened tells))

pub returns-in-Ok-clause-stands : goal.returns-in-Ok-clause-stands
returns-in-Ok-clause-stands g c = λ tells.
    let r = c.in_ok-restored.restored in
    let is = c.in-Ok.ensures ∙ ap (λ (q : Program). record { memory = opened_at q c.args.number r.state r.number; room = 0; generation = r.generation; journal = r.journal }) c.in-Ok-Ok.ensures in
    subst (λ (d : DeviceState). StandsSettled d (g.D.Disk.past c.restore.new.disk)) (sym is)
    (stands_restored c.args.p.now c.args.number r (g.D.Disk.past c.restore.new.disk) (c.in_ok-restored.ensures.stands tells) 0)

pub returns-in-Ok-clause-decided : goal.returns-in-Ok-clause-decided
returns-in-Ok-clause-decided g c = λ stored tells has.
    let r = c.in_ok-restored.restored in
    let is = c.in-Ok.ensures ∙ ap (λ (q : Program). record { memory = opened_at q c.args.number r.state r.number; room = 0; generation = r.generation; journal = r.journal }) c.in-Ok-Ok.ensures in
    subst (λ (d : DeviceState). stores.opened c.args.p.now c.args.number stored ≡ Some d.memory.settled) (sym is)
    (c.in_ok-restored.ensures.decided stored tells has ∙ ap Some (sym (settled_is c.args.p.now c.args.number r (g.D.Disk.past c.restore.new.disk) (c.in_ok-restored.ensures.stands tells) 0)))
