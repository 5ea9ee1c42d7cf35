-- A settling over a port is one over the outside behind it.
use Rattle.std.proofs.Common.{◌≡◌, ℕ, ap, rules, refl}
use Rattle.re_device.specs.Committing.{HasDiskCause}
use Rattle.re_device.specs.Device.{DeviceMemory, all_settled, current}
use Rattle.re_device.specs.Stepping.{settled_as}
use Rattle.re_device.specs.declared.fault.DeviceFault.TheVariants as fault
use Rattle.re_outside.specs.Outside.{Faults}
use Rattle.re_outside.specs.Port.{Rest, disk_faults, other_faults}
use Rattle.re_terms.specs.declared.command.Command.TheVariants as command
use Rattle.re_world.proofs.Leading.{memory_keeps, settle_leads}
use Rattle.re_world.proofs.Opened.{on_outside, on_port}
use Rattle.re_world.specs.Calls.{Commits}
use Rattle.re_world.proofs.calls.settle_entries.Goals as goal

pub returns-clause-commits : goal.returns-clause-commits
returns-clause-commits g c = λ tells.
    let same_name : c.settle.new.disk.out.ghost_name ≡ c.new-port.result.out.ghost_name = ap (λ (r : Rest). r.name) c.settle.ensures.rest in
    let x = c.args.device.now in
    let x' = c.settle.new.self in
    on_port g.O.Outside.seen c.args.number c.new-port.result.device c.settle.new.disk.device c.args.out.now c.new-port.result.out.now c.settle.new.disk.out.now _
    (λ u v. Commits (λ p w. Unit {0}) x.memory.unsettled (current x.memory) (command.Settle x.memory.device) settled_as x x' u v c.settle.result) c.new-port.ensures.device c.new-port.ensures.out c.settle.ensures.device (search rules)
    (record {
      calls = record { none = λ none. c.settle.ensures.none none; made = λ some. c.settle.ensures.steps tells some; counted = λ some. c.settle.ensures.calls some };
      steps = c.settle.ensures.world;
      leads = settle_leads x;
      moments = c.settle.ensures.each_moment tells;
      reads = c.settle.ensures.reads tells;
      stands = c.settle.ensures.stands tells;
      stopped = λ at e. (c.settle.ensures.stopped at).1 e;
      runs = c.settle.ensures.runs;
    })

pub returns-clause-leaves : goal.returns-clause-leaves
returns-clause-leaves g c = record {
  program = memory_keeps (λ (m : DeviceMemory). m.program) c.args.device.now.memory c.settle.new.self.memory (all_settled c.args.device.now.memory) c.settle.result refl c.settle.ensures.memory c.settle.ensures.refused;
  number = memory_keeps (λ (m : DeviceMemory). m.device) c.args.device.now.memory c.settle.new.self.memory (all_settled c.args.device.now.memory) c.settle.result refl c.settle.ensures.memory c.settle.ensures.refused;
  refused = c.settle.ensures.unchanged;
  memory = c.settle.ensures.refused fault.Disk;
  stops = c.settle.ensures.stops;
}

pub returns-clause-cause : goal.returns-clause-cause
returns-clause-cause g c =
    let same_name : c.settle.new.disk.out.ghost_name ≡ c.new-port.result.out.ghost_name = ap (λ (r : Rest). r.name) c.settle.ensures.rest in
    on_outside g.O.Outside.seen disk_faults c.args.number c.new-port.result.device c.settle.new.disk.device c.args.out.now c.new-port.result.out.now c.settle.new.disk.out.now _
    (λ (u v : ℕ). HasDiskCause u v c.settle.result) c.new-port.ensures.device c.new-port.ensures.out c.settle.ensures.device (search rules) c.settle.ensures.cause

pub returns-clause-others : goal.returns-clause-others
returns-clause-others g c =
    let same_name : c.settle.new.disk.out.ghost_name ≡ c.new-port.result.out.ghost_name = ap (λ (r : Rest). r.name) c.settle.ensures.rest in
    on_outside g.O.Outside.seen other_faults c.args.number c.new-port.result.device c.settle.new.disk.device c.args.out.now c.new-port.result.out.now c.settle.new.disk.out.now _
    (λ (u v : Faults). v ≡ u) c.new-port.ensures.device c.new-port.ensures.out c.settle.ensures.device (search rules) (ap (λ (r : Rest). r.faults) c.settle.ensures.rest)
