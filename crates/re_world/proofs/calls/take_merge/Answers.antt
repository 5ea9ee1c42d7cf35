-- A merge over a port is one over the outside behind it.
use Rattle.std.proofs.Common.{◌≡◌, ◌++◌, ◌∷◌, [], ℕ, ap, rules, refl}
use Rattle.re_device.specs.Committing.{HasDiskCause}
use Rattle.re_device.specs.Device.{DeviceMemory, all_settled, current, logged, with_entry}
use Rattle.re_device.specs.Stepping.{IsPacketOf, entered_as}
use Rattle.re_device.specs.declared.fault.DeviceFault.TheVariants as fault
use Rattle.re_outside.specs.Outside.{Faults}
use Rattle.re_outside.specs.Port.{Rest, disk_faults, other_faults}
use Rattle.re_terms.specs.declared.command.Command.TheVariants as command
use Rattle.re_terms.specs.declared.entry.Entry.TheVariants as entry
use Rattle.re_world.proofs.Leading.{memory_keeps, merge_leads}
use Rattle.re_world.proofs.Opened.{on_outside, on_port}
use Rattle.re_world.proofs.Unmoved.{never}
use Rattle.re_world.specs.Calls.{Commits}
use Rattle.re_world.proofs.calls.take_merge.Goals as goal

pub returns-clause-commits : goal.returns-clause-commits
returns-clause-commits g c = λ k tells.
    let same_name : c.merge.new.disk.out.ghost_name ≡ c.new-port.result.out.ghost_name = ap (λ (r : Rest). r.name) c.merge.ensures.rest in
    let x = c.args.device.now in
    let x' = c.merge.new.self in
    on_port g.O.Outside.seen c.args.number c.new-port.result.device c.merge.new.disk.device c.args.out.now c.new-port.result.out.now c.merge.new.disk.out.now _
    (λ u v. Commits (IsPacketOf x k c.args.state) (x.memory.unsettled ++ logged x.memory (entry.Merge c.args.state) ∷ []) (current (with_entry x.memory (logged x.memory (entry.Merge c.args.state)))) (command.Deliver k x.memory.device) entered_as x x' u v c.merge.result) c.new-port.ensures.device c.new-port.ensures.out c.merge.ensures.device (search rules)
    (record {
      calls = record { none = λ none. absurd (never x.memory.unsettled _ none); made = λ some. c.merge.ensures.steps tells; counted = λ some. c.merge.ensures.calls };
      steps = c.merge.ensures.world k;
      leads = merge_leads x k c.args.state;
      moments = c.merge.ensures.each_moment tells;
      reads = c.merge.ensures.reads tells;
      stands = c.merge.ensures.stands tells;
      stopped = λ at e. (c.merge.ensures.stopped at).1 e;
      runs = c.merge.ensures.runs;
    })

pub returns-clause-leaves : goal.returns-clause-leaves
returns-clause-leaves g c = record {
  program = memory_keeps (λ (m : DeviceMemory). m.program) c.args.device.now.memory c.merge.new.self.memory (all_settled (with_entry c.args.device.now.memory (logged c.args.device.now.memory (entry.Merge c.args.state)))) c.merge.result refl c.merge.ensures.memory c.merge.ensures.refused;
  number = memory_keeps (λ (m : DeviceMemory). m.device) c.args.device.now.memory c.merge.new.self.memory (all_settled (with_entry c.args.device.now.memory (logged c.args.device.now.memory (entry.Merge c.args.state)))) c.merge.result refl c.merge.ensures.memory c.merge.ensures.refused;
  refused = c.merge.ensures.unchanged;
  memory = c.merge.ensures.refused fault.Disk;
  stops = c.merge.ensures.stops;
}

pub returns-clause-cause : goal.returns-clause-cause
returns-clause-cause g c =
    let same_name : c.merge.new.disk.out.ghost_name ≡ c.new-port.result.out.ghost_name = ap (λ (r : Rest). r.name) c.merge.ensures.rest in
    on_outside g.O.Outside.seen disk_faults c.args.number c.new-port.result.device c.merge.new.disk.device c.args.out.now c.new-port.result.out.now c.merge.new.disk.out.now _
    (λ (u v : ℕ). HasDiskCause u v c.merge.result) c.new-port.ensures.device c.new-port.ensures.out c.merge.ensures.device (search rules) c.merge.ensures.cause

pub returns-clause-others : goal.returns-clause-others
returns-clause-others g c =
    let same_name : c.merge.new.disk.out.ghost_name ≡ c.new-port.result.out.ghost_name = ap (λ (r : Rest). r.name) c.merge.ensures.rest in
    on_outside g.O.Outside.seen other_faults c.args.number c.new-port.result.device c.merge.new.disk.device c.args.out.now c.new-port.result.out.now c.merge.new.disk.out.now _
    (λ (u v : Faults). v ≡ u) c.new-port.ensures.device c.new-port.ensures.out c.merge.ensures.device (search rules) (ap (λ (r : Rest). r.faults) c.merge.ensures.rest)
