-- A turn over a port is one over the outside behind it.
use Rattle.std.proofs.Common.{◌≡◌, ◌++◌, ◌∷◌, [], ℕ, ap, rules, refl}
use Rattle.re_device.specs.Committing.{HasDiskCause}
use Rattle.re_device.specs.Device.{DeviceMemory, all_settled, current, logged, with_entry}
use Rattle.re_device.specs.Stepping.{entered_as}
use Rattle.re_device.specs.declared.fault.DeviceFault.TheVariants as fault
use Rattle.re_outside.specs.Outside.{Faults}
use Rattle.re_outside.specs.Port.{Rest, disk_faults, other_faults}
use Rattle.re_terms.specs.declared.command.Command.TheVariants as command
use Rattle.re_terms.specs.declared.entry.Entry.TheVariants as entry
use Rattle.re_world.proofs.Leading.{memory_keeps, turn_leads}
use Rattle.re_world.proofs.Opened.{on_outside, on_port}
use Rattle.re_world.proofs.Unmoved.{never}
use Rattle.re_world.specs.Calls.{Commits}
use Rattle.re_world.proofs.calls.take_turn.Goals as goal

pub returns-clause-commits : goal.returns-clause-commits
returns-clause-commits g c = λ tells.
    let same_name : c.turn.new.disk.out.ghost_name ≡ c.new-port.result.out.ghost_name = ap (λ (r : Rest). r.name) c.turn.ensures.rest in
    let x = c.args.device.now in
    let x' = c.turn.new.self in
    on_port g.O.Outside.seen c.args.number c.new-port.result.device c.turn.new.disk.device c.args.out.now c.new-port.result.out.now c.turn.new.disk.out.now _
    (λ u v. Commits (λ p w. Unit {0}) (x.memory.unsettled ++ logged x.memory (entry.Turn c.args.turn.turn) ∷ []) (current (with_entry x.memory (logged x.memory (entry.Turn c.args.turn.turn)))) (command.Turn x.memory.device c.args.turn) entered_as x x' u v c.turn.result) c.new-port.ensures.device c.new-port.ensures.out c.turn.ensures.device (search rules)
    (record {
      calls = record { none = λ none. absurd (never x.memory.unsettled _ none); made = λ some. c.turn.ensures.steps tells; counted = λ some. c.turn.ensures.calls };
      steps = c.turn.ensures.world;
      leads = turn_leads x c.args.turn;
      moments = c.turn.ensures.each_moment tells;
      reads = c.turn.ensures.reads tells;
      stands = c.turn.ensures.stands tells;
      stopped = λ at e. (c.turn.ensures.stopped at).1 e;
      runs = c.turn.ensures.runs;
    })

pub returns-clause-leaves : goal.returns-clause-leaves
returns-clause-leaves g c = record {
  program = memory_keeps (λ (m : DeviceMemory). m.program) c.args.device.now.memory c.turn.new.self.memory (all_settled (with_entry c.args.device.now.memory (logged c.args.device.now.memory (entry.Turn c.args.turn.turn)))) c.turn.result refl c.turn.ensures.memory c.turn.ensures.refused;
  number = memory_keeps (λ (m : DeviceMemory). m.device) c.args.device.now.memory c.turn.new.self.memory (all_settled (with_entry c.args.device.now.memory (logged c.args.device.now.memory (entry.Turn c.args.turn.turn)))) c.turn.result refl c.turn.ensures.memory c.turn.ensures.refused;
  refused = c.turn.ensures.unchanged;
  memory = c.turn.ensures.refused fault.Disk;
  stops = c.turn.ensures.stops;
}

pub returns-clause-cause : goal.returns-clause-cause
returns-clause-cause g c =
    let same_name : c.turn.new.disk.out.ghost_name ≡ c.new-port.result.out.ghost_name = ap (λ (r : Rest). r.name) c.turn.ensures.rest in
    on_outside g.O.Outside.seen disk_faults c.args.number c.new-port.result.device c.turn.new.disk.device c.args.out.now c.new-port.result.out.now c.turn.new.disk.out.now _
    (λ (u v : ℕ). HasDiskCause u v c.turn.result) c.new-port.ensures.device c.new-port.ensures.out c.turn.ensures.device (search rules) c.turn.ensures.cause

pub returns-clause-others : goal.returns-clause-others
returns-clause-others g c =
    let same_name : c.turn.new.disk.out.ghost_name ≡ c.new-port.result.out.ghost_name = ap (λ (r : Rest). r.name) c.turn.ensures.rest in
    on_outside g.O.Outside.seen other_faults c.args.number c.new-port.result.device c.turn.new.disk.device c.args.out.now c.new-port.result.out.now c.turn.new.disk.out.now _
    (λ (u v : Faults). v ≡ u) c.new-port.ensures.device c.new-port.ensures.out c.turn.ensures.device (search rules) (ap (λ (r : Rest). r.faults) c.turn.ensures.rest)
