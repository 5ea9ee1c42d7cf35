use Rattle.std.proofs.Common.{ℕ, Bool, Err, Ok, subst, sym, ◌∙◌}
use Rattle.std.specs.Prelude.{IfOk, Result}
use Rattle.re_compact.specs.declared.fault.OpenFault.{OpenFault}
use Rattle.re_outside.specs.Outside.{Seen}
use Rattle.re_terms.specs.declared.program.Program.{Program}
use Rattle.re_tool.proofs.Opened.{Given, is_opening, opens_as}
use Rattle.re_tool.specs.Acts.{OpensAs}
use Rattle.re_tool.proofs.opening.open_devices.Goals as goal
use Rattle.re_world.specs.State.{WorldState}

opened_by : (p : Program) (old new : Seen) (tells : Bool) (r : Result WorldState (ℕ × OpenFault)) → Given p old new r tells → IfOk r (λ v. OpensAs p v old new)
opened_by p old new tells (Ok v) g = opens_as p old new tells v g
opened_by p old new tells (Err e) g = tt

pub returns-clause-opened : goal.returns-clause-opened
returns-clause-opened g c =
    let e = c.new.ensures in
    opened_by c.args.p _ _ g.O.Outside.tells c.new.result (record {
      is_program = c.requires.program;
      always = g.met.O.Outside.tells_always c.args.out.now;
      told = g.met.O.Outside.tells_always c.new.new.out ∙ sym (g.met.O.Outside.tells_always c.args.out.now);
      program = e.program;
      opened = e.opened;
      packets = e.packets;
      world = e.world;
      restores = e.restores;
      bad = e.bad;
      other = e.other;
      disk = e.disk;
      others = e.others;
      calm = e.calm;
      all = e.all;
      first = e.first;
      steps = e.steps;
      left = e.left;
      number = e.number;
    })

pub returns-clause-refused : goal.returns-clause-refused
returns-clause-refused g c = λ d fault is.
    let e = c.new.ensures in
    is_opening c.args.p _ _ g.O.Outside.tells d fault (subst (λ r. Given c.args.p (g.O.Outside.seen c.args.out.now) (g.O.Outside.seen c.new.new.out) r g.O.Outside.tells) is (record {
      is_program = c.requires.program;
      always = g.met.O.Outside.tells_always c.args.out.now;
      told = g.met.O.Outside.tells_always c.new.new.out ∙ sym (g.met.O.Outside.tells_always c.args.out.now);
      program = e.program;
      opened = e.opened;
      packets = e.packets;
      world = e.world;
      restores = e.restores;
      bad = e.bad;
      other = e.other;
      disk = e.disk;
      others = e.others;
      calm = e.calm;
      all = e.all;
      first = e.first;
      steps = e.steps;
      left = e.left;
      number = e.number;
    }))
