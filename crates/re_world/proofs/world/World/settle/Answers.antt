-- A settling is a step of the world.
use Rattle.std.proofs.Common.{◌≡◌, ◌∙◌, ◌<◌, refl, sym, ap, subst}
use Rattle.re_device.specs.Device.{current}
use Rattle.re_terms.specs.Worlds.{Settled}
use Rattle.re_terms.specs.declared.command.Answer.TheVariants as answer
use Rattle.re_terms.specs.declared.command.Command.TheVariants as command
use Rattle.re_device.specs.Causes.{IsCausedBy}
use Rattle.re_device.specs.Stepping.{settled_as}
use Rattle.re_world.proofs.Caused.{any_state, device_is, found_down, found_up}
use Rattle.re_world.proofs.CommitKinds.{settle_commit}
use Rattle.re_world.proofs.Doing.{commit_does}
use Rattle.re_world.proofs.Inside.{down_does}
use Rattle.re_world.proofs.Placed.{back_all, back_others, back_packets, back_place, back_program, none_taken_out, no_some}
use Rattle.re_world.specs.State.{IsDeviceIn, WorldState}
use Rattle.re_world.specs.Stepping.{DoesCommand}
use Rattle.re_world.proofs.Taken.{if_ok, on_ok}
use Rattle.re_world.proofs.world.World.settle.Goals as goal

pub returns-in_default : goal.returns-in_default
returns-in_default g c =
    let v = c.args.self.now in
    let s = g.O.Outside.seen c.args.out.now in
    let place = sym c.take_out.ensures.device ∙ no_some c.take_out.result c.in_default.not-Some in
    subst (λ u. DoesCommand g.O.Outside.tells v u (command.Settle c.args.number) (answer.No 26) s s) (sym (none_taken_out v c.take_out.new.self c.args.number c.take_out.ensures.rest place))
    (down_does v (command.Settle c.args.number) c.args.number c.requires place refl (found_down v c.args.number place) refl (any_state v, tt) (λ w. refl) (λ p w t is. refl) g.O.Outside.tells s)

pub put_in-requires-clause-placed : goal.put_in-requires-clause-placed
put_in-requires-clause-placed g c =
    let placed : IsDeviceIn c.args.self.now.program c.args.number c.in-Some.device = c.in-Some.ensures.placed in
    record {
      program = c.settle_entries-taken.ensures.leaves.program ∙ placed.program ∙ sym (ap (λ (u : WorldState). u.program) c.take_out.ensures.rest);
      number_is = c.settle_entries-taken.ensures.leaves.number ∙ placed.number_is;
    }

pub returns : goal.returns
returns g c =
    let v = c.args.self.now in
    let n = c.args.number in
    let x = c.in-Some.device in
    let x' = c.settle_entries-taken.new.device in
    let placed : IsDeviceIn v.program n x = c.in-Some.ensures.placed in
    let below = subst (λ k. n < k) (sym c.take_out.ensures.count) c.requires in
    commit_does (λ p w. Unit {0}) Settled x.memory.unsettled (current x.memory) g.O.Outside.tells v c.put_in.new.self x x' (λ k. command.Settle k) c.settled.result (g.O.Outside.seen c.args.out.now) (g.O.Outside.seen c.settle_entries-taken.new.out) c.settle_entries-taken.result n placed.number_is
    (record {
      of = c.requires;
      below = c.requires;
      device_is = refl;
      commit = λ p w. settle_commit p w n;
      place = sym c.take_out.ensures.device ∙ c.in-Some.is;
      number = c.settle_entries-taken.ensures.leaves.number ∙ placed.number_is;
      new_place = back_place v c.take_out.new.self c.put_in.new.self n x' c.take_out.ensures.rest c.put_in.ensures below;
      other_places = back_others v c.take_out.new.self c.put_in.new.self n x' c.take_out.ensures.rest c.put_in.ensures;
      program = back_program v c.take_out.new.self c.put_in.new.self n x' c.take_out.ensures.rest c.put_in.ensures;
      packets = back_packets v c.take_out.new.self c.put_in.new.self n x' c.take_out.ensures.rest c.put_in.ensures;
      answer = c.settled.ensures.answer;
      ascends = c.settled.ensures.ascends;
      cause = c.settle_entries-taken.ensures.cause;
      others = c.settle_entries-taken.ensures.others;
      left = c.settle_entries-taken.ensures.left;
      commits = c.settle_entries-taken.ensures.commits;
      holds = λ p w is. tt;
      reads = λ told f. g.met.O.Outside.reads_left c.settle_entries-taken.new.out n f (g.met.O.Outside.tells_always c.settle_entries-taken.new.out ∙ told);
      enters = λ y. refl;
      calm = λ y. (refl, refl);
      leaves = c.settle_entries-taken.ensures.leaves;
      takes = λ y same. record {
        own = record {
          number = n;
          number_is = refl;
          before = x;
          place = sym c.take_out.ensures.device ∙ c.in-Some.is;
          after = x';
          place_after = back_place v c.take_out.new.self c.put_in.new.self n x' c.take_out.ensures.rest c.put_in.ensures below;
        };
        command_is = refl;
        number_is = if_ok (λ k. k ≡ (current x.memory).number) c.settle_entries-taken.result y c.settle_entries-taken.ensures.number same;
        memory = on_ok c.settle_entries-taken.result y c.settle_entries-taken.ensures.memory same;
      };
      caused = (any_state v, tt, subst (λ o. IsCausedBy o (settled_as c.settle_entries-taken.result)) (sym (device_is v (command.Settle n) refl (any_state v) x (found_up v n x (sym c.take_out.ensures.device ∙ c.in-Some.is)) refl (sym c.take_out.ensures.device ∙ c.in-Some.is))) c.settle_entries-taken.ensures.caused);
      same = back_all v c.take_out.new.self c.put_in.new.self n x' c.take_out.ensures.rest c.put_in.ensures x (sym c.take_out.ensures.device ∙ c.in-Some.is);
      writes = refl;
      files = λ made. made;
      fails = λ at gate_open stops. (n, refl, stops);
    })
