-- A turn is a step of the world.
use Rattle.std.proofs.Common.{◌≡◌, ◌∙◌, ◌<◌, ◌+◌, ◌++◌, ◌∷◌, [], refl, sym, ap, subst}
use Rattle.re_device.specs.Device.{current, logged, with_entry}
use Rattle.re_device.specs.declared.fault.Done.{Done}
use Rattle.re_terms.specs.Admission.{IsAdmitted}
use Rattle.re_terms.specs.Worlds.{Entered}
use Rattle.re_terms.specs.declared.command.Answer.TheVariants as answer
use Rattle.re_terms.specs.declared.command.Command.TheVariants as command
use Rattle.re_terms.specs.declared.entry.Entry.TheVariants as entry
use Rattle.re_device.specs.Causes.{IsCausedBy}
use Rattle.re_device.specs.Stepping.{entered_as}
use Rattle.re_world.proofs.Caused.{any_state, device_is, found_down, found_up}
use Rattle.re_world.proofs.CommitKinds.{turn_commit}
use Rattle.re_world.proofs.Doing.{commit_does}
use Rattle.re_world.proofs.Inside.{down_does}
use Rattle.re_world.proofs.Placed.{back_all, back_others, back_packets, back_place, back_program, none_taken_out, no_some}
use Rattle.re_world.specs.State.{IsDeviceIn, WorldState}
use Rattle.re_world.specs.Stepping.{DoesCommand}
use Rattle.re_world.proofs.Taken.{if_ok, on_ok}
use Rattle.re_world.proofs.world.World.turn.Goals as goal

pub returns-in_default : goal.returns-in_default
returns-in_default g c =
    let v = c.args.self.now in
    let s = g.O.Outside.seen c.args.out.now in
    let place = sym c.take_out.ensures.device ∙ no_some c.take_out.result c.in_default.not-Some in
    subst (λ u. DoesCommand g.O.Outside.tells v u (command.Turn c.args.number c.args.turn) (answer.No 26) s s) (sym (none_taken_out v c.take_out.new.self c.args.number c.take_out.ensures.rest place))
    (down_does v (command.Turn c.args.number c.args.turn) c.args.number c.requires.0 place refl (found_down v c.args.number place) refl (any_state v, tt) (λ w. refl) (λ p w t is. refl) g.O.Outside.tells s)

pub take_turn-taken-requires : goal.take_turn-taken-requires
take_turn-taken-requires g c =
    let placed : IsDeviceIn c.args.self.now.program c.args.number c.in-Some.device = c.in-Some.ensures.placed in
    record { turn = subst (λ q. IsAdmitted q c.args.turn.turn) (sym placed.program) c.requires.1 }

pub put_in-requires-clause-placed : goal.put_in-requires-clause-placed
put_in-requires-clause-placed g c =
    let placed : IsDeviceIn c.args.self.now.program c.args.number c.in-Some.device = c.in-Some.ensures.placed in
    record {
      program = c.take_turn-taken.ensures.leaves.program ∙ placed.program ∙ sym (ap (λ (u : WorldState). u.program) c.take_out.ensures.rest);
      number_is = c.take_turn-taken.ensures.leaves.number ∙ placed.number_is;
    }

pub returns : goal.returns
returns g c =
    let v = c.args.self.now in
    let n = c.args.number in
    let x = c.in-Some.device in
    let x' = c.take_turn-taken.new.device in
    let placed : IsDeviceIn v.program n x = c.in-Some.ensures.placed in
    let below = subst (λ k. n < k) (sym c.take_out.ensures.count) c.requires.0 in
    commit_does (λ p w. Unit {0}) (λ (d : Done). Entered d.number) (x.memory.unsettled ++ logged x.memory (entry.Turn c.args.turn.turn) ∷ []) (current (with_entry x.memory (logged x.memory (entry.Turn c.args.turn.turn)))) g.O.Outside.tells v c.put_in.new.self x x' (λ k. command.Turn k c.args.turn) c.entered.result (g.O.Outside.seen c.args.out.now) (g.O.Outside.seen c.take_turn-taken.new.out) c.take_turn-taken.result n placed.number_is
    (record {
      of = c.requires;
      below = c.requires.0;
      device_is = refl;
      commit = λ p w. turn_commit p w n c.args.turn;
      place = sym c.take_out.ensures.device ∙ c.in-Some.is;
      number = c.take_turn-taken.ensures.leaves.number ∙ placed.number_is;
      new_place = back_place v c.take_out.new.self c.put_in.new.self n x' c.take_out.ensures.rest c.put_in.ensures below;
      other_places = back_others v c.take_out.new.self c.put_in.new.self n x' c.take_out.ensures.rest c.put_in.ensures;
      program = back_program v c.take_out.new.self c.put_in.new.self n x' c.take_out.ensures.rest c.put_in.ensures;
      packets = back_packets v c.take_out.new.self c.put_in.new.self n x' c.take_out.ensures.rest c.put_in.ensures;
      answer = c.entered.ensures.answer;
      ascends = c.entered.ensures.ascends;
      cause = c.take_turn-taken.ensures.cause;
      others = c.take_turn-taken.ensures.others;
      left = c.take_turn-taken.ensures.left;
      commits = c.take_turn-taken.ensures.commits;
      holds = λ p w is. tt;
      reads = λ told f. g.met.O.Outside.reads_left c.take_turn-taken.new.out n f (g.met.O.Outside.tells_always c.take_turn-taken.new.out ∙ told);
      enters = λ y. refl;
      calm = λ y. (refl, refl);
      leaves = c.take_turn-taken.ensures.leaves;
      takes = λ y same. record {
        own = record {
          number = n;
          number_is = refl;
          before = x;
          place = sym c.take_out.ensures.device ∙ c.in-Some.is;
          after = x';
          place_after = back_place v c.take_out.new.self c.put_in.new.self n x' c.take_out.ensures.rest c.put_in.ensures below;
        };
        taken = entry.Turn c.args.turn.turn;
        taken_is = refl;
        number_is = if_ok (λ (d : Done). d.number ≡ (current x.memory).number + 1) c.take_turn-taken.result y c.take_turn-taken.ensures.number same;
        memory = on_ok c.take_turn-taken.result y c.take_turn-taken.ensures.memory same;
      };
      caused = (any_state v, tt, subst (λ o. IsCausedBy o (entered_as c.take_turn-taken.result)) (sym (device_is v (command.Turn n c.args.turn) refl (any_state v) x (found_up v n x (sym c.take_out.ensures.device ∙ c.in-Some.is)) refl (sym c.take_out.ensures.device ∙ c.in-Some.is))) c.take_turn-taken.ensures.caused);
      same = back_all v c.take_out.new.self c.put_in.new.self n x' c.take_out.ensures.rest c.put_in.ensures x (sym c.take_out.ensures.device ∙ c.in-Some.is);
      writes = refl;
      files = λ made. made;
      fails = λ at gate_open stops. (n, refl, stops);
    })
