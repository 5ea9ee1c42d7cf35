-- A turn is taken in memory alone.
use Rattle.std.proofs.Common.{◌∙◌, Some, refl, sym, ap, subst}
use Rattle.std.specs.Prelude.{slice_set}
use Rattle.re_device.specs.Stepping.{applied_as}
use Rattle.re_terms.specs.Admission.{IsAdmitted}
use Rattle.re_terms.specs.declared.command.Answer.TheVariants as answer
use Rattle.re_terms.specs.declared.command.Command.TheVariants as command
use Rattle.re_world.proofs.Caused.{any_state, found_down}
use Rattle.re_world.proofs.Inside.{down_does}
use Rattle.re_world.proofs.InsideDone.{none_out}
use Rattle.re_world.proofs.Placed.{no_some}
use Rattle.re_world.proofs.Unsettled.{keeps_own, lazy_does}
use Rattle.re_world.specs.State.{WorldState}
use Rattle.re_world.specs.Stepping.{DoesInside}
use Rattle.re_world.proofs.world.World.lazy.Goals as goal

pub returns-in_default : goal.returns-in_default
returns-in_default g c =
    let old = c.args.self.now in
    let n = c.args.number in
    let asked = command.Lazy n c.args.turn in
    let none = sym c.take_out.ensures.device ∙ no_some c.take_out.result c.in_default.not-Some in
    subst (λ v. DoesInside old v asked (answer.No 26)) (sym (none_out old c.take_out.new.self n none c.take_out.ensures.rest)) (down_does old asked n c.requires.0 none refl (found_down old n none) refl (any_state old, tt) (λ u. refl) (λ p u s is. refl))

pub lazy-applied-requires : goal.lazy-applied-requires
lazy-applied-requires g c = subst (λ q. IsAdmitted q c.args.turn.turn) (sym c.in-Some.ensures.placed.program) c.requires.1

pub put_in-requires-clause-placed : goal.put_in-requires-clause-placed
put_in-requires-clause-placed g c =
    let own = keeps_own c.in-Some.device c.lazy-applied.new.self _ c.lazy-applied.result c.lazy-applied.ensures.memory c.lazy-applied.ensures.unchanged in
    record {
      program = own.program ∙ c.in-Some.ensures.placed.program ∙ sym (ap (λ (v : WorldState). v.program) c.take_out.ensures.rest);
      number_is = own.number ∙ c.in-Some.ensures.placed.number_is;
    }

pub returns-in-Ok : goal.returns-in-Ok
returns-in-Ok g c =
    let old = c.args.self.now in
    let n = c.args.number in
    let x = c.in-Some.device in
    let x' = c.lazy-applied.new.self in
    let r = c.lazy-applied.result in
    lazy_does old c.put_in.new.self n x x' c.args.turn (answer.Applied c.in-Ok.number) r
    (record {
      of = c.requires;
      place = sym c.take_out.ensures.device ∙ c.in-Some.is;
      number = c.in-Some.ensures.placed.number_is;
      back = c.put_in.ensures ∙ ap (λ (v : WorldState). record v { devices = slice_set v.devices n (Some x') }) c.take_out.ensures.rest;
      answer = sym (ap applied_as c.in-Ok.is);
      steps = c.lazy-applied.ensures.world;
      memory = c.lazy-applied.ensures.memory;
      entry_number = c.lazy-applied.ensures.number;
      journal = c.lazy-applied.ensures.store.0;
      generation = c.lazy-applied.ensures.store.1;
      own = keeps_own x x' _ r c.lazy-applied.ensures.memory c.lazy-applied.ensures.unchanged;
      never = c.lazy-applied.ensures.never;
      refused = c.lazy-applied.ensures.unchanged;
      caused = c.lazy-applied.ensures.caused;
    })

pub returns-in-Err : goal.returns-in-Err
returns-in-Err g c =
    let old = c.args.self.now in
    let n = c.args.number in
    let x = c.in-Some.device in
    let x' = c.lazy-applied.new.self in
    let r = c.lazy-applied.result in
    lazy_does old c.put_in.new.self n x x' c.args.turn c.refused.result r
    (record {
      of = c.requires;
      place = sym c.take_out.ensures.device ∙ c.in-Some.is;
      number = c.in-Some.ensures.placed.number_is;
      back = c.put_in.ensures ∙ ap (λ (v : WorldState). record v { devices = slice_set v.devices n (Some x') }) c.take_out.ensures.rest;
      answer = c.refused.ensures ∙ sym (ap applied_as c.in-Err.is);
      steps = c.lazy-applied.ensures.world;
      memory = c.lazy-applied.ensures.memory;
      entry_number = c.lazy-applied.ensures.number;
      journal = c.lazy-applied.ensures.store.0;
      generation = c.lazy-applied.ensures.store.1;
      own = keeps_own x x' _ r c.lazy-applied.ensures.memory c.lazy-applied.ensures.unchanged;
      never = c.lazy-applied.ensures.never;
      refused = c.lazy-applied.ensures.unchanged;
      caused = c.lazy-applied.ensures.caused;
    })
