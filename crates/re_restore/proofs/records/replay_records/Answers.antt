-- One record more is done, or it is refused.
use Rattle.std.proofs.Common.{◌≡◌, ◌<◌, ◌^◌, ◌+◌, [], ℕ, Result, Err, List, length, get_or, take, drop, subst, sym, ap, refl, ◌∙◌, arith}
use Rattle.std.specs.List.{flat_map}
use Rattle.re_outside.specs.Frame.{opened}
use Rattle.re_outside.specs.Listed.{Listed}
use Rattle.re_record.specs.Restoring.{Opened}
use Rattle.re_record.specs.Stores.{IsBadRecord}
use Rattle.re_restore.specs.Replaying.{HasReplayed, HasReplayedRecord, items_of, replayed}
use Rattle.re_restore.specs.declared.records.ReplayFault.{ReplayFault}
use Rattle.re_restore.specs.declared.records.ReplayFault.TheVariants.{At}
use Rattle.re_restore.proofs.Replayed.{bodies_split, bodies_long, bodies_more, one_more_done}
use Rattle.re_restore.proofs.records.replay_records.Goals as goal

-- the place behind the next record lies within all of them
within_all : (bodies : List (Listed ℕ)) (start i gate n : ℕ) (body : Listed ℕ) → i < length bodies → body ≡ get_or bodies i body → gate ≡ start + length (flat_map opened (items_of (take i bodies))) → n ≡ length body.items → start + length (flat_map opened (items_of bodies)) < 2 ^ 63 → gate + (5 + n) < 2 ^ 63
within_all bodies start i gate n body within here before long limit =
    let all = ap (λ l. length (flat_map opened l)) (bodies_split bodies i body within here) in
    omega (arith, all, before, long, limit, bodies_long (items_of (take i bodies)) (items_of (drop (i + 1) bodies)) body.items)

pub overflow_add-gate-in-Ok : goal.overflow_add-gate-in-Ok
overflow_add-gate-in-Ok c =
    let w = within_all c.args.bodies.now c.args.start c.loop-body.body-index c.loop-body.gate c.len.result c.body-item.result c.loop-body-test.true c.body-item.is c.loop-body.invariant.gate c.len.ensures c.requires.limit in
    omega (arith, w)

pub overflow_add-result : goal.overflow_add-result
overflow_add-result c =
    let n : ℕ = length c.body-item.result.items in
    let w = within_all c.args.bodies.now c.args.start c.loop-body.body-index c.loop-body.gate n c.body-item.result c.loop-body-test.true c.body-item.is c.loop-body.invariant.gate refl c.requires.limit in
    omega (arith, w)

pub overflow_add-result-in-Err-At : goal.overflow_add-result-in-Err-At
overflow_add-result-in-Err-At c =
    let n : ℕ = length c.body-item.result.items in
    let w = within_all c.args.bodies.now c.args.start c.loop-body.body-index c.loop-body.gate n c.body-item.result c.loop-body-test.true c.body-item.is c.loop-body.invariant.gate refl c.requires.limit in
    let low = c.in-Err-At.ensures.fits c.in-Err-At.place (ap Err c.in-Err-At.field-0-is) in
    omega (arith, w, low, c.in-Err-At.place-is)

inner : (a b : ℕ) → ◌≡◌ {A = Result (Unit {0}) ReplayFault} (Err (At a)) (Err (At b)) → a ≡ b
inner a b same = cc

pub returns-in-Err-At-clause-bad : goal.returns-in-Err-At-clause-bad
returns-in-Err-At-clause-bad c place same =
    let device : ℕ = c.args.replay.now.replica.device in
    let done = c.loop-body.invariant.done in
    record {
      before = items_of (take c.loop-body.body-index c.args.bodies.now);
      refused = c.body-item.result.items;
      behind = items_of (drop (c.loop-body.body-index + 1) c.args.bodies.now);
      entries = done.0;
      k = c.in-Err-At.place;
      split = bodies_split c.args.bodies.now c.loop-body.body-index c.body-item.result c.loop-body-test.true c.body-item.is;
      records = done.1;
      bad =
          subst (λ (o : Opened). IsBadRecord c.args.p.now device o c.body-item.result.items c.in-Err-At.place) done.2
          (subst (λ (d : ℕ). IsBadRecord c.args.p.now d (replayed c.loop-body.replay) c.body-item.result.items c.in-Err-At.place) c.loop-body.invariant.device
          (subst (λ (b : List ℕ). IsBadRecord c.args.p.now c.loop-body.replay.replica.device (replayed c.loop-body.replay) b c.in-Err-At.place) c.as_slice.ensures
          (c.in-Err-At.ensures.bad c.in-Err-At.place (ap Err c.in-Err-At.field-0-is))));
      place_is = omega (arith, inner _ place same, c.in-Err-At.place-is, c.loop-body.invariant.gate);
    }

pub loop-body-preserved : goal.loop-body-preserved
loop-body-preserved c =
    let device : ℕ = c.args.replay.now.replica.device in
    let o : Opened = replayed c.args.replay.now in
    let done = c.loop-body.invariant.done in
    let more = bodies_more c.args.bodies.now c.loop-body.body-index c.body-item.result c.loop-body-test.true c.body-item.is in
    let own = subst (λ (d : ℕ). HasReplayedRecord c.args.p.now d (replayed c.loop-body.replay) c.as_slice.result.now (replayed c.replay_record.new.replay)) c.loop-body.invariant.device c.in-Ok.ensures.record in
    record {
      keeps = c.in-Ok.ensures.keeps;
      device = c.in-Ok.ensures.device ∙ c.loop-body.invariant.device;
      done = subst (λ (bodies : List (List ℕ)). HasReplayed c.args.p.now device o bodies (replayed c.replay_record.new.replay)) (sym more)
          (one_more_done c.args.p.now device o (replayed c.loop-body.replay) (replayed c.replay_record.new.replay) (items_of (take c.loop-body.body-index c.args.bodies.now)) c.body-item.result.items done
          (subst (λ (b : List ℕ). HasReplayedRecord c.args.p.now device (replayed c.loop-body.replay) b (replayed c.replay_record.new.replay)) c.as_slice.ensures own));
      gate =
          let long = bodies_long (items_of (take c.loop-body.body-index c.args.bodies.now)) [] c.body-item.result.items in
          let all = ap (λ l. length (flat_map opened l)) more in
          omega (arith, all, long, c.loop-body.invariant.gate, c.len.ensures);
    }
