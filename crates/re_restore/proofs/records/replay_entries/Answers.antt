-- One entry more is done, or it is the first that is refused.
use Rattle.std.proofs.Common.{◌≡◌, ℕ, true, false, Err, take, subst, ap, ◌∙◌}
use Rattle.re_record.specs.Restoring.{IsFirstRefused, is_refused, opened_after}
use Rattle.re_terms.specs.declared.entry.Logged.{Logged}
use Rattle.re_restore.specs.Replaying.{replayed}
use Rattle.re_restore.proofs.Replayed.{one_more, one_more_accepted, first_refused}
use Rattle.re_restore.proofs.records.replay_entries.Goals as goal

pub returns-in-Err-Limit-clause-refused : goal.returns-in-Err-Limit-clause-refused
returns-in-Err-Limit-clause-refused c i same =
    let own : c.loop-i.i ≡ i = cc in
    let l : Logged = c.index-entries-i.result in
    subst (λ (n : ℕ). IsFirstRefused c.args.p.now c.args.replay.now.replica.device (replayed c.args.replay.now) c.args.entries.now (take n c.args.entries.now)) own
    (first_refused c.args.p.now c.args.replay.now.replica.device (replayed c.args.replay.now) (replayed c.loop-i.replay) c.args.entries.now c.loop-i.i l
    c.loop-i-test.true c.index-entries-i.is c.loop-i.invariant.done c.loop-i.invariant.accepted
    (subst (λ (d : ℕ). is_refused c.args.p.now d (replayed c.loop-i.replay) l.entry ≡ true) c.loop-i.invariant.device (c.in-Err-Limit.ensures.limit (ap Err c.in-Err-Limit.field-0-is))))

pub loop-i-preserved : goal.loop-i-preserved
loop-i-preserved c =
    let l : Logged = c.index-entries-i.result in
    record {
      keeps = c.in-Ok.ensures.keeps;
      device = c.in-Ok.ensures.device ∙ c.loop-i.invariant.device;
      done =
          one_more c.args.p.now c.args.replay.now.replica.device (replayed c.args.replay.now) (replayed c.loop-i.replay) (replayed c.replay_entry.new.self) c.args.entries.now c.loop-i.i l
          c.loop-i-test.true c.index-entries-i.is c.loop-i.invariant.done
          (subst (λ (d : ℕ). replayed c.replay_entry.new.self ≡ opened_after c.args.p.now d l (replayed c.loop-i.replay)) c.loop-i.invariant.device c.in-Ok.ensures.entry);
      accepted =
          one_more_accepted c.args.p.now c.args.replay.now.replica.device (replayed c.args.replay.now) (replayed c.loop-i.replay) c.args.entries.now c.loop-i.i l
          c.loop-i-test.true c.index-entries-i.is c.loop-i.invariant.done c.loop-i.invariant.accepted
          (subst (λ (d : ℕ). is_refused c.args.p.now d (replayed c.loop-i.replay) l.entry ≡ false) c.loop-i.invariant.device c.in-Ok.ensures.accepted);
    }
