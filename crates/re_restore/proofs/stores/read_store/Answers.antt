-- A place that is refused is one of the snapshot, or of a record behind it.
use Rattle.std.proofs.Common.{◌+◌, ℕ, length, Err, refl, ap, subst}
use Rattle.re_record.specs.Restoring.{Opened}
use Rattle.re_restore.specs.Replaying.{HasRefusedRecord, items_of, replayed}
use Rattle.re_restore.proofs.Refused.{refused_snapshot, refused_record}
use Rattle.re_restore.proofs.stores.read_store.Goals as goal

pub returns-in_err-found-clause-bad : goal.returns-in_err-found-clause-bad
returns-in_err-found-clause-bad c place err =
    refused_snapshot c.args.p.now c.in_ok-shape.shape c.args.device c.args.snapshot.now (items_of c.args.bodies.now) _ _ place c.in_ok-shape.ensures.of c.in_err-found.ensures.exact c.from_residual-in_err-found.ensures.1 err

pub returns-in_err-replay_records-clause-bad : goal.returns-in_err-replay_records-clause-bad
returns-in_err-replay_records-clause-bad c place err =
    refused_record c.args.p.now c.args.device (5 + length c.args.snapshot.now) c.args.snapshot.now (items_of c.args.bodies.now) c.in_ok-found.found _ _ place
    (c.in_ok-found.ensures.allowed, c.in_ok-found.ensures.found) refl
    (λ q same.
    subst (λ (o : Opened). HasRefusedRecord c.args.p.now c.args.device o (5 + length c.args.snapshot.now) (items_of c.args.bodies.now) q) c.in_ok-replay.ensures.begins
    (subst (λ (d : ℕ). HasRefusedRecord c.args.p.now d (replayed c.in_ok-replay.replay) (5 + length c.args.snapshot.now) (items_of c.args.bodies.now) q) c.in_ok-replay.ensures.device
    (c.in_err-replay_records.ensures.bad q (ap Err same))))
    c.from_residual-in_err-replay_records.ensures.1 err
