-- The entries so far are done, and none was refused.
use Rattle.std.proofs.Common.{◌≡◌, take}
use Rattle.re_record.specs.Restoring.{AreAccepted, after_all}
use Rattle.re_restore.specs.Replaying.{IsReplayOf, replayed}
use Rattle.re_restore.proofs.records.replay_entries.Given as goal

abbrev pub invariant-loop-i : goal.invariant-loop-i
invariant-loop-i l = record {
  keeps : IsReplayOf l.p l.replay;
  device : l.replay.replica.device ≡ l.fn.replay.replica.device;
  done : replayed l.replay ≡ after_all l.p l.fn.replay.replica.device (take l.i l.entries) (replayed l.fn.replay);
  accepted : AreAccepted l.p l.fn.replay.replica.device (replayed l.fn.replay) (take l.i l.entries);
}
