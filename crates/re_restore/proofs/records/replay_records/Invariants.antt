-- The records so far are done, and end where the next one's gate stands.
use Rattle.std.proofs.Common.{◌≡◌, ◌+◌, length, take}
use Rattle.std.specs.List.{flat_map}
use Rattle.re_outside.specs.Frame.{opened}
use Rattle.re_restore.specs.Replaying.{HasReplayed, IsReplayOf, replayed, items_of}
use Rattle.re_restore.proofs.records.replay_records.Given as goal

abbrev pub invariant-loop-body : goal.invariant-loop-body
invariant-loop-body l = record {
  keeps : IsReplayOf l.p l.replay;
  device : l.replay.replica.device ≡ l.fn.replay.replica.device;
  done : HasReplayed l.p l.fn.replay.replica.device (replayed l.fn.replay) (items_of (take l.body-index l.bodies)) (replayed l.replay);
  gate : l.gate ≡ l.fn.start + length (flat_map opened (items_of (take l.body-index l.bodies)));
}
