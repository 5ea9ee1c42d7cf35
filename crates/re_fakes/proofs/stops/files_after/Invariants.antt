use Rattle.std.proofs.Common.{◌≡◌, take}
use Rattle.re_fakes.specs.Replay.{fill_of, Followed}
use Rattle.re_fakes.proofs.stops.files_after.Given as goal

abbrev pub invariant-loop-step : goal.invariant-loop-step
invariant-loop-step l = record {
  fill : l.replay.fill ≡ fill_of l.choice;
  followed : Followed (fill_of l.choice) l.start (take l.step-index l.steps) l.replay.now l.replay.left;
}
