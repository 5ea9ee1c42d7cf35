-- What the loop keeps: so many devices are opened as it has gone through.
use Rattle.std.proofs.Common.{◌≡◌, length, true}
use Rattle.re_outside.specs.Port.{past_in}
use Rattle.re_world.specs.Opening.{AreOpened, EachOpened, after_opening}
use Rattle.re_world.specs.State.{AllPlaced}
use Rattle.re_world.proofs.opening.open_all.Given as goal

abbrev pub invariant-loop-number : goal.invariant-loop-number
invariant-loop-number g l = record {
  count : length l.devices.items ≡ l.number;
  placed : AllPlaced l.p l.devices.items;
  each : EachOpened l.p l.devices.items;
  faults : (g.O.Outside.seen l.out).faults ≡ (g.O.Outside.seen l.fn.out).faults;
  left : g.O.Outside.tells ≡ true → (g.O.Outside.seen l.out).left ≡ (g.O.Outside.seen l.fn.out).left;
  opened : g.O.Outside.tells ≡ true → AreOpened l.p l.devices.items (g.O.Outside.seen l.fn.out) (g.O.Outside.seen l.out);
  moment : g.O.Outside.tells ≡ true → past_in 0 (g.O.Outside.seen l.out) ≡ after_opening l.p l.number (past_in 0 (g.O.Outside.seen l.fn.out));
}
