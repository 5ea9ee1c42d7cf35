use Rattle.std.proofs.Common.{◌≡◌, ◌-◌, None, length}
use Rattle.re_wire.specs.Reading.{ascending_at}
use Rattle.re_wire.proofs.Several.{with_front}
use Rattle.re_wire.proofs.pairs.get_ascending.Given as goal

abbrev pub invariant-loop : goal.invariant-loop
invariant-loop l =
    record {
      so_far : with_front l.pairs.items (ascending_at l.shape l.kind l.vector.counts (l.count - l.counter) l.before l.bytes l.behind) ≡ ascending_at l.shape l.kind l.vector.counts l.count None l.bytes l.at;
      spare : l.pairs.spare ≡ 0;
      len : length l.pairs.items ≡ l.counter;
    }
