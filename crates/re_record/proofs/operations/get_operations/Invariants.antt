use Rattle.std.proofs.Common.{◌≡◌, ◌-◌, ◌≤◌, length}
use Rattle.re_record.specs.Reading.{operation_at}
use Rattle.re_wire.proofs.Several.{with_front}
use Rattle.re_wire.specs.Reading.{several_at}
use Rattle.re_record.proofs.operations.get_operations.Given as goal

abbrev pub invariant-loop : goal.invariant-loop
invariant-loop l =
    record {
      so_far : with_front l.ops.items (several_at (operation_at l.shape l.bytes) (l.count - l.counter) l.behind) ≡ several_at (operation_at l.shape l.bytes) l.count l.at;
      spare : l.ops.spare ≡ 0;
      within : l.behind ≤ length l.bytes;
    }
