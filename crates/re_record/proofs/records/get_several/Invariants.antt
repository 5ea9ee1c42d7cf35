use Rattle.std.proofs.Common.{◌≡◌, ◌-◌, ◌≤◌, length}
use Rattle.re_record.specs.Reading.{logged_at}
use Rattle.re_wire.proofs.Several.{with_front}
use Rattle.re_wire.specs.Reading.{several_at}
use Rattle.re_record.proofs.records.get_several.Given as goal

abbrev pub invariant-loop : goal.invariant-loop
invariant-loop l =
    record {
      so_far : with_front l.entries.items (several_at (logged_at l.decls l.shape l.bytes) (l.count - l.counter) l.behind) ≡ several_at (logged_at l.decls l.shape l.bytes) l.count l.at;
      spare : l.entries.spare ≡ 0;
      within : l.behind ≤ length l.bytes;
    }
