use Rattle.std.proofs.Common.{◌≡◌, ◌-◌, ◌≤◌, length}
use Rattle.re_record.specs.Reading.{puts_at}
use Rattle.re_wire.proofs.Several.{with_front}
use Rattle.re_record.proofs.puts.get_puts.Given as goal

abbrev pub invariant-loop : goal.invariant-loop
invariant-loop l =
    record {
      so_far : with_front l.puts.items (puts_at l.decls l.symbols l.role (l.count - l.counter) l.least l.bytes l.behind) ≡ puts_at l.decls l.symbols l.role l.count 0 l.bytes l.at;
      spare : l.puts.spare ≡ 0;
      len : length l.puts.items ≡ l.counter;
      within : l.behind ≤ length l.bytes;
    }
