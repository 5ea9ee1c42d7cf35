use Rattle.std.proofs.Common.{◌≡◌, ◌+◌, ◌*◌}
use Rattle.re_terms.specs.Spellings.{rows_bytes}
use Rattle.re_wire.specs.Appended.{appended}
use Rattle.re_wire.proofs.rows.append_rows.Given as goal

abbrev pub invariant-loop-device : goal.invariant-loop-device
invariant-loop-device l =
    record {
      written : l.out ≡ appended l.fn.out (rows_bytes l.device l.rows);
      room : l.out.spare + 16 * l.device ≡ l.fn.out.spare;
    }
