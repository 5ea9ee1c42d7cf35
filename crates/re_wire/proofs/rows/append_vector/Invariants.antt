use Rattle.std.proofs.Common.{◌≡◌, ◌+◌, ◌*◌}
use Rattle.re_terms.specs.Spellings.{vector_bytes}
use Rattle.re_wire.specs.Appended.{appended}
use Rattle.re_wire.proofs.rows.append_vector.Given as goal

abbrev pub invariant-loop-device : goal.invariant-loop-device
invariant-loop-device l =
    record {
      written : l.out ≡ appended l.fn.out (vector_bytes l.device l.vector.counts);
      room : l.out.spare + 8 * l.device ≡ l.fn.out.spare;
    }
