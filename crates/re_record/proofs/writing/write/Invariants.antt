use Rattle.std.proofs.Common.{◌≡◌, ◌-◌, ◌++◌, take}
use Rattle.re_record.proofs.writing.write.Given as goal

abbrev pub invariant-loop-byte : goal.invariant-loop-byte
invariant-loop-byte l =
    record {
      items : l.out.items ≡ l.fn.out.items ++ take l.byte-index l.bytes;
      spare : l.out.spare ≡ l.fn.out.spare - l.byte-index;
    }
