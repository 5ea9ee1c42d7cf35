use Rattle.std.proofs.Common.{◌≡◌, take}
use Rattle.std.specs.List.{flat_map}
use Rattle.re_record.specs.Spellings.{put_bytes}
use Rattle.re_wire.specs.Appended.{appended}
use Rattle.re_record.proofs.puts.write_puts.Given as goal

abbrev pub invariant-loop-put : goal.invariant-loop-put
invariant-loop-put l = l.out ≡ appended l.fn.out (flat_map put_bytes (take l.put-index l.puts))
