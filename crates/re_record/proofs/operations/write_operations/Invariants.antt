use Rattle.std.proofs.Common.{◌≡◌, take}
use Rattle.std.specs.List.{flat_map}
use Rattle.re_record.specs.Spellings.{operation_bytes}
use Rattle.re_wire.specs.Appended.{appended}
use Rattle.re_record.proofs.operations.write_operations.Given as goal

abbrev pub invariant-loop-op : goal.invariant-loop-op
invariant-loop-op l = l.out ≡ appended l.fn.out (flat_map operation_bytes (take l.op-index l.ops))
