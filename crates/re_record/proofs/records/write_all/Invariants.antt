use Rattle.std.proofs.Common.{◌≡◌, take}
use Rattle.std.specs.List.{flat_map}
use Rattle.re_record.specs.Spellings.{logged_bytes}
use Rattle.re_record.proofs.records.write_all.Given as goal
use Rattle.re_wire.specs.Appended.{appended}

abbrev pub invariant-loop-logged : goal.invariant-loop-logged
invariant-loop-logged l = l.out ≡ appended l.fn.out (flat_map (logged_bytes l.shape.devices) (take l.logged-index l.entries))
