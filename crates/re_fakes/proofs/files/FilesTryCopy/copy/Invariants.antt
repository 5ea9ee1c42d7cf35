use Rattle.std.proofs.Common.{◌≡◌, take}
use Rattle.re_fakes.proofs.files.FilesTryCopy.copy.Given as goal

abbrev pub invariant-loop-bytes : goal.invariant-loop-bytes
invariant-loop-bytes l = l.list.items ≡ take l.bytes-index l.bytes-items
