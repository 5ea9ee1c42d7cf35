use Rattle.std.proofs.Common.{◌+◌, ◌-◌, length}
use Rattle.re_tool.proofs.Parts.{PartSoFar}
use Rattle.re_tool.proofs.part.read_part.Given as goal

abbrev pub invariant-lines : goal.invariant-lines
invariant-lines g l = PartSoFar (g.O.Outside.seen l.fn.out) (g.O.Outside.seen l.out) l.reader l.text l.line

abbrev pub decreases-lines : goal.decreases-lines
decreases-lines g l = (16777216 - l.reader.taken) + length l.reader.chunk
