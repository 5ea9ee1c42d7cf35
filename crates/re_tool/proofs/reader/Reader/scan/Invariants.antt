use Rattle.std.proofs.Common.{[], length}
use Rattle.re_tool.specs.Reads.{Passes}
use Rattle.re_tool.proofs.reader.Reader.scan.Given as goal

abbrev pub invariant-loop-byte : goal.invariant-loop-byte
invariant-loop-byte l = Passes l.fn.self l.self l.fn.line l.line []

abbrev pub decreases-loop-byte : goal.decreases-loop-byte
decreases-loop-byte l = length l.self.chunk
