use Rattle.std.proofs.Common.{◌≡◌, ◌≤◌, ◌+◌, ◌-◌, length}
use Rattle.re_outside.specs.Outside.{Seen}
use Rattle.re_tool.specs.Reads.{limit}
use Rattle.re_tool.specs.Serving.{Starts}
use Rattle.re_tool.proofs.Sessions.{SoFar}
use Rattle.re_tool.proofs.running.serve.Given as goal

abbrev pub invariant-lines : goal.invariant-lines
invariant-lines g l = let seen = g.O.Outside.seen in record {
  so_far : (start : Seen) → Starts start (seen l.fn.out) l.fn.devices.program l.fn.reader l.fn.devices → SoFar start (seen l.out) l.fn.devices.program l.reader l.devices;
  program : l.devices.program ≡ l.fn.devices.program;
  few : l.reader.taken ≤ limit;
  most : l.line.most ≡ 1026;
}

abbrev pub decreases-lines : goal.decreases-lines
decreases-lines g l = (16777216 - l.reader.taken) + length l.reader.chunk
