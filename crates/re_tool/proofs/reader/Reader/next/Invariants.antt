use Rattle.std.proofs.Common.{◌≤◌, ◌-◌, []}
use Rattle.re_tool.specs.Reads.{Reads, limit}
use Rattle.re_tool.proofs.reader.Reader.next.Given as goal

abbrev pub invariant-pieces : goal.invariant-pieces
invariant-pieces g l = let seen = g.O.Outside.seen in record {
  reads : Reads l.fn.self l.self l.line l.fn.line.most (seen l.fn.out) (seen l.out) [];
  few : l.self.taken ≤ limit;
}

abbrev pub decreases-pieces : goal.decreases-pieces
decreases-pieces g l = 16777217 - l.self.taken
