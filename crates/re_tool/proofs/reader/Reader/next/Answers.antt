use Rattle.std.proofs.Common.{arith}
use Rattle.re_tool.proofs.PassedLines.{reads_none, reads_pass, reads_fill, reads_fails}
use Rattle.re_tool.proofs.reader.Reader.next.Goals as goal

pub pieces-init : goal.pieces-init
pieces-init g c = record { reads = reads_none _ _ _ _ c.clear.ensures; few = c.requires.few }

pub returns-then-found : goal.returns-then-found
returns-then-found g c =
    let e = rw c.if-found.true at c.in-Ok.ensures in
    (reads_pass _ _ _ _ _ _ _ _ _ c.pieces.invariant.reads e, omega (arith, e.taken))

pub pieces-preserved : goal.pieces-preserved
pieces-preserved g c =
    let s = rw c.if-found.false at c.in-Ok.ensures in
    let e = rw c.in-Ok-Some.field-0-is at c.in-Ok-Some.ensures in
    record {
      reads = reads_fill _ _ _ _ _ _ _ _ (reads_pass _ _ _ _ _ _ _ _ _ c.pieces.invariant.reads s.0) s.1 e.0;
      few = e.1;
    }

pub returns-in-Ok-End : goal.returns-in-Ok-End
returns-in-Ok-End g c =
    let s = rw c.if-found.false at c.in-Ok.ensures in
    let e = rw c.in-Ok-End.field-0-is at c.in-Ok-End.ensures in
    (reads_fill _ _ _ _ _ _ _ _ (reads_pass _ _ _ _ _ _ _ _ _ c.pieces.invariant.reads s.0) s.1 e.0, e.1, e.2, e.3)

pub returns-in-Ok-TooLong : goal.returns-in-Ok-TooLong
returns-in-Ok-TooLong g c =
    let s = rw c.if-found.false at c.in-Ok.ensures in
    let e = rw c.in-Ok-TooLong.field-0-is at c.in-Ok-TooLong.ensures in
    (reads_fill _ _ _ _ _ _ _ _ (reads_pass _ _ _ _ _ _ _ _ _ c.pieces.invariant.reads s.0) s.1 e.0, e.1, e.2)

pub returns-in-Err : goal.returns-in-Err
returns-in-Err g c =
    let s = rw c.if-found.false at c.in-Ok.ensures in
    let e = c.in-Err.ensures in
    (reads_fails _ _ _ _ _ _ _ _ (reads_pass _ _ _ _ _ _ _ _ _ c.pieces.invariant.reads s.0) s.1 e.0 e.1 e.2, omega (arith, e.1, c.pieces.invariant.few, s.0.taken), e.2)
