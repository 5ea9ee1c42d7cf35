use Rattle.std.proofs.Common.{refl}
use Rattle.std.proofs.lemmas.Bool.{ne_eqb}
use Rattle.re_tool.proofs.PassedLines.{passes_more}
use Rattle.re_tool.proofs.reader.Reader.scan.Goals as goal

pub loop-byte-preserved : goal.loop-byte-preserved
loop-byte-preserved c = passes_more _ _ _ _ _ _ c.in-Some.byte c.loop-byte.invariant c.in-Some.ensures (ne_eqb _ _ c.if-byte-eq-LF.false) c.in_ok-push.ensures refl
