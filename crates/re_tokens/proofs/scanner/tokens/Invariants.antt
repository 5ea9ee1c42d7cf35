use Rattle.std.proofs.Common.{length}
use Rattle.re_tokens.proofs.Reading.{Reads}
use Rattle.re_tokens.proofs.scanner.tokens.Given as goal

abbrev pub invariant-loop-rest : goal.invariant-loop-rest
invariant-loop-rest l = Reads l.text l.found l.rest

abbrev pub decreases-loop-rest : goal.decreases-loop-rest
decreases-loop-rest l = length l.rest
