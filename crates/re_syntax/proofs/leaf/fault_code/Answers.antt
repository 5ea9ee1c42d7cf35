use Rattle.re_syntax.proofs.Leaves.{code_accepts, code_misses}
use Rattle.re_syntax.proofs.leaf.fault_code.Goals as goal

pub returns-in-Some-clause-ok : goal.returns-in-Some-clause-ok
returns-in-Some-clause-ok c = code_accepts c.args.tokens.now c.args.i _ c.requires.inside c.requires.ends c.in-Some.ensures.0 c.in-Some.ensures.1 c.in-Some.ensures.2

pub returns-in-None-clause-stop : goal.returns-in-None-clause-stop
returns-in-None-clause-stop c = code_misses c.args.tokens.now c.args.i c.requires.inside (λ k e a b. c.in-None.ensures k e a b)
