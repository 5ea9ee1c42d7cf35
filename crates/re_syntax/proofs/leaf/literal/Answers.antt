use Rattle.re_syntax.proofs.Leaves.{truth_accepts, falsity_accepts}
use Rattle.re_syntax.proofs.leaf.literal.Goals as goal

pub returns-then-is_word-clause-ok : goal.returns-then-is_word-clause-ok
returns-then-is_word-clause-ok c = truth_accepts c.args.tokens.now c.args.i c.requires.inside c.requires.ends (c.is_word.ensures.yes c.if-is_word.true)

pub returns-then-is_word-2-clause-ok : goal.returns-then-is_word-2-clause-ok
returns-then-is_word-2-clause-ok c = falsity_accepts c.args.tokens.now c.args.i c.requires.inside c.requires.ends (c.is_word-2.ensures.yes c.if-is_word-2.true)
