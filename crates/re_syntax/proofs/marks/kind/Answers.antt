use Rattle.re_syntax.proofs.Leaves.{kind_accepts, kind_misses, int_kind, bool_kind, sym_kind}
use Rattle.re_syntax.proofs.marks.kind.Goals as goal

pub returns-then-is_word-clause-ok : goal.returns-then-is_word-clause-ok
returns-then-is_word-clause-ok c = kind_accepts c.args.tokens.now c.args.i _ _ c.requires.inside c.requires.ends (c.is_word.ensures.yes c.if-is_word.true) int_kind

pub returns-then-is_word-2-clause-ok : goal.returns-then-is_word-2-clause-ok
returns-then-is_word-2-clause-ok c = kind_accepts c.args.tokens.now c.args.i _ _ c.requires.inside c.requires.ends (c.is_word-else-is_word.ensures.yes c.if-is_word-2.true) bool_kind

pub returns-then-is_word-3-clause-ok : goal.returns-then-is_word-3-clause-ok
returns-then-is_word-3-clause-ok c = kind_accepts c.args.tokens.now c.args.i _ _ c.requires.inside c.requires.ends (c.is_word-else-is_word-2.ensures.yes c.if-is_word-3.true) sym_kind

pub returns-else-is_word-3-clause-stop : goal.returns-else-is_word-3-clause-stop
returns-else-is_word-3-clause-stop c = kind_misses c.args.tokens.now c.args.i c.requires.inside (c.is_word.ensures.other c.if-is_word.false) (c.is_word-else-is_word.ensures.other c.if-is_word-2.false) (c.is_word-else-is_word-2.ensures.other c.if-is_word-3.false)
