use Rattle.re_syntax.proofs.Heads.{source_refused}
use Rattle.re_syntax.proofs.source.source.Goals as goal

pub returns-clause-stop : goal.returns-clause-stop
returns-clause-stop c = source_refused c.args.tokens.now c.args.i c.requires.inside (c.is_word.ensures.other c.if-is_word.false) (c.is_word-2.ensures.other c.if-is_word-2.false) (c.is_word-3.ensures.other c.if-is_word-3.false) (c.is_word-4.ensures.other c.if-is_word-4.false)
