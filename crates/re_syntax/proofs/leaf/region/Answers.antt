use Rattle.re_syntax.proofs.Leaves.{unwritten_accepts, written_accepts, region_misses}
use Rattle.re_syntax.proofs.Leaves.{inside_next, no_end_word}
use Rattle.re_syntax.proofs.leaf.region.Goals as goal

pub returns-then-not-is_word-clause-ok : goal.returns-then-not-is_word-clause-ok
returns-then-not-is_word-clause-ok c = unwritten_accepts c.args.tokens.now c.args.i c.requires.inside (c.is_word.ensures.other c.if-not-is_word.true)

pub returns-in-Some-clause-ok : goal.returns-in-Some-clause-ok
returns-in-Some-clause-ok c =
    let e = c.in-Some.ensures in
    let h = c.is_word.ensures.yes c.if-not-is_word.false in
    written_accepts c.args.tokens.now c.args.i _ (inside_next c.args.tokens.now c.args.i c.requires.inside c.requires.ends (no_end_word h)) c.requires.ends h e.0 e.1 e.2

pub returns-in-None-clause-stop : goal.returns-in-None-clause-stop
returns-in-None-clause-stop c =
    let h = c.is_word.ensures.yes c.if-not-is_word.false in
    region_misses c.args.tokens.now c.args.i (inside_next c.args.tokens.now c.args.i c.requires.inside c.requires.ends (no_end_word h)) h (λ k e a b. c.in-None.ensures k e a b)
