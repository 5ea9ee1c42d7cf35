use Rattle.std.proofs.Common.{lit≤}
use Rattle.std.proofs.lemmas.Result.{err_from_is_err_and}
use Rattle.re_syntax.proofs.Steps.{after_nothing, never_more, done_completes}
use Rattle.re_syntax.proofs.Tokens.{finish, farther, misses_in}
use Rattle.re_syntax.proofs.Leaves.{leaf_stage}
use Rattle.re_syntax.proofs.Rules.{arg_stage, own_stage}
use Rattle.re_syntax.proofs.Leaves.{next_one_literal, no_end_word}
use Rattle.re_syntax.proofs.leaf.read_leaf.Goals as goal

pub returns-in_err-value-clause-stop : goal.returns-in_err-value-clause-stop
returns-in_err-value-clause-stop c = λ opened.
    let p = err_from_is_err_and c.from_residual.result c.from_residual.ensures.1 in
    rw (p.1, p.2) (misses_in _ (leaf_stage opened c.args.tokens.now c.args.i c.requires.bracket c.requires.negation c.requires.recovery c.requires.membership (c.is_word.ensures.other c.if-is_word.false) (c.is_word-2.ensures.other c.if-is_word-2.false) (c.is_word-3.ensures.other c.if-is_word-3.false) (c.is_word-4.ensures.other c.if-is_word-4.false)) c.in_err-value.ensures.stop (lit≤ tt) after_nothing (λ _. done_completes _))

pub returns-clause-ok : goal.returns-clause-ok
returns-clause-ok c = λ opened. record { expression = _; stands = c.leaf-2.ensures; accepts = farther (finish (next_one_literal (leaf_stage opened c.args.tokens.now c.args.i c.requires.bracket c.requires.negation c.requires.recovery c.requires.membership (c.is_word.ensures.other c.if-is_word.false) (c.is_word-2.ensures.other c.if-is_word-2.false) (c.is_word-3.ensures.other c.if-is_word-3.false) (c.is_word-4.ensures.other c.if-is_word-4.false)) c.in_ok-value.ensures.ok) c.in_ok-value.ensures.ok.inside) (lit≤ tt) never_more }

pub returns-then-is_word-3-clause-ok : goal.returns-then-is_word-3-clause-ok
returns-then-is_word-3-clause-ok c = λ opened. record { expression = _; stands = c.leaf.ensures; accepts = farther (finish (arg_stage opened c.args.tokens.now c.args.i (c.is_word-3.ensures.yes c.if-is_word-3.true)) (c.requires.ends c.args.i c.requires.inside (no_end_word (c.is_word-3.ensures.yes c.if-is_word-3.true)))) (lit≤ tt) never_more }

pub returns-then-is_word-4-clause-ok : goal.returns-then-is_word-4-clause-ok
returns-then-is_word-4-clause-ok c = λ opened. record { expression = _; stands = c.leaf-then-is_word-4.ensures; accepts = farther (finish (own_stage opened c.args.tokens.now c.args.i (c.is_word-4.ensures.yes c.if-is_word-4.true)) (c.requires.ends c.args.i c.requires.inside (no_end_word (c.is_word-4.ensures.yes c.if-is_word-4.true)))) (lit≤ tt) never_more }
