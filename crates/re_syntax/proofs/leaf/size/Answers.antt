use Rattle.std.proofs.Common.{lit≤}
use Rattle.std.proofs.lemmas.Result.{err_from_is_err_and}
use Rattle.re_syntax.proofs.Steps.{after_nothing, never_more, done_completes}
use Rattle.re_syntax.proofs.Tokens.{next, finish, farther, misses_in}
use Rattle.re_syntax.proofs.Leaves.{only_name_together}
use Rattle.re_syntax.proofs.Rules.{size_stage}
use Rattle.re_syntax.proofs.leaf.size.Goals as goal

pub returns-in_err-set-clause-stop : goal.returns-in_err-set-clause-stop
returns-in_err-set-clause-stop c = λ opened.
    let p = err_from_is_err_and c.from_residual.result c.from_residual.ensures.1 in
    rw (p.1, p.2) (misses_in _ (only_name_together _ _ _ _ _ _ _ (size_stage opened c.args.tokens.now c.args.i c.requires.word)) c.in_err-set.ensures.stop (lit≤ tt) after_nothing (λ _. done_completes _))

pub returns-clause-ok : goal.returns-clause-ok
returns-clause-ok c = λ opened. record { expression = _; stands = c.leaf.ensures; accepts = farther (finish (next (only_name_together _ _ _ _ _ _ _ (size_stage opened c.args.tokens.now c.args.i c.requires.word)) c.in_ok-set.ensures.ok (lit≤ tt) after_nothing) c.in_ok-set.ensures.ok.inside) (lit≤ tt) never_more }
