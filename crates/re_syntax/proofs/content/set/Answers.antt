use Rattle.std.proofs.Common.{lit≤, arith}
use Rattle.std.proofs.lemmas.Result.{err_from_is_err_and}
use Rattle.re_syntax.proofs.Steps.{after_nothing, no_more, done_completes}
use Rattle.re_syntax.proofs.Tokens.{next, finish, farther, misses_in, stops_of_misses}
use Rattle.re_syntax.proofs.Leaves.{kind_together}
use Rattle.re_syntax.proofs.Rules.{set_stage}
use Rattle.re_syntax.proofs.Heads.{plain_not_deep}
use Rattle.re_syntax.proofs.content.set.Goals as goal

pub returns-in_err-kind-clause-stop : goal.returns-in_err-kind-clause-stop
returns-in_err-kind-clause-stop c =
    let p = err_from_is_err_and c.from_residual.result c.from_residual.ensures.1 in
    rw (p.1, p.2) (stops_of_misses _ (misses_in _ (kind_together _ _ _ _ _ _ _ (set_stage c.args.tokens.now c.args.i)) c.in_err-kind.ensures.stop (lit≤ tt) after_nothing (λ _. done_completes _)) (plain_not_deep c.args.tokens.now _ c.args.i (λ e. omega (arith, e)) (λ e. omega (arith, e)) (λ e. omega (arith, e))))

pub returns-clause-ok : goal.returns-clause-ok
returns-clause-ok c = farther (finish (next (kind_together _ _ _ _ _ _ _ (set_stage c.args.tokens.now c.args.i)) c.in_ok-kind.ensures.ok (lit≤ tt) after_nothing) c.in_ok-kind.ensures.ok.inside) (lit≤ tt) no_more

pub returns-clause-shallow : goal.returns-clause-shallow
returns-clause-shallow c = plain_not_deep c.args.tokens.now _ c.args.i (λ e. omega (arith, e)) (λ e. omega (arith, e)) (λ e. omega (arith, e))
