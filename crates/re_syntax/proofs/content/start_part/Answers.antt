use Rattle.std.proofs.Common.{lit≤}
use Rattle.std.proofs.lemmas.Result.{err_from_is_err_and}
use Rattle.re_syntax.proofs.Steps.{after_nothing, done_completes, then_completes}
use Rattle.re_syntax.proofs.Tokens.{begin, next, finish, misses_in}
use Rattle.re_syntax.proofs.Leaves.{mark_completes, literal_completes}
use Rattle.re_syntax.proofs.content.start_part.Goals as goal

pub returns-in_err-kind-clause-stop : goal.returns-in_err-kind-clause-stop
returns-in_err-kind-clause-stop c =
    let p = err_from_is_err_and c.from_residual.result c.from_residual.ensures.1 in
    rw (p.1, p.2) (misses_in _ (begin c.args.i) c.in_err-kind.ensures.stop (lit≤ tt) after_nothing (λ _. then_completes (mark_completes _) (λ _. then_completes (literal_completes) (λ _. done_completes _))))

pub returns-in_err-start-clause-stop : goal.returns-in_err-start-clause-stop
returns-in_err-start-clause-stop c =
    let p = err_from_is_err_and c.from_residual-in_err-start.result c.from_residual-in_err-start.ensures.1 in
    rw (p.1, p.2) (misses_in _ (next (begin c.args.i) c.in_ok-kind.ensures.ok (lit≤ tt) after_nothing) c.in_err-start.ensures.stop (lit≤ tt) after_nothing (λ _. then_completes (literal_completes) (λ _. done_completes _)))

pub returns-in_err-value-clause-stop : goal.returns-in_err-value-clause-stop
returns-in_err-value-clause-stop c =
    let p = err_from_is_err_and c.from_residual-in_err-value.result c.from_residual-in_err-value.ensures.1 in
    rw (p.1, p.2) (misses_in _ (next (next (begin c.args.i) c.in_ok-kind.ensures.ok (lit≤ tt) after_nothing) c.in_ok-start.ensures.ok (lit≤ tt) after_nothing) c.in_err-value.ensures.stop (lit≤ tt) after_nothing (λ _. done_completes _))

pub returns-clause-ok : goal.returns-clause-ok
returns-clause-ok c = finish (next (next (next (begin c.args.i) c.in_ok-kind.ensures.ok (lit≤ tt) after_nothing) c.in_ok-start.ensures.ok (lit≤ tt) after_nothing) c.in_ok-value.ensures.ok (lit≤ tt) after_nothing) c.in_ok-value.ensures.ok.inside
