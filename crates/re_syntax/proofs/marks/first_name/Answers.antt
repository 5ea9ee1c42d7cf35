use Rattle.std.proofs.Common.{lit≤}
use Rattle.std.proofs.lemmas.Result.{err_from_is_err_and}
use Rattle.re_syntax.proofs.Steps.{after_nothing, done_completes, then_completes}
use Rattle.re_syntax.proofs.Tokens.{begin, next, finish, misses_in}
use Rattle.re_syntax.proofs.Leaves.{mark_completes, name_completes}
use Rattle.re_syntax.proofs.marks.first_name.Goals as goal

pub returns-in_err-opened-clause-stop : goal.returns-in_err-opened-clause-stop
returns-in_err-opened-clause-stop c =
    let p = err_from_is_err_and c.from_residual.result c.from_residual.ensures.1 in
    rw (p.1, p.2) (misses_in _ (begin c.args.i) c.in_err-opened.ensures.stop (lit≤ tt) after_nothing (λ _. then_completes name_completes (λ t. then_completes (mark_completes _) (λ _. done_completes _))))

pub returns-in_err-name-clause-stop : goal.returns-in_err-name-clause-stop
returns-in_err-name-clause-stop c =
    let p = err_from_is_err_and c.from_residual-in_err-name.result c.from_residual-in_err-name.ensures.1 in
    rw (p.1, p.2) (misses_in _ (next (begin c.args.i) c.in_ok-opened.ensures.ok (lit≤ tt) after_nothing) c.in_err-name.ensures.stop (lit≤ tt) after_nothing (λ t. then_completes (mark_completes _) (λ _. done_completes _)))

pub returns-in_err-next-clause-stop : goal.returns-in_err-next-clause-stop
returns-in_err-next-clause-stop c =
    let p = err_from_is_err_and c.from_residual-in_err-next.result c.from_residual-in_err-next.ensures.1 in
    rw (p.1, p.2) (misses_in _ (next (next (begin c.args.i) c.in_ok-opened.ensures.ok (lit≤ tt) after_nothing) c.in_ok-name.ensures.ok (lit≤ tt) after_nothing) c.in_err-next.ensures.stop (lit≤ tt) after_nothing (λ _. done_completes _))

pub returns-clause-ok : goal.returns-clause-ok
returns-clause-ok c = finish (next (next (next (begin c.args.i) c.in_ok-opened.ensures.ok (lit≤ tt) after_nothing) c.in_ok-name.ensures.ok (lit≤ tt) after_nothing) c.in_ok-next.ensures.ok (lit≤ tt) after_nothing) c.in_ok-next.ensures.ok.inside
