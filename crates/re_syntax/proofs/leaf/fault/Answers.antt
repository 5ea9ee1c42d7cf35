use Rattle.std.proofs.Common.{lit≤}
use Rattle.std.proofs.lemmas.Result.{err_from_is_err_and}
use Rattle.re_syntax.proofs.Steps.{after_nothing, never_more, done_completes, then_completes}
use Rattle.re_syntax.proofs.Tokens.{next, finish, farther, misses_in}
use Rattle.re_syntax.proofs.Leaves.{mark_completes, code_completes}
use Rattle.re_syntax.proofs.Rules.{fault_stage}
use Rattle.re_syntax.proofs.leaf.fault.Goals as goal

pub returns-in_err-opened-clause-stop : goal.returns-in_err-opened-clause-stop
returns-in_err-opened-clause-stop c = λ opened.
    let p = err_from_is_err_and c.from_residual.result c.from_residual.ensures.1 in
    rw (p.1, p.2) (misses_in _ (fault_stage opened c.args.tokens.now c.args.i c.requires.word) c.in_err-opened.ensures.stop (lit≤ tt) after_nothing (λ _. then_completes (code_completes) (λ _. then_completes (mark_completes _) (λ _. done_completes _))))

pub returns-in_err-code-clause-stop : goal.returns-in_err-code-clause-stop
returns-in_err-code-clause-stop c = λ opened.
    let p = err_from_is_err_and c.from_residual-in_err-code.result c.from_residual-in_err-code.ensures.1 in
    rw (p.1, p.2) (misses_in _ (next (fault_stage opened c.args.tokens.now c.args.i c.requires.word) c.in_ok-opened.ensures.ok (lit≤ tt) after_nothing) c.in_err-code.ensures.stop (lit≤ tt) after_nothing (λ _. then_completes (mark_completes _) (λ _. done_completes _)))

pub returns-in_err-next-clause-stop : goal.returns-in_err-next-clause-stop
returns-in_err-next-clause-stop c = λ opened.
    let p = err_from_is_err_and c.from_residual-in_err-next.result c.from_residual-in_err-next.ensures.1 in
    rw (p.1, p.2) (misses_in _ (next (next (fault_stage opened c.args.tokens.now c.args.i c.requires.word) c.in_ok-opened.ensures.ok (lit≤ tt) after_nothing) c.in_ok-code.ensures.ok (lit≤ tt) after_nothing) c.in_err-next.ensures.stop (lit≤ tt) after_nothing (λ _. done_completes _))

pub returns-clause-ok : goal.returns-clause-ok
returns-clause-ok c = λ opened. record { expression = _; stands = c.leaf.ensures; accepts = farther (finish (next (next (next (fault_stage opened c.args.tokens.now c.args.i c.requires.word) c.in_ok-opened.ensures.ok (lit≤ tt) after_nothing) c.in_ok-code.ensures.ok (lit≤ tt) after_nothing) c.in_ok-next.ensures.ok (lit≤ tt) after_nothing) c.in_ok-next.ensures.ok.inside) (lit≤ tt) never_more }
