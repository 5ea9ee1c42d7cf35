use Rattle.std.proofs.Common.{lit≤}
use Rattle.std.proofs.lemmas.Result.{err_from_is_err_and}
use Rattle.re_syntax.proofs.Steps.{after_nothing, done_completes, then_completes}
use Rattle.re_syntax.proofs.Tokens.{next, finish, stops_in}
use Rattle.re_syntax.proofs.Rules.{signal_stage}
use Rattle.re_syntax.proofs.Levels.{expression_completes}
use Rattle.re_syntax.proofs.Depths.{misses_deep}
use Rattle.re_syntax.proofs.Heads.{reading, signal_reads, signal_up, signal_down, after_whole}
use Rattle.re_syntax.proofs.content.signal.Goals as goal

pub returns-in_err-start-clause-stop : goal.returns-in_err-start-clause-stop
returns-in_err-start-clause-stop c =
    let p = err_from_is_err_and c.from_residual.result c.from_residual.ensures.1 in
    rw (p.1, p.2) (misses_deep _ (signal_stage c.args.tokens.now c.args.i) c.in_err-start.ensures.stop (lit≤ tt) (λ _. then_completes (expression_completes _ (lit≤ tt)) (λ _. done_completes _)) (signal_reads c.args.tokens.now c.args.i))

pub returns-in_err-expr-clause-stop : goal.returns-in_err-expr-clause-stop
returns-in_err-expr-clause-stop c =
    let p = err_from_is_err_and c.from_residual-in_err-expr.result c.from_residual-in_err-expr.ensures.1 in
    rw (p.1, p.2) (stops_in _ (next (signal_stage c.args.tokens.now c.args.i) c.in_ok-start.ensures.ok (lit≤ tt) after_nothing) c.in_err-expr.ensures.stop (lit≤ tt) (after_whole _) (λ _. done_completes _) (signal_up c.args.tokens.now c.args.i _ (reading c.in_ok-start.ensures.ok).fits (reading c.in_ok-start.ensures.ok).next) (signal_down c.args.tokens.now c.args.i _ (reading c.in_ok-start.ensures.ok).next))

pub returns-clause-ok : goal.returns-clause-ok
returns-clause-ok c = finish (next (next (signal_stage c.args.tokens.now c.args.i) c.in_ok-start.ensures.ok (lit≤ tt) after_nothing) c.in_ok-expr.ensures.ok (lit≤ tt) (after_whole _)) c.in_ok-expr.ensures.ok.inside

pub returns-clause-shallow : goal.returns-clause-shallow
returns-clause-shallow c = λ n d. c.in_ok-expr.ensures.shallow n ((signal_down c.args.tokens.now c.args.i _ (reading c.in_ok-start.ensures.ok).next) n d)
