use Rattle.std.proofs.Common.{lit≤}
use Rattle.std.proofs.lemmas.Result.{err_from_is_err_and}
use Rattle.re_syntax.proofs.Steps.{after_nothing, done_completes, then_completes}
use Rattle.re_syntax.proofs.Tokens.{next, next_one, finish, misses_in, stops_of_misses, stops_in, after_mark}
use Rattle.re_syntax.proofs.Leaves.{mark_completes, first_name_together}
use Rattle.re_syntax.proofs.Rules.{filtered_stage}
use Rattle.re_syntax.proofs.Levels.{expression_completes, no_close}
use Rattle.re_syntax.proofs.Depths.{misses_deep}
use Rattle.re_syntax.proofs.Heads.{reading, head_of_filter, filter_up, filter_down}
use Rattle.re_syntax.proofs.source.filtered.Goals as goal

pub returns-in_err-source-clause-stop : goal.returns-in_err-source-clause-stop
returns-in_err-source-clause-stop c =
    let p = err_from_is_err_and c.from_residual.result c.from_residual.ensures.1 in
    rw (p.1, p.2) (misses_deep _ (first_name_together _ _ _ _ _ _ _ (filtered_stage c.args.tokens.now c.args.i c.requires.word)) c.in_err-source.ensures.stop (lit≤ tt) (λ _. then_completes (expression_completes _ (lit≤ tt)) (λ _. then_completes (mark_completes _) (λ _. done_completes _))) (λ n d. let h = head_of_filter c.requires.word d.0 in (h.0, n, h.1)))

pub returns-in_err-expr-clause-stop : goal.returns-in_err-expr-clause-stop
returns-in_err-expr-clause-stop c =
    let p = err_from_is_err_and c.from_residual-in_err-expr.result c.from_residual-in_err-expr.ensures.1 in
    rw (p.1, p.2) (stops_in _ (next (first_name_together _ _ _ _ _ _ _ (filtered_stage c.args.tokens.now c.args.i c.requires.word)) c.in_ok-source.ensures.ok (lit≤ tt) after_nothing) c.in_err-expr.ensures.stop (lit≤ tt) (after_mark _ no_close) (λ _. then_completes (mark_completes _) (λ _. done_completes _)) (filter_up c.args.tokens.now _ c.args.i _ c.requires.word (reading c.in_ok-source.ensures.ok)) (filter_down c.args.tokens.now _ c.args.i _ c.requires.word (reading c.in_ok-source.ensures.ok)))

pub returns-in_err-next-clause-stop : goal.returns-in_err-next-clause-stop
returns-in_err-next-clause-stop c =
    let p = err_from_is_err_and c.from_residual-in_err-next.result c.from_residual-in_err-next.ensures.1 in
    rw (p.1, p.2) (stops_of_misses _ (misses_in _ (next (next (first_name_together _ _ _ _ _ _ _ (filtered_stage c.args.tokens.now c.args.i c.requires.word)) c.in_ok-source.ensures.ok (lit≤ tt) after_nothing) c.in_ok-expr.ensures.ok (lit≤ tt) (after_mark _ no_close)) c.in_err-next.ensures.stop (lit≤ tt) after_nothing (λ _. done_completes _)) (λ n d. c.in_ok-expr.ensures.shallow n ((filter_down c.args.tokens.now _ c.args.i _ c.requires.word (reading c.in_ok-source.ensures.ok)) n d)))

pub returns-clause-ok : goal.returns-clause-ok
returns-clause-ok c = finish (next_one (next (next (first_name_together _ _ _ _ _ _ _ (filtered_stage c.args.tokens.now c.args.i c.requires.word)) c.in_ok-source.ensures.ok (lit≤ tt) after_nothing) c.in_ok-expr.ensures.ok (lit≤ tt) (after_mark _ no_close)) c.in_ok-next.ensures.ok (lit≤ tt) after_nothing) c.in_ok-next.ensures.ok.inside

pub returns-clause-shallow : goal.returns-clause-shallow
returns-clause-shallow c = λ n d. c.in_ok-expr.ensures.shallow n ((filter_down c.args.tokens.now _ c.args.i _ c.requires.word (reading c.in_ok-source.ensures.ok)) n d)
