use Rattle.std.proofs.Common.{lit≤}
use Rattle.std.proofs.lemmas.Result.{err_from_is_err_and}
use Rattle.re_terms.specs.declared.token.Mark.TheVariants as mark
use Rattle.re_syntax.specs.Steps.{Done}
use Rattle.re_syntax.proofs.Steps.{after_nothing, done_completes, then_completes}
use Rattle.re_syntax.proofs.Tokens.{next, finish, misses_in, stops_of_misses, stops_in}
use Rattle.re_syntax.proofs.Leaves.{mark_completes, name_completes, region_completes, start_together}
use Rattle.re_syntax.proofs.Rules.{fold_stage}
use Rattle.re_syntax.proofs.Levels.{expression_completes}
use Rattle.re_syntax.proofs.Depths.{misses_deep}
use Rattle.re_syntax.proofs.Heads.{fold_up, fold_down, fold_reads_start, fold_reads_on, fold_reads_name, fold_reads_do, after_fold, after_region}
use Rattle.re_terms.specs.declared.raw.RawBody.TheVariants as body
use Rattle.re_terms.specs.declared.reserved.TheConstants.{ON, DO}
use Rattle.re_syntax.specs.Steps.{Then, ARegion, Single, Named, AnExpression}
use Rattle.re_syntax.proofs.content.fold.Goals as goal

pub returns-in_err-kind-clause-stop : goal.returns-in_err-kind-clause-stop
returns-in_err-kind-clause-stop c =
    let p = err_from_is_err_and c.from_residual.result c.from_residual.ensures.1 in
    rw (p.1, p.2) (misses_deep _ (start_together _ _ _ _ _ _ (λ p. Then (Single (mark.Reserved ON)) (λ _. Then Named (λ t. Then (Single (mark.Reserved DO)) (λ _. Then (AnExpression 1) (λ e. Then ARegion (λ r. Done (body.Fold p.0 p.1 t e r))))))) (fold_stage c.args.tokens.now c.args.i)) c.in_err-kind.ensures.stop (lit≤ tt) (λ _. then_completes (mark_completes _) (λ _. then_completes name_completes (λ _. then_completes (mark_completes _) (λ _. then_completes (expression_completes _ (lit≤ tt)) (λ _. then_completes (region_completes) (λ _. done_completes _)))))) (fold_reads_start c.args.tokens.now c.args.i))

pub returns-in_err-on-clause-stop : goal.returns-in_err-on-clause-stop
returns-in_err-on-clause-stop c =
    let p = err_from_is_err_and c.from_residual-in_err-on.result c.from_residual-in_err-on.ensures.1 in
    rw (p.1, p.2) (misses_deep _ (next (start_together _ _ _ _ _ _ (λ p. Then (Single (mark.Reserved ON)) (λ _. Then Named (λ t. Then (Single (mark.Reserved DO)) (λ _. Then (AnExpression 1) (λ e. Then ARegion (λ r. Done (body.Fold p.0 p.1 t e r))))))) (fold_stage c.args.tokens.now c.args.i)) c.in_ok-kind.ensures.ok (lit≤ tt) after_nothing) c.in_err-on.ensures.stop (lit≤ tt) (λ _. then_completes name_completes (λ _. then_completes (mark_completes _) (λ _. then_completes (expression_completes _ (lit≤ tt)) (λ _. then_completes (region_completes) (λ _. done_completes _))))) (fold_reads_on c.args.tokens.now _ c.args.i _ c.in_ok-kind.ensures.ok))

pub returns-in_err-source-clause-stop : goal.returns-in_err-source-clause-stop
returns-in_err-source-clause-stop c =
    let p = err_from_is_err_and c.from_residual-in_err-source.result c.from_residual-in_err-source.ensures.1 in
    rw (p.1, p.2) (misses_deep _ (next (next (start_together _ _ _ _ _ _ (λ p. Then (Single (mark.Reserved ON)) (λ _. Then Named (λ t. Then (Single (mark.Reserved DO)) (λ _. Then (AnExpression 1) (λ e. Then ARegion (λ r. Done (body.Fold p.0 p.1 t e r))))))) (fold_stage c.args.tokens.now c.args.i)) c.in_ok-kind.ensures.ok (lit≤ tt) after_nothing) c.in_ok-on.ensures.ok (lit≤ tt) after_nothing) c.in_err-source.ensures.stop (lit≤ tt) (λ _. then_completes (mark_completes _) (λ _. then_completes (expression_completes _ (lit≤ tt)) (λ _. then_completes (region_completes) (λ _. done_completes _)))) (fold_reads_name c.args.tokens.now _ c.args.i _ _ c.in_ok-kind.ensures.ok c.in_ok-on.ensures.ok))

pub returns-in_err-step-clause-stop : goal.returns-in_err-step-clause-stop
returns-in_err-step-clause-stop c =
    let p = err_from_is_err_and c.from_residual-in_err-step.result c.from_residual-in_err-step.ensures.1 in
    rw (p.1, p.2) (misses_deep _ (next (next (next (start_together _ _ _ _ _ _ (λ p. Then (Single (mark.Reserved ON)) (λ _. Then Named (λ t. Then (Single (mark.Reserved DO)) (λ _. Then (AnExpression 1) (λ e. Then ARegion (λ r. Done (body.Fold p.0 p.1 t e r))))))) (fold_stage c.args.tokens.now c.args.i)) c.in_ok-kind.ensures.ok (lit≤ tt) after_nothing) c.in_ok-on.ensures.ok (lit≤ tt) after_nothing) c.in_ok-source.ensures.ok (lit≤ tt) after_nothing) c.in_err-step.ensures.stop (lit≤ tt) (λ _. then_completes (expression_completes _ (lit≤ tt)) (λ _. then_completes (region_completes) (λ _. done_completes _))) (fold_reads_do c.args.tokens.now _ _ c.args.i _ _ _ c.in_ok-kind.ensures.ok c.in_ok-on.ensures.ok c.in_ok-source.ensures.ok))

pub returns-in_err-expr-clause-stop : goal.returns-in_err-expr-clause-stop
returns-in_err-expr-clause-stop c =
    let p = err_from_is_err_and c.from_residual-in_err-expr.result c.from_residual-in_err-expr.ensures.1 in
    rw (p.1, p.2) (stops_in _ (next (next (next (next (start_together _ _ _ _ _ _ (λ p. Then (Single (mark.Reserved ON)) (λ _. Then Named (λ t. Then (Single (mark.Reserved DO)) (λ _. Then (AnExpression 1) (λ e. Then ARegion (λ r. Done (body.Fold p.0 p.1 t e r))))))) (fold_stage c.args.tokens.now c.args.i)) c.in_ok-kind.ensures.ok (lit≤ tt) after_nothing) c.in_ok-on.ensures.ok (lit≤ tt) after_nothing) c.in_ok-source.ensures.ok (lit≤ tt) after_nothing) c.in_ok-step.ensures.ok (lit≤ tt) after_nothing) c.in_err-expr.ensures.stop (lit≤ tt) (after_fold (λ a r. body.Fold _ _ _ a r)) (λ _. then_completes (region_completes) (λ _. done_completes _)) (fold_up c.args.tokens.now _ _ c.args.i _ _ _ _ c.in_ok-kind.ensures.ok c.in_ok-on.ensures.ok c.in_ok-source.ensures.ok c.in_ok-step.ensures.ok) (fold_down c.args.tokens.now _ _ c.args.i _ _ _ _ c.in_ok-kind.ensures.ok c.in_ok-on.ensures.ok c.in_ok-source.ensures.ok c.in_ok-step.ensures.ok))

pub returns-in_err-region-clause-stop : goal.returns-in_err-region-clause-stop
returns-in_err-region-clause-stop c =
    let p = err_from_is_err_and c.from_residual-in_err-region.result c.from_residual-in_err-region.ensures.1 in
    rw (p.1, p.2) (stops_of_misses _ (misses_in _ (next (next (next (next (next (start_together _ _ _ _ _ _ (λ p. Then (Single (mark.Reserved ON)) (λ _. Then Named (λ t. Then (Single (mark.Reserved DO)) (λ _. Then (AnExpression 1) (λ e. Then ARegion (λ r. Done (body.Fold p.0 p.1 t e r))))))) (fold_stage c.args.tokens.now c.args.i)) c.in_ok-kind.ensures.ok (lit≤ tt) after_nothing) c.in_ok-on.ensures.ok (lit≤ tt) after_nothing) c.in_ok-source.ensures.ok (lit≤ tt) after_nothing) c.in_ok-step.ensures.ok (lit≤ tt) after_nothing) c.in_ok-expr.ensures.ok (lit≤ tt) (after_fold (λ a r. body.Fold _ _ _ a r))) c.in_err-region.ensures.stop (lit≤ tt) (after_region _) (λ _. done_completes _)) (λ n d. c.in_ok-expr.ensures.shallow n ((fold_down c.args.tokens.now _ _ c.args.i _ _ _ _ c.in_ok-kind.ensures.ok c.in_ok-on.ensures.ok c.in_ok-source.ensures.ok c.in_ok-step.ensures.ok) n d)))

pub returns-clause-ok : goal.returns-clause-ok
returns-clause-ok c = finish (next (next (next (next (next (next (start_together _ _ _ _ _ _ (λ p. Then (Single (mark.Reserved ON)) (λ _. Then Named (λ t. Then (Single (mark.Reserved DO)) (λ _. Then (AnExpression 1) (λ e. Then ARegion (λ r. Done (body.Fold p.0 p.1 t e r))))))) (fold_stage c.args.tokens.now c.args.i)) c.in_ok-kind.ensures.ok (lit≤ tt) after_nothing) c.in_ok-on.ensures.ok (lit≤ tt) after_nothing) c.in_ok-source.ensures.ok (lit≤ tt) after_nothing) c.in_ok-step.ensures.ok (lit≤ tt) after_nothing) c.in_ok-expr.ensures.ok (lit≤ tt) (after_fold (λ a r. body.Fold _ _ _ a r))) c.in_ok-region.ensures.ok (lit≤ tt) (after_region _)) c.in_ok-region.ensures.ok.inside

pub returns-clause-shallow : goal.returns-clause-shallow
returns-clause-shallow c = λ n d. c.in_ok-expr.ensures.shallow n ((fold_down c.args.tokens.now _ _ c.args.i _ _ _ _ c.in_ok-kind.ensures.ok c.in_ok-on.ensures.ok c.in_ok-source.ensures.ok c.in_ok-step.ensures.ok) n d)
