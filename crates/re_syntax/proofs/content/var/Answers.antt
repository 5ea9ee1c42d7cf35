use Rattle.std.proofs.Common.{lit≤, arith}
use Rattle.std.proofs.lemmas.Result.{err_from_is_err_and}
use Rattle.re_syntax.specs.Steps.{Done}
use Rattle.re_syntax.proofs.Steps.{after_nothing, done_completes, then_completes}
use Rattle.re_syntax.proofs.Tokens.{next, finish, misses_in, stops_of_misses}
use Rattle.re_syntax.proofs.Leaves.{region_completes, start_together}
use Rattle.re_syntax.proofs.Rules.{var_stage}
use Rattle.re_syntax.proofs.Heads.{plain_not_deep, after_region}
use Rattle.re_terms.specs.declared.raw.RawBody.TheVariants as body
use Rattle.re_syntax.specs.Steps.{Then, ARegion}
use Rattle.re_syntax.proofs.content.var.Goals as goal

pub returns-in_err-kind-clause-stop : goal.returns-in_err-kind-clause-stop
returns-in_err-kind-clause-stop c =
    let p = err_from_is_err_and c.from_residual.result c.from_residual.ensures.1 in
    rw (p.1, p.2) (stops_of_misses _ (misses_in _ (start_together _ _ _ _ _ _ (λ p. Then ARegion (λ r. Done (body.Var p.0 p.1 r))) (var_stage c.args.tokens.now c.args.i)) c.in_err-kind.ensures.stop (lit≤ tt) after_nothing (λ _. then_completes (region_completes) (λ _. done_completes _))) (plain_not_deep c.args.tokens.now _ c.args.i (λ e. omega (arith, e)) (λ e. omega (arith, e)) (λ e. omega (arith, e))))

pub returns-in_err-region-clause-stop : goal.returns-in_err-region-clause-stop
returns-in_err-region-clause-stop c =
    let p = err_from_is_err_and c.from_residual-in_err-region.result c.from_residual-in_err-region.ensures.1 in
    rw (p.1, p.2) (stops_of_misses _ (misses_in _ (next (start_together _ _ _ _ _ _ (λ p. Then ARegion (λ r. Done (body.Var p.0 p.1 r))) (var_stage c.args.tokens.now c.args.i)) c.in_ok-kind.ensures.ok (lit≤ tt) after_nothing) c.in_err-region.ensures.stop (lit≤ tt) (after_region _) (λ _. done_completes _)) (plain_not_deep c.args.tokens.now _ c.args.i (λ e. omega (arith, e)) (λ e. omega (arith, e)) (λ e. omega (arith, e))))

pub returns-clause-ok : goal.returns-clause-ok
returns-clause-ok c = finish (next (next (start_together _ _ _ _ _ _ (λ p. Then ARegion (λ r. Done (body.Var p.0 p.1 r))) (var_stage c.args.tokens.now c.args.i)) c.in_ok-kind.ensures.ok (lit≤ tt) after_nothing) c.in_ok-region.ensures.ok (lit≤ tt) (after_region _)) c.in_ok-region.ensures.ok.inside

pub returns-clause-shallow : goal.returns-clause-shallow
returns-clause-shallow c = plain_not_deep c.args.tokens.now _ c.args.i (λ e. omega (arith, e)) (λ e. omega (arith, e)) (λ e. omega (arith, e))
