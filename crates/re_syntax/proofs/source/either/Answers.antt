use Rattle.std.proofs.Common.{lit≤, arith}
use Rattle.std.proofs.lemmas.Result.{err_from_is_err_and}
use Rattle.re_syntax.proofs.Steps.{after_nothing, done_completes, then_completes}
use Rattle.re_syntax.proofs.Tokens.{next, finish, misses_in, stops_of_misses}
use Rattle.re_syntax.proofs.Leaves.{mark_completes, name_completes, first_name_together}
use Rattle.re_syntax.proofs.Rules.{either_stage}
use Rattle.re_syntax.proofs.Heads.{no_head}
use Rattle.re_syntax.proofs.Rules.{clash}
use Rattle.re_syntax.proofs.source.either.Goals as goal

pub returns-in_err-left-clause-stop : goal.returns-in_err-left-clause-stop
returns-in_err-left-clause-stop c =
    let p = err_from_is_err_and c.from_residual.result c.from_residual.ensures.1 in
    rw (p.1, p.2) (stops_of_misses _ (misses_in _ (first_name_together _ _ _ _ _ _ _ (either_stage c.args.tokens.now c.args.i c.requires.word)) c.in_err-left.ensures.stop (lit≤ tt) after_nothing (λ _. then_completes name_completes (λ _. then_completes (mark_completes _) (λ _. done_completes _)))) (λ s d. no_head (λ g. omega (arith, clash c.requires.word g)) (λ g. omega (arith, clash c.requires.word g)) d.0))

pub returns-in_err-right-clause-stop : goal.returns-in_err-right-clause-stop
returns-in_err-right-clause-stop c =
    let p = err_from_is_err_and c.from_residual-in_err-right.result c.from_residual-in_err-right.ensures.1 in
    rw (p.1, p.2) (stops_of_misses _ (misses_in _ (next (first_name_together _ _ _ _ _ _ _ (either_stage c.args.tokens.now c.args.i c.requires.word)) c.in_ok-left.ensures.ok (lit≤ tt) after_nothing) c.in_err-right.ensures.stop (lit≤ tt) after_nothing (λ _. then_completes (mark_completes _) (λ _. done_completes _))) (λ s d. no_head (λ g. omega (arith, clash c.requires.word g)) (λ g. omega (arith, clash c.requires.word g)) d.0))

pub returns-in_err-next-clause-stop : goal.returns-in_err-next-clause-stop
returns-in_err-next-clause-stop c =
    let p = err_from_is_err_and c.from_residual-in_err-next.result c.from_residual-in_err-next.ensures.1 in
    rw (p.1, p.2) (stops_of_misses _ (misses_in _ (next (next (first_name_together _ _ _ _ _ _ _ (either_stage c.args.tokens.now c.args.i c.requires.word)) c.in_ok-left.ensures.ok (lit≤ tt) after_nothing) c.in_ok-right.ensures.ok (lit≤ tt) after_nothing) c.in_err-next.ensures.stop (lit≤ tt) after_nothing (λ _. done_completes _)) (λ s d. no_head (λ g. omega (arith, clash c.requires.word g)) (λ g. omega (arith, clash c.requires.word g)) d.0))

pub returns-clause-ok : goal.returns-clause-ok
returns-clause-ok c = finish (next (next (next (first_name_together _ _ _ _ _ _ _ (either_stage c.args.tokens.now c.args.i c.requires.word)) c.in_ok-left.ensures.ok (lit≤ tt) after_nothing) c.in_ok-right.ensures.ok (lit≤ tt) after_nothing) c.in_ok-next.ensures.ok (lit≤ tt) after_nothing) c.in_ok-next.ensures.ok.inside

pub returns-clause-shallow : goal.returns-clause-shallow
returns-clause-shallow c = λ s d. no_head (λ g. omega (arith, clash c.requires.word g)) (λ g. omega (arith, clash c.requires.word g)) d.0
