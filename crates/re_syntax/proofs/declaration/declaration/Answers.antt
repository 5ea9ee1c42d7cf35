use Rattle.std.proofs.Common.{lit≤, arith}
use Rattle.std.proofs.lemmas.Result.{err_from_is_err_and}
use Rattle.re_syntax.proofs.Steps.{after_nothing, done_completes, then_completes}
use Rattle.re_syntax.proofs.Tokens.{next, next_one, finish, misses_in, stops_of_misses, stops_in}
use Rattle.re_syntax.proofs.Leaves.{mark_completes}
use Rattle.re_syntax.proofs.Rules.{declaration_stage}
use Rattle.re_syntax.proofs.Depths.{misses_deep}
use Rattle.re_syntax.proofs.Tokens.{none_of}
use Rattle.re_syntax.proofs.Heads.{after_content, content_completes, declaration_refused, declaration_reads, declaration_up, declaration_down}
use Rattle.re_syntax.proofs.declaration.declaration.Goals as goal

pub returns-in_default-clause-stop : goal.returns-in_default-clause-stop
returns-in_default-clause-stop c = declaration_refused c.args.tokens.now c.args.i c.requires.inside (none_of _ _ c.declaring_word.result c.declaring_word.ensures c.in_default.not-Some)

pub returns-in_err-name-clause-stop : goal.returns-in_err-name-clause-stop
returns-in_err-name-clause-stop c =
    let p = err_from_is_err_and c.from_residual.result c.from_residual.ensures.1 in
    rw (p.1, p.2) (misses_deep _ (declaration_stage _ c.args.tokens.now c.args.i c.in-Some.ensures.0) c.in_err-name.ensures.stop (lit≤ tt) (λ _. then_completes (content_completes _ c.in-Some.ensures.1) (λ _. then_completes (mark_completes _) (λ _. done_completes _))) (declaration_reads c.args.tokens.now c.args.i))

pub returns-in_err-body-clause-stop : goal.returns-in_err-body-clause-stop
returns-in_err-body-clause-stop c =
    let p = err_from_is_err_and c.from_residual-in_err-body.result c.from_residual-in_err-body.ensures.1 in
    rw (p.1, p.2) (stops_in _ (next (declaration_stage _ c.args.tokens.now c.args.i c.in-Some.ensures.0) c.in_ok-name.ensures.ok (lit≤ tt) after_nothing) c.in_err-body.ensures.stop (lit≤ tt) (after_content _) (λ _. then_completes (mark_completes _) (λ _. done_completes _)) (declaration_up c.args.tokens.now _ _ c.args.i _ c.in-Some.ensures.0 c.in_ok-name.ensures.ok) (declaration_down c.args.tokens.now _ _ c.args.i _ c.in-Some.ensures.0 c.in_ok-name.ensures.ok))

pub returns-in_err-next-clause-stop : goal.returns-in_err-next-clause-stop
returns-in_err-next-clause-stop c =
    let p = err_from_is_err_and c.from_residual-in_err-next.result c.from_residual-in_err-next.ensures.1 in
    rw (p.1, p.2) (stops_of_misses _ (misses_in _ (next (next (declaration_stage _ c.args.tokens.now c.args.i c.in-Some.ensures.0) c.in_ok-name.ensures.ok (lit≤ tt) after_nothing) c.in_ok-body.ensures.ok (lit≤ tt) (after_content _)) c.in_err-next.ensures.stop (lit≤ tt) after_nothing (λ _. done_completes _)) (λ n d. c.in_ok-body.ensures.shallow n ((declaration_down c.args.tokens.now _ _ c.args.i _ c.in-Some.ensures.0 c.in_ok-name.ensures.ok) n d)))

pub returns-clause-ok : goal.returns-clause-ok
returns-clause-ok c = finish (next_one (next (next (declaration_stage _ c.args.tokens.now c.args.i c.in-Some.ensures.0) c.in_ok-name.ensures.ok (lit≤ tt) after_nothing) c.in_ok-body.ensures.ok (lit≤ tt) (after_content _)) c.in_ok-next.ensures.ok (lit≤ tt) after_nothing) c.in_ok-next.ensures.ok.inside

pub returns-clause-shallow : goal.returns-clause-shallow
returns-clause-shallow c = λ n d. c.in_ok-body.ensures.shallow n ((declaration_down c.args.tokens.now _ _ c.args.i _ c.in-Some.ensures.0 c.in_ok-name.ensures.ok) n d)

pub returns-clause-behind : goal.returns-clause-behind
returns-clause-behind c = omega (arith, c.in_ok-name.ensures.ok.exact.forward, c.in_ok-body.ensures.ok.exact.forward, c.in_ok-next.ensures.ok.exact.forward)
