use Rattle.std.proofs.Common.{lit≤}
use Rattle.std.proofs.lemmas.Result.{err_from_is_err_and}
use Rattle.re_syntax.proofs.Steps.{after_nothing, never_more, no_more, done_completes}
use Rattle.re_syntax.proofs.Tokens.{finish, last_of, farther, misses_in, stops_of_misses, stops_last, ok_map, err_map}
use Rattle.re_syntax.proofs.Leaves.{kind_together}
use Rattle.re_syntax.proofs.Rules.{event_stage, derived_stage}
use Rattle.re_syntax.proofs.Heads.{next_far, kind_longer, event_not_deep, event_up, event_down}
use Rattle.re_syntax.proofs.content.event.Goals as goal

pub returns-then-is_sign-clause-ok : goal.returns-then-is_sign-clause-ok
returns-then-is_sign-clause-ok c = ok_map c.source.result c.source.ensures.ok (λ r a. farther (last_of (derived_stage c.args.tokens.now c.args.i (c.is_sign.ensures.yes c.if-is_sign.true)) a (lit≤ tt) never_more) (lit≤ tt) no_more)

pub returns-then-is_sign-clause-shallow : goal.returns-then-is_sign-clause-shallow
returns-then-is_sign-clause-shallow c = ok_map c.source.result c.source.ensures.shallow (λ r a. λ n d. a n (event_down c.args.tokens.now c.args.i n d))

pub returns-then-is_sign-clause-stop : goal.returns-then-is_sign-clause-stop
returns-then-is_sign-clause-stop c = err_map c.source.result c.source.ensures.stop (λ s m. stops_last s (derived_stage c.args.tokens.now c.args.i (c.is_sign.ensures.yes c.if-is_sign.true)) m (lit≤ tt) never_more (event_up c.args.tokens.now c.args.i (c.is_sign.ensures.yes c.if-is_sign.true)) (event_down c.args.tokens.now c.args.i))

pub returns-in_err-kind-clause-stop : goal.returns-in_err-kind-clause-stop
returns-in_err-kind-clause-stop c =
    let p = err_from_is_err_and c.from_residual.result c.from_residual.ensures.1 in
    rw (p.1, p.2) (stops_of_misses _ (misses_in _ (kind_together _ _ _ _ _ _ _ (event_stage c.args.tokens.now c.args.i (c.is_sign.ensures.other c.if-is_sign.false))) c.in_err-kind.ensures.stop (lit≤ tt) after_nothing (λ _. done_completes _)) (event_not_deep c.args.tokens.now c.args.i (c.is_sign.ensures.other c.if-is_sign.false)))

pub returns-clause-ok : goal.returns-clause-ok
returns-clause-ok c = farther (finish (next_far (kind_together _ _ _ _ _ _ _ (event_stage c.args.tokens.now c.args.i (c.is_sign.ensures.other c.if-is_sign.false))) c.in_ok-kind.ensures.ok (kind_longer c.args.tokens.now _ c.args.i _ c.in_ok-kind.ensures.ok) after_nothing) c.in_ok-kind.ensures.ok.inside) (lit≤ tt) no_more

pub returns-clause-shallow : goal.returns-clause-shallow
returns-clause-shallow c = event_not_deep c.args.tokens.now c.args.i (c.is_sign.ensures.other c.if-is_sign.false)
