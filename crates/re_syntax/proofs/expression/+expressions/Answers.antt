use Rattle.std.proofs.Common.{◌+◌, ◌<◌, length, lit≤, lit<, arith}
use Rattle.std.proofs.lemmas.Result.{err_from_is_err_and}
use Rattle.re_syntax.proofs.Steps.{after_nothing, never_more, done_completes, then_completes}
use Rattle.re_syntax.proofs.Tokens.{next, next_one, finish, last_of, farther, misses_in, stops_of_misses, stops_in, stops_behind, stops_last, after_mark, ok_map, err_map}
use Rattle.re_syntax.proofs.Leaves.{mark_completes, first_name_together}
use Rattle.re_syntax.proofs.Rules.{brackets_stage, negation_stage, recovery_stage, membership_stage}
use Rattle.re_syntax.proofs.Levels.{expression_completes, further_completes, condition_stage, plain_stage, tightest_stage, operands_stage, after_operand, again_stage, ended_accepts, once_stage, after_second, no_close, no_comma, no_then, no_else}
use Rattle.re_syntax.proofs.Levels.{after_done, too_many, operator_inside}
use Rattle.std.proofs.Common.{rules}
use Rattle.re_syntax.proofs.Tokens.{none_of, stops_from, accepts_from}
use Rattle.re_terms.specs.declared.raw_expr.RawExpr.TheVariants as expr
use Rattle.re_syntax.proofs.expression.+expressions.Goals as goal

pub brackets-returns-in_err-operand-clause-stop : goal.brackets-returns-in_err-operand-clause-stop
brackets-returns-in_err-operand-clause-stop t c =
    let p = err_from_is_err_and c.from_residual.result c.from_residual.ensures.1 in
    rw (p.1, p.2) (stops_behind _ (brackets_stage c.args.opened c.args.tokens.now c.args.i c.requires.bracket) c.in_err-operand.ensures.stop (omega arith) (after_mark _ no_close) (λ _. then_completes (mark_completes _) (λ _. done_completes _)) (λ j d. d) (λ j d. d))

pub brackets-returns-in_err-next-clause-stop : goal.brackets-returns-in_err-next-clause-stop
brackets-returns-in_err-next-clause-stop t c =
    let p = err_from_is_err_and c.from_residual-in_err-next.result c.from_residual-in_err-next.ensures.1 in
    rw (p.1, p.2) (stops_of_misses _ (misses_in _ (next (brackets_stage c.args.opened c.args.tokens.now c.args.i c.requires.bracket) c.in_ok-operand.ensures.ok.accepts (lit≤ tt) (after_mark _ no_close)) c.in_err-next.ensures.stop (lit≤ tt) after_nothing (λ _. done_completes _)) (λ j d. d))

pub brackets-returns-clause-ok : goal.brackets-returns-clause-ok
brackets-returns-clause-ok t c = record { expression = _; stands = c.in_ok-operand.ensures.ok.stands; accepts = farther (finish (next_one (next (brackets_stage c.args.opened c.args.tokens.now c.args.i c.requires.bracket) c.in_ok-operand.ensures.ok.accepts (lit≤ tt) (after_mark _ no_close)) c.in_ok-next.ensures.ok (lit≤ tt) after_nothing) c.in_ok-next.ensures.ok.inside) (lit≤ tt) never_more }

pub read_negation-returns-in_err-start-clause-stop : goal.read_negation-returns-in_err-start-clause-stop
read_negation-returns-in_err-start-clause-stop t c =
    let p = err_from_is_err_and c.from_residual.result c.from_residual.ensures.1 in
    rw (p.1, p.2) (stops_of_misses _ (misses_in _ (negation_stage c.args.opened c.args.tokens.now c.args.i c.requires.word) c.in_err-start.ensures.stop (lit≤ tt) after_nothing (λ _. then_completes (expression_completes _ (omega arith)) (λ _. then_completes (mark_completes _) (λ _. done_completes _)))) (λ j d. d))

pub read_negation-returns-in_err-operand-clause-stop : goal.read_negation-returns-in_err-operand-clause-stop
read_negation-returns-in_err-operand-clause-stop t c =
    let p = err_from_is_err_and c.from_residual-in_err-operand.result c.from_residual-in_err-operand.ensures.1 in
    rw (p.1, p.2) (stops_behind _ (next (negation_stage c.args.opened c.args.tokens.now c.args.i c.requires.word) c.in_ok-start.ensures.ok (lit≤ tt) after_nothing) c.in_err-operand.ensures.stop (omega (arith, c.in_ok-start.ensures.ok.exact.forward)) (after_mark _ no_close) (λ _. then_completes (mark_completes _) (λ _. done_completes _)) (λ j d. d) (λ j d. d))

pub read_negation-returns-in_err-next-clause-stop : goal.read_negation-returns-in_err-next-clause-stop
read_negation-returns-in_err-next-clause-stop t c =
    let p = err_from_is_err_and c.from_residual-in_err-next.result c.from_residual-in_err-next.ensures.1 in
    rw (p.1, p.2) (stops_of_misses _ (misses_in _ (next (next (negation_stage c.args.opened c.args.tokens.now c.args.i c.requires.word) c.in_ok-start.ensures.ok (lit≤ tt) after_nothing) c.in_ok-operand.ensures.ok.accepts (lit≤ tt) (after_mark _ no_close)) c.in_err-next.ensures.stop (lit≤ tt) after_nothing (λ _. done_completes _)) (λ j d. d))

pub read_negation-returns-in_err-negation-clause-stop : goal.read_negation-returns-in_err-negation-clause-stop
read_negation-returns-in_err-negation-clause-stop t c =
    let p = err_from_is_err_and c.from_residual-in_err-negation.result c.from_residual-in_err-negation.ensures.1 in
    rw (p.1, p.2) (record { told = tt; within = tt })

pub read_negation-returns-clause-ok : goal.read_negation-returns-clause-ok
read_negation-returns-clause-ok t c = record { expression = _; stands = c.in_ok-negation.ensures _ c.in_ok-operand.ensures.ok.stands; accepts = farther (finish (next_one (next (next (negation_stage c.args.opened c.args.tokens.now c.args.i c.requires.word) c.in_ok-start.ensures.ok (lit≤ tt) after_nothing) c.in_ok-operand.ensures.ok.accepts (lit≤ tt) (after_mark _ no_close)) c.in_ok-next.ensures.ok (lit≤ tt) after_nothing) c.in_ok-next.ensures.ok.inside) (lit≤ tt) never_more }

pub read_recovery-returns-in_err-start-clause-stop : goal.read_recovery-returns-in_err-start-clause-stop
read_recovery-returns-in_err-start-clause-stop t c =
    let p = err_from_is_err_and c.from_residual.result c.from_residual.ensures.1 in
    rw (p.1, p.2) (stops_of_misses _ (misses_in _ (recovery_stage c.args.opened c.args.tokens.now c.args.i c.requires.word) c.in_err-start.ensures.stop (lit≤ tt) after_nothing (λ _. then_completes (expression_completes _ (omega arith)) (λ _. then_completes (mark_completes _) (λ _. then_completes (expression_completes _ (omega arith)) (λ _. then_completes (mark_completes _) (λ _. done_completes _)))))) (λ j d. d))

pub read_recovery-returns-in_err-tried-clause-stop : goal.read_recovery-returns-in_err-tried-clause-stop
read_recovery-returns-in_err-tried-clause-stop t c =
    let p = err_from_is_err_and c.from_residual-in_err-tried.result c.from_residual-in_err-tried.ensures.1 in
    rw (p.1, p.2) (stops_behind _ (next (recovery_stage c.args.opened c.args.tokens.now c.args.i c.requires.word) c.in_ok-start.ensures.ok (lit≤ tt) after_nothing) c.in_err-tried.ensures.stop (omega (arith, c.in_ok-start.ensures.ok.exact.forward)) (after_mark _ no_comma) (λ _. then_completes (mark_completes _) (λ _. then_completes (expression_completes _ (omega arith)) (λ _. then_completes (mark_completes _) (λ _. done_completes _)))) (λ j d. d) (λ j d. d))

pub read_recovery-returns-in_err-second-clause-stop : goal.read_recovery-returns-in_err-second-clause-stop
read_recovery-returns-in_err-second-clause-stop t c =
    let p = err_from_is_err_and c.from_residual-in_err-second.result c.from_residual-in_err-second.ensures.1 in
    rw (p.1, p.2) (stops_of_misses _ (misses_in _ (next (next (recovery_stage c.args.opened c.args.tokens.now c.args.i c.requires.word) c.in_ok-start.ensures.ok (lit≤ tt) after_nothing) c.in_ok-tried.ensures.ok.accepts (lit≤ tt) (after_mark _ no_comma)) c.in_err-second.ensures.stop (lit≤ tt) after_nothing (λ _. then_completes (expression_completes _ (omega arith)) (λ _. then_completes (mark_completes _) (λ _. done_completes _)))) (λ j d. d))

pub read_recovery-returns-in_err-other-clause-stop : goal.read_recovery-returns-in_err-other-clause-stop
read_recovery-returns-in_err-other-clause-stop t c =
    let p = err_from_is_err_and c.from_residual-in_err-other.result c.from_residual-in_err-other.ensures.1 in
    rw (p.1, p.2) (stops_behind _ (next_one (next (next (recovery_stage c.args.opened c.args.tokens.now c.args.i c.requires.word) c.in_ok-start.ensures.ok (lit≤ tt) after_nothing) c.in_ok-tried.ensures.ok.accepts (lit≤ tt) (after_mark _ no_comma)) c.in_ok-second.ensures.ok (lit≤ tt) after_nothing) c.in_err-other.ensures.stop (omega (arith, c.in_ok-start.ensures.ok.exact.forward, c.in_ok-tried.ensures.ok.accepts.exact.forward, c.in_ok-second.ensures.ok.exact.forward)) (after_mark _ no_close) (λ _. then_completes (mark_completes _) (λ _. done_completes _)) (λ j d. d) (λ j d. d))

pub read_recovery-returns-in_err-next-clause-stop : goal.read_recovery-returns-in_err-next-clause-stop
read_recovery-returns-in_err-next-clause-stop t c =
    let p = err_from_is_err_and c.from_residual-in_err-next.result c.from_residual-in_err-next.ensures.1 in
    rw (p.1, p.2) (stops_of_misses _ (misses_in _ (next (next_one (next (next (recovery_stage c.args.opened c.args.tokens.now c.args.i c.requires.word) c.in_ok-start.ensures.ok (lit≤ tt) after_nothing) c.in_ok-tried.ensures.ok.accepts (lit≤ tt) (after_mark _ no_comma)) c.in_ok-second.ensures.ok (lit≤ tt) after_nothing) c.in_ok-other.ensures.ok.accepts (lit≤ tt) (after_mark _ no_close)) c.in_err-next.ensures.stop (lit≤ tt) after_nothing (λ _. done_completes _)) (λ j d. d))

pub read_recovery-returns-in_err-recovery-clause-stop : goal.read_recovery-returns-in_err-recovery-clause-stop
read_recovery-returns-in_err-recovery-clause-stop t c =
    let p = err_from_is_err_and c.from_residual-in_err-recovery.result c.from_residual-in_err-recovery.ensures.1 in
    rw (p.1, p.2) (record { told = tt; within = tt })

pub read_recovery-returns-clause-ok : goal.read_recovery-returns-clause-ok
read_recovery-returns-clause-ok t c = record { expression = _; stands = c.in_ok-recovery.ensures _ _ c.in_ok-tried.ensures.ok.stands c.in_ok-other.ensures.ok.stands; accepts = farther (finish (next_one (next (next_one (next (next (recovery_stage c.args.opened c.args.tokens.now c.args.i c.requires.word) c.in_ok-start.ensures.ok (lit≤ tt) after_nothing) c.in_ok-tried.ensures.ok.accepts (lit≤ tt) (after_mark _ no_comma)) c.in_ok-second.ensures.ok (lit≤ tt) after_nothing) c.in_ok-other.ensures.ok.accepts (lit≤ tt) (after_mark _ no_close)) c.in_ok-next.ensures.ok (lit≤ tt) after_nothing) c.in_ok-next.ensures.ok.inside) (lit≤ tt) never_more }

pub read_membership-returns-in_err-set-clause-stop : goal.read_membership-returns-in_err-set-clause-stop
read_membership-returns-in_err-set-clause-stop t c =
    let p = err_from_is_err_and c.from_residual.result c.from_residual.ensures.1 in
    rw (p.1, p.2) (stops_of_misses _ (misses_in _ (first_name_together _ _ _ _ _ _ _ (membership_stage c.args.opened c.args.tokens.now c.args.i c.requires.word)) c.in_err-set.ensures.stop (lit≤ tt) after_nothing (λ _. then_completes (expression_completes _ (omega arith)) (λ _. then_completes (mark_completes _) (λ _. done_completes _)))) (λ j d. d))

pub read_membership-returns-in_err-element-clause-stop : goal.read_membership-returns-in_err-element-clause-stop
read_membership-returns-in_err-element-clause-stop t c =
    let p = err_from_is_err_and c.from_residual-in_err-element.result c.from_residual-in_err-element.ensures.1 in
    rw (p.1, p.2) (stops_behind _ (next (first_name_together _ _ _ _ _ _ _ (membership_stage c.args.opened c.args.tokens.now c.args.i c.requires.word)) c.in_ok-set.ensures.ok (lit≤ tt) after_nothing) c.in_err-element.ensures.stop (omega (arith, c.in_ok-set.ensures.ok.exact.forward)) (after_mark _ no_close) (λ _. then_completes (mark_completes _) (λ _. done_completes _)) (λ j d. d) (λ j d. d))

pub read_membership-returns-in_err-next-clause-stop : goal.read_membership-returns-in_err-next-clause-stop
read_membership-returns-in_err-next-clause-stop t c =
    let p = err_from_is_err_and c.from_residual-in_err-next.result c.from_residual-in_err-next.ensures.1 in
    rw (p.1, p.2) (stops_of_misses _ (misses_in _ (next (next (first_name_together _ _ _ _ _ _ _ (membership_stage c.args.opened c.args.tokens.now c.args.i c.requires.word)) c.in_ok-set.ensures.ok (lit≤ tt) after_nothing) c.in_ok-element.ensures.ok.accepts (lit≤ tt) (after_mark _ no_close)) c.in_err-next.ensures.stop (lit≤ tt) after_nothing (λ _. done_completes _)) (λ j d. d))

pub read_membership-returns-in_err-membership-clause-stop : goal.read_membership-returns-in_err-membership-clause-stop
read_membership-returns-in_err-membership-clause-stop t c =
    let p = err_from_is_err_and c.from_residual-in_err-membership.result c.from_residual-in_err-membership.ensures.1 in
    rw (p.1, p.2) (record { told = tt; within = tt })

pub read_membership-returns-clause-ok : goal.read_membership-returns-clause-ok
read_membership-returns-clause-ok t c = record { expression = _; stands = c.in_ok-membership.ensures _ c.in_ok-element.ensures.ok.stands; accepts = farther (finish (next_one (next (next (first_name_together _ _ _ _ _ _ _ (membership_stage c.args.opened c.args.tokens.now c.args.i c.requires.word)) c.in_ok-set.ensures.ok (lit≤ tt) after_nothing) c.in_ok-element.ensures.ok.accepts (lit≤ tt) (after_mark _ no_close)) c.in_ok-next.ensures.ok (lit≤ tt) after_nothing) c.in_ok-next.ensures.ok.inside) (lit≤ tt) never_more }

pub condition-returns-in_err-cond-clause-stop : goal.condition-returns-in_err-cond-clause-stop
condition-returns-in_err-cond-clause-stop t c =
    let p = err_from_is_err_and c.from_residual.result c.from_residual.ensures.1 in
    rw (p.1, p.2) (stops_behind _ (condition_stage c.args.opened c.args.tokens.now c.args.i c.requires.opened c.requires.word) c.in_err-cond.ensures.stop (omega arith) (after_mark _ no_then) (λ _. then_completes (mark_completes _) (λ _. then_completes (expression_completes _ (omega arith)) (λ _. then_completes (mark_completes _) (λ _. then_completes (expression_completes _ (omega arith)) (λ _. done_completes _))))) (λ j d. d) (λ j d. d))

pub condition-returns-in_err-then-clause-stop : goal.condition-returns-in_err-then-clause-stop
condition-returns-in_err-then-clause-stop t c =
    let p = err_from_is_err_and c.from_residual-in_err-then.result c.from_residual-in_err-then.ensures.1 in
    rw (p.1, p.2) (stops_of_misses _ (misses_in _ (next (condition_stage c.args.opened c.args.tokens.now c.args.i c.requires.opened c.requires.word) c.in_ok-cond.ensures.ok.accepts (lit≤ tt) (after_mark _ no_then)) c.in_err-then.ensures.stop (lit≤ tt) after_nothing (λ _. then_completes (expression_completes _ (omega arith)) (λ _. then_completes (mark_completes _) (λ _. then_completes (expression_completes _ (omega arith)) (λ _. done_completes _))))) (λ j d. d))

pub condition-returns-in_err-yes-clause-stop : goal.condition-returns-in_err-yes-clause-stop
condition-returns-in_err-yes-clause-stop t c =
    let p = err_from_is_err_and c.from_residual-in_err-yes.result c.from_residual-in_err-yes.ensures.1 in
    rw (p.1, p.2) (stops_behind _ (next_one (next (condition_stage c.args.opened c.args.tokens.now c.args.i c.requires.opened c.requires.word) c.in_ok-cond.ensures.ok.accepts (lit≤ tt) (after_mark _ no_then)) c.in_ok-then.ensures.ok (lit≤ tt) after_nothing) c.in_err-yes.ensures.stop (omega (arith, c.in_ok-cond.ensures.ok.accepts.exact.forward, c.in_ok-then.ensures.ok.exact.forward)) (after_mark _ no_else) (λ _. then_completes (mark_completes _) (λ _. then_completes (expression_completes _ (omega arith)) (λ _. done_completes _))) (λ j d. d) (λ j d. d))

pub condition-returns-in_err-other-clause-stop : goal.condition-returns-in_err-other-clause-stop
condition-returns-in_err-other-clause-stop t c =
    let p = err_from_is_err_and c.from_residual-in_err-other.result c.from_residual-in_err-other.ensures.1 in
    rw (p.1, p.2) (stops_of_misses _ (misses_in _ (next (next_one (next (condition_stage c.args.opened c.args.tokens.now c.args.i c.requires.opened c.requires.word) c.in_ok-cond.ensures.ok.accepts (lit≤ tt) (after_mark _ no_then)) c.in_ok-then.ensures.ok (lit≤ tt) after_nothing) c.in_ok-yes.ensures.ok.accepts (lit≤ tt) (after_mark _ no_else)) c.in_err-other.ensures.stop (lit≤ tt) after_nothing (λ _. then_completes (expression_completes _ (omega arith)) (λ _. done_completes _))) (λ j d. d))

pub condition-returns-in_err-no-clause-stop : goal.condition-returns-in_err-no-clause-stop
condition-returns-in_err-no-clause-stop t c =
    let p = err_from_is_err_and c.from_residual-in_err-no.result c.from_residual-in_err-no.ensures.1 in
    rw (p.1, p.2) (stops_behind _ (next_one (next (next_one (next (condition_stage c.args.opened c.args.tokens.now c.args.i c.requires.opened c.requires.word) c.in_ok-cond.ensures.ok.accepts (lit≤ tt) (after_mark _ no_then)) c.in_ok-then.ensures.ok (lit≤ tt) after_nothing) c.in_ok-yes.ensures.ok.accepts (lit≤ tt) (after_mark _ no_else)) c.in_ok-other.ensures.ok (lit≤ tt) after_nothing) c.in_err-no.ensures.stop (omega (arith, c.in_ok-cond.ensures.ok.accepts.exact.forward, c.in_ok-then.ensures.ok.exact.forward, c.in_ok-yes.ensures.ok.accepts.exact.forward, c.in_ok-other.ensures.ok.exact.forward)) (after_done _) (λ _. done_completes _) (λ j d. d) (λ j d. d))

pub condition-returns-in_err-branches-clause-stop : goal.condition-returns-in_err-branches-clause-stop
condition-returns-in_err-branches-clause-stop t c =
    let p = err_from_is_err_and c.from_residual-in_err-branches.result c.from_residual-in_err-branches.ensures.1 in
    rw (p.1, p.2) (record { told = tt; within = tt })

pub condition-returns-in_err-choice-clause-stop : goal.condition-returns-in_err-choice-clause-stop
condition-returns-in_err-choice-clause-stop t c =
    let p = err_from_is_err_and c.from_residual-in_err-choice.result c.from_residual-in_err-choice.ensures.1 in
    rw (p.1, p.2) (record { told = tt; within = tt })

pub condition-returns-clause-ok : goal.condition-returns-clause-ok
condition-returns-clause-ok t c = record { expression = _; stands = c.in_ok-choice.ensures _ _ _ c.in_ok-cond.ensures.ok.stands (c.in_ok-branches.ensures _ _ c.in_ok-yes.ensures.ok.stands c.in_ok-no.ensures.ok.stands); accepts = finish (next (next_one (next (next_one (next (condition_stage c.args.opened c.args.tokens.now c.args.i c.requires.opened c.requires.word) c.in_ok-cond.ensures.ok.accepts (lit≤ tt) (after_mark _ no_then)) c.in_ok-then.ensures.ok (lit≤ tt) after_nothing) c.in_ok-yes.ensures.ok.accepts (lit≤ tt) (after_mark _ no_else)) c.in_ok-other.ensures.ok (lit≤ tt) after_nothing) c.in_ok-no.ensures.ok.accepts (lit≤ tt) (after_done _)) c.in_ok-no.ensures.ok.accepts.inside }

pub expression-returns-clause-ok : goal.expression-returns-clause-ok
expression-returns-clause-ok t c = ok_map c.operands.result c.operands.ensures.ok (λ r f. record { expression = f.expression; stands = f.stands; accepts = accepts_from (plain_stage c.args.opened c.args.tokens.now c.args.i c.requires.opened (c.is_word.ensures.other c.if-is_word.false)) f.accepts })

pub expression-returns-clause-stop : goal.expression-returns-clause-stop
expression-returns-clause-stop t c = err_map c.operands.result c.operands.ensures.stop (λ s m. stops_from s (plain_stage c.args.opened c.args.tokens.now c.args.i c.requires.opened (c.is_word.ensures.other c.if-is_word.false)) m)

pub operands-returns-then-level-eq-TIGHTEST-clause-ok : goal.operands-returns-then-level-eq-TIGHTEST-clause-ok
operands-returns-then-level-eq-TIGHTEST-clause-ok t c = ok_map c.primary.result c.primary.ensures.ok (λ r f. record { expression = f.expression; stands = f.stands; accepts = last_of (tightest_stage c.args.opened c.args.level c.args.tokens.now c.args.i c.if-level-eq-TIGHTEST.true) f.accepts (lit≤ tt) never_more })

pub operands-returns-then-level-eq-TIGHTEST-clause-stop : goal.operands-returns-then-level-eq-TIGHTEST-clause-stop
operands-returns-then-level-eq-TIGHTEST-clause-stop t c = err_map c.primary.result c.primary.ensures.stop (λ s m. stops_last s (tightest_stage c.args.opened c.args.level c.args.tokens.now c.args.i c.if-level-eq-TIGHTEST.true) m (lit≤ tt) never_more (λ j d. d) (λ j d. d))

pub operands-returns-then-level-eq-COMPARISON-clause-ok : goal.operands-returns-then-level-eq-COMPARISON-clause-ok
operands-returns-then-level-eq-COMPARISON-clause-ok t c = rw c.if-level-eq-COMPARISON.true c.comparison.ensures.ok

pub operands-returns-then-level-eq-COMPARISON-clause-stop : goal.operands-returns-then-level-eq-COMPARISON-clause-stop
operands-returns-then-level-eq-COMPARISON-clause-stop t c = rw c.if-level-eq-COMPARISON.true c.comparison.ensures.stop

pub primary-returns-clause-ok : goal.primary-returns-clause-ok
primary-returns-clause-ok t c = c.read_leaf.ensures.ok c.args.opened

pub primary-returns-clause-stop : goal.primary-returns-clause-stop
primary-returns-clause-stop t c = err_map c.read_leaf.result (c.read_leaf.ensures.stop c.args.opened) (λ s m. stops_of_misses s m (λ j d. d))

pub inner-returns-then-opened-eq-MOST_OPEN-clause-stop : goal.inner-returns-then-opened-eq-MOST_OPEN-clause-stop
inner-returns-then-opened-eq-MOST_OPEN-clause-stop t c = too_many c.args.opened c.args.tokens.now c.args.i c.requires.behind c.requires.inside c.if-opened-eq-MOST_OPEN.true

pub comparison-returns-in_err-left-clause-stop : goal.comparison-returns-in_err-left-clause-stop
comparison-returns-in_err-left-clause-stop t c =
    let p = err_from_is_err_and c.from_residual.result c.from_residual.ensures.1 in
    rw (p.1, p.2) (stops_in _ (operands_stage c.args.opened 2 c.args.tokens.now c.args.i (lit< tt)) c.in_err-left.ensures.stop (lit≤ tt) (after_operand c.args.opened 2 (λ a. a)) (λ _. further_completes _ _ _) (λ j d. d) (λ j d. d))

pub comparison-returns-in_err-right-clause-stop : goal.comparison-returns-in_err-right-clause-stop
comparison-returns-in_err-right-clause-stop t c =
    let p = err_from_is_err_and c.from_residual-in_err-right.result c.from_residual-in_err-right.ensures.1 in
    rw (p.1, p.2) (stops_in _ (once_stage c.args.opened c.args.tokens.now c.args.i _ _ _ c.in-Some.ensures.0 c.in-Some.ensures.1 (next (operands_stage c.args.opened 2 c.args.tokens.now c.args.i (lit< tt)) c.in_ok-left.ensures.ok.accepts (lit≤ tt) (after_operand c.args.opened 2 (λ a. a)))) c.in_err-right.ensures.stop (lit≤ tt) (after_second _ _) (λ _. done_completes _) (λ j d. d) (λ j d. d))

pub comparison-returns-in_err-binary-clause-stop : goal.comparison-returns-in_err-binary-clause-stop
comparison-returns-in_err-binary-clause-stop t c =
    let p = err_from_is_err_and c.from_residual-in_err-binary.result c.from_residual-in_err-binary.ensures.1 in
    rw (p.1, p.2) (record { told = tt; within = tt })

pub comparison-returns-clause-ok : goal.comparison-returns-clause-ok
comparison-returns-clause-ok t c = record { expression = _; stands = c.in_ok-binary.ensures _ _ c.in_ok-left.ensures.ok.stands c.in_ok-right.ensures.ok.stands; accepts = finish (next (once_stage c.args.opened c.args.tokens.now c.args.i _ _ _ c.in-Some.ensures.0 c.in-Some.ensures.1 (next (operands_stage c.args.opened 2 c.args.tokens.now c.args.i (lit< tt)) c.in_ok-left.ensures.ok.accepts (lit≤ tt) (after_operand c.args.opened 2 (λ a. a)))) c.in_ok-right.ensures.ok.accepts (lit≤ tt) (after_second _ _)) c.in_ok-right.ensures.ok.accepts.inside }

pub comparison-returns-in_default-clause-ok : goal.comparison-returns-in_default-clause-ok
comparison-returns-in_default-clause-ok t c = record { expression = _; stands = c.in_ok-left.ensures.ok.stands; accepts = ended_accepts c.args.opened 2 c.args.tokens.now c.args.i _ _ (none_of _ _ c.operator.result c.operator.ensures c.in_default.not-Some) c.in_ok-left.ensures.ok.accepts.inside (next (operands_stage c.args.opened 2 c.args.tokens.now c.args.i (lit< tt)) c.in_ok-left.ensures.ok.accepts (lit≤ tt) (after_operand c.args.opened 2 (λ a. a))) }

pub chain-operands-requires-in-Some : goal.chain-operands-requires-in-Some
chain-operands-requires-in-Some t c = let e : c.operators.at + 1 < length c.args.tokens.now = operator_inside c.args.tokens.now _ _ c.requires.ends c.operators.invariant.inside c.in-Some.ensures.0 in search rules

pub comparison-operands-requires-2 : goal.comparison-operands-requires-2
comparison-operands-requires-2 t c = let e : c.in_ok-left.at + 1 < length c.args.tokens.now = operator_inside c.args.tokens.now _ _ c.requires.ends c.in_ok-left.ensures.ok.accepts.inside c.in-Some.ensures.0 in search rules

pub chain-returns-in_err-first-clause-stop : goal.chain-returns-in_err-first-clause-stop
chain-returns-in_err-first-clause-stop t c =
    let p = err_from_is_err_and c.from_residual.result c.from_residual.ensures.1 in
    rw (p.1, p.2) (stops_in _ (operands_stage c.args.opened c.args.level c.args.tokens.now c.args.i c.requires.level) c.in_err-first.ensures.stop (lit≤ tt) (after_operand c.args.opened c.args.level (λ a. a)) (λ _. further_completes _ _ _) (λ j d. d) (λ j d. d))

pub chain-operators-init : goal.chain-operators-init
chain-operators-init t c = record { inside = c.in_ok-first.ensures.ok.accepts.inside; before = c.in_ok-first.ensures.ok.accepts.exact.forward; read = (c.in_ok-first.ensures.ok.expression, (c.in_ok-first.ensures.ok.stands, next (operands_stage c.args.opened c.args.level c.args.tokens.now c.args.i c.requires.level) c.in_ok-first.ensures.ok.accepts (lit≤ tt) (after_operand c.args.opened c.args.level (λ a. a)))) }

pub chain-returns-in_err-right-clause-stop : goal.chain-returns-in_err-right-clause-stop
chain-returns-in_err-right-clause-stop t c =
    let p = err_from_is_err_and c.from_residual-in_err-right.result c.from_residual-in_err-right.ensures.1 in
    rw (p.1, p.2) (stops_in _ (again_stage c.args.opened c.args.level c.args.tokens.now c.args.i _ _ _ c.in-Some.ensures.0 c.in-Some.ensures.1 c.requires.chained c.operators.invariant.read.1.1) c.in_err-right.ensures.stop (lit≤ tt) (after_operand c.args.opened c.args.level (λ a. expr.Bin c.in-Some.op c.operators.invariant.read.0 a)) (λ _. further_completes _ _ _) (λ j d. d) (λ j d. d))

pub chain-returns-in_err-left-clause-stop : goal.chain-returns-in_err-left-clause-stop
chain-returns-in_err-left-clause-stop t c =
    let p = err_from_is_err_and c.from_residual-in_err-left.result c.from_residual-in_err-left.ensures.1 in
    rw (p.1, p.2) (record { told = tt; within = tt })

pub chain-operators-preserved : goal.chain-operators-preserved
chain-operators-preserved t c = record {
  inside = c.in_ok-right.ensures.ok.accepts.inside;
  before = (let a = c.in_ok-right.ensures.ok.accepts.exact.forward in let b = c.operators.invariant.before in omega (arith, a, b));
  read = (expr.Bin c.in-Some.op c.operators.invariant.read.0 c.in_ok-right.ensures.ok.expression, (c.in_ok-left.ensures _ _ c.operators.invariant.read.1.0 c.in_ok-right.ensures.ok.stands, next (again_stage c.args.opened c.args.level c.args.tokens.now c.args.i _ _ _ c.in-Some.ensures.0 c.in-Some.ensures.1 c.requires.chained c.operators.invariant.read.1.1) c.in_ok-right.ensures.ok.accepts (lit≤ tt) (after_operand c.args.opened c.args.level (λ a. expr.Bin c.in-Some.op c.operators.invariant.read.0 a))));
}

pub chain-operators-smaller : goal.chain-operators-smaller
chain-operators-smaller t c = (let a = c.in_ok-right.ensures.ok.accepts.exact.forward in let b = c.in_ok-right.ensures.ok.accepts.inside in omega (arith, a, b))

pub chain-returns-clause-ok : goal.chain-returns-clause-ok
chain-returns-clause-ok t c = record { expression = _; stands = c.operators.invariant.read.1.0; accepts = ended_accepts c.args.opened c.args.level c.args.tokens.now c.args.i _ _ (none_of _ _ c.operator.result c.operator.ensures c.in_default.not-Some) c.operators.invariant.inside c.operators.invariant.read.1.1 }
