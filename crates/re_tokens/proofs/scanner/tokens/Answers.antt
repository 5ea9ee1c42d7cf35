use Rattle.std.proofs.Common.{◌≡◌, ◌<◌, length, refl, sym, ap, subst, arith}
use Rattle.std.specs.Prelude.{Err, IsErrAnd}
use Rattle.re_tokens.specs.declared.fault.LexFault.TheVariants as LexFault
use Rattle.re_tokens.proofs.Lists.{is_token_list}
use Rattle.re_tokens.proofs.Reading.{reads_more, reads_all, reads_none, rest_within, left_shorter}
use Rattle.re_tokens.proofs.scanner.tokens.Goals as goal

pub overflow_sub-at : goal.overflow_sub-at
overflow_sub-at c = rest_within _ _ _ c.loop-rest.invariant

pub returns-in_err-mark-clause-no_token : goal.returns-in_err-mark-clause-no_token
returns-in_err-mark-clause-no_token c = λ place e.
    let g : IsErrAnd c.from_residual.result (λ f. f ≡ c.in_err-mark.field-0.0) = c.from_residual.ensures.1 in
    let k : c.in_err-mark.field-0.0 ≡ LexFault.At place = sym (subst (λ r. IsErrAnd r (λ f. f ≡ c.in_err-mark.field-0.0)) e g) in
    let n = c.in_err-mark.ensures.none place (ap Err k) in
    let some : 0 < length c.loop-rest.rest.now = grind arith in
    reads_none _ _ c.loop-rest.rest.now place c.loop-rest.invariant some n.0 n.1

pub loop-rest-smaller : goal.loop-rest-smaller
loop-rest-smaller c =
    let some : 0 < length c.loop-rest.rest.now = grind arith in
    left_shorter c.loop-rest.rest.now _ _ some c.in_ok-mark.ensures.mark c.skip_gap-rest-in-loop-rest.ensures

pub loop-rest-preserved : goal.loop-rest-preserved
loop-rest-preserved c =
    let some : 0 < length c.loop-rest.rest.now = grind arith in
    reads_more _ _ _ c.loop-rest.rest.now _ _ _ c.loop-rest.invariant some refl c.in_ok-mark.ensures.mark c.skip_gap-rest-in-loop-rest.ensures c.in_ok-push.ensures.ok

pub returns-clause-read : goal.returns-clause-read
returns-clause-read c =
    let none : length c.loop-rest.rest.now ≡ 0 = grind arith in
    reads_all _ _ _ c.loop-rest.rest.now c.loop-rest.invariant none c.in_ok-push-2.ensures.ok

pub returns-clause-list : goal.returns-clause-list
returns-clause-list c =
    let none : length c.loop-rest.rest.now ≡ 0 = grind arith in
    is_token_list _ _ (reads_all _ _ _ c.loop-rest.rest.now c.loop-rest.invariant none c.in_ok-push-2.ensures.ok)
