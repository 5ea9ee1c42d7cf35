use Rattle.std.proofs.Common.{◌<◌, ap, ◌∙◌, sym, subst, arith}
use Rattle.std.proofs.lemmas.Result.{err_from_is_err_and}
use Rattle.re_terms.proofs.Operations.{state_taken}
use Rattle.re_terms.specs.Limits.{operation_fault}
use Rattle.re_terms.specs.ShapedUpdates.{is_operation_in}
use Rattle.re_terms.specs.Shapes.{FitsShape}
use Rattle.re_terms.specs.UpdateStates.{after_operation}
use Rattle.re_replica.specs.Replica.{ReplicaState}
use Rattle.re_replica.proofs.Applied.{Answers, answers_of, state_of}
use Rattle.re_terms.proofs.FittingStates.{operation_fits}
use Rattle.re_replica.proofs.ReplicaOf.{is_replica_after}
use Rattle.re_replica.proofs.Shaped.{ordered_at}
use Rattle.re_replica.proofs.replica.Replica.apply.Goals as goal

pub act_at-requires-clause-ordered : goal.act_at-requires-clause-ordered
act_at-requires-clause-ordered c = ordered_at c.self.inside.shape c.self.inside.state c.self.invariant.limits.devices c.self.invariant.fits c.from-place.result

pub returns-in_err-act_at-clause-set_full : goal.returns-in_err-act_at-clause-set_full
returns-in_err-act_at-clause-set_full c =
    let d = c.self.inside in
    let op = c.args.op.now in
    let own = answers_of d.shape d.device op d.state c.self.invariant.fits c.from-place.result c.in_ok-dot.dot c.act_at.result c.from-place.ensures c.in_ok-dot.ensures.ok c.in_ok-dot.ensures.room c.act_at.ensures.dots_spent c.act_at.ensures.set_full c.act_at.ensures.counter_full in
    let all = subst (λ (v : ReplicaState). Answers c.act_at.result (operation_fault v.shape v.device op v.state)) c.self.view_is own in
    let p = err_from_is_err_and c.from_residual-in_err-act_at.result c.from_residual-in_err-act_at.ensures.1 in
    let was = c.in_err-act_at.was in
    (λ e. all.set_full.0 (cc (p.1, p.2)), λ o. let k = all.set_full.1 o in cc (p.1, p.2))

pub returns-in_err-act_at-clause-counter_full : goal.returns-in_err-act_at-clause-counter_full
returns-in_err-act_at-clause-counter_full c =
    let d = c.self.inside in
    let op = c.args.op.now in
    let own = answers_of d.shape d.device op d.state c.self.invariant.fits c.from-place.result c.in_ok-dot.dot c.act_at.result c.from-place.ensures c.in_ok-dot.ensures.ok c.in_ok-dot.ensures.room c.act_at.ensures.dots_spent c.act_at.ensures.set_full c.act_at.ensures.counter_full in
    let all = subst (λ (v : ReplicaState). Answers c.act_at.result (operation_fault v.shape v.device op v.state)) c.self.view_is own in
    let p = err_from_is_err_and c.from_residual-in_err-act_at.result c.from_residual-in_err-act_at.ensures.1 in
    let was = c.in_err-act_at.was in
    (λ e. all.counter_full.0 (cc (p.1, p.2)), λ o. let k = all.counter_full.1 o in cc (p.1, p.2))

pub invariant_of-self-2 : goal.invariant_of-self-2
invariant_of-self-2 c =
    let d = c.self.inside in
    let op = c.args.op.now in
    let is = state_of d.shape d.device op d.state c.self.invariant.fits c.from.result c.from-place.result c.in_ok-dot.dot c.act_at.new.cells c.from.ensures c.from-place.ensures c.in_ok-dot.ensures.ok c.in_ok-act_at.ensures.ok in
    let own = answers_of d.shape d.device op d.state c.self.invariant.fits c.from-place.result c.in_ok-dot.dot c.act_at.result c.from-place.ensures c.in_ok-dot.ensures.ok c.in_ok-dot.ensures.room c.act_at.ensures.dots_spent c.act_at.ensures.set_full c.act_at.ensures.counter_full in
    let op_is = ap (λ (v : ReplicaState). is_operation_in v.shape op) c.self.view_is ∙ c.requires in
    record {
      limits = c.self.invariant.limits;
      numbered = c.self.invariant.numbered;
      fits = subst (FitsShape d.shape) (sym is) (operation_fits d.shape d.device op d.state c.self.invariant.limits.devices c.self.invariant.numbered op_is (own.none c.in_ok-act_at.was) c.self.invariant.fits);
    }

pub returns-clause-ok : goal.returns-clause-ok
returns-clause-ok c =
    let d = c.self.inside in
    let op = c.args.op.now in
    let is = state_of d.shape d.device op d.state c.self.invariant.fits c.from.result c.from-place.result c.in_ok-dot.dot c.act_at.new.cells c.from.ensures c.from-place.ensures c.in_ok-dot.ensures.ok c.in_ok-act_at.ensures.ok in
    ap (λ s. record { shape = d.shape; device = d.device; state = s }) is
    ∙ ap (λ (v : ReplicaState). record { shape = v.shape; device = v.device; state = after_operation v.shape v.device op v.state }) c.self.view_is

pub returns-clause-updates : goal.returns-clause-updates
returns-clause-updates c = λ log v causal closed before.
    let d = c.self.inside in
    let op = c.args.op.now in
    let self = c.args.self.now in
    let is = state_of d.shape d.device op d.state c.self.invariant.fits c.from.result c.from-place.result c.in_ok-dot.dot c.act_at.new.cells c.from.ensures c.from-place.ensures c.in_ok-dot.ensures.ok c.in_ok-act_at.ensures.ok in
    let few = c.self.invariant.limits.devices in
    let below = c.self.invariant.numbered in
    let small : self.device < 16 = subst (λ (w : ReplicaState). w.device < 16) c.self.view_is (omega arith) in
    is
    ∙ ap (λ (w : ReplicaState). after_operation w.shape w.device op w.state) c.self.view_is
    ∙ ap (after_operation self.shape self.device op) before
    ∙ sym (state_taken log v self.device op causal closed small self.shape)

pub returns-clause-room : goal.returns-clause-room
returns-clause-room c =
    let d = c.self.inside in
    let op = c.args.op.now in
    let own = answers_of d.shape d.device op d.state c.self.invariant.fits c.from-place.result c.in_ok-dot.dot c.act_at.result c.from-place.ensures c.in_ok-dot.ensures.ok c.in_ok-dot.ensures.room c.act_at.ensures.dots_spent c.act_at.ensures.set_full c.act_at.ensures.counter_full in
    let all = subst (λ (v : ReplicaState). Answers c.act_at.result (operation_fault v.shape v.device op v.state)) c.self.view_is own in
    all.none c.in_ok-act_at.was

pub returns-clause-set_full : goal.returns-clause-set_full
returns-clause-set_full c =
    let d = c.self.inside in
    let op = c.args.op.now in
    let own = answers_of d.shape d.device op d.state c.self.invariant.fits c.from-place.result c.in_ok-dot.dot c.act_at.result c.from-place.ensures c.in_ok-dot.ensures.ok c.in_ok-dot.ensures.room c.act_at.ensures.dots_spent c.act_at.ensures.set_full c.act_at.ensures.counter_full in
    let all = subst (λ (v : ReplicaState). Answers c.act_at.result (operation_fault v.shape v.device op v.state)) c.self.view_is own in
    let none = all.none c.in_ok-act_at.was in
    (λ e. absurd (cc), λ o. absurd (cc))

pub returns-clause-causal : goal.returns-clause-causal
returns-clause-causal c = λ log v before.
    let d = c.self.inside in
    let op = c.args.op.now in
    let self = c.args.self.now in
    let is = state_of d.shape d.device op d.state c.self.invariant.fits c.from.result c.from-place.result c.in_ok-dot.dot c.act_at.new.cells c.from.ensures c.from-place.ensures c.in_ok-dot.ensures.ok c.in_ok-act_at.ensures.ok in
    let few = c.self.invariant.limits.devices in
    let below = c.self.invariant.numbered in
    let small : self.device < 16 = subst (λ (w : ReplicaState). w.device < 16) c.self.view_is (omega arith) in
    is_replica_after log v self op small before _
    (ap (λ s. record { shape = d.shape; device = d.device; state = s }) is
    ∙ ap (λ (w : ReplicaState). record { shape = w.shape; device = w.device; state = after_operation w.shape w.device op w.state }) c.self.view_is)
