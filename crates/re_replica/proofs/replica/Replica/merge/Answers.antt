use Rattle.std.proofs.Common.{◌≡◌, ap, ◌∙◌, sym, subst}
use Rattle.re_terms.proofs.Joins.{state_join}
use Rattle.re_terms.specs.Shapes.{FitsShape}
use Rattle.re_terms.specs.UpdateStates.{join_states}
use Rattle.re_terms.specs.declared.replicated.RState.{RState}
use Rattle.re_replica.specs.Replica.{ReplicaState}
use Rattle.re_terms.proofs.FittingStates.{join_fits}
use Rattle.re_replica.proofs.ReplicaOf.{is_replica_joined}
use Rattle.re_replica.proofs.Shaped.{can_merge_at}
use Rattle.re_replica.proofs.replica.Replica.merge.Goals as goal

pub merge_cells-requires-clause-alike : goal.merge_cells-requires-clause-alike
merge_cells-requires-clause-alike c =
    let other = subst (λ (v : ReplicaState). FitsShape v.shape c.args.other.now) (sym c.self.view_is) c.requires in
    can_merge_at c.self.inside.shape c.self.inside.state c.args.other.now c.self.invariant.limits.devices c.self.invariant.fits other

pub invariant_of-self : goal.invariant_of-self
invariant_of-self c =
    let d = c.self.inside in
    let now : RState = record { vector = c.join_vectors-self-inside.result; cells = c.in-Ok.merged.cells } in
    let is : now ≡ join_states d.state c.args.other.now = λ i. record { vector = record { counts = c.join_vectors-self-inside.ensures i }; cells = c.in-Ok.ensures.joined i } in
    let other = subst (λ (v : ReplicaState). FitsShape v.shape c.args.other.now) (sym c.self.view_is) c.requires in
    record {
      limits = c.self.invariant.limits;
      numbered = c.self.invariant.numbered;
      fits = subst (FitsShape d.shape) (sym is) (join_fits d.shape d.state c.args.other.now c.self.invariant.fits other c.in-Ok.ensures.room);
    }

pub returns-clause-updates : goal.returns-clause-updates
returns-clause-updates c = λ log v w causal closed_v closed_w before given.
    let d = c.self.inside in
    let self = c.args.self.now in
    let now : RState = record { vector = c.join_vectors-self-inside.result; cells = c.in-Ok.merged.cells } in
    let is : now ≡ join_states d.state c.args.other.now = λ i. record { vector = record { counts = c.join_vectors-self-inside.ensures i }; cells = c.in-Ok.ensures.joined i } in
    is
    ∙ ap (λ (x : ReplicaState). join_states x.state c.args.other.now) c.self.view_is
    ∙ (λ i. join_states (before i) (given i))
    ∙ state_join self.shape log v w causal closed_v closed_w

pub returns-clause-causal : goal.returns-clause-causal
returns-clause-causal c = λ log v w before closed places given.
    let d = c.self.inside in
    let now : RState = record { vector = c.join_vectors-self-inside.result; cells = c.in-Ok.merged.cells } in
    let is : now ≡ join_states d.state c.args.other.now = λ i. record { vector = record { counts = c.join_vectors-self-inside.ensures i }; cells = c.in-Ok.ensures.joined i } in
    is_replica_joined log v w c.args.self.now c.args.other.now before closed places given _
    (ap (λ s. record { shape = d.shape; device = d.device; state = s }) is
    ∙ ap (λ (x : ReplicaState). record { shape = x.shape; device = x.device; state = join_states x.state c.args.other.now }) c.self.view_is)
