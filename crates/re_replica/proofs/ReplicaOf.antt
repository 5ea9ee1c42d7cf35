-- What a replica's state stands for: behind an operation or a merge, and as it is read.
use Rattle.std.proofs.Common.{◌≡◌, ℕ, ◌+◌, ◌<◌, ◌≤◌, cond, inl, inr, List, [], ◌∷◌, ◌++◌, length, refl, sym, ap, ◌∙◌, subst, arith}
use Rattle.std.specs.Prelude.{slice_index}
use Rattle.std.proofs.lemmas.List.{get_or-set_same, length-set}
use Rattle.std.proofs.lemmas.Bool.{cases_lt}
use Rattle.re_terms.proofs.Arrays.{length-greater_each}
use Rattle.re_terms.proofs.Joins.{state_join}
use Rattle.re_terms.proofs.Logs.{at-greater_each, closed_join, count-push, covers-from, numbered_of}
use Rattle.re_terms.proofs.OneMore.{same_number}
use Rattle.re_terms.proofs.Operations.{causal_push, closed_push, next_update_is_next, state_push}
use Rattle.re_terms.proofs.Values.{view_is}
use Rattle.re_terms.specs.UpdateStates.{after_operation, join_states, state_of_updates}
use Rattle.re_terms.specs.Updates.{Update, IsCausalLog, IsCausallyClosed, IsIn, count_of, covered, next_update}
use Rattle.re_terms.specs.Values.{view_of_updates}
use Rattle.re_terms.specs.Vectors.{join_vectors, with_dot}
use Rattle.re_terms.specs.Views.{View, view_of}
use Rattle.re_terms.specs.declared.word.Word.{Word}
use Rattle.re_terms.specs.declared.replicated.Dot.{Dot}
use Rattle.re_terms.specs.declared.replicated.RepOp.{RepOp}
use Rattle.re_terms.specs.declared.replicated.RState.{RState}
use Rattle.re_replica.specs.Replica.{ReplicaState, IsReplicaOf}

module _ (log : List Update) (v : List ℕ) (r : ReplicaState) (op : RepOp) (small : r.device < 16) (before : IsReplicaOf log v r) where
  abbrev next : Update
  next = next_update log v r.device op

  own_after : slice_index (with_dot v next.dot) r.device ≡ count_of r.device (log ++ next ∷ [])
  own_after =
      let wide = before.places in
      get_or-set_same v r.device (slice_index v r.device + 1) 0 (omega arith)
      ∙ ap (λ n. n + 1) before.own
      ∙ sym (count-push r.device log next ∙ ap (λ b. count_of r.device log + cond b 1 0) (same_number r.device r.device refl))

  after : IsReplicaOf (log ++ next ∷ []) (with_dot v next.dot) (record r { state = after_operation r.shape r.device op r.state })
  after =
      let is_next = next_update_is_next log v r.device op before.closed small before.places before.own in
      record {
        causal = causal_push log next before.causal is_next;
        closed = closed_push log next before.causal is_next;
        places = length-set v r.device (slice_index v r.device + 1) ∙ before.places;
        own = own_after;
        state = ap (after_operation r.shape r.device op) before.state ∙ sym (state_push log next before.causal is_next r.shape);
      }

  pub is_replica_after : (now : ReplicaState) → now ≡ record r { state = after_operation r.shape r.device op r.state } → IsReplicaOf (log ++ next ∷ []) (with_dot v next.dot) now
  is_replica_after now is = subst (IsReplicaOf (log ++ next ∷ []) (with_dot v next.dot)) (sym is) after

-- ---- a merge

-- a causally closed vector has no more of a device than the log
own_within : (log : List Update) (w : List ℕ) (device : ℕ) → IsCausalLog log → IsCausallyClosed log w → slice_index w device ≤ count_of device log
own_within log w device causal closed =
    elim (cases_lt 0 (slice_index w device)) [
      | inl some ↦ let u = closed (record { device = device; number = slice_index w device }) (covers-from w (record { device = device; number = slice_index w device }) some (omega arith)) in
          subst (λ (d : Dot). d.number ≤ count_of d.device log) u.2 ((numbered_of log causal).high u.0 u.1)
      | inr none ↦ omega arith
    ]

module _ (log : List Update) (v w : List ℕ) (r : ReplicaState) (other : RState) (before : IsReplicaOf log v r) (closed : IsCausallyClosed log w) (places : length w ≡ 16) (given : other ≡ state_of_updates r.shape (covered log w)) where
  joined : IsReplicaOf log (join_vectors v w) (record r { state = join_states r.state other })
  joined =
      let own = own_within log w r.device before.causal closed in
      let was = before.own in
      record {
        causal = before.causal;
        closed = closed_join log v w before.closed closed;
        places = length-greater_each v w (before.places ∙ sym places) ∙ before.places;
        own = omega (arith, at-greater_each v w r.device);
        state = (λ i. join_states (before.state i) (given i)) ∙ state_join r.shape log v w before.causal before.closed closed;
      }

  pub is_replica_joined : (now : ReplicaState) → now ≡ record r { state = join_states r.state other } → IsReplicaOf log (join_vectors v w) now
  is_replica_joined now is = subst (IsReplicaOf log (join_vectors v w)) (sym is) joined

-- ---- what a state of updates shows is what the updates give

module _ (r : ReplicaState) (us : List Update) (small : (u : Update) → IsIn u us → u.dot.device < 16) (is : r.state ≡ state_of_updates r.shape us) where
  shown : view_of r.state ≡ view_of_updates r.shape us
  shown = ap view_of is ∙ view_is r.shape us small

  pub word_shown : (cell : ℕ) → (view_of r.state).word cell ≡ (view_of_updates r.shape us).word cell
  word_shown cell = ap (λ (v : View). v.word cell) shown

  pub size_shown : (cell : ℕ) → (view_of r.state).size cell ≡ (view_of_updates r.shape us).size cell
  size_shown cell = ap (λ (v : View). v.size cell) shown

  pub has_shown : (cell : ℕ) (word : Word) → (view_of r.state).has cell word ≡ (view_of_updates r.shape us).has cell word
  has_shown cell word = ap (λ (v : View). v.has cell word) shown
