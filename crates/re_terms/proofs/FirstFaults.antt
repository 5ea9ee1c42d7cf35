-- The first operation that a limit stands against decides.
use Rattle.std.proofs.Common.{◌≡◌, ℕ, List, [], ◌∷◌, ◌++◌, None, Some, refl, sym, ap, ◌∙◌, append_assoc}
use Rattle.std.specs.Option.{option_or}
use Rattle.std.proofs.lemmas.List.{append-nil}
use Rattle.re_terms.specs.Limits.{IsFirstFault, OperationFault, update_fault, update_next, updates_fault, updates_made}
use Rattle.re_terms.specs.Updates.{Update}
use Rattle.re_terms.specs.declared.replicated.RepOp.{RepOp}
use Rattle.re_terms.specs.declared.replicated.Shape.{Shape}

module _ (shape : Shape) (device : ℕ) where
  -- the same with one operation more before them, against which nothing stands
  later : (us : List Update) (op : RepOp) (ops : List RepOp) (f : OperationFault) → update_fault shape us (update_next us device op) ≡ None → IsFirstFault shape device ops (us ++ update_next us device op ∷ []) f → IsFirstFault shape device (op ∷ ops) us f
  later us op ops f none h =
      let u = update_next us device op in
      let same : (us ++ u ∷ []) ++ updates_made device h.front (us ++ u ∷ []) ≡ us ++ u ∷ updates_made device h.front (us ++ u ∷ []) = append_assoc us (u ∷ []) (updates_made device h.front (us ++ u ∷ [])) in
      record {
        front = op ∷ h.front;
        refused = h.refused;
        rest = h.rest;
        split = ap (λ l. op ∷ l) h.split;
        before = rw none h.before;
        fault = ap (λ l. update_fault shape l (update_next l device h.refused)) (sym same) ∙ h.fault;
      }

  pub first_from : (ops : List RepOp) (us : List Update) (f : OperationFault) → updates_fault shape device ops us ≡ Some f → IsFirstFault shape device ops us f
  first_from [] us f h = absurd (cc)
  first_from (op ∷ ops) us f h =
      let u = update_next us device op in
      elim (update_fault shape us u) as (λ o. update_fault shape us u ≡ o → option_or o (updates_fault shape device ops (us ++ u ∷ [])) ≡ Some f → IsFirstFault shape device (op ∷ ops) us f) [
        | None ↦ λ none e. later us op ops f none (first_from ops (us ++ u ∷ []) f e)
        | Some g ↦ λ is e. record {
          front = [];
          refused = op;
          rest = ops;
          split = refl;
          before = refl;
          fault = ap (λ l. update_fault shape l (update_next l device op)) (append-nil us) ∙ is ∙ e;
        }
      ] refl h

  -- what comes after the operations before it
  behind : (front : List RepOp) (op : RepOp) (rest : List RepOp) (us : List Update) (f : OperationFault) → updates_fault shape device front us ≡ None → update_fault shape (us ++ updates_made device front us) (update_next (us ++ updates_made device front us) device op) ≡ Some f → updates_fault shape device (front ++ op ∷ rest) us ≡ Some f
  behind [] op rest us f none h =
      let e : update_fault shape us (update_next us device op) ≡ Some f = ap (λ l. update_fault shape l (update_next l device op)) (sym (append-nil us)) ∙ h in
      rw e refl
  behind (x ∷ front) op rest us f none h =
      let u = update_next us device x in
      elim (update_fault shape us u) as (λ o. update_fault shape us u ≡ o → option_or o (updates_fault shape device front (us ++ u ∷ [])) ≡ None → option_or o (updates_fault shape device (front ++ op ∷ rest) (us ++ u ∷ [])) ≡ Some f) [
        | None ↦ λ _ e.
            let same : (us ++ u ∷ []) ++ updates_made device front (us ++ u ∷ []) ≡ us ++ u ∷ updates_made device front (us ++ u ∷ []) = append_assoc us (u ∷ []) (updates_made device front (us ++ u ∷ [])) in
            behind front op rest (us ++ u ∷ []) f e (ap (λ l. update_fault shape l (update_next l device op)) same ∙ h)
        | Some g ↦ λ _ e. absurd (cc)
      ] refl none

  pub first_is : (ops : List RepOp) (us : List Update) (f : OperationFault) → IsFirstFault shape device ops us f → updates_fault shape device ops us ≡ Some f
  first_is ops us f h = ap (λ l. updates_fault shape device l us) h.split ∙ behind h.front h.refused h.rest us f h.before h.fault
