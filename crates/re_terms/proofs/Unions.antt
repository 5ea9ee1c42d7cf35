-- A union of updates gives the join of their states.
use Rattle.std.proofs.Common.{◌≡◌, ℕ, Bool, List, [], ◌∷◌, refl, sym, ap, ◌∙◌, inl, inr, true, false, cond, not, ◌++◌}
use Rattle.std.specs.Prelude.{not, ◌⊎◌, ◌||◌}
use Rattle.std.specs.List.{filter}
use Rattle.re_terms.specs.UpdateStates.{state_of_updates, join_states}
use Rattle.re_terms.specs.Updates.{Update, IsIn, IsCausalLog, vector_of, covered, IsCausallyClosed}
use Rattle.re_terms.specs.Vectors.{covers, join_vectors, greater_each}
use Rattle.re_terms.specs.declared.replicated.Shape.{Shape}
use Rattle.re_terms.proofs.Logs.{Numbered, numbered_of, by_logs, numbered_more, fresh, IsIn-left, IsIn-right, IsIn-cases, IsIn-filter, IsIn-from_filter, covers-greater_each, covers-vector_of}
use Rattle.re_terms.proofs.Registers.{one_of, or_true}
use mathlib.Core.Bool.{true≢false}
use Rattle.re_terms.specs.declared.replicated.Dot.{Dot}
use Rattle.re_terms.specs.UpdateSets.{EachOnce, SameUpdates, union}
use Rattle.re_terms.proofs.Joins.{state_join}
use Rattle.re_terms.proofs.Members.{state_same, vector_alike}

pub once_push : (us : List Update) (u : Update) → EachOnce us → (IsIn u us → ⊥) → EachOnce (us ++ u ∷ [])
once_push [] u h k = (λ z. z, tt)
once_push (x ∷ us) u h k = (λ m. elim (IsIn-cases x us (u ∷ []) m) [ inl a ↦ h.0 a | inr a ↦ elim a [ inl e ↦ k (inl (sym e)) | inr z ↦ z ] ], once_push us u h.1 (λ m. k (inr m)))

-- a causal log has each update once
pub once_log : (b : List Update) → IsCausalLog b → EachOnce b
once_log b causal = (by_logs (λ us. Numbered us × EachOnce us) (numbered_of [] tt, tt) (λ us u h is_next. (numbered_more us u h.0 is_next, once_push us u h.1 (λ k. fresh us u h.0 is_next u k refl))) b causal).1

once_filter : (p : Update → Bool) (us : List Update) → EachOnce us → EachOnce (filter p us)
once_filter p [] h = tt
once_filter p (u ∷ us) h = elim (p u) as (λ b. EachOnce (cond b (u ∷ filter p us) (filter p us))) [ true ↦ (λ k. h.0 (IsIn-from_filter p u us k).0, once_filter p us h.1) | false ↦ once_filter p us h.1 ]

once_append : (us vs : List Update) → EachOnce us → EachOnce vs → ((u : Update) → IsIn u us → IsIn u vs → ⊥) → EachOnce (us ++ vs)
once_append [] vs a b apart = b
once_append (u ∷ us) vs a b apart = (λ k. elim (IsIn-cases u us vs k) [ inl h ↦ a.0 h | inr h ↦ apart u (inl refl) h ], once_append us vs a.1 b (λ x h k. apart x (inr h) k))

not_both : (b : Bool) → b ≡ true → not b ≡ true → ⊥
not_both true e h = true≢false (sym h)
not_both false e h = true≢false (sym e)

either_way : (b : Bool) → (b ≡ true) ⊎ (not b ≡ true)
either_way true = inl refl
either_way false = inr refl

module _ (b us vs : List Update) (v w : List ℕ) (causal : IsCausalLog b) (cv : IsCausallyClosed b v) (sv : SameUpdates us (covered b v)) (sw : SameUpdates vs (covered b w)) where
  -- us covers what v covers
  alike : (q : Dot) → covers (vector_of us) q ≡ covers v q
  alike q = ap (λ l. covers l q) (vector_alike us (covered b v) sv.to sv.back) ∙ covers-vector_of b v (numbered_of b causal) cv q

  new : Update → Bool
  new u = not (covers (vector_of us) u.dot)

  pub union_same : SameUpdates (union us vs) (covered b (join_vectors v w))
  unfolding new
  union_same =
      let t = λ (u : Update). covers (greater_each v w) u.dot in
      record {
        once = once_append us (filter new vs) sv.once (once_filter new vs sw.once) (λ u h k. not_both _ (alike u.dot ∙ (IsIn-from_filter (λ u. covers v u.dot) u b (sv.to u h)).1) (IsIn-from_filter new u vs k).1);
        other_once = once_filter t b (once_log b causal);
        to = λ u h. elim (IsIn-cases u us (filter new vs) h) [
          | inl k ↦ let m = IsIn-from_filter (λ u. covers v u.dot) u b (sv.to u k) in IsIn-filter t u b m.0 (covers-greater_each v w u.dot ∙ ap (λ c. c || covers w u.dot) m.1)
          | inr k ↦ let m = IsIn-from_filter (λ u. covers w u.dot) u b (sw.to u (IsIn-from_filter new u vs k).0) in IsIn-filter t u b m.0 (covers-greater_each v w u.dot ∙ ap (λ c. covers v u.dot || c) m.1 ∙ or_true (covers v u.dot))
        ];
        back = λ u h. let m = IsIn-from_filter t u b h in
            elim (either_way (covers (vector_of us) u.dot)) [
              | inl c ↦ IsIn-left u us (filter new vs) (sv.back u (IsIn-filter (λ u. covers v u.dot) u b m.0 (sym (alike u.dot) ∙ c)))
              | inr c ↦ elim (one_of (covers v u.dot) (covers w u.dot) (sym (covers-greater_each v w u.dot) ∙ m.1)) [
                | inl k ↦ absurd (not_both _ (alike u.dot ∙ k) c)
                | inr k ↦ IsIn-right u us (filter new vs) (IsIn-filter new u vs (sw.back u (IsIn-filter (λ u. covers w u.dot) u b m.0 k)) c)
              ]
            ];
      }

-- the join of two states is that of the updates of both
pub union_join : (shape : Shape) (b us vs : List Update) (v w : List ℕ) → IsCausalLog b → IsCausallyClosed b v → IsCausallyClosed b w → SameUpdates us (covered b v) → SameUpdates vs (covered b w) → join_states (state_of_updates shape us) (state_of_updates shape vs) ≡ state_of_updates shape (union us vs)
union_join shape b us vs v w causal cv cw sv sw =
    let in_v = λ (u : Update) (h : IsIn u (covered b v)). (IsIn-from_filter (λ u. covers v u.dot) u b h).0 in
    let in_w = λ (u : Update) (h : IsIn u (covered b w)). (IsIn-from_filter (λ u. covers w u.dot) u b h).0 in
    let in_j = λ (u : Update) (h : IsIn u (covered b (join_vectors v w))). (IsIn-from_filter (λ u. covers (join_vectors v w) u.dot) u b h).0 in
    (λ j. join_states (state_same shape b us (covered b v) causal sv in_v j) (state_same shape b vs (covered b w) causal sw in_w j))
    ∙ state_join shape b v w causal cv cw
    ∙ sym (state_same shape b (union us vs) (covered b (join_vectors v w)) causal (union_same b us vs v w causal cv sv sw) in_j)
