-- The merges of states of one log, in any order.
use Rattle.std.proofs.Common.{◌≡◌, ℕ, Bool, true, false, cond, List, [], ◌∷◌, refl, sym, ap, ◌∙◌, inl, inr, arith}
use Rattle.std.specs.Prelude.{◌||◌}
use Rattle.std.specs.List.{filter, list_any}
use Rattle.std.proofs.lemmas.Bool.Decides.{nat_tests}
use mathlib.Core.Bool.{true≢false}
use Rattle.re_terms.specs.Shapes.{start_replicated}
use Rattle.re_terms.specs.Updates.{Update, IsIn, IsCausalLog, IsCausallyClosed, covered}
use Rattle.re_terms.specs.UpdateStates.{state_of_updates}
use Rattle.re_terms.specs.Values.{view_of_updates}
use Rattle.re_terms.specs.Vectors.{covers, join_vectors}
use Rattle.re_terms.specs.Views.{view_of}
use Rattle.re_terms.specs.declared.replicated.Dot.{Dot}
use Rattle.re_terms.specs.declared.replicated.Shape.{Shape}
use Rattle.re_terms.proofs.Joins.{state_join}
use Rattle.re_terms.proofs.Logs.{closed_join, covers-greater_each, numbered_of, IsIn-from_filter}
use Rattle.re_terms.proofs.Members.{state_none}
use Rattle.re_terms.proofs.Values.{view_is}
use Rattle.re_replica.specs.Merges.{AllClosed, CoverAlike, is_covered, merged_in}

filter_agree : (p q : Update → Bool) (us : List Update) → ((u : Update) → IsIn u us → p u ≡ q u) → filter p us ≡ filter q us
filter_agree p q [] h = refl
filter_agree p q (u ∷ us) h = λ i. cond (h u (inl refl) i) (u ∷ filter_agree p q us (λ x m. h x (inr m)) i) (filter_agree p q us (λ x m. h x (inr m)) i)

-- one vector for all of them
abbrev joined : List ℕ → List (List ℕ) → List ℕ
joined v [] = v
joined v (w ∷ vs) = joined (join_vectors v w) vs

or_assoc : (a b c : Bool) → ((a || b) || c) ≡ (a || (b || c))
or_assoc true b c = refl
or_assoc false b c = refl

or_none : (a : Bool) → (a || false) ≡ a
or_none true = refl
or_none false = refl

covers_joined : (v : List ℕ) (vs : List (List ℕ)) (d : Dot) → covers (joined v vs) d ≡ (covers v d || list_any (λ w. covers w d) vs)
covers_joined v [] d = sym (or_none (covers v d))
covers_joined v (w ∷ vs) d =
    covers_joined (join_vectors v w) vs d
    ∙ ap (λ b. b || list_any (λ x. covers x d) vs) (covers-greater_each v w d)
    ∙ or_assoc (covers v d) (covers w d) (list_any (λ x. covers x d) vs)

module _ (shape : Shape) (log : List Update) (causal : IsCausalLog log) where
  merged_from : (v : List ℕ) (vs : List (List ℕ)) → IsCausallyClosed log v → AllClosed log vs → merged_in shape log (state_of_updates shape (covered log v)) vs ≡ state_of_updates shape (covered log (joined v vs))
  merged_from v [] closed rest = refl
  merged_from v (w ∷ vs) closed rest =
      ap (λ s. merged_in shape log s vs) (state_join shape log v w causal closed rest.0)
      ∙ merged_from (join_vectors v w) vs (closed_join log v w closed rest.0) rest.1

  -- the empty vector covers nothing
  covers_none : (d : Dot) → covers [] d ≡ false
  unfolding covers
  covers_none d = grind (arith, nat_tests)

  covered_none : (us : List Update) → covered us [] ≡ []
  covered_none [] = refl
  covered_none (u ∷ us) = λ i. cond (covers_none u.dot i) (u ∷ covered us []) (covered_none us i)

  closed_none : IsCausallyClosed log []
  closed_none d e = absurd (true≢false (sym e ∙ covers_none d))

  -- what the merges into the start state give
  merged_is : (vs : List (List ℕ)) → AllClosed log vs → merged_in shape log (start_replicated shape) vs ≡ state_of_updates shape (filter (is_covered vs) log)
  merged_is vs closed =
      ap (λ s. merged_in shape log s vs) (sym (state_none shape) ∙ ap (state_of_updates shape) (sym (covered_none log)))
      ∙ merged_from [] vs closed_none closed
      ∙ ap (state_of_updates shape) (filter_agree (λ u. covers (joined [] vs) u.dot) (is_covered vs) log (λ u m. covers_joined [] vs u.dot ∙ ap (λ b. b || is_covered vs u) (covers_none u.dot)))

  pub merges_agree : (vs ws : List (List ℕ)) → AllClosed log vs → AllClosed log ws → CoverAlike log vs ws → merged_in shape log (start_replicated shape) vs ≡ merged_in shape log (start_replicated shape) ws
  merges_agree vs ws closed_v closed_w alike =
      merged_is vs closed_v
      ∙ ap (state_of_updates shape) (filter_agree (is_covered vs) (is_covered ws) log alike)
      ∙ sym (merged_is ws closed_w)

  pub merges_show : (vs : List (List ℕ)) → AllClosed log vs → view_of (merged_in shape log (start_replicated shape) vs) ≡ view_of_updates shape (filter (is_covered vs) log)
  merges_show vs closed =
      ap view_of (merged_is vs closed)
      ∙ view_is shape (filter (is_covered vs) log) (λ u m. (numbered_of log causal).device u ((IsIn-from_filter (is_covered vs) u log m).0))

pub same_states : (shape : Shape) (log : List Update) (v w : List ℕ) → CoverAlike log (v ∷ []) (w ∷ []) → state_of_updates shape (covered log v) ≡ state_of_updates shape (covered log w)
same_states shape log v w alike = ap (state_of_updates shape) (filter_agree (λ u. covers v u.dot) (λ u. covers w u.dot) log (λ u m. sym (or_none (covers v u.dot)) ∙ alike u m ∙ or_none (covers w u.dot)))
