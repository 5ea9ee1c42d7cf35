-- What a step makes of declarations, one more at a time.
use Rattle.std.proofs.Common.{◌≡◌, ◌<◌, ◌==◌, ◌⊎◌, inl, inr, ℕ, zero, suc, refl, sym, ap, ◌∙◌, arith}
use Rattle.std.proofs.lemmas.Bool.{cases_eq, eq-eqb, ne_eqb, cond-true, cond-false}
use Rattle.re_terms.specs.Dependencies.{below}

-- at its own place
pub below-here : {A : Type 0} (none : A) (step : ℕ → (ℕ → A) → A) (n : ℕ) → below none step (suc n) n ≡ step n (below none step n)
below-here none step n = cond-true (n == n) (step n (below none step n)) (below none step n n) (eq-eqb n n refl)

-- before it
pub below-more : {A : Type 0} (none : A) (step : ℕ → (ℕ → A) → A) (n id : ℕ) → (id ≡ n → ⊥) → below none step (suc n) id ≡ below none step n id
below-more none step n id other = cond-false (id == n) (step n (below none step n)) (below none step n id) (ne_eqb id n other)

stable_by : {A : Type 0} (none : A) (step : ℕ → (ℕ → A) → A) (n id : ℕ) → (id < n → below none step n id ≡ below none step (suc id) id) → id < suc n → (id ≡ n) ⊎ (id ≡ n → ⊥) → below none step (suc n) id ≡ below none step (suc id) id
stable_by none step n id earlier under (inl e) = ap (λ k. below none step (suc k) id) (sym e)
stable_by none step n id earlier under (inr other) = below-more none step n id other ∙ earlier (omega arith)

below-stable : {A : Type 0} (none : A) (step : ℕ → (ℕ → A) → A) (n id : ℕ) → id < n → below none step n id ≡ below none step (suc id) id
below-stable none step zero id under = absurd (omega arith)
below-stable none step (suc n) id under = stable_by none step n id (below-stable none step n id) under (cases_eq id n)

-- what a declaration below a place is made of
pub below-own : {A : Type 0} (none : A) (step : ℕ → (ℕ → A) → A) (n id : ℕ) → id < n → below none step n id ≡ step id (below none step id)
below-own none step n id under = below-stable none step n id under ∙ below-here none step id
