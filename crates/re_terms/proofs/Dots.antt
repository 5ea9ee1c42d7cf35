-- The dots and the vector of a causal log.
use Rattle.std.proofs.Common.{◌≡◌, ℕ, List, [], ◌∷◌, ◌++◌, refl, sym, ◌∙◌, inl, inr, length}
use Rattle.std.proofs.lemmas.List.{ext_get_or}
use Rattle.re_terms.specs.Updates.{Update, IsIn, covered, IsCausallyClosed, IsCausalLog, greatest_number, vector_of}
use Rattle.re_terms.specs.UpdateSets.{EachOnce}
use Rattle.re_terms.proofs.Logs.{IsIn-cases, by_logs, Numbered, numbered_of, numbered_more, fresh, at-vector_of, length-by_device}

-- no dot names two updates
pub one_dot : (log : List Update) (u w : Update) → IsCausalLog log → IsIn u log → IsIn w log → u.dot ≡ w.dot → u ≡ w
one_dot log u w causal a b e = (numbered_of log causal).once u w a b e

each_push : (us : List Update) (u : Update) → EachOnce us → (IsIn u us → ⊥) → EachOnce (us ++ u ∷ [])
each_push [] u once new = (λ h. h, tt)
each_push (x ∷ us) u once new = (other, each_push us u once.1 (λ h. new (inr h)))
  where
    other : IsIn x (us ++ u ∷ []) → ⊥
    other h = elim (IsIn-cases x us (u ∷ []) h) [
      | inl a ↦ once.0 a
      | inr b ↦ elim b [ inl p ↦ new (inl (sym p)) | inr n ↦ n ]
    ]

-- each update stands once
pub each_once : (log : List Update) → IsCausalLog log → EachOnce log
each_once log causal = (by_logs (λ us. Numbered us × EachOnce us) (numbered_of [] tt, tt) (λ us u k next. (numbered_more us u k.0 next, each_push us u k.1 (λ h. fresh us u k.0 next u h refl))) log causal).1

vector_length : (us : List Update) → length (vector_of us) ≡ 16
unfolding vector_of
vector_length us = length-by_device (λ device. greatest_number device us)

-- the vector of what a causally closed vector covers is that vector
pub vector_back : (log : List Update) (v : List ℕ) → IsCausalLog log → IsCausallyClosed log v → length v ≡ 16 → vector_of (covered log v) ≡ v
vector_back log v causal closed places =
    ext_get_or 0 (vector_of (covered log v)) v (vector_length (covered log v) ∙ sym places) (λ d _. at-vector_of log v (numbered_of log causal) closed d)
