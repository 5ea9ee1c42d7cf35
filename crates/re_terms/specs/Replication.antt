-- The law of a kind of replicated cell.
-- Read against: a counter whose merge took sums in place of the greater numbers would break it, since the updates that both devices have taken in would count twice.
use Rattle.std.specs.Prelude.{ℕ, ◌≡◌, List}
use Rattle.re_terms.specs.Updates.{Update, IsCausalLog, IsCausallyClosed, covered, vector_of}
use Rattle.re_terms.specs.Vectors.{join_vectors}

-- merging what two causally closed parts of a causal log make gives what their union makes
abbrev pub JoinLaw : {Value : Type 0} → (List ℕ → List ℕ → Value → Value → Value) → (List Update → Value) → Type 0
JoinLaw merged made =
    (log : List Update) (v w : List ℕ) → IsCausalLog log → IsCausallyClosed log v → IsCausallyClosed log w
    → merged (vector_of (covered log v)) (vector_of (covered log w)) (made (covered log v)) (made (covered log w)) ≡ made (covered log (join_vectors v w))
