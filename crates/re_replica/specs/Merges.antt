-- Merges of several states, one after the other.
-- Read against: behind a log of u by device 0 and v by device 1, where neither has seen the other's, the merges of the states of u and of v into the start state give the state of both, in either order, and so do those of v, u and v.
use Rattle.std.specs.Prelude.{◌≡◌, ℕ, Bool, List, [], ◌∷◌}
use Rattle.std.specs.List.{list_any}
use Rattle.re_terms.specs.Updates.{Update, IsIn, IsCausallyClosed, covered}
use Rattle.re_terms.specs.UpdateStates.{join_states, state_of_updates}
use Rattle.re_terms.specs.Vectors.{covers}
use Rattle.re_terms.specs.declared.replicated.RState.{RState}
use Rattle.re_terms.specs.declared.replicated.Shape.{Shape}

-- the states of what these vectors cover of a log, merged in order into a state
abbrev pub merged_in : Shape → List Update → RState → List (List ℕ) → RState
merged_in shape log s [] = s
merged_in shape log s (v ∷ vs) = merged_in shape log (join_states s (state_of_updates shape (covered log v))) vs

-- each of these vectors is causally closed over the log
abbrev pub AllClosed : List Update → List (List ℕ) → Type 0
AllClosed log [] = Unit {0}
AllClosed log (v ∷ vs) = IsCausallyClosed log v × AllClosed log vs

-- one of these vectors covers the update
abbrev pub is_covered : List (List ℕ) → Update → Bool
is_covered vs u = list_any (λ v. covers v u.dot) vs

-- these cover the same updates of the log as those do
abbrev pub CoverAlike : List Update → List (List ℕ) → List (List ℕ) → Type 0
CoverAlike log vs ws = (u : Update) → IsIn u log → is_covered vs u ≡ is_covered ws u
