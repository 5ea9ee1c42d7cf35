-- Lists of updates as sets: each once, in whatever order.
-- Read against: the lists of u, v and of v, u have the same updates; the union of u, v with v, w is u, v, w, where the vector of u and v doesn't cover w.
use Rattle.std.specs.Prelude.{not, List, [], ◌∷◌, ◌++◌}
use Rattle.std.specs.List.{filter}
use Rattle.re_terms.specs.Updates.{Update, IsIn, vector_of}
use Rattle.re_terms.specs.Vectors.{covers}

abbrev pub EachOnce : List Update → Type 0
EachOnce [] = Unit {0}
EachOnce (u ∷ us) = (IsIn u us → ⊥) × EachOnce us

-- the same updates, each once in both
pub record SameUpdates (us vs : List Update) : Type 0 where
  pub once : EachOnce us
  pub other_once : EachOnce vs
  pub to : (u : Update) → IsIn u us → IsIn u vs
  pub back : (u : Update) → IsIn u vs → IsIn u us

-- the updates of both: those of the first, and those of the second that the first's vector doesn't cover
abbrev pub union : List Update → List Update → List Update
union us vs = us ++ filter (λ u. not (covers (vector_of us) u.dot)) vs
