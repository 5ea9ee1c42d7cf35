-- What is known of a replica: its shape, its device and its state.
-- Read against: with `device a; device b; counter c;` a replica of device 1 whose state has the vector 0, 3 and the counter's rows is one; with the device 2, or a state of two cells, it is none.
-- Over the log of device 0's `add c 2` and device 1's `add c 3`, neither seen by the other, the vectors 0, 1 and 1, 1 may be a replica's of device 1, with the increments 0, 3 and 2, 3; the vector 1, 0 may not, as its own update is missing.
use Rattle.std.specs.Prelude.{ℕ, ◌≡◌, ◌<◌, Bool, true, false, List, length, slice_index}
use Rattle.re_terms.specs.Shapes.{FitsShape, IsShape}
use Rattle.re_terms.specs.Updates.{Update, IsCausalLog, IsCausallyClosed, count_of, covered}
use Rattle.re_terms.specs.UpdateStates.{state_of_updates}
use Rattle.re_terms.specs.declared.replicated.Act.{Act}
use Rattle.re_terms.specs.declared.replicated.Act.TheVariants.{Add, Insert, Remove, Write}
use Rattle.re_terms.specs.declared.replicated.RState.{RState}
use Rattle.re_terms.specs.declared.replicated.Shape.{Shape}

pub record ReplicaState : Type 0 where
  pub shape : Shape
  pub device : ℕ
  pub state : RState

-- the device is one of the shape's, and the state fits the shape
pub record IsReplica (r : ReplicaState) : Type 0 where
  pub limits : IsShape r.shape
  pub numbered : r.device < r.shape.devices
  pub fits : FitsShape r.shape r.state

-- the replica's state is that of what the vector covers of an update log, all updates of its own device among them
pub record IsReplicaOf (log : List Update) (v : List ℕ) (r : ReplicaState) : Type 0 where
  pub causal : IsCausalLog log
  pub closed : IsCausallyClosed log v
  pub places : length v ≡ 16
  pub own : slice_index v r.device ≡ count_of r.device log
  pub state : r.state ≡ state_of_updates r.shape (covered log v)

-- an act that puts an element into a set, the one that may want memory
abbrev pub is_insert : Act → Bool
is_insert (Insert e) = true
is_insert (Remove e) = false
is_insert (Add n) = false
is_insert (Write w) = false
