-- What a device has taken in of an update log.
-- Read against: after the log of the updates (0, 1), (1, 1), where neither device has seen the other's, device 0 may have taken in (0, 1) alone, or (1, 1) and (0, 1) in this order, and not (1, 1) alone.
use Rattle.std.specs.Prelude.{ℕ, ◌<◌, ◌≡◌, List, slice_index}
use Rattle.re_terms.specs.Updates.{Update, IsCausalLog, IsCausallyClosed, count_of, covered, vector_of}
use Rattle.re_terms.specs.UpdateSets.{SameUpdates}

-- the updates that a device has taken in of a log: those that a causally closed vector covers, each once, in any order, and all of its own among them
pub record IsTakenIn (log : List Update) (device : ℕ) (us : List Update) : Type 0 where
  pub numbered : device < 16
  pub causal : IsCausalLog log
  pub closed : IsCausallyClosed log (vector_of us)
  pub same : SameUpdates us (covered log (vector_of us))
  pub own : slice_index (vector_of us) device ≡ count_of device log
