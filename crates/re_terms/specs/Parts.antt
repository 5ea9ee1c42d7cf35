-- Parts of an update log, as packets and devices have them.
-- Read against: after the log of the updates (0, 1), (0, 2) the part of no update, that of (0, 1), and that of both in either order are parts, and that of (0, 2) alone is none.
use Rattle.std.specs.Prelude.{List, [], ◌∷◌}
use Rattle.re_terms.specs.Entries.{PlainEntry, Turn, Merge}
use Rattle.re_terms.specs.UpdateSets.{SameUpdates}
use Rattle.re_terms.specs.Updates.{Update, IsCausallyClosed, covered, vector_of}

-- the updates that a causally closed vector covers of a log, each once, in any order
pub record IsPart (log us : List Update) : Type 0 where
  pub closed : IsCausallyClosed log (vector_of us)
  pub same : SameUpdates us (covered log (vector_of us))

-- each of these packets is a part of the log
abbrev pub AreParts : List Update → List (List Update) → Type 0
AreParts log [] = Unit {0}
AreParts log (us ∷ packets) = IsPart log us × AreParts log packets

-- an entry may come next: a merge is of a part of the log, and nothing is asked of a turn
abbrev pub Fits : List Update → PlainEntry → Type 0
Fits log (Turn sets fires operations) = Unit {0}
Fits log (Merge packet) = IsPart log packet

-- each of these entries may
abbrev pub AllFit : List Update → List PlainEntry → Type 0
AllFit log [] = Unit {0}
AllFit log (e ∷ entries) = Fits log e × AllFit log entries
