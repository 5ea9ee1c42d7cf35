-- How the lines of a session may fare.
-- Read against: over files that a run left, a line restart a whose device is down fares well, or its disk fails, or memory runs out; its store isn't bad, and isn't another program's.
use Rattle.std.specs.Prelude.{List}
use Rattle.std.specs.List.{All}
use Rattle.re_outside.specs.Outside.{FaultKind, Rose, Seen}
use Rattle.re_session.specs.Acts.{DoneLine}
use Rattle.re_terms.specs.DeviceWorlds.{BadStore, Fine, Memory, OtherProgram, Outcome}

-- no restart was refused for its store
abbrev pub FindsStore : Outcome → Type 0
FindsStore (BadStore file place) = ⊥
FindsStore OtherProgram = ⊥
FindsStore o = Unit {0}

-- it fared well, or memory ran out
abbrev pub IsCalm : Outcome → Type 0
IsCalm Fine = Unit {0}
IsCalm Memory = Unit {0}
IsCalm o = ⊥

-- Of these lines none was refused for its store; and where no count of faults has risen each fared well, or memory ran out for it.
pub record Fares (lines : List DoneLine) (old new : Seen) : Type 0 where
  pub stores : All (λ (l : DoneLine). FindsStore l.outcome) lines
  pub calm : ((kind : FaultKind) → Rose (old.faults kind) (new.faults kind) → ⊥) → All (λ (l : DoneLine). IsCalm l.outcome) lines
