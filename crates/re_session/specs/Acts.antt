-- The lines of a session, one behind the other, each answered whole before the next.
-- Read against: of the lines turn a x = 5 and get a x the first reads its bytes, makes the calls of its commit and says ok 1, and then the second reads its own and says 5.
use Rattle.std.specs.Prelude.{◌≡◌, ℕ, List, [], ◌∷◌, Option}
use Rattle.std.specs.List.{flat_map}
use Rattle.re_outside.specs.Outside.{Does, Seen, none}
use Rattle.re_session.specs.Serving.{DoesLine, said_of}
use Rattle.re_terms.specs.DeviceWorlds.{Outcome}
use Rattle.re_terms.specs.declared.command.Answer.{Answer}
use Rattle.re_terms.specs.declared.program.Program.{Program}
use Rattle.re_world.specs.State.{WorldState}

-- a line that was done: what it is, what it was answered, and how its command fared
pub record DoneLine : Type 0 where
  pub line : List ℕ
  pub answer : Option Answer
  pub outcome : Outcome

-- A line is done between two moments: it is read, then its command's own steps are made, and behind them its answer is said whole.
pub record Act (p : Program) (l : DoneLine) (before after : WorldState) (old new : Seen) : Type 0 where
  -- the bytes that were taken for it
  pub read : List ℕ
  pub begun : Seen
  pub reads : Does old begun read [] none
  -- what its command did before it was answered
  pub done : Seen
  pub own : DoesLine p l.line before after l.answer l.outcome begun done
  pub says : Does done new [] (said_of p l.answer) none

-- There are devices and a moment up to which P holds, and Q from there on.
pub record Through (P Q : WorldState → Seen → Type 0) : Type 0 where
  pub devices : WorldState
  pub mid : Seen
  pub here : P devices mid
  pub there : Q devices mid

-- these lines are done one behind the other, from one moment to another
abbrev pub Acts : Program → List DoneLine → WorldState → WorldState → Seen → Seen → Type 0
Acts p [] before after old new = (after ≡ before) × (new ≡ old)
Acts p (l ∷ lines) before after old new = Through (λ v s. Act p l before v old s) (λ v s. Acts p lines v after s new)

-- what they were answered, one answer behind the other
abbrev pub said_by : Program → List DoneLine → List ℕ
said_by p lines = flat_map (λ (l : DoneLine). said_of p l.answer) lines
