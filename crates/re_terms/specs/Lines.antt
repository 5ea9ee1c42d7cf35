-- The lines of devices, and what was acknowledged of them, in a session of several devices.
-- Read against: on `device a; counter c;` after lazy a add c 1, turn a add c 2 and within lazy a add c 3 the line of a has two entries; within a turn behind these three it has the unsettled third and the turn's own too.
-- The turn's ok 2 acknowledges 2 and applied 3 nothing; where the turn's commit failed its line is the entries in doubt behind the settled ones.
use Rattle.std.specs.Prelude.{ℕ, ◌==◌, Bool, true, false, if◌then◌else◌, List, [], ◌∷◌, ◌++◌, max, take, Option, None, Some, slice_get}
use Rattle.re_terms.specs.declared.program.Program.{Program}
use Rattle.re_terms.specs.declared.command.Command.{Command}
use Rattle.re_terms.specs.declared.command.Command.TheVariants as command
use Rattle.re_terms.specs.DeviceWorlds.{World, Outcome, entries_of, entry_of, is_for, reply, world_after}
use Rattle.re_terms.specs.Entries.{PlainEntry}
use Rattle.re_terms.specs.Worlds.{PlainAnswer, Entered, Settled, Up, Refused, StoppedAt, BadFile}

-- a command that was asked, and how it fared
pub record Done : Type 0 where
  pub asked : Command
  pub outcome : Outcome

-- the world after these commands
abbrev pub worlds_after : Program → World → List Done → World
worlds_after p w [] = w
worlds_after p w (c ∷ cs) = worlds_after p (world_after p w c.asked c.outcome) cs

-- the answers to them
abbrev pub replies : Program → World → List Done → List PlainAnswer
replies p w [] = []
replies p w (c ∷ cs) = reply p w c.asked c.outcome ∷ replies p (world_after p w c.asked c.outcome) cs

-- ---- lines

-- the answer is no refusal, or the one of a failed file call
abbrev pub may_have_entered : PlainAnswer → Bool
may_have_entered (Refused code) = code == 33
may_have_entered (StoppedAt call) = false
may_have_entered (BadFile file place) = false
may_have_entered a = true

-- it settles an entry of its own
abbrev pub settles_own : Command → Bool
settles_own (command.Turn d t) = true
settles_own (command.Deliver k d) = true
settles_own c = false

-- the entry of a command under way, where it settles one on this device and isn't refused, or only since a file call failed
abbrev pub own_entry : Program → World → Done → ℕ → List PlainEntry
own_entry p w c d = if is_for d c.asked then (if settles_own c.asked then (if may_have_entered (reply p w c.asked c.outcome) then entries_of (entry_of w c.asked) else []) else []) else []

-- the same where no command may be under way
abbrev pub entry_under_way : Program → World → Option Done → ℕ → List PlainEntry
entry_under_way p w None d = []
entry_under_way p w (Some c) d = own_entry p w c d

-- the first list where it isn't empty, else the second
abbrev pub first_filled : List PlainEntry → List PlainEntry → List PlainEntry
first_filled [] more = more
first_filled (e ∷ entries) more = e ∷ entries

-- the entries behind the settled ones that a device's files may hold: those in doubt, or else the unsettled ones and behind them that of the command under way
abbrev pub further : Program → World → Option Done → ℕ → List PlainEntry
further p w under_way d = first_filled (w.in_doubt d) (w.unsettled d ++ entry_under_way p w under_way d)

-- a device's entries since the start, with those that its files may hold or not
abbrev pub committed_line : Program → World → Option Done → ℕ → List PlainEntry
committed_line p w under_way d = w.settled d ++ further p w under_way d

-- the same where so many of these commands are answered, and the next has begun or not
abbrev pub line_at : Program → World → List Done → ℕ → Bool → ℕ → List PlainEntry
line_at p w done answered begun d = committed_line p (worlds_after p w (take answered done)) (if begun then slice_get done answered else None) d

-- ---- acknowledged

-- the number that an answer acknowledges
abbrev pub number_told : PlainAnswer → Option ℕ
number_told (Entered n) = Some n
number_told (Settled n) = Some n
number_told (Up n) = Some n
number_told a = None

-- the greater of a number and one that may be there
abbrev pub greater_of : ℕ → Option ℕ → ℕ
greater_of n None = n
greater_of n (Some m) = max n m

-- the greatest number that the answers to these commands acknowledge of a device, and no less than this one
abbrev pub told : Program → World → List Done → ℕ → ℕ → ℕ
told p w [] d n = n
told p w (c ∷ cs) d n = told p (world_after p w c.asked c.outcome) cs d (if is_for d c.asked then greater_of n (number_told (reply p w c.asked c.outcome)) else n)

-- what is acknowledged of a device where so many of these commands are answered: the greatest number that an answer told of it, else that of the start
abbrev pub acknowledged : Program → World → List Done → ℕ → ℕ → ℕ
acknowledged p w done answered d = told p w (take answered done) d (w.base_number d)
