-- The words of vars by the entries that set them, the commands that make entries, what commands need, which lines settle entries, and devices that have taken in the same updates.
-- Read against: on `device a; var x: int = 1;` after the entries x = 5, and one that sets nothing, x was set last to 5.
-- A turn that is answered `ok 1` settles entries of its device, and one that is refused settles none.
-- Behind one packet, `hex 1` lacks its packet and `hex 0` doesn't; a stopped device that is up refuses `get`, and neither `crash` nor `restart` for being stopped.
use Rattle.std.specs.Prelude.{ℕ, ◌≡◌, ◌≤◌, true, false, List, [], ◌∷◌, Option, Some, None, Ok, length, unwrap_or}
use Rattle.re_session.specs.LineAnswers.{Reading}
use Rattle.re_terms.specs.DeviceWorlds.{World, taken}
use Rattle.re_terms.specs.Entries.{PlainEntry, sets_of}
use Rattle.re_terms.specs.Propagation.{put_word}
use Rattle.re_terms.specs.Updates.{Update, IsIn}
use Rattle.re_terms.specs.Worlds.{PlainAnswer, Entered, Settled, Up}
use Rattle.re_terms.specs.declared.command.Command.{Command}
use Rattle.re_terms.specs.declared.command.Command.TheVariants as command
use Rattle.re_terms.specs.declared.word.Word.{Word}

-- the word of a var after these entries, each of which may set it: the last one counts
abbrev pub last_set : List PlainEntry → ℕ → Word → Word
last_set [] id w = w
last_set (e ∷ entries) id w = last_set entries id (unwrap_or (put_word (sets_of e) id) w)

-- a command that makes an entry: a turn, settled or not, and a delivery
abbrev pub MakesEntry : Command → Type 0
MakesEntry (command.Turn d t) = Unit {0}
MakesEntry (command.Lazy d t) = Unit {0}
MakesEntry (command.Deliver k d) = Unit {0}
MakesEntry c = ⊥

-- the line is such a command
pub record IsEntry (l : Reading) : Type 0 where
  pub asked : Command
  pub is : l ≡ Ok (Some asked)
  pub makes : MakesEntry asked

-- the line is a command, of which this is so
abbrev pub Asks : Reading → (Command → Type 0) → Type 0
Asks l IsSo = (c : Command) × (l ≡ Ok (Some c)) × IsSo c

-- the number of the packet that a command needs
abbrev pub packet_of : Command → Option ℕ
packet_of (command.Deliver k d) = Some k
packet_of (command.Hex k) = Some k
packet_of c = None

-- the device that has to be up for a command
abbrev pub needed_up : Command → Option ℕ
needed_up (command.Turn d t) = Some d
needed_up (command.Lazy d t) = Some d
needed_up (command.Settle d) = Some d
needed_up (command.Get d id) = Some d
needed_up (command.Send d) = Some d
needed_up (command.Deliver k d) = Some d
needed_up (command.Hex k) = None
needed_up (command.Crash d) = Some d
needed_up (command.Restart d) = None

-- the device that has to run for a command: one that is stopped goes down and up all the same
abbrev pub needed_running : Command → Option ℕ
needed_running (command.Crash d) = None
needed_running c = needed_up c

-- the command's packet isn't there
abbrev pub LacksPacket : World → Command → Type 0
LacksPacket w c = (k : ℕ) × (packet_of c ≡ Some k) × (length w.packets ≤ k)

-- the device that has to be up is down
abbrev pub LacksDevice : World → Command → Type 0
LacksDevice w c = (d : ℕ) × (needed_up c ≡ Some d) × (w.up d ≡ false)

-- the device that has to run is stopped since this call
abbrev pub IsStoppedFor : World → ℕ → Command → Type 0
IsStoppedFor w call c = (d : ℕ) × (needed_running c ≡ Some d) × (w.stop d ≡ Some call)

-- the device of which a line with this answer settles entries: one of a turn or a delivery that is entered, of a settling, and of a restart
abbrev pub settler_of : Reading → Option PlainAnswer → Option ℕ
settler_of (Ok (Some (command.Turn d t))) (Some (Entered n)) = Some d
settler_of (Ok (Some (command.Deliver k d))) (Some (Entered n)) = Some d
settler_of (Ok (Some (command.Settle d))) (Some (Settled n)) = Some d
settler_of (Ok (Some (command.Restart d))) (Some (Up n)) = Some d
settler_of l answer = None

-- two devices are up, none of them is stopped, and both have taken in the same updates
pub record HaveSame (w : World) (a b : ℕ) : Type 0 where
  pub up : w.up a ≡ true
  pub other_up : w.up b ≡ true
  pub runs : w.stop a ≡ None
  pub other_runs : w.stop b ≡ None
  pub to : (u : Update) → IsIn u (taken w a) → IsIn u (taken w b)
  pub back : (u : Update) → IsIn u (taken w b) → IsIn u (taken w a)
