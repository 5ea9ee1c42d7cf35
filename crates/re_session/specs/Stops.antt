-- What a stop leaves of a session at any of its moments.
-- Read against: on `device a; var x: int = 0;` with turn a x = 5 and turn a x = 6, a stop within the first commit leaves files that restore to the start, or to the start with the first turn, and nothing was said; a stop within the saying of ok 1, or between the two, leaves files that restore to the world with the first turn. Once ok 1 was said with its end of line, 1 is acknowledged of a; ok without it acknowledges nothing.
use Rattle.std.specs.Prelude.{◌≡◌, ℕ, suc, ◌+◌, ◌<◌, ◌≤◌, true, List, [], ◌++◌, length, map, take, Option, None, Some, Ok, slice_get}
use Rattle.re_commands.specs.Commanding.{commanded}
use Rattle.re_outside.specs.Outside.{Seen, said}
use Rattle.re_outside.specs.Trace.{IsJointImage, Past}
use Rattle.re_session.specs.Acts.{DoneLine}
use Rattle.re_session.specs.Begins.{Begins}
use Rattle.re_session.specs.LineAnswers.{lines_after, texts}
use Rattle.re_terms.specs.Admission.{device_count}
use Rattle.re_terms.specs.CausalWorlds.{IsCausalWorld}
use Rattle.re_terms.specs.DeviceWorlds.{World, is_for, reply}
use Rattle.re_terms.specs.Entries.{run_entries}
use Rattle.re_terms.specs.Lines.{Done, further, number_told}
use Rattle.re_terms.specs.Runs.{PlainState}
use Rattle.re_terms.specs.Shapes.{shape_of}
use Rattle.re_terms.specs.UpdateStates.{state_of_updates}
use Rattle.re_terms.specs.declared.command.Command.{Command}
use Rattle.re_terms.specs.declared.program.Program.{Program}
use Rattle.re_world.specs.Images.{Restores, log_held}

-- what lines say, and the world behind them
abbrev pub texts_of : Program → World → List DoneLine → List ℕ
texts_of p w lines = texts p w (map (λ (l : DoneLine). l.line) lines) (map (λ (l : DoneLine). l.outcome) lines)

abbrev pub world_of : Program → World → List DoneLine → World
world_of p w lines = lines_after p w (map (λ (l : DoneLine). l.line) lines) (map (λ (l : DoneLine). l.outcome) lines)

-- no command is under way, or that of this line, as it fares
abbrev pub IsUnderWay : Program → Option DoneLine → Option Done → Type 0
IsUnderWay p l None = Unit {0}
IsUnderWay p None (Some c) = ⊥
IsUnderWay p (Some l) (Some c) = (commanded p l.line ≡ Ok (Some c.asked)) × (c.outcome ≡ l.outcome)

-- a command begins behind the whole answers of the lines before it
abbrev pub BeginsBehind : Option Done → List ℕ → Type 0
BeginsBehind None rest = Unit {0}
BeginsBehind (Some c) rest = rest ≡ []

-- A number was acknowledged of a device: the whole answer to one of these lines, a command for the device, lies in this text and tells the number.
pub record IsAcknowledged (p : Program) (w : World) (lines : List DoneLine) (text : List ℕ) (d number : ℕ) : Type 0 where
  pub before : ℕ
  pub line : DoneLine
  pub at : slice_get lines before ≡ Some line
  pub asked : Command
  pub commands : commanded p line.line ≡ Ok (Some asked)
  pub is_for_it : is_for d asked ≡ true
  pub tells : number_told (reply p (world_of p w (take before lines)) asked line.outcome) ≡ Some number
  pub whole : length (texts_of p w (take (suc before) lines)) ≤ length text

-- each device's files open to a number no less than each that was acknowledged of it
abbrev pub HoldsAcknowledged : (p : Program) (w : World) (lines : List DoneLine) (text : List ℕ) (v : World) (under_way : Option Done) (files : ℕ → ℕ → List ℕ) → Restores p v under_way files → Type 0
HoldsAcknowledged p w lines text v under_way files restored = (d number : ℕ) (below : d < device_count p.decls.items) → IsAcknowledged p w lines text d number → number ≤ (restored.opens d below).opened.number

-- At this moment the first of these lines are done and the next one's command is under way or none is; what was said since an earlier moment is the answers to these first lines, all but the last of them whole; and whatever a stop leaves of the files of all devices restores to the world behind these first lines, and holds what was acknowledged.
pub record Stops (p : Program) (w : World) (lines : List DoneLine) (base now : Past) : Type 0 where
  pub answered : ℕ
  pub within : answered ≤ length lines
  pub under_way : Option Done
  pub is_next : IsUnderWay p (slice_get lines answered) under_way
  -- what was said, and what is still to be said of these lines
  pub text : List ℕ
  pub says : said now.trace ≡ said base.trace ++ text
  pub rest : List ℕ
  pub front : texts_of p w (take answered lines) ≡ text ++ rest
  pub all_but_last : (first : ℕ) → first < answered → length (texts_of p w (take first lines)) ≤ length text
  pub begins : BeginsBehind under_way rest
  -- the world's updates stand in one causal log, so that devices which took in the same ones agree
  pub causal : IsCausalWorld (device_count p.decls.items) (world_of p w (take answered lines))
  pub restores : (files : ℕ → ℕ → List ℕ) → IsJointImage now files → Restores p (world_of p w (take answered lines)) under_way files
  pub holds : (files : ℕ → ℕ → List ℕ) (image : IsJointImage now files) → HoldsAcknowledged p w lines text (world_of p w (take answered lines)) under_way files (restores files image)

-- ---- the next run

-- two plain states have the same words, and their updates make the same replicated cells
pub record IsSameState (p : Program) (a b : PlainState) : Type 0 where
  pub words : a.words ≡ b.words
  pub replicated : state_of_updates (shape_of p) a.taken ≡ state_of_updates (shape_of p) b.taken

-- A session may begin over files that a stop left: over the log that stands behind them, each device in the state after the entries that its files hold, with the number of the last.
pub record GoesOn (p : Program) (w : World) (under_way : Option Done) (files : ℕ → ℕ → List ℕ) (restored : Restores p w under_way files) (s : Seen) : Type 0 where
  pub next : World
  pub begins : Begins p next s
  pub log : next.log ≡ log_held p w under_way restored.more
  pub number : (d : ℕ) → d < device_count p.decls.items → next.base_number d ≡ w.base_number d + length (w.settled d ++ take (restored.more d) (further p w under_way d))
  pub state : (d : ℕ) → d < device_count p.decls.items → IsSameState p (next.base d) (run_entries p d (w.base d) (w.settled d ++ take (restored.more d) (further p w under_way d)))
