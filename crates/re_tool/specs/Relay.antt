-- A relay of runs, each over the files that a stop left of the one before.
-- Read against: over blank files `device a; var x: int = 0;` runs three times, with turn a x = 1, turn a x = 2 and get a x; the runs have 13, 7 and 3 steps. Behind 12 steps of the first the synced files hold its turn; behind 5 of the second the files as they read hold both turns, so that the third says 2, and the synced ones the first turn alone, so that it says 1. The second has no eighth step.
use Rattle.std.specs.Prelude.{◌≡◌, ℕ, ◌<◌, ◌≤◌, ◌++◌, [], ◌∷◌, List, false, length, map, take, Some}
use Rattle.std.specs.List.{All}
use Rattle.re_fakes.specs.Files.{file_in}
use Rattle.re_fakes.specs.Stops.{IsChosen}
use Rattle.re_fakes.specs.World.{new_world, seen_of}
use Rattle.re_fakes.specs.declared.files.Files.{Files}
use Rattle.re_outside.specs.Outside.{FaultKind, Seen, said}
use Rattle.re_outside.specs.Trace.{IsJointImage, acts_of}
use Rattle.re_outside.specs.declared.step.Step.{Step}
use Rattle.re_session.specs.Acts.{DoneLine}
use Rattle.re_session.specs.Begins.{Begins}
use Rattle.re_session.specs.Fares.{IsCalm}
use Rattle.re_session.specs.Stops.{IsAcknowledged}
use Rattle.re_terms.specs.Admission.{device_count}
use Rattle.re_terms.specs.DeviceWorlds.{World}
use Rattle.re_terms.specs.Listed.{Listed}
use Rattle.re_terms.specs.Updates.{Update}
use Rattle.re_terms.specs.declared.program.Program.{Program}
use Rattle.re_tool.specs.Answers.{Outcomes, answers}
use Rattle.re_tool.specs.Part.{Part, part_of}
use Rattle.re_tool.specs.Stops.{Survives}
use Rattle.re_tool.specs.Verdict.{Accepted, Decides, IsJudged, Verdict}
use Rattle.re_tool.specs.declared.relays.Leg.{Leg}
use Rattle.re_tool.specs.declared.status.Status.{Status}
use Rattle.re_tool.specs.declared.words.Job.TheVariants as job

-- what is seen before a run over these files with this input
abbrev pub before_run : List ℕ → Files → Seen
before_run input files = seen_of (new_world input files [])

-- what is seen of files that lie there
abbrev pub resting : Files → Seen
resting files = before_run [] files

-- The program part of an input is this program.
pub record Gives (input : List ℕ) (p : Program) : Type 0 where
  pub part : Part
  pub is_part : part_of input false ≡ Some part
  pub accepted : Decides part.text (Accepted p)

-- ---- one run

-- A text is the answers to this input, or to what was read of it before memory ran out, in a session that begins in this world; each of its lines fared well, or memory ran out for it, and no call failed.
pub record SaysAnswers (input : List ℕ) (w : World) (text : List ℕ) : Type 0 where
  pub read : List ℕ
  pub rest : List ℕ
  pub of_input : input ≡ read ++ rest
  pub outcomes : Outcomes
  pub calm : All IsCalm outcomes.commands
  pub reads : outcomes.input_failed ≡ false
  pub verdict : Verdict
  pub judged : IsJudged verdict (part_of read outcomes.input_failed) outcomes.stopped
  pub says : text ≡ answers job.Run verdict (λ p. w) read outcomes

-- A run has made these steps, and no call of it failed.
pub record Ran (leg : Leg) (before : Files) (trace : List Step) : Type 0 where
  pub after : Seen
  pub steps : after.trace ≡ trace
  pub calm : (kind : FaultKind) → after.faults kind ≡ 0
  pub status : Status
  pub survives : Survives job.Run (before_run leg.input.items before) after status
  -- where the files stand for a log of the input's program, its answers are said
  pub says : (p : Program) (w : World) → Gives leg.input.items p → Begins p w (resting before) → SaysAnswers leg.input.items w (said trace)

-- ---- its stop

-- These files are what the leg's choice takes to be left behind so many of the steps, and a stop there may leave them.
pub record StopsAt (leg : Leg) (before : Files) (trace : List Step) (after : Files) : Type 0 where
  pub within : leg.stop ≤ length trace
  pub chosen : (d f : ℕ) → IsChosen leg.choice (file_in before d f) (acts_of d f (take leg.stop trace)) (file_in after d f)
  pub image : IsJointImage (record { device = 0; start = file_in before; trace = take leg.stop trace }) (file_in after)

-- The files stand for a log that goes on with this world's.
pub record GoesOnFrom (p : Program) (w : World) (after : Files) : Type 0 where
  pub next : World
  pub begins : Begins p next (resting after)
  pub more : List Update
  pub log : next.log ≡ w.log ++ more

-- And each device opens with a number no less than each that was acknowledged of it in this text, which was said of the answers to these lines.
pub record GoesOnAcknowledged (p : Program) (w : World) (lines : List DoneLine) (text : List ℕ) (after : Files) : Type 0 where
  pub goes_on : GoesOnFrom p w after
  pub acknowledged : (d number : ℕ) → d < device_count p.decls.items → IsAcknowledged p w lines text d number → number ≤ goes_on.next.base_number d

-- A run, and its stop.
pub record Passes (leg : Leg) (before : Files) (trace : List Step) (after : Files) : Type 0 where
  pub ran : Ran leg before trace
  pub stops : StopsAt leg before trace after
  -- where the files before it stand for a log of the input's program, those behind it stand for one that goes on with it, and hold what was acknowledged
  pub goes_on : (p : Program) (w : World) → Gives leg.input.items p → Begins p w (resting before) → GoesOnAcknowledged p w ran.survives.runs.lines (said (take leg.stop trace)) after

-- ---- all of them

-- Runs one behind the other: the steps of each, the files before the first and those behind the last.
pub data Relays : List Leg → Files → List (List Step) → Files → Type 0 where
  nothing : {files : Files} → Relays [] files [] files
  next : {leg : Leg} {legs : List Leg} {before after last : Files} {trace : List Step} {traces : List (List Step)} → Passes leg before trace after → Relays legs after traces last → Relays (leg ∷ legs) before (trace ∷ traces) last

-- where all inputs are of one program, and the first files stand for a log, the last stand for one that goes on with it
abbrev pub KeepsLog : List Leg → Files → Files → Type 0
KeepsLog legs before last = (p : Program) (w : World) → All (λ (leg : Leg). Gives leg.input.items p) legs → Begins p w (resting before) → GoesOnFrom p w last

-- the steps of each run
abbrev pub steps_of : List (Listed Step) → List (List Step)
steps_of traces = map (λ (t : Listed Step). t.items) traces

-- A run has fewer steps than its stop.
pub record IsPast (leg : Leg) (before : Files) : Type 0 where
  pub trace : List Step
  pub ran : Ran leg before trace
  pub past : length trace < leg.stop

-- Behind some of the runs the next one has fewer steps than its stop.
pub record StopsPast (legs : List Leg) (files : Files) : Type 0 where
  pub front : List Leg
  pub leg : Leg
  pub back : List Leg
  pub these : legs ≡ front ++ leg ∷ back
  pub traces : List (List Step)
  pub before : Files
  pub relays : Relays front files traces before
  pub is_past : IsPast leg before
