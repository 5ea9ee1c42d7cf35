-- What a stop leaves of a run at any of its moments.
-- Read against: on `device a; var x: int = 0;` with turn a x = 5, whatever a stop leaves of a's files while the program is read, while they are opened, or while their turn is committed, opens to no entry or, once its record may be whole, to one; behind ok 1 it opens to one.
use Rattle.std.specs.Prelude.{◌≡◌, ℕ, true, List, None, Some}
use Rattle.re_compact.specs.declared.fault.OpenFault.{OpenFault}
use Rattle.re_outside.specs.Moment.{Throughout}
use Rattle.re_outside.specs.Outside.{Seen}
use Rattle.re_outside.specs.Port.{past_in}
use Rattle.re_outside.specs.Trace.{IsJointImage, Past}
use Rattle.re_session.specs.Acts.{DoneLine}
use Rattle.re_session.specs.Begins.{Begins}
use Rattle.re_session.specs.Fares.{Fares}
use Rattle.re_session.specs.Stops.{HoldsAcknowledged, Stops, texts_of, world_of}
use Rattle.re_terms.specs.Admission.{device_count}
use Rattle.re_terms.specs.CausalWorlds.{IsCausalWorld}
use Rattle.re_terms.specs.DeviceWorlds.{World}
use Rattle.re_terms.specs.declared.program.Program.{Program}
use Rattle.re_tool.specs.Answers.{Session, done}
use Rattle.re_tool.specs.Session.{Runs}
use Rattle.re_tool.specs.Verdict.{Accepted}
use Rattle.re_tool.specs.declared.status.Status.{Status}
use Rattle.re_tool.specs.declared.words.Job.{Job}
use Rattle.re_world.specs.Images.{Restores}

-- Behind all of these lines whatever a stop leaves restores to the world behind them, with no command under way, and holds what any of their answers acknowledged.
pub record LeavesAll (p : Program) (w : World) (lines : List DoneLine) (now : Past) : Type 0 where
  pub causal : IsCausalWorld (device_count p.decls.items) (world_of p w lines)
  pub restores : (files : ℕ → ℕ → List ℕ) → IsJointImage now files → Restores p (world_of p w lines) None files
  pub holds : (files : ℕ → ℕ → List ℕ) (image : IsJointImage now files) → HoldsAcknowledged p w lines (texts_of p w lines) (world_of p w lines) None files (restores files image)

-- While these lines are done, and before the first, a stop leaves the world behind those of them that are answered; and behind them, while the rest of the text is said, the world behind all.
pub record SurvivesLines (p : Program) (w : World) (lines : List DoneLine) (old calm new : Past) : Type 0 where
  pub during : Throughout old calm (Stops p w lines old)
  pub behind : Throughout calm new (LeavesAll p w lines)

-- the files restore to this world, with no command under way
abbrev pub LeavesStart : Program → World → Past → Type 0
LeavesStart p w now = (files : ℕ → ℕ → List ℕ) → IsJointImage now files → Restores p w None files

-- A job has run, and a stop at any moment of it leaves what stands for each world in which the run may begin, and what it has settled since. What the run was stands here again, since the lines, and how they fared, are the run's.
pub record Survives (j : Job) (old new : Seen) (s : Status) : Type 0 where
  pub runs : Runs j old new s
  -- where it has a session, no line of it finds a store that is bad or another program's, and where no count of faults rose each line fared well or memory ran out for it
  pub fares : (x : Session) (w : World) → done j runs.verdict runs.read runs.outcomes ≡ Some x → Begins x.program w old → Fares runs.lines old new
  pub session : (x : Session) (w : World) → done j runs.verdict runs.read runs.outcomes ≡ Some x → Begins x.program w old → SurvivesLines x.program w runs.lines (past_in 0 old) (past_in 0 runs.calm) (past_in 0 new)
  -- where a device doesn't open
  pub unopened : (p : Program) (w : World) (u : ℕ × OpenFault) → runs.verdict ≡ Accepted p → runs.outcomes.unopened ≡ Some u → Begins p w old → Throughout (past_in 0 old) (past_in 0 new) (LeavesStart p w)
  -- where no device is opened a stop leaves what it could have left before
  pub still : done j runs.verdict runs.read runs.outcomes ≡ None → runs.outcomes.unopened ≡ None → old.told ≡ true → Throughout (past_in 0 old) (past_in 0 new) (λ now. (files : ℕ → ℕ → List ℕ) → IsJointImage now files → IsJointImage (past_in 0 old) files)
