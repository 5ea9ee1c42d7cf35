-- What a run says and how it ends, as a function of the bytes read, of what the opening of the devices came to, and of the outcomes.
-- Read against: the program `device a; var x: int = 2; signal s = x + 3;` with get a s, turn a x = 5, crash a, get a s over blank files says 5, ok 1, down, no 26;
-- `device a;` with and without a separator behind it says nothing; both end with status 0. Where the store of b is bad nothing is said but the line of status 4.
use Rattle.std.specs.Prelude.{ℕ, ◌-◌, List, [], ◌++◌, Bool, true, false, Option, Some, None, if◌then◌else◌, take}
use Rattle.re_compact.specs.declared.fault.OpenFault.{OpenFault}
use Rattle.re_compact.specs.declared.fault.OpenFault.TheVariants as unopened
use Rattle.re_print.specs.Canonical.{program_text}
use Rattle.re_session.specs.LineAnswers.{texts}
use Rattle.re_terms.specs.DeviceWorlds.{Outcome, World}
use Rattle.re_terms.specs.declared.program.Program.{Program}
use Rattle.re_tool.specs.Endings.{BadStore, DiskFault, Done, Ending, InputFault, InputTooLong, NoMemory, OtherProgram, RefusedProgram, last_line}
use Rattle.re_tool.specs.Names.{device_name}
use Rattle.re_tool.specs.Part.{Part, is_over, part_of}
use Rattle.re_tool.specs.Verdict.{Accepted, Rejected, Verdict}
use Rattle.re_tool.specs.declared.words.Job.{Job}
use Rattle.re_tool.specs.declared.words.Job.TheVariants as job

-- what the definition of the answers doesn't decide
pub record Outcomes : Type 0 where
  -- how each line that was done fared, in order
  pub commands : List Outcome
  -- the first device that doesn't open, and why, and none where all do
  pub unopened : Option (ℕ × OpenFault)
  pub input_failed : Bool
  -- where the run ended for want of memory or at an answer that couldn't be said:
  -- how many lines were done, and whether all of the last one's answer counts
  pub stopped : Option (ℕ × Bool)

-- ---- the session

-- a program that runs, and the lines that it is given
pub record Session : Type 0 where
  pub program : Program
  pub lines : List (List ℕ)

-- the session, where the program part is accepted and all devices open
abbrev pub session_in : Verdict → Option (ℕ × OpenFault) → Option Part → Option Session
session_in (Accepted p) None (Some part) = Some (record { program = p; lines = part.lines })
session_in v u part = None

-- `run` has a session, and `check` has none
abbrev pub session_of : Job → Verdict → Option (ℕ × OpenFault) → List ℕ → Bool → Option Session
session_of job.Run v u read failed = session_in v u (part_of read failed)
session_of job.Check v u read failed = None

-- a session of its first n lines
abbrev pub first_lines : ℕ → Option Session → Option Session
first_lines n None = None
first_lines n (Some s) = Some (record { program = s.program; lines = take n s.lines })

-- how many lines count as said
abbrev pub said_lines : ℕ → Bool → ℕ
said_lines n true = n
said_lines n false = n - 1

-- the session of the lines that were done
abbrev pub done_by : Option (ℕ × Bool) → Option Session → Option Session
done_by None s = s
done_by (Some (n, said)) s = first_lines n s

abbrev pub done : Job → Verdict → List ℕ → Outcomes → Option Session
done j v read o = done_by o.stopped (session_of j v o.unopened read o.input_failed)

-- ---- how it ends

-- how the reading of the input ended
abbrev pub reading_end : List ℕ → Bool → Ending
reading_end read failed = if is_over read then InputTooLong else if failed then InputFault else Done

-- a device that doesn't open ends the run
abbrev pub unopened_end : Program → ℕ × OpenFault → Ending
unopened_end p (d, unopened.Memory) = NoMemory
unopened_end p (d, unopened.Disk) = DiskFault (device_name p d)
unopened_end p (d, unopened.BadStore file at) = BadStore (device_name p d) file at
unopened_end p (d, unopened.OtherProgram) = OtherProgram (device_name p d)

-- a refused program part ends the run, and then a device that doesn't open
abbrev pub ending_with : Verdict → Option (ℕ × OpenFault) → Ending → Ending
ending_with (Rejected why) u e = RefusedProgram why
ending_with (Accepted p) (Some u) e = unopened_end p u
ending_with v u e = e

-- how the job ends behind an accepted program part: `check` reads no further
abbrev pub behind_part : Job → Ending → Ending
behind_part job.Run e = e
behind_part job.Check e = Done

-- a program part that was read whole decides first
abbrev pub ending_in : Job → Verdict → Option (ℕ × OpenFault) → Option Part → Ending → Ending
ending_in j v u None e = e
ending_in j v u (Some part) e = ending_with v u (behind_part j e)

-- how the job ends where it isn't cut short
abbrev pub ending_of : Job → Verdict → Option (ℕ × OpenFault) → List ℕ → Bool → Ending
ending_of j v u read failed = ending_in j v u (part_of read failed) (reading_end read failed)

abbrev pub ending_by : Option (ℕ × Bool) → Job → Verdict → Option (ℕ × OpenFault) → List ℕ → Bool → Ending
ending_by None j v u read failed = ending_of j v u read failed
ending_by (Some n) j v u read failed = NoMemory

-- how it ends
abbrev pub ending : Job → Verdict → List ℕ → Outcomes → Ending
ending j v read o = ending_by o.stopped j v o.unopened read o.input_failed

-- ---- what it says

-- what a session says that begins in this world
abbrev pub session_text : (Program → World) → Option Session → List Outcome → List ℕ
session_text start None os = []
session_text start (Some s) os = texts s.program (start s.program) s.lines os

-- what `check` says of an accepted program part: its canonical text
abbrev pub checked_text : Verdict → Option Part → List ℕ
checked_text (Accepted p) (Some part) = program_text p
checked_text v part = []

-- what a job says, but for its last line, where it isn't cut short
abbrev pub job_text : Job → Verdict → (Program → World) → List ℕ → Outcomes → List ℕ
job_text job.Run v start read o = session_text start (session_of job.Run v o.unopened read o.input_failed) o.commands
job_text job.Check v start read o = checked_text v (part_of read o.input_failed)

abbrev pub text_by : Option (ℕ × Bool) → Job → Verdict → (Program → World) → List ℕ → Outcomes → List ℕ
text_by None j v start read o = job_text j v start read o
text_by (Some (n, said)) j v start read o = session_text start (first_lines (said_lines n said) (session_of j v o.unopened read o.input_failed)) o.commands

-- what it says, but for its last line
abbrev pub answers_text : Job → Verdict → (Program → World) → List ℕ → Outcomes → List ℕ
answers_text j v start read o = text_by o.stopped j v start read o

-- the output of a job, where the program part has this verdict and a session begins in this world
abbrev pub answers : Job → Verdict → (Program → World) → List ℕ → Outcomes → List ℕ
answers j v start read o = answers_text j v start read o ++ last_line (ending j v read o)
