-- What a whole run does.
use Rattle.std.specs.Prelude.{ℕ, ◌≡◌, ◌≤◌, ◌<◌, ◌+◌, ◌++◌, ◌⊎◌, length, List, [], Bool, true, false, map, Option, Some, None}
use Rattle.re_outside.specs.Outside.{Breaks, Does, DoesWith, Fails, Faults, Input, IsAtEnd, Output, Seen, content_in, input_fault, none}
use Rattle.re_outside.specs.declared.step.Call.TheVariants as call
use Rattle.re_outside.specs.declared.step.Step.{Step}
use Rattle.re_session.specs.Acts.{DoneLine}
use Rattle.re_session.specs.Begins.{Begins}
use Rattle.re_session.specs.LineAnswers.{lines_after}
use Rattle.re_terms.specs.Admission.{device_count}
use Rattle.re_terms.specs.DeviceWorlds.{Outcome, World, recovered}
use Rattle.re_terms.specs.declared.program.Program.{Program}
use Rattle.re_tool.specs.Acts.{Course, ReadsPart}
use Rattle.re_tool.specs.Answers.{Outcomes, Session, answers, done, ending}
use Rattle.re_tool.specs.Endings.{BadWords, Ending, InputFault, NoMemory, last_line, status_at}
use Rattle.re_tool.specs.Part.{Part, part_of}
use Rattle.re_tool.specs.Reads.{limit}
use Rattle.re_tool.specs.Verdict.{IsJudged, Verdict}
use Rattle.re_tool.specs.declared.status.Status.{Status}
use Rattle.re_tool.specs.declared.status.Status.TheVariants as status
use Rattle.re_tool.specs.declared.words.Job.{Job}
use Rattle.re_tool.specs.declared.words.Job.TheVariants as job
use Rattle.re_world.specs.Images.{OpensAfter}

abbrev pub is_output : Status → Bool
is_output status.Output = true
is_output s = false

-- All of the answers are said, or a front of them where a `say` failed.
abbrev pub Tells : List ℕ → List ℕ → Status → Type 0
Tells answers text status.Output = (rest : List ℕ) × (answers ≡ text ++ rest)
Tells answers text s = answers ≡ text

-- the status is that of the ending, but where a `say` failed
abbrev pub EndsAs : Ending → Status → Type 0
EndsAs e status.Output = Unit {0}
EndsAs e s = status_at e ≡ s

-- the worlds in which a run may begin: those that the files stand for, where there is a session
abbrev pub MayBegin : (Program → World) → Option Session → Seen → Type 0
MayBegin start None old = Unit {0}
MayBegin start (Some s) old = Begins s.program (start s.program) old

-- as they read the files of each device open to its settled entries, with those in doubt behind them that they hold
abbrev pub FilesOpen : (Program → World) → Option Session → List Outcome → Seen → Type 0
FilesOpen start None os new = Unit {0}
FilesOpen start (Some s) os new = let w = lines_after s.program (start s.program) s.lines os in
    (d : ℕ) → d < device_count s.program.decls.items → OpensAfter s.program w d (content_in new d 0) (content_in new d 1) (w.settled d ++ recovered w d)

abbrev pub one_if : Bool → ℕ
one_if true = 1
one_if false = 0

-- at the end for want of memory or of output at most one line, the last, has no whole answer
abbrev pub Unanswered : Status → List DoneLine → Type 0
Unanswered status.Output lines = length lines ≤ 1
Unanswered status.Memory lines = length lines ≤ 1
Unanswered s lines = lines ≡ []

abbrev pub lines_of : Option Session → List (List ℕ)
lines_of None = []
lines_of (Some s) = s.lines

abbrev pub part_lines : Option Part → List (List ℕ)
part_lines None = []
part_lines (Some part) = part.lines

-- no line was done before it was complete: there are as many whole lines behind the separator
abbrev pub AreComplete : Job → Verdict → List ℕ → Outcomes → Type 0
AreComplete j v read o = length (lines_of (done j v read o)) ≤ length (part_lines (part_of read true))

-- where the status is 0 the input was read to its end, and by `check` to the separator or the end
abbrev pub ReadsWhole : Job → List ℕ → Seen → Type 0
ReadsWhole job.Run read new = IsAtEnd new
ReadsWhole job.Check read new = ReadsPart read new

-- how far the input was read: as the job says where the status is 0, to the separator or the end where it is 3 to 6,
-- and past each line that was done
abbrev pub ReadFar : Job → Status → Verdict → List ℕ → Outcomes → Seen → Type 0
ReadFar j status.Done v read o new = ReadsWhole j read new
ReadFar j status.Program v read o new = ReadsPart read new
ReadFar j status.Store v read o new = ReadsPart read new
ReadFar j status.OtherProgram v read o new = ReadsPart read new
ReadFar j status.Disk v read o new = ReadsPart read new
ReadFar j status.Memory v read o new = AreComplete j v read o ⊎ IsAtEnd new
ReadFar j status.Output v read o new = AreComplete j v read o ⊎ IsAtEnd new
ReadFar j s v read o new = Unit {0}

-- no call failed between these moments, or a `take` did
abbrev pub Halts : Bool → Seen → Seen → Type 0
Halts false calm halted = halted ≡ calm
Halts true calm halted = Fails calm halted call.Take input_fault

-- the rest of the text is said, or a front of it, behind which a `say` failed
abbrev pub Closes : Seen → Seen → List ℕ → Status → Type 0
Closes halted new last status.Output = Breaks halted new last none
Closes halted new last s = Does halted new [] last none

-- behind a failed `take` the line of status 7 is all that is said
abbrev pub OnlyLastLine : Bool → List ℕ → Status → Type 0
OnlyLastLine false last s = Unit {0}
OnlyLastLine true last s = (last ≡ last_line InputFault) × ((s ≡ status.Input) ⊎ (s ≡ status.Output))

-- A job has run over an outside, from one moment to another.
pub record Runs (j : Job) (old new : Seen) (s : Status) : Type 0 where
  -- the bytes that were taken, at most one over the limit
  pub read : List ℕ
  pub few : length read ≤ limit + 1
  pub outcomes : Outcomes
  -- what the program part is
  pub verdict : Verdict
  pub judged : IsJudged verdict (part_of read outcomes.input_failed) outcomes.stopped
  -- the text that was said, and the calls that failed: one that takes or none, one that says or none, and some on files
  pub text : List ℕ
  pub faults : Faults
  pub input : faults Input ≡ one_if outcomes.input_failed
  pub output : faults Output ≡ one_if (is_output s)
  pub does : DoesWith (λ (steps : List Step). Unit {0}) old new read text faults
  pub ends : EndsAs (ending j verdict read outcomes) s
  -- the text, and what the files open to then, are those of each world that the files stood for
  pub tells : (start : Program → World) → MayBegin start (done j verdict read outcomes) old → Tells (answers j verdict start read outcomes) text s
  pub files : (start : Program → World) → MayBegin start (done j verdict read outcomes) old → FilesOpen start (done j verdict read outcomes) outcomes.commands new
  -- the answers stand whole and in order behind their commands' steps, all but perhaps the last
  pub lines : List DoneLine
  pub fared : outcomes.commands ≡ map (λ (l : DoneLine). l.outcome) lines
  pub unanswered : List DoneLine
  pub whole : Unanswered s unanswered
  -- and all of them where a `take` failed
  pub answered : outcomes.input_failed ≡ true → unanswered ≡ []
  pub calm : Seen
  pub course : Course j verdict outcomes.unopened (done j verdict read outcomes) lines unanswered old calm
  -- behind them a `take` may have failed, and then the rest of the text is said
  pub halted : Seen
  pub halts : Halts outcomes.input_failed calm halted
  pub last : List ℕ
  pub closes : Closes halted new last s
  pub only : OnlyLastLine outcomes.input_failed last s
  pub far : ReadFar j s verdict read outcomes new

-- The last line is said, or a front of it.
abbrev pub Finishes : Seen → Seen → List ℕ → Status → Status → Type 0
Finishes old new line s status.Output = Breaks old new line none
Finishes old new line s r = (r ≡ s) × Does old new [] line none

-- The words were refused, or memory ran out for them.
abbrev pub Refuses : Seen → Seen → Status → Type 0
Refuses old new s = Finishes old new (last_line BadWords) status.Words s ⊎ Finishes old new (last_line NoMemory) status.Memory s
