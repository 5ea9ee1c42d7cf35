-- The order of a run's steps: the program part is read, the devices are opened, and then line by line.
-- Read against: over blank files `device a; var x: int = 0;` with turn a x = 5 makes two syncs, lays the start, commits the turn, and then says ok 1.
use Rattle.std.specs.Prelude.{ℕ, ◌≡◌, ◌<◌, ◌≤◌, ◌⊎◌, ◌++◌, length, List, [], ◌∷◌, true, map, Option, Some, None, Result, Ok, Err, ⊤}
use Rattle.re_compact.specs.declared.fault.OpenFault.{OpenFault}
use Rattle.re_compact.specs.declared.fault.OpenFault.TheVariants as unopened
use Rattle.re_device.specs.Device.{DeviceState}
use Rattle.re_outside.specs.Moment.{Throughout}
use Rattle.re_outside.specs.Outside.{Does, IsAtEnd, Rose, Seen, content_in, none}
use Rattle.re_outside.specs.Port.{disk_faults, past_in}
use Rattle.re_outside.specs.Trace.{IsJointImage}
use Rattle.re_record.specs.Stores as stores
use Rattle.re_record.specs.Stores.{HasStore}
use Rattle.re_session.specs.Acts.{Acts, DoneLine}
use Rattle.re_session.specs.Begins.{Begins}
use Rattle.re_session.specs.Serving.{DoesLine, Goes}
use Rattle.re_terms.specs.Admission.{device_count}
use Rattle.re_terms.specs.DeviceWorlds.{World}
use Rattle.re_terms.specs.Programs.{IsProgram}
use Rattle.re_terms.specs.declared.program.Program.{Program}
use Rattle.re_tool.specs.Answers.{Session}
use Rattle.re_tool.specs.Part.{HasSeparator}
use Rattle.re_tool.specs.Reads.{limit}
use Rattle.re_tool.specs.Verdict.{Accepted, Verdict}
use Rattle.re_tool.specs.declared.words.Job.{Job}
use Rattle.re_tool.specs.declared.words.Job.TheVariants as job
use Rattle.re_world.specs.Images.{Restores}
use Rattle.re_world.specs.Opening.{HasAllOpeningSteps, HasOpeningCause, IsOpened, OpenBefore}
use Rattle.re_world.specs.Standing.{IsWorldOf}
use Rattle.re_world.specs.State.{WorldState, device_in}

-- the separator or the end was read, and no more than the limit
abbrev pub ReadsPart : List ℕ → Seen → Type 0
ReadsPart read new = (length read ≤ limit) × (HasSeparator read ⊎ IsAtEnd new)

-- ---- opening

-- why the first device that doesn't open is refused: for what its files read as, or since its disk failed
abbrev pub IsWhy : Program → ℕ → OpenFault → Seen → Seen → Type 0
IsWhy p d unopened.Memory old new = Unit {0}
IsWhy p d unopened.Disk old new = Rose (disk_faults d old) (disk_faults d new)
IsWhy p d (unopened.BadStore file at) old new = HasStore p d (content_in old d 0) (content_in old d 1) (stores.Bad file at)
IsWhy p d unopened.OtherProgram old new = HasStore p d (content_in old d 0) (content_in old d 1) stores.OtherProgram

-- all devices open, or all before the first that doesn't
abbrev pub FindsUnopened : Program → Option (ℕ × OpenFault) → Seen → Seen → Type 0
FindsUnopened p None old new = OpenBefore p (device_count p.decls.items) old
FindsUnopened p (Some (d, fault)) old new = OpenBefore p d old × IsWhy p d fault old new

-- the same as a result
abbrev pub opening_result : Option (ℕ × OpenFault) → Result ⊤ (ℕ × OpenFault)
opening_result None = Ok tt
opening_result (Some u) = Err u

-- it is one of the program
abbrev pub IsOfProgram : Program → Option (ℕ × OpenFault) → Type 0
IsOfProgram p None = Unit {0}
IsOfProgram p (Some (d, fault)) = d < device_count p.decls.items

-- no call failed, unless the disk of this device is why it doesn't open, and then calls of no other device or kind
abbrev pub FailsOpening : Option (ℕ × OpenFault) → Seen → Seen → Type 0
FailsOpening unopened old new = HasOpeningCause {T = ⊤} old new (opening_result unopened)

-- The devices are opened in order, up to the first that doesn't open, and nothing is said.
pub record IsOpening (p : Program) (unopened : Option (ℕ × OpenFault)) (old new : Seen) : Type 0 where
  pub is_program : IsProgram p
  pub finds : old.told ≡ true → FindsUnopened p unopened old new
  pub steps : old.told ≡ true → HasAllOpeningSteps p (past_in 0 old) (past_in 0 new) (opening_result unopened)
  pub of_program : IsOfProgram p unopened
  pub failed : FailsOpening unopened old new
  -- a stop at any moment leaves files that stand for the world at the start
  pub restores : (w : World) → Begins p w old → Throughout (past_in 0 old) (past_in 0 new) (λ now. (files : ℕ → ℕ → List ℕ) → IsJointImage now files → Restores p w None files)
  pub goes : Goes old new [] []

-- The devices are opened, and this is what is in memory then: the world that the files stand for, where they stand for one.
pub record OpensAs (p : Program) (devices : WorldState) (old new : Seen) : Type 0 where
  pub opening : IsOpening p None old new
  pub program : devices.program ≡ p
  pub packets : devices.packets ≡ []
  pub opened : (d : ℕ) → d < device_count p.decls.items → (x : DeviceState) × (device_in devices d ≡ Some x) × IsOpened p d x
  pub stands : (w : World) → Begins p w old → IsWorldOf p w devices new

-- ---- a session

-- the line that has no whole answer, if there is one, is done as well
abbrev pub DoesLast : Program → List DoneLine → WorldState → WorldState → Seen → Seen → Type 0
DoesLast p [] before after old new = (after ≡ before) × (new ≡ old)
DoesLast p (l ∷ []) before after old new = DoesLine p l.line before after l.answer l.outcome old new
DoesLast p (l ∷ m ∷ lines) before after old new = ⊥

-- The program part is read, the devices are opened, and the lines are done one behind the other; no more is read behind them than what comes next, and nothing is done but by a line that has no whole answer.
pub record Ordered (old new : Seen) (p : Program) (lines unanswered : List DoneLine) (last : WorldState) : Type 0 where
  pub answered : List DoneLine
  pub these : lines ≡ answered ++ unanswered
  -- the program part
  pub part : List ℕ
  pub part_read : Seen
  pub reads_part : Does old part_read part [] none
  pub is_whole : ReadsPart part part_read
  -- the devices
  pub devices : WorldState
  pub opened : Seen
  pub opens : OpensAs p devices part_read opened
  -- the lines that have their answers
  pub before : WorldState
  pub mid : Seen
  pub acts : Acts p answered devices before opened mid
  -- what was taken behind them
  pub ahead : List ℕ
  pub begun : Seen
  pub reads : Does mid begun ahead [] none
  pub own : DoesLast p unanswered before last begun new

-- Between two moments a run comes so far.
pub data Course (j : Job) (v : Verdict) (unopened : Option (ℕ × OpenFault)) (session : Option Session) (lines unanswered : List DoneLine) (old new : Seen) : Type 0 where
  -- some of the input is read, and no device is opened
  reads : {read : List ℕ} → session ≡ None → unopened ≡ None → lines ≡ [] → unanswered ≡ [] → Does old new read [] none → Course j v unopened session lines unanswered old new
  -- behind the program part, which was read whole, a device doesn't open
  opens_none : {p : Program} {u : ℕ × OpenFault} {read : List ℕ} {part_read : Seen} → j ≡ job.Run → v ≡ Accepted p → unopened ≡ Some u → session ≡ None → lines ≡ [] → unanswered ≡ [] → Does old part_read read [] none → ReadsPart read part_read → IsOpening p (Some u) part_read new → Course j v unopened session lines unanswered old new
  -- the devices are opened, and the session's lines are done
  serves : {s : Session} {last : WorldState} → j ≡ job.Run → v ≡ Accepted s.program → unopened ≡ None → session ≡ Some s → s.lines ≡ map (λ (l : DoneLine). l.line) lines → Ordered old new s.program lines unanswered last → Course j v unopened session lines unanswered old new
