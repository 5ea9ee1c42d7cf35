-- When each status comes, in what is seen outside.
use Rattle.std.specs.Prelude.{ℕ, ◌≡◌, ◌<◌, ◌≤◌, ◌+◌, ◌++◌, ◌⊎◌, length, take, List, Bool, true, false, Option, None, Some}
use Rattle.std.specs.List.{flat_map}
use Rattle.re_outside.specs.Outside.{Seen, FaultKind, Input, Output, Counts, IsAtEnd, Rose, content_in}
use Rattle.re_outside.specs.Port.{disk_faults}
use Rattle.re_record.specs.Stores as stores
use Rattle.re_record.specs.Stores.{HasStore, Stored}
use Rattle.re_terms.specs.Admission.{device_count}
use Rattle.re_terms.specs.declared.program.Program.{Program}
use Rattle.re_world.specs.Opening.{OpenBefore}
use Rattle.re_tool.specs.declared.words.Job.{Job}
use Rattle.re_tool.specs.declared.words.Job.TheVariants as job
use Rattle.re_tool.specs.declared.faults.Refusal.{Refusal}
use Rattle.re_tool.specs.declared.status.Status.{Status}
use Rattle.re_tool.specs.declared.status.Status.TheVariants as status
use Rattle.re_tool.specs.Lines.{split, ended}
use Rattle.re_tool.specs.Part.{HasSeparator, Part, divided, part_of}
use Rattle.re_tool.specs.Reads.{limit}
use Rattle.re_tool.specs.Session.{is_output, one_if}
use Rattle.re_tool.specs.Verdict.{Accepted, HasVerdict, Rejected}

-- it is this status, or want of memory or of output came in its place
abbrev pub IsUnlessEnded : Status → Status → Type 0
IsUnlessEnded wanted s = (s ≡ wanted) ⊎ ((s ≡ status.Memory) ⊎ (s ≡ status.Output))

-- status 7 comes only where the count of input faults rose
abbrev pub InputCause : Seen → Seen → Status → Type 0
InputCause old new s = s ≡ status.Input → Counts 1 (old.faults Input) (new.faults Input)

-- status 8 comes exactly where the count of output faults rose
abbrev pub OutputCause : Seen → Seen → Status → Type 0
OutputCause old new s = Counts (one_if (is_output s)) (old.faults Output) (new.faults Output)

-- the program part was read to the separator or to the end of the input
pub record IsPartRead (old new : Seen) : Type 0 where
  pub read : List ℕ
  pub left : old.told ≡ true → old.left ≡ read ++ new.left
  pub far : HasSeparator read ⊎ IsAtEnd new

-- the job has read all that it reads: `run` the input to its end, `check` the program part
abbrev pub IsRead : Job → Seen → Seen → Type 0
IsRead job.Run old new = IsAtEnd new
IsRead job.Check old new = IsPartRead old new

-- status 0 comes only where the job has read all that it reads
abbrev pub EndCause : Job → Seen → Seen → Status → Type 0
EndCause j old new s = s ≡ status.Done → IsRead j old new

-- 16,777,216 bytes were taken and another came
abbrev pub TooMuch : Seen → Seen → Type 0
TooMuch old new = limit + length new.left < length old.left

-- Status 10 comes exactly where 16,777,216 bytes were taken and another came.
pub record TooLongCause (old new : Seen) (s : Status) : Type 0 where
  pub only : old.told ≡ true → s ≡ status.TooLong → TooMuch old new
  pub always : old.told ≡ true → TooMuch old new → IsUnlessEnded status.TooLong s

-- The program part was read whole, and is refused.
pub record IsRefusedPart (old new : Seen) : Type 0 where
  pub read : List ℕ
  pub left : old.left ≡ read ++ new.left
  pub part : Part
  pub is_cut : Bool
  pub is_part : part_of read is_cut ≡ Some part
  pub why : Refusal
  pub refused : HasVerdict part.text (Rejected why)
  pub far : HasSeparator read ⊎ IsAtEnd new

-- Status 3 comes exactly where the program part is refused.
pub record ProgramCause (old new : Seen) (s : Status) : Type 0 where
  pub only : old.told ≡ true → s ≡ status.Program → IsRefusedPart old new
  -- where the separator was read and the lines before it are refused
  pub always : (read : List ℕ) (why : Refusal) (front back : List (List ℕ)) → old.told ≡ true → old.left ≡ read ++ new.left → divided (split (take limit read)).0 ≡ Some (front, back) → HasVerdict (flat_map ended front) (Rejected why)
      → IsUnlessEnded status.Program s
  -- where the input was the program part and is refused; a failed `take` may come first
  pub at_end : (read : List ℕ) (why : Refusal) (part : Part) → old.told ≡ true → old.left ≡ read ++ new.left → length read ≤ limit → part_of read false ≡ Some part → HasVerdict part.text (Rejected why)
      → IsUnlessEnded status.Program s ⊎ (s ≡ status.Input)

-- The program part was read whole, and is accepted as this program.
pub record IsAcceptedPart (old new : Seen) (p : Program) : Type 0 where
  pub read : List ℕ
  pub left : old.left ≡ read ++ new.left
  pub part : Part
  pub is_cut : Bool
  pub is_part : part_of read is_cut ≡ Some part
  pub accepted : HasVerdict part.text (Accepted p)
  pub far : HasSeparator read ⊎ IsAtEnd new

-- Of an accepted program the files of this device read as this, and each device before it opens.
pub record FindsStore (old new : Seen) (p : Program) (d : ℕ) (stored : Stored) : Type 0 where
  pub accepted : IsAcceptedPart old new p
  pub is_device : d < device_count p.decls.items
  pub before : OpenBefore p d old
  pub store : HasStore p d (content_in old d 0) (content_in old d 1) stored

-- The calls of this device of a program failed; where the outside tells what is seen the program was accepted, and each device before it opens.
pub record FindsFault (old new : Seen) (p : Program) (d : ℕ) : Type 0 where
  pub rose : Rose (disk_faults d old) (disk_faults d new)
  pub is_device : d < device_count p.decls.items
  pub accepted : old.told ≡ true → IsAcceptedPart old new p
  pub before : old.told ≡ true → OpenBefore p d old

-- the status of a device whose files read as this, where they don't open
abbrev pub store_status : Stored → Option Status
store_status (stores.Bad file at) = Some status.Store
store_status stores.OtherProgram = Some status.OtherProgram
store_status stored = None

-- Statuses 4 and 5 come exactly where the first device that doesn't open has such files, and 6 only where the count of a device's disk rose.
pub record OpeningCause (j : Job) (old new : Seen) (s : Status) : Type 0 where
  pub bad : old.told ≡ true → s ≡ status.Store → (p : Program) × (d : ℕ) × (file : ℕ) × (at : ℕ) × FindsStore old new p d (stores.Bad file at)
  pub other : old.told ≡ true → s ≡ status.OtherProgram → (p : Program) × (d : ℕ) × FindsStore old new p d stores.OtherProgram
  pub disk : s ≡ status.Disk → (p : Program) × (d : ℕ) × FindsFault old new p d
  -- where the separator was read, the lines before it are this program, all its devices before one open, the files of that one read so, and the count of no disk rose
  pub always : (read : List ℕ) (front back : List (List ℕ)) (p : Program) (d : ℕ) (stored : Stored) (wanted : Status) → j ≡ job.Run → old.told ≡ true → old.left ≡ read ++ new.left → divided (split (take limit read)).0 ≡ Some (front, back) → HasVerdict (flat_map ended front) (Accepted p)
      → OpenBefore p d old → d < device_count p.decls.items → HasStore p d (content_in old d 0) (content_in old d 1) stored → store_status stored ≡ Some wanted → ((e : ℕ) → Rose (disk_faults e old) (disk_faults e new) → ⊥) → IsUnlessEnded wanted s

-- No count of faults rose, no byte too many came, the program part, if it was read whole, isn't refused, and for `run` no store is bad or another program's.
pub record IsUntroubled (j : Job) (old new : Seen) : Type 0 where
  pub told : old.told ≡ true
  pub quiet : (kind : FaultKind) → Counts 1 (old.faults kind) (new.faults kind) → ⊥
  pub few : TooMuch old new → ⊥
  pub accepted : IsRefusedPart old new → ⊥
  pub bad : j ≡ job.Run → (p : Program) (d file at : ℕ) → FindsStore old new p d (stores.Bad file at) → ⊥
  pub others : j ≡ job.Run → (p : Program) (d : ℕ) → FindsStore old new p d stores.OtherProgram → ⊥

-- Such a run ends with status 0, or with 9 for want of memory.
abbrev pub Completes : Job → Seen → Seen → Status → Type 0
Completes j old new s = IsUntroubled j old new → (s ≡ status.Done) ⊎ (s ≡ status.Memory)
