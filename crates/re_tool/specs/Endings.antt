-- How a run ends, and what its last line tells of it.
-- Read against: a run whose program part is refused with `no device` ends with status 3 and `rescala: program: no device`; one whose store of the device `a` is bad in
-- file 0 at place 5 with status 4 and `rescala: device a: bad store, file 0 at 5`; one that read its input to the end with status 0 and no line.
use Rattle.std.specs.Prelude.{ℕ, List, [], ◌∷◌, ◌++◌, codes}
use Rattle.std.specs.Fmt.{decimal}
use Rattle.re_tool.specs.declared.faults.Refusal.{Refusal}
use Rattle.re_tool.specs.declared.status.Status.{Status}
use Rattle.re_tool.specs.declared.status.Status.TheVariants as status
use Rattle.re_tool.specs.Refusals.{refusal_words}

pub data Ending : Type 0 where
  -- all was read and said
  Done : Ending
  BadWords : Ending
  RefusedProgram : (why : Refusal) → Ending
  -- the store of the device with this name is bad in this file, at this place
  BadStore : (device : List ℕ) (file place : ℕ) → Ending
  -- the store of this device is another program's
  OtherProgram : (device : List ℕ) → Ending
  -- the disk of this device failed while it was opened
  DiskFault : (device : List ℕ) → Ending
  InputFault : Ending
  OutputFault : Ending
  NoMemory : Ending
  InputTooLong : Ending
  -- the line with this number isn't a turn of this device
  BadLine : (line : ℕ) (device : List ℕ) → Ending

-- its status
abbrev pub status_at : Ending → Status
status_at Done = status.Done
status_at BadWords = status.Words
status_at (RefusedProgram why) = status.Program
status_at (BadStore device file place) = status.Store
status_at (OtherProgram device) = status.OtherProgram
status_at (DiskFault device) = status.Disk
status_at InputFault = status.Input
status_at OutputFault = status.Output
status_at NoMemory = status.Memory
status_at InputTooLong = status.TooLong
status_at (BadLine line device) = status.Line

-- a line that tells of a run
abbrev pub run_line : List ℕ → List ℕ
run_line text = codes "rescala: " ++ (text ++ 10 ∷ [])

-- the same of a device
abbrev pub device_line : List ℕ → List ℕ → List ℕ
device_line device text = run_line (codes "device " ++ (device ++ (codes ": " ++ text)))

-- what is said of it, last
abbrev pub last_line : Ending → List ℕ
last_line Done = []
last_line BadWords = run_line (codes "bad words")
last_line (RefusedProgram why) = run_line (codes "program: " ++ refusal_words why)
last_line (BadStore device file place) = device_line device (codes "bad store, file " ++ (decimal file ++ (codes " at " ++ decimal place)))
last_line (OtherProgram device) = device_line device (codes "other program")
last_line (DiskFault device) = device_line device (codes "disk fault")
last_line InputFault = run_line (codes "input fault")
last_line OutputFault = []
last_line NoMemory = run_line (codes "no memory")
last_line InputTooLong = run_line (codes "input too long")
last_line (BadLine line device) = run_line (codes "line " ++ (decimal line ++ (codes ": not a turn of " ++ device)))

-- the ending with this status, of those that tell nothing more
abbrev pub plain_ending : Status → Ending
plain_ending status.Words = BadWords
plain_ending status.Input = InputFault
plain_ending status.Output = OutputFault
plain_ending status.Memory = NoMemory
plain_ending status.TooLong = InputTooLong
plain_ending s = Done
