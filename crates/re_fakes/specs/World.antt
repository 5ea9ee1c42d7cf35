-- A world in memory, and what each call does to it.
use Rattle.std.specs.Prelude.{ℕ, ◌≡◌, ◌+◌, ◌-◌, ◌^◌, min, Option, List, [], ◌∷◌, ◌++◌, drop, take, slice_index, slice_set, replicate, true, ◌⊎◌, IsSome}
use Rattle.re_outside.specs.Listed.{plain}
use Rattle.re_outside.specs.Image.{content, written}
use Rattle.re_outside.specs.Trace.{acts_of, Past}
use Rattle.re_outside.specs.Outside.{Seen, FaultKind, Input, Output, Disk}
use Rattle.re_outside.specs.declared.step.Call.{Call}
use Rattle.re_outside.specs.declared.step.Call.TheVariants as kind
use Rattle.re_outside.specs.declared.step.Step.{Step}
use Rattle.re_outside.specs.declared.step.Step.TheVariants as step
use Rattle.re_fakes.specs.declared.fails.Fail.{Fail}
use Rattle.re_fakes.specs.declared.calls.Calls.{Calls}
use Rattle.re_fakes.specs.Files.{file_in}
use Rattle.re_fakes.specs.Fails.{entry, done_of}

-- what contracts see of a world in memory: the input left, the files before the first step, the steps so far, the
-- list of calls that fail, how many calls of each kind were made, how many failed that take, that say, and on the
-- disk of each device, and how many found no memory
pub record World : Type 0 where
  pub left : List ℕ
  pub start : List (List ℕ)
  pub trace : List Step
  pub fails : List Fail
  pub calls : Calls
  pub input_faults : ℕ
  pub output_faults : ℕ
  pub disk_faults : List ℕ
  pub shorts : ℕ

-- no call was made
abbrev pub no_calls : Calls
no_calls = record { takes = 0; says = 0; sizes = 0; fetches = 0; writes = 0; cuts = 0; syncs = 0 }

-- a world before its first call, with a count for the disk of each device from 0 to 255
abbrev pub new_world : List ℕ → List (List ℕ) → List Fail → World
new_world input files fails = record { left = input; start = files; trace = []; fails = fails; calls = no_calls; input_faults = 0; output_faults = 0; disk_faults = replicate 256 0; shorts = 0 }

-- how many calls of a kind failed
abbrev pub faults_of : World → FaultKind → ℕ
faults_of w Input = w.input_faults
faults_of w Output = w.output_faults
faults_of w (Disk device) = slice_index w.disk_faults device

-- what is seen of it as an outside
abbrev pub seen_of : World → Seen
seen_of w = record { told = true; left = w.left; start = file_in w.start; trace = w.trace; faults = faults_of w }

-- what reads of a file of a device give
abbrev pub reads_of : World → ℕ → ℕ → List ℕ
reads_of w device file = content (file_in w.start device file) (acts_of device file w.trace)

-- the moment after the first steps
abbrev pub moment_at : World → ℕ → Past
moment_at w steps = record { device = 0; start = file_in w.start; trace = take steps w.trace }

-- one more, and no more at the greatest number
abbrev pub raised : ℕ → ℕ
raised n = min (n + 1) (2 ^ 64 - 1)

-- how many calls of a kind were made
abbrev pub count_of : Calls → Call → ℕ
count_of calls kind.Take = calls.takes
count_of calls kind.Say = calls.says
count_of calls kind.Size = calls.sizes
count_of calls kind.Fetch = calls.fetches
count_of calls kind.Write = calls.writes
count_of calls kind.Cut = calls.cuts
count_of calls kind.Sync = calls.syncs

-- one call of a kind more
abbrev pub one_more : Call → Calls → Calls
one_more kind.Take calls = record calls { takes = raised calls.takes }
one_more kind.Say calls = record calls { says = raised calls.says }
one_more kind.Size calls = record calls { sizes = raised calls.sizes }
one_more kind.Fetch calls = record calls { fetches = raised calls.fetches }
one_more kind.Write calls = record calls { writes = raised calls.writes }
one_more kind.Cut calls = record calls { cuts = raised calls.cuts }
one_more kind.Sync calls = record calls { syncs = raised calls.syncs }

-- the entry of the list that speaks of the next call of a kind
abbrev pub next_entry : Call → World → Option Fail
next_entry call w = entry call (count_of w.calls call + 1) w.fails

-- a call was made that did nothing else
abbrev pub counted : Call → World → World
counted call w = record w { calls = one_more call w.calls }

-- a step is added
abbrev pub stepped : Step → World → World
stepped s w = record w { trace = w.trace ++ s ∷ [] }

-- the first n bytes of the input were given
abbrev pub given : ℕ → World → World
given n w = record w { left = drop n w.left }

-- the world after a take that gave n bytes
abbrev pub taken : ℕ → World → World
taken n w = given n (counted kind.Take w)

-- the world after these bytes were said
abbrev pub spoken : List ℕ → World → World
spoken bytes w = stepped (step.Say (plain bytes)) (counted kind.Say w)

-- a call of a kind of fault failed
abbrev pub faulted : FaultKind → World → World
faulted Input w = record w { input_faults = raised w.input_faults }
faulted Output w = record w { output_faults = raised w.output_faults }
faulted (Disk device) w = record w { disk_faults = slice_set w.disk_faults device (raised (slice_index w.disk_faults device)) }

-- no memory was found for a step or for a file
abbrev pub short : World → World
short w = record w { shorts = raised w.shorts }

-- why a call failed, and what it left: it stands in the list and its step was added, or there was no memory
abbrev pub FailsFor : Call → FaultKind → Step → World → World → Type 0
FailsFor call kind s old new =
    let failed = faulted kind (counted call old) in
    (IsSome (next_entry call old) × (new ≡ stepped s failed)) ⊎ (new ≡ short failed)

-- the step of a failed call that takes or says
abbrev pub output_failure : Call → Step
output_failure call = step.Fail call 0 0 0 (plain []) (plain [])

-- the step of a failed call on a file that did nothing
abbrev pub file_failure : Call → ℕ → ℕ → ℕ → World → Step
file_failure call device file at w = step.Fail call device file at (plain []) (plain (reads_of w device file))

-- the step of a failed write, of which the entry that speaks of it made the first bytes
abbrev pub write_failure : ℕ → ℕ → ℕ → List ℕ → World → Step
write_failure device file at bytes w = step.Fail kind.Write device file at (plain bytes) (plain (written (reads_of w device file) at (take (done_of (next_entry kind.Write w)) bytes)))
