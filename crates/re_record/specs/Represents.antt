-- An update log stands behind the files of all devices.
-- Read against: blank files represent the log of no update, and no other; with two devices the log of a's update (0, 1) is represented where a's files open to a state with 1 for a and what the update makes, and b's are blank or open to a state that has taken it in.
use Rattle.std.specs.Prelude.{◌≡◌, ℕ, ◌<◌, List, slice_index}
use Rattle.re_record.specs.Restoring.{Opened}
use Rattle.re_record.specs.Stores.{OpensTo}
use Rattle.re_terms.specs.Admission.{device_count}
use Rattle.re_terms.specs.Shapes.{shape_of}
use Rattle.re_terms.specs.UpdateStates.{state_of_updates}
use Rattle.re_terms.specs.Updates.{Update, IsIn, IsCausalLog, IsCausallyClosed, count_of, covered}
use Rattle.re_terms.specs.declared.program.Program.{Program}

-- what a device's opened state covers
abbrev pub counts_of : Opened → List ℕ
counts_of o = o.state.rep.vector.counts

-- the two files of a device open to what the updates of the log make that its vector covers, all of its own among them
pub record DeviceRepresents (p : Program) (device : ℕ) (first second : List ℕ) (log : List Update) : Type 0 where
  pub opened : Opened
  pub opens : OpensTo p device first second opened
  pub rep : opened.state.rep ≡ state_of_updates (shape_of p) (covered log (counts_of opened))
  pub closed : IsCausallyClosed log (counts_of opened)
  pub own : slice_index (counts_of opened) device ≡ count_of device log

-- the files of all devices, by device and file, do so of one causal log of the devices of the program
pub record Represents (p : Program) (files : ℕ → ℕ → List ℕ) (log : List Update) : Type 0 where
  pub causal : IsCausalLog log
  pub of_devices : (u : Update) → IsIn u log → u.dot.device < device_count p.decls.items
  pub each : (device : ℕ) → device < device_count p.decls.items → DeviceRepresents p device (files device 0) (files device 1) log
