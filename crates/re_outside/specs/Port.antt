-- One device's disk over an outside.
use Rattle.std.specs.Prelude.{ℕ, ◌==◌, Bool, if◌then◌else◌, List, []}
use Rattle.re_outside.specs.Trace.{Past}
use Rattle.re_outside.specs.Outside.{Disk, is_kind, Faults, Seen, content_in}

-- what no call of a disk changes: which reference is behind it, all counts but the disk's own, and, where they are told, the input
-- left, what the files of other devices hold, and what all files held before the first step
pub record Rest : Type 0 where
  pub name : ℕ
  pub told : Bool
  pub faults : Faults
  pub left : List ℕ
  pub others : ℕ → ℕ → List ℕ
  pub start : ℕ → ℕ → List ℕ

-- the moment at which an outside stands, spoken of device d
abbrev pub past_in : ℕ → Seen → Past
past_in d s = record { device = d; start = s.start; trace = s.trace }

-- the count of device d
abbrev pub disk_faults : ℕ → Seen → ℕ
disk_faults d s = s.faults (Disk d)

-- all counts but that of device d
abbrev pub other_faults : ℕ → Seen → Faults
other_faults d s kind = if is_kind (Disk d) kind then 0 else s.faults kind

-- what the files of all devices but d hold
abbrev pub other_files : ℕ → Seen → ℕ → ℕ → List ℕ
other_files d s device file = if device == d then [] else content_in s device file

-- what an outside behind a reference of this name is but for device d
abbrev pub rest_in : ℕ → ℕ → Seen → Rest
rest_in name d s = record {
  name = name;
  told = s.told;
  faults = other_faults d s;
  left = if s.told then s.left else [];
  others = λ device file. if s.told then other_files d s device file else [];
  start = λ device file. if s.told then s.start device file else [];
}
