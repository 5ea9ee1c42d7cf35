-- What contracts see of the real outside: how many calls failed.
use Rattle.std.specs.Prelude.{ℕ, ◌≡◌, List, [], Bool, true, false, replicate, slice_index}
use Rattle.std.proofs.Common.{subst}
use Rattle.re_outside.specs.Outside.{FaultKind, Input, Output, Disk, Faults, Seen, Counts, one_fault}

-- how many reads and how many writes failed, and how many calls on each device's files, by the device's number
pub record Counted : Type 0 where
  pub input : ℕ
  pub output : ℕ
  pub disks : List ℕ

-- the counts by kind
abbrev pub counts_of : Counted → Faults
counts_of c Input = c.input
counts_of c Output = c.output
counts_of c (Disk device) = slice_index c.disks device

-- the outside tells its counts, and nothing of what is read or written
abbrev pub seen_of : Counted → Seen
seen_of c = record { told = false; left = []; start = λ device file. []; trace = []; faults = counts_of c }

-- no call failed yet
abbrev pub fresh : Counted
fresh = record { input = 0; output = 0; disks = replicate 256 0 }

-- one call of this kind failed
abbrev pub Rises : FaultKind → Counted → Counted → Type 0
Rises own old new = (kind : FaultKind) → Counts (one_fault own kind) (counts_of old kind) (counts_of new kind)

-- nothing is told
pub untold : {A : Type 0} → ◌≡◌ {A = Bool} false true → A
untold h = elim (no h) [ ]
  where
    is_false : Bool → Type 0
    is_false false = Unit {0}
    is_false true = ⊥

    no : ◌≡◌ {A = Bool} false true → ⊥
    no h = subst is_false h tt
