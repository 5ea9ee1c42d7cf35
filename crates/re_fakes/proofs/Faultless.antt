-- Counts of faults that are all 0.
use Rattle.std.proofs.Common.{◌≡◌, ◌==◌, ◌∷◌, [], ℕ, List, refl, suc, true, zero, arith}
use Rattle.std.specs.List.{list_all}
use Rattle.std.specs.Prelude.{slice_index}
use Rattle.re_outside.specs.Outside.{Disk, FaultKind, Input, Output}
use Rattle.re_fakes.specs.World.{World, faults_of}

none_counted : (xs : List ℕ) → list_all (λ n. n == 0) xs ≡ true → (i : ℕ) → slice_index xs i ≡ 0
none_counted [] e i = refl
none_counted (x ∷ xs) e zero = grind (arith, e)
none_counted (x ∷ xs) e (suc i) = none_counted xs (grind (arith, e)) i

pub all_none : (xs : List ℕ) → ((i : ℕ) → slice_index xs i ≡ 0) → list_all (λ n. n == 0) xs ≡ true
all_none [] h = refl
all_none (x ∷ xs) h =
    let first : x ≡ 0 = h 0 in
    let rest = all_none xs (λ i. h (suc i)) in
    grind (arith, first, rest)

pub each_none : (w : World) → w.input_faults ≡ 0 → w.output_faults ≡ 0 → list_all (λ n. n == 0) w.disk_faults ≡ true → (kind : FaultKind) → faults_of w kind ≡ 0
each_none w input output disks Input = input
each_none w input output disks Output = output
each_none w input output disks (Disk device) = none_counted w.disk_faults disks device
