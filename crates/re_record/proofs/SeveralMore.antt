-- Reading values one behind the other where memory may run out.
use Rattle.std.proofs.Common.{◌≡◌, ℕ, suc, ◌-◌, ◌+◌, ◌<◌, List, Result, Err, refl, sym, ◌∙◌, arith}
use Rattle.re_wire.specs.declared.fault.WireFault.{WireFault}
use Rattle.re_wire.specs.declared.fault.WireFault.TheVariants as faults
use Rattle.re_wire.specs.Reading.{Fails, several_at}
use Rattle.re_wire.proofs.Several.{with_front}

pub fails_at : {X : Type 0} (read : ℕ → Result (X × ℕ) ℕ) (e : WireFault) (front : List X) (count i at : ℕ) (total : Result (List X × ℕ) ℕ) → i < count → Fails e (read at)
    → with_front front (several_at read (count - i) at) ≡ total → Fails e total
unfolding several_at
fails_at read faults.Memory front count i at total lt h so_far = tt
fails_at read (faults.At place) front count i at total lt h so_far =
    let k : count - i ≡ suc (count - (i + 1)) = omega arith in
    let one : with_front front (several_at read (count - i) at) ≡ Err place = rw (k, h) refl in
    sym so_far ∙ one
