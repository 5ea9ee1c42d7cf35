-- A call that is refused, and not for the disk, has made no call of it.
use Rattle.std.proofs.Common.{◌≡◌, ℕ, List, [], ◌∷◌, ◌++◌, Option, Result, Ok, Err, refl}
use Rattle.std.specs.Prelude.{◌≢◌}
use Rattle.re_device.specs.Committing.{HasSettlingSteps}
use Rattle.re_device.specs.Device.{DeviceState}
use Rattle.re_device.specs.declared.fault.DeviceFault.{DeviceFault}
use Rattle.re_device.specs.declared.fault.DeviceFault.TheVariants as fault
use Rattle.re_outside.specs.Trace.{Past}
use Rattle.re_terms.specs.declared.entry.Logged.{Logged}

same_fault : {T : Type 0} (f g : DeviceFault) → ◌≡◌ {A = Result T DeviceFault} (Err f) (Err g) → g ≡ f
same_fault f g h = cc

pub unmoved : {T : Type 0} (d : DeviceState) (entries : List Logged) (stopped : Option ℕ) (old new : Past) (r : Result T DeviceFault) (f : DeviceFault) → HasSettlingSteps d entries stopped old new r → r ≡ Err f → f ≢ fault.Disk → new ≡ old
unmoved d entries stopped old new (Ok x) f steps e other = absurd (cc)
unmoved d entries stopped old new (Err fault.Disk) f steps e other = absurd (other (same_fault fault.Disk f e))
unmoved d entries stopped old new (Err fault.Memory) f steps e other = steps
unmoved d entries stopped old new (Err (fault.Stopped at)) f steps e other = steps
unmoved d entries stopped old new (Err fault.Full) f steps e other = steps
unmoved d entries stopped old new (Err fault.LooseFull) f steps e other = steps
unmoved d entries stopped old new (Err fault.SetFull) f steps e other = steps
unmoved d entries stopped old new (Err fault.CounterFull) f steps e other = steps
unmoved d entries stopped old new (Err fault.DotsSpent) f steps e other = steps

-- the same of a settling, which makes none where there is nothing to settle
pub unmoved_settling : {T : Type 0} (d : DeviceState) (entries : List Logged) (stopped : Option ℕ) (old new : Past) (r : Result T DeviceFault) (f : DeviceFault) → (entries ≢ [] → HasSettlingSteps d entries stopped old new r) → (entries ≡ [] → new ≡ old) → r ≡ Err f → f ≢ fault.Disk → new ≡ old
unmoved_settling d [] stopped old new r f steps none e other = none refl
unmoved_settling d (l ∷ entries) stopped old new r f steps none e other = unmoved d (l ∷ entries) stopped old new r f (steps (λ h. absurd (cc))) e other

-- behind other entries one more is something
pub never : {T : Type 0} (xs : List T) (x : T) → xs ++ x ∷ [] ≡ [] → ⊥
never [] x e = absurd (cc)
never (y ∷ xs) x e = absurd (cc)
