-- What a command leaves in memory of its own device.
use Rattle.std.proofs.Common.{◌≡◌, Result, Ok, Err, refl, sym, subst}
use Rattle.std.specs.Prelude.{true, IfOk, OnOk}
use mathlib.Core.Bool.{true≢false}
use Rattle.re_compact.specs.declared.fault.OpenFault.{OpenFault}
use Rattle.re_compact.specs.declared.fault.OpenFault.TheVariants as unopened
use Rattle.re_device.specs.Stepping.{refused_as}
use Rattle.re_device.specs.declared.fault.DeviceFault.{DeviceFault}
use Rattle.re_device.specs.declared.fault.DeviceFault.TheVariants as fault
use Rattle.re_terms.specs.DeviceWorlds.{is_refusal}
use Rattle.re_terms.specs.Worlds.{Applied, BadFile, Down, Entered, Hex, Members, Packet, PlainAnswer, Refused, Settled, StoppedAt, Up, Value}
use Rattle.re_terms.specs.declared.command.Command.{Command}
use Rattle.re_world.specs.FileSteps.{unopened_as}
use Rattle.re_world.specs.State.{WorldState}
use Rattle.re_world.specs.Taking.{Takes}

-- a refusal tells of nothing
pub takes_refused : (old new : WorldState) (c : Command) (a : PlainAnswer) → is_refusal a ≡ true → Takes old new c a
takes_refused old new c (Refused code) is = tt
takes_refused old new c (StoppedAt call) is = tt
takes_refused old new c (BadFile file at) is = tt
takes_refused old new c (Entered n) is = absurd (true≢false (sym is))
takes_refused old new c (Applied n) is = absurd (true≢false (sym is))
takes_refused old new c (Settled n) is = absurd (true≢false (sym is))
takes_refused old new c (Value w) is = absurd (true≢false (sym is))
takes_refused old new c (Members elements) is = absurd (true≢false (sym is))
takes_refused old new c (Packet n) is = absurd (true≢false (sym is))
takes_refused old new c (Hex bytes) is = absurd (true≢false (sym is))
takes_refused old new c Down is = absurd (true≢false (sym is))
takes_refused old new c (Up n) is = absurd (true≢false (sym is))

-- a device's fault refuses
pub refuses : (f : DeviceFault) → is_refusal (refused_as f) ≡ true
refuses fault.Memory = refl
refuses fault.Disk = refl
refuses (fault.Stopped at) = refl
refuses fault.Full = refl
refuses fault.LooseFull = refl
refuses fault.SetFull = refl
refuses fault.CounterFull = refl
refuses fault.DotsSpent = refl

-- that of an opening too
pub refuses_opening : (f : OpenFault) → is_refusal (unopened_as f) ≡ true
refuses_opening unopened.Memory = refl
refuses_opening unopened.Disk = refl
refuses_opening (unopened.BadStore file at) = refl
refuses_opening unopened.OtherProgram = refl

-- what holds of a result that is Ok
pub on_ok : {T E A : Type 0} (r : Result T E) (y : T) → OnOk r A → r ≡ Ok y → A
on_ok (Ok x) y holds is = holds
on_ok (Err e) y holds is = absurd (cc)

pub if_ok : {T E : Type 0} (P : T → Type 0) (r : Result T E) (y : T) → IfOk r P → r ≡ Ok y → P y
if_ok P (Ok x) y holds is = let same : x ≡ y = cc in subst P same holds
if_ok P (Err e) y holds is = absurd (cc)
