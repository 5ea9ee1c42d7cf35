-- Why a command is refused, by the device that it finds.
use Rattle.std.proofs.Common.{◌≡◌, inl, inr, ℕ, Option, Some, None, refl, sym, ap, subst, []}
use Rattle.std.specs.Prelude.{false, true, option_and_then}
use Rattle.std.specs.Option.{option_map_or, option_or}
use Rattle.re_device.specs.Causes.{IsCausedBy, is_caused}
use Rattle.re_device.specs.Device.{DeviceState}
use Rattle.re_terms.specs.DeviceWorlds.{refused_where}
use Rattle.re_terms.specs.Shapes.{shape_of}
use Rattle.re_terms.specs.UpdateStates.{state_of_updates}
use Rattle.re_terms.specs.Worlds.{PlainAnswer, Refused}
use Rattle.re_terms.specs.declared.command.Command.{Command}
use Rattle.re_terms.specs.declared.replicated.RState.{RState}
use Rattle.re_world.specs.Causes.{HasCause, Merges, device_for, device_refusal, finds_down, finds_up, lacks, refusal_in}
use Rattle.re_world.specs.State.{WorldState, device_in}

-- a state, where any serves
abbrev pub any_state : WorldState → RState
any_state v = state_of_updates (shape_of v.program) []

-- want of memory may come at any time
pub memory_caused : (v : WorldState) (c : Command) → (state : RState) × Merges v c state → HasCause v c (Refused 36)
memory_caused v c merged = (merged.0, merged.1, by_refusal (refusal_in v merged.0 c))
  where
    by_refusal : (r : Option PlainAnswer) → IsCausedBy r (Refused 36)
    by_refusal None = refl
    by_refusal (Some refusal) = inr refl

-- the refusal is this
pub caused_as : (v : WorldState) (c : Command) (a : PlainAnswer) → (state : RState) × Merges v c state → ((state : RState) → Merges v c state → refusal_in v state c ≡ Some a) → HasCause v c a
caused_as v c a merged refused = (merged.0, merged.1, subst (λ r. IsCausedBy r a) (sym (refused merged.0 merged.1)) (inl refl))

-- nothing refuses it
pub caused_free : (v : WorldState) (c : Command) (a : PlainAnswer) → (state : RState) × Merges v c state → is_caused a ≡ false → ((state : RState) → Merges v c state → refusal_in v state c ≡ None) → HasCause v c a
caused_free v c a merged free none = (merged.0, merged.1, subst (λ r. IsCausedBy r a) (sym (none merged.0 merged.1)) free)

module _ (v : WorldState) (c : Command) where
  pub lacks_is : (state : RState) → lacks v c ≡ true → refusal_in v state c ≡ Some (Refused 28)
  lacks_is state there = λ i. option_or (refused_where (there i) 28) (option_or (refused_where (finds_down v c) 26) (option_or (refused_where (finds_up v c) 27) (option_and_then (device_refusal v state c) (device_for v c))))

  module _ (there : lacks v c ≡ false) where
    pub down_is : (state : RState) → finds_down v c ≡ true → refusal_in v state c ≡ Some (Refused 26)
    down_is state down = λ i. option_or (refused_where (there i) 28) (option_or (refused_where (down i) 26) (option_or (refused_where (finds_up v c) 27) (option_and_then (device_refusal v state c) (device_for v c))))

    -- a device that is up decides
    pub device_is : (state : RState) (x : DeviceState) → finds_down v c ≡ false → finds_up v c ≡ false → device_for v c ≡ Some x → refusal_in v state c ≡ device_refusal v state c x
    device_is state x up down here = λ i. option_or (refused_where (there i) 28) (option_or (refused_where (up i) 26) (option_or (refused_where (down i) 27) (option_and_then (device_refusal v state c) (here i))))

-- the place of a device that is up, and of one that is down
pub found_up : (v : WorldState) (n : ℕ) (x : DeviceState) → device_in v n ≡ Some x → option_map_or (λ (y : DeviceState). false) (device_in v n) true ≡ false
found_up v n x place = ap (λ o. option_map_or (λ (y : DeviceState). false) o true) place

pub found_down : (v : WorldState) (n : ℕ) → device_in v n ≡ None → option_map_or (λ (y : DeviceState). false) (device_in v n) true ≡ true
found_down v n place = ap (λ o. option_map_or (λ (y : DeviceState). false) o true) place
