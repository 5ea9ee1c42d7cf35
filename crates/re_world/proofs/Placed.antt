-- The places of devices while one is taken out and put in again.
use Rattle.std.proofs.Common.{◌≡◌, inl, inr, ◌<◌, ◌∷◌, [], ℕ, zero, suc, List, Option, Some, None, length, refl, sym, ap, subst, ◌∙◌, arith}
use Rattle.std.specs.Prelude.{◌≢◌, option_and_then, slice_get, slice_set}
use Rattle.std.proofs.lemmas.Bool.Decides.{eqb_tells}
use Rattle.std.proofs.lemmas.Option.{slice_get_within}
use Rattle.re_device.specs.Device.{DeviceState}
use Rattle.re_terms.specs.Admission.{device_count}
use Rattle.re_terms.specs.Listed.{Listed}
use Rattle.re_terms.specs.declared.program.Program.{Program}
use Rattle.re_world.specs.State.{AllPlaced, IsKept, IsPlaced, WorldState, device_in, state_of}
use Rattle.re_world.specs.declared.world.World.TheInside.{Inside}

set_here : {T : Type 0} (xs : List T) (i : ℕ) (y : T) → i < length xs → slice_get (slice_set xs i y) i ≡ Some y
set_here [] i y below = absurd (omega (arith, below))
set_here (x ∷ xs) zero y below = refl
set_here (x ∷ xs) (suc i) y below = set_here xs i y (omega (arith, below))

set_elsewhere : {T : Type 0} (xs : List T) (i j : ℕ) (y : T) → j ≢ i → slice_get (slice_set xs i y) j ≡ slice_get xs j
set_elsewhere [] i j y other = refl
set_elsewhere (x ∷ xs) zero zero y other = absurd (other refl)
set_elsewhere (x ∷ xs) zero (suc j) y other = refl
set_elsewhere (x ∷ xs) (suc i) zero y other = refl
set_elsewhere (x ∷ xs) (suc i) (suc j) y other = set_elsewhere xs i j y (λ e. other (ap suc e))

set_same : {T : Type 0} (xs : List T) (i : ℕ) (y : T) → slice_get xs i ≡ Some y → slice_set xs i y ≡ xs
set_same [] i y e = absurd (cc)
set_same (x ∷ xs) zero y e = ap (λ z. z ∷ xs) (sym (some_is e))
  where
    some_is : Some x ≡ Some y → x ≡ y
    some_is h = cc
set_same (x ∷ xs) (suc i) y e = ap (λ l. x ∷ l) (set_same xs i y e)

set_count : {T : Type 0} (xs : List T) (i : ℕ) (y : T) → length (slice_set xs i y) ≡ length xs
set_count [] i y = refl
set_count (x ∷ xs) zero y = refl
set_count (x ∷ xs) (suc i) y = ap suc (set_count xs i y)

set_twice : {T : Type 0} (xs : List T) (i : ℕ) (y z : T) → slice_set (slice_set xs i y) i z ≡ slice_set xs i z
set_twice [] i y z = refl
set_twice (x ∷ xs) zero y z = refl
set_twice (x ∷ xs) (suc i) y z = ap (λ l. x ∷ l) (set_twice xs i y z)

-- the device of a place, in a list of places
abbrev pub placed_in : List (Option DeviceState) → ℕ → Option DeviceState
placed_in devices n = option_and_then (λ (x : Option DeviceState). x) (slice_get devices n)

pub place_here : (devices : List (Option DeviceState)) (n : ℕ) (o : Option DeviceState) → n < length devices → placed_in (slice_set devices n o) n ≡ o
place_here devices n o below = ap (option_and_then (λ (x : Option DeviceState). x)) (set_here devices n o below)

pub place_elsewhere : (devices : List (Option DeviceState)) (n e : ℕ) (o : Option DeviceState) → e ≢ n → placed_in (slice_set devices n o) e ≡ placed_in devices e
place_elsewhere devices n e o other = ap (option_and_then (λ (x : Option DeviceState). x)) (set_elsewhere devices n e o other)

-- taken out and put in again
pub back_here : (devices : List (Option DeviceState)) (n : ℕ) (o o' : Option DeviceState) → n < length devices → placed_in (slice_set (slice_set devices n o) n o') n ≡ o'
back_here devices n o o' below = place_here (slice_set devices n o) n o' (subst (λ k. n < k) (sym (set_count devices n o)) below)

pub back_elsewhere : (devices : List (Option DeviceState)) (n e : ℕ) (o o' : Option DeviceState) → e ≢ n → placed_in (slice_set (slice_set devices n o) n o') e ≡ placed_in devices e
back_elsewhere devices n e o o' other = place_elsewhere (slice_set devices n o) n e o' other ∙ place_elsewhere devices n e o other

some_none : {T : Type 0} (x : T) → Some x ≡ None → ⊥
some_none x h = cc

-- a place from which nothing was taken is as it was
set_missing : {T : Type 0} (xs : List T) (i : ℕ) (y : T) → slice_get xs i ≡ None → slice_set xs i y ≡ xs
set_missing [] i y none = refl
set_missing (x ∷ xs) zero y none = absurd (some_none x none)
set_missing (x ∷ xs) (suc i) y none = ap (λ l. x ∷ l) (set_missing xs i y none)

pub none_taken : (devices : List (Option DeviceState)) (n : ℕ) → placed_in devices n ≡ None → slice_set devices n None ≡ devices
none_taken devices n none = by_place (slice_get devices n) refl
  where
    by_place : (o : Option (Option DeviceState)) → slice_get devices n ≡ o → slice_set devices n None ≡ devices
    by_place None e = set_missing devices n None e
    by_place (Some None) e = set_same devices n None e
    by_place (Some (Some x)) e = absurd (some_none x (sym (ap (option_and_then (λ (y : Option DeviceState). y)) e) ∙ none))

-- a place with a device is one of the list
pub place_below : (devices : List (Option DeviceState)) (n : ℕ) (x : DeviceState) → placed_in devices n ≡ Some x → n < length devices
place_below devices n x here = by_place (slice_get devices n) refl
  where
    by_place : (o : Option (Option DeviceState)) → slice_get devices n ≡ o → n < length devices
    by_place None e = absurd (some_none x (sym here ∙ ap (option_and_then (λ (y : Option DeviceState). y)) e))
    by_place (Some y) e = slice_get_within devices n y e

-- put in as it was
pub back_same : (devices : List (Option DeviceState)) (n : ℕ) (x : DeviceState) → placed_in devices n ≡ Some x → slice_set (slice_set devices n None) n (Some x) ≡ devices
back_same devices n x here = set_twice devices n None (Some x) ∙ set_same devices n (Some x) (by_place (slice_get devices n) refl)
  where
    some_is : (y : DeviceState) → Some y ≡ Some x → y ≡ x
    some_is y h = cc

    by_place : (o : Option (Option DeviceState)) → slice_get devices n ≡ o → slice_get devices n ≡ Some (Some x)
    by_place None e = absurd (some_none x (sym here ∙ ap (option_and_then (λ (y : Option DeviceState). y)) e))
    by_place (Some None) e = absurd (some_none x (sym here ∙ ap (option_and_then (λ (y : Option DeviceState). y)) e))
    by_place (Some (Some y)) e = e ∙ ap (λ z. Some (Some z)) (some_is y (sym (ap (option_and_then (λ (z : Option DeviceState). z)) e) ∙ here))

pub place_count : (devices : List (Option DeviceState)) (n : ℕ) (o : Option DeviceState) → length (slice_set devices n o) ≡ length devices
place_count devices n o = set_count devices n o

-- all are placed
pub all_placed : (p : Program) (devices : List (Option DeviceState)) (n : ℕ) (o : Option DeviceState) → n < length devices → AllPlaced p devices → IsPlaced p n o → AllPlaced p (slice_set devices n o)
all_placed p devices n o below all placed d = elim (eqb_tells d n) [
  | inl same ↦ subst (λ e. IsPlaced p e (placed_in (slice_set devices n o) e)) (sym same.1) (subst (IsPlaced p n) (sym (place_here devices n o below)) placed)
  | inr other ↦ subst (IsPlaced p d) (sym (place_elsewhere devices n d o other.1)) (all d)
]

-- what is kept while a device is taken out, and once it is put in
pub kept_with : (w : Inside) (v : WorldState) (devices : Listed (Option DeviceState)) (n : ℕ) (o : Option DeviceState) → state_of w ≡ v → IsKept w → n < device_count v.program.decls.items → IsPlaced v.program n o → devices.items ≡ slice_set w.devices.items n o → IsKept (record w { devices = devices })
kept_with w v devices n o view kept below placed is =
    let own : n < length w.devices.items = subst (λ k. n < k) (sym kept.count) (subst (λ (u : WorldState). n < device_count u.program.decls.items) (sym view) below) in
    record {
      is_program = kept.is_program;
      text = kept.text;
      shape = kept.shape;
      count = ap length is ∙ place_count w.devices.items n o ∙ kept.count;
      placed = subst (AllPlaced w.program) (sym is) (all_placed w.program w.devices.items n o own kept.placed (subst (λ (u : WorldState). IsPlaced u.program n o) (sym view) placed));
      packets = kept.packets;
      few = kept.few;
    }

-- where nothing was taken out all is as it was
pub none_taken_out : (v mid : WorldState) (n : ℕ) → mid ≡ record v { devices = slice_set v.devices n None } → placed_in v.devices n ≡ None → mid ≡ v
none_taken_out v mid n taken_out none = taken_out ∙ (λ i. record v { devices = none_taken v.devices n none i })

-- a device was taken out and put in again
module _ (v mid new : WorldState) (n : ℕ) (x : DeviceState) (taken_out : mid ≡ record v { devices = slice_set v.devices n None }) (back : new ≡ record mid { devices = slice_set mid.devices n (Some x) }) where
  back_devices : new.devices ≡ slice_set (slice_set v.devices n None) n (Some x)
  back_devices = ap (λ (u : WorldState). u.devices) back ∙ ap (λ (u : WorldState). slice_set u.devices n (Some x)) taken_out

  pub back_place : n < length v.devices → device_in new n ≡ Some x
  back_place below = ap (λ l. placed_in l n) back_devices ∙ back_here v.devices n None (Some x) below

  pub back_others : (e : ℕ) → e ≢ n → device_in new e ≡ device_in v e
  back_others e other = ap (λ l. placed_in l e) back_devices ∙ back_elsewhere v.devices n e None (Some x) other

  pub back_program : new.program ≡ v.program
  back_program = ap (λ (u : WorldState). u.program) back ∙ ap (λ (u : WorldState). u.program) taken_out

  pub back_packets : new.packets ≡ v.packets
  back_packets = ap (λ (u : WorldState). u.packets) back ∙ ap (λ (u : WorldState). u.packets) taken_out

  -- the same device: then all is as it was
  pub back_all : (y : DeviceState) → device_in v n ≡ Some y → x ≡ y → new ≡ v
  back_all y here same =
      back
      ∙ ap (λ (u : WorldState). record u { devices = slice_set u.devices n (Some x) }) taken_out
      ∙ (λ i. record v { devices = (ap (λ z. slice_set (slice_set v.devices n None) n (Some z)) same ∙ back_same v.devices n y here) i })

-- an option that holds nothing
pub no_some : {T : Type 0} (o : Option T) → ((x : T) → o ≢ Some x) → o ≡ None
no_some None nothing = refl
no_some (Some x) nothing = absurd (nothing x refl)
