-- Right after an opening the devices and their files are as the world of the start has them.
use Rattle.std.proofs.Common.{◌≡◌, inl, ◌<◌, [], ℕ, List, Option, Some, length, true, refl, sym, ap, subst, ◌∙◌, arith}
use Rattle.std.specs.Prelude.{nat_lt, option_and_then, slice_get}
use Rattle.std.proofs.lemmas.Bool.Decides.{nat_tests}
use Rattle.std.proofs.lemmas.List.Elements.{All-nil}
use Rattle.re_device.proofs.Opening.{opened_device}
use Rattle.re_device.specs.Device.{DeviceMemory, DeviceState, opened_at}
use Rattle.re_device.specs.Stepping.{IsDeviceOf, WasOpenedAt}
use Rattle.re_outside.proofs.Moments.{at_end}
use Rattle.re_outside.specs.Outside.{Seen, content_in}
use Rattle.re_outside.specs.Port.{past_in}
use Rattle.re_outside.specs.Trace.{IsCrashImageAt}
use Rattle.re_record.proofs.StoreLaws.{one_opening}
use Rattle.re_record.specs.Restoring.{Opened}
use Rattle.re_terms.specs.Admission.{device_count}
use Rattle.re_terms.specs.DeviceWorlds.{World, start_world}
use Rattle.re_terms.specs.Programs.{IsProgram}
use Rattle.re_terms.specs.Runs.{PlainState}
use Rattle.re_terms.specs.Updates.{Update}
use Rattle.re_terms.specs.declared.program.Program.{Program}
use Rattle.re_world.proofs.Started.{base_stands, base_taken, image_opens, opens_base, start_causal}
use Rattle.re_world.specs.Opening.{AreOpened, HasOpened, KeepsOpening}
use Rattle.re_world.specs.Standing.{HasDevice, IsWorldOf, RestsAs}
use Rattle.re_world.specs.Starting.{StartsAt}
use Rattle.re_world.specs.State.{WorldState, device_in}

module _ (p : Program) (base : ℕ → PlainState) (base_number : ℕ → ℕ) (log : List Update) (old now : Seen) (is_program : IsProgram p) (starts : StartsAt p base base_number log (past_in 0 old)) (devices : List (Option DeviceState)) (all : length devices ≡ device_count p.decls.items) (are : AreOpened p devices old now) (reads : (d f : ℕ) → IsCrashImageAt (past_in 0 now) d f (content_in now d f)) where
  abbrev w : World
  w = start_world p base base_number log

  keeps : KeepsOpening p (past_in 0 old) (past_in 0 now)
  keeps = at_end (past_in 0 old) (past_in 0 now) (KeepsOpening p (past_in 0 old)) are.moments

  module _ (d : ℕ) (below : d < device_count p.decls.items) where
    files_rest : RestsAs p w d (past_in d now)
    files_rest = record {
      images = λ first second a b. inl (opens_base p base base_number log (past_in 0 old) is_program starts d below first second (image_opens p base base_number log (past_in 0 old) is_program starts d below (past_in 0 now) keeps first second a b));
      reads = opens_base p base base_number log (past_in 0 old) is_program starts d below (content_in now d 0) (content_in now d 1) (image_opens p base base_number log (past_in 0 old) is_program starts d below (past_in 0 now) keeps (content_in now d 0) (content_in now d 1) (reads d 0) (reads d 1));
    }

    module _ (x : DeviceState) (has : HasOpened p d old now x) where
      abbrev opened_is : Opened
      opened_is = (starts.bases d below).opened

      settled_is : x.memory.settled ≡ opened_is
      settled_is = let few = is_program.devices in one_opening p d (content_in old d 0) (content_in old d 1) x.memory.settled opened_is is_program (omega (arith, below, few)) has.opens (starts.bases d below).opens

      at_settled : (opened_at p d has.is_opened.state has.is_opened.entry).settled ≡ opened_is
      at_settled = ap (λ (m : DeviceMemory). m.settled) (sym has.is_opened.memory) ∙ settled_is

      was : WasOpenedAt p w d has.is_opened.state has.is_opened.entry
      was = record {
        up = up_is (device_count p.decls.items) below;
        runs = refl;
        unsettled = refl;
        count = refl;
        state = record {
          words = ap (λ (o : Opened). o.state.words.items) at_settled ∙ (base_stands p base base_number log (past_in 0 old) is_program starts d below).words;
          rep = ap (λ (o : Opened). o.state.rep) at_settled ∙ (base_stands p base base_number log (past_in 0 old) is_program starts d below).rep;
        };
        number_is = ap (λ (o : Opened). o.number) at_settled ∙ (starts.bases d below).number_is ∙ omega arith;
        taken = base_taken p base base_number log (past_in 0 old) is_program starts d below;
      }
        where
          up_is : (n : ℕ) → d < n → nat_lt d n ≡ true
          up_is n is = grind (arith, nat_tests)

      is_device : IsDeviceOf p w x
      is_device =
          subst (λ (m : DeviceMemory). IsDeviceOf p w (record { memory = m; room = x.room; generation = x.generation; journal = x.journal })) (sym has.is_opened.memory)
          (opened_device p w d has.is_opened.state has.is_opened.entry x.room x.generation x.journal has.is_opened.state_is has.is_opened.running was)

      has_device : HasDevice p w d (Some x) (past_in d now)
      has_device = (is_device, ap (λ (m : DeviceMemory). m.device) has.is_opened.memory, λ runs. has.stands)

    device_stands : (v : WorldState) → v.devices ≡ devices → HasDevice p w d (device_in v d) (past_in d now)
    device_stands v same =
        let found = are.opened d (subst (λ n. d < n) (sym all) below) in
        subst (λ (o : Option DeviceState). HasDevice p w d o (past_in d now)) (sym (ap (λ (l : List (Option DeviceState)). option_and_then (λ (y : Option DeviceState). y) (slice_get l d)) same ∙ ap (λ (o : Option (Option DeviceState)). option_and_then (λ (y : Option DeviceState). y) o) found.1)) (has_device found.0 found.2)

  -- this is the world of the start
  pub is_world : (v : WorldState) → v.program ≡ p → v.devices ≡ devices → v.packets ≡ [] → IsWorldOf p w v now
  is_world v program same none = record {
    program = program;
    causal = start_causal p base base_number log (past_in 0 old) is_program starts;
    devices = λ d below. device_stands d below v same;
    files = files_rest;
    packets = none;
    fit = All-nil _;
  }
