-- Two worlds that have the same of one device.
use Rattle.std.proofs.Common.{◌≡◌, inl, inr, ◌<◌, ◌+◌, ◌++◌, ℕ, List, length, sym, ap, subst, ◌∙◌}
use Rattle.std.specs.Prelude.{if◌then◌else◌, []}
use Rattle.re_device.specs.Device.{DeviceState, current}
use Rattle.re_device.specs.Stepping.{IsDeviceOf, IsPlainly}
use Rattle.re_outside.specs.Moment.{IsKept}
use Rattle.re_outside.specs.Trace.{Past, as_device, content_of}
use Rattle.re_record.specs.Restoring.{Opened}
use Rattle.re_terms.specs.Admission.{device_count}
use Rattle.re_terms.specs.CausalWorlds.{IsCausalWorld}
use Rattle.re_terms.specs.DeviceWorlds.{World, device_state, recovered, settled_state}
use Rattle.re_terms.specs.Entries.{PlainEntry, run_entries}
use Rattle.re_terms.specs.Runs.{PlainState, StandsForPlain}
use Rattle.re_terms.specs.Untouched.{IsUntouched}
use Rattle.re_terms.specs.declared.program.Program.{Program}
use Rattle.re_world.specs.Images.{OpensAfter}
use Rattle.re_world.specs.Standing.{RestsAs}

-- ---- what is carried from one world to the other

-- files that open to the state after some entries do so in each world with the same start
pub opens_in : (p : Program) (w v : World) (e : ℕ) → v.base e ≡ w.base e → v.base_number e ≡ w.base_number e → (first second : List ℕ) (entries entries' : List PlainEntry) → entries' ≡ entries → OpensAfter p w e first second entries → OpensAfter p v e first second entries'
opens_in p w v e base number first second entries entries' same opens = record {
  opened = opens.opened;
  opens = opens.opens;
  state = subst (StandsForPlain p opens.opened.state) (sym (λ i. run_entries p e (base i) (same i))) opens.state;
  number_is = opens.number_is ∙ sym (λ i. number i + length (same i));
}

module _ (p : Program) (w v : World) (e : ℕ) (agrees : IsUntouched e w v) where
  settled_agrees : settled_state p v e ≡ settled_state p w e
  settled_agrees = λ i. run_entries p e (agrees.base i) (agrees.settled i)

  state_agrees : device_state p v e ≡ device_state p w e
  state_agrees = λ i. run_entries p e (agrees.base i) (agrees.settled i ++ agrees.unsettled i)

  opens_agrees : (first second : List ℕ) (entries entries' : List PlainEntry) → entries' ≡ entries → OpensAfter p w e first second entries → OpensAfter p v e first second entries'
  opens_agrees first second entries entries' same opens = opens_in p w v e agrees.base agrees.base_number first second entries entries' same opens

  plainly_agrees : (o : Opened) (s s' : PlainState) (n n' : ℕ) → s' ≡ s → n' ≡ n → IsPlainly p o s n → IsPlainly p o s' n'
  plainly_agrees o s s' n n' same_state same_number is = record {
    state = subst (StandsForPlain p o.state) (sym same_state) is.state;
    number_is = is.number_is ∙ sym same_number;
  }

-- a device that is the one world's is the other's
pub device_agrees : (p : Program) (w v : World) (d : DeviceState) → IsUntouched d.memory.device w v → d.memory.device < device_count p.decls.items → IsCausalWorld (device_count p.decls.items) v → IsDeviceOf p w d → IsDeviceOf p v d
device_agrees p w v d agrees below causal is = record {
  program = is.program;
  up = agrees.up ∙ is.up;
  stop = is.stop ∙ sym agrees.stop;
  settled = plainly_agrees p w v d.memory.device agrees d.memory.settled _ _ _ _ (settled_agrees p w v d.memory.device agrees) (λ i. agrees.base_number i + length (agrees.settled i)) is.settled;
  now = plainly_agrees p w v d.memory.device agrees (current d.memory) _ _ _ _ (state_agrees p w v d.memory.device agrees) (λ i. agrees.base_number i + length (agrees.settled i ++ agrees.unsettled i)) is.now;
  words = is.words;
  unsettled = is.unsettled ∙ sym (ap length agrees.unsettled);
  count = is.count ∙ sym agrees.count;
  taken = causal.taken_in d.memory.device below;
  fit = causal.unsettled d.memory.device;
}

-- the files of a device that haven't moved rest as before
pub rests_agree : (p : Program) (w v : World) (e : ℕ) (old now : Past) → IsUntouched e w v → ((f : ℕ) → IsKept e f old now) → RestsAs p w e (as_device e old) → RestsAs p v e (as_device e now)
rests_agree p w v e old now agrees kept rests = record {
  images = λ first second a b. elim (rests.images first second ((kept 0).images first a) ((kept 1).images second b)) [
    | inl settled ↦ inl (opens_agrees p w v e agrees first second (w.settled e) (v.settled e) agrees.settled settled)
    | inr more ↦ inr (opens_agrees p w v e agrees first second (w.settled e ++ w.in_doubt e) (v.settled e ++ v.in_doubt e) (λ i. agrees.settled i ++ agrees.in_doubt i) more)
  ];
  reads =
      subst (λ x. OpensAfter p v e x (content_of (as_device e now) 1) (v.settled e ++ recovered v e)) (sym (kept 0).content)
      (subst (λ x. OpensAfter p v e (content_of (as_device e old) 0) x (v.settled e ++ recovered v e)) (sym (kept 1).content)
      (opens_agrees p w v e agrees (content_of (as_device e old) 0) (content_of (as_device e old) 1) (w.settled e ++ recovered w e) (v.settled e ++ recovered v e) (λ i. agrees.settled i ++ (if agrees.reads i then agrees.in_doubt i else [])) rests.reads));
}
