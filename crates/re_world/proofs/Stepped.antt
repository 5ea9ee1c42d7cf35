-- The world behind a command for one device, by what became of that device and its files.
use Rattle.std.proofs.Common.{◌≡◌, ◌⊎◌, inl, inr, ◌<◌, ℕ, Option, Some, None, sym, subst, ◌∙◌}
use Rattle.std.specs.Prelude.{false, ◌==◌, ◌≢◌, map}
use Rattle.std.specs.List.{All}
use Rattle.std.proofs.lemmas.Bool.Decides.{eqb_tells}
use Rattle.re_device.specs.Device.{DeviceState}
use Rattle.re_outside.specs.Moment.{IsKept}
use Rattle.re_outside.specs.Outside.{Seen}
use Rattle.re_outside.specs.Port.{past_in}
use Rattle.re_terms.proofs.WorldSteps.{untouched_same}
use Rattle.re_terms.specs.Admission.{device_count}
use Rattle.re_terms.specs.CausalWorlds.{IsCausalWorld}
use Rattle.re_terms.specs.DeviceWorlds.{World, spelled}
use Rattle.re_terms.specs.Shapes.{FitsShape, shape_of}
use Rattle.re_terms.specs.Untouched.{IsUntouched}
use Rattle.re_terms.specs.UpdateStates.{state_of_updates}
use Rattle.re_terms.specs.declared.program.Program.{Program}
use Rattle.re_world.proofs.Agreeing.{device_agrees, rests_agree}
use Rattle.re_world.proofs.Kept.{stands_kept}
use Rattle.re_world.specs.Standing.{HasDevice, IsWorldOf, RestsAs}
use Rattle.re_world.specs.State.{WorldState, device_in}

-- two numbers are one or not
pub apart : (e d : ℕ) → (e ≡ d) ⊎ ((e == d) ≡ false × (e ≢ d))
apart e d = elim (eqb_tells e d) [
  | inl is ↦ inl is.1
  | inr other ↦ inr (other.0, other.1)
]

-- a device that hasn't changed, over files that haven't moved
other_stands : (p : Program) (w v : World) (e : ℕ) (o : Option DeviceState) (before now : Seen) → e < device_count p.decls.items → IsCausalWorld (device_count p.decls.items) v → IsUntouched e w v → ((f : ℕ) → IsKept e f (past_in 0 before) (past_in 0 now)) → HasDevice p w e o (past_in e before) → HasDevice p v e o (past_in e now)
other_stands p w v e None before now below causal agrees kept has = agrees.up ∙ has
other_stands p w v e (Some d) before now below causal agrees kept has = (
  device_agrees p w v d (subst (λ n. IsUntouched n w v) (sym has.1) agrees) (subst (λ n. n < device_count p.decls.items) (sym has.1) below) causal has.0,
  has.1,
  λ runs. stands_kept e (past_in 0 before) (past_in 0 now) kept d.memory d.memory.settled d.generation d.journal (has.2 (sym agrees.stop ∙ runs)),
)

-- The world behind it: its device and that device's files are as it has them, and the others are as they were.
pub world_behind : (p : Program) (w v : World) (old new : WorldState) (before now : Seen) (d : ℕ) → IsWorldOf p w old before → IsCausalWorld (device_count p.decls.items) v
    → ((e : ℕ) → (e == d) ≡ false → IsUntouched e w v) → ((e : ℕ) → e ≢ d → device_in new e ≡ device_in old e) → ((e f : ℕ) → e ≢ d → IsKept e f (past_in 0 before) (past_in 0 now))
    → new.program ≡ old.program → new.packets ≡ map (spelled p) v.packets → All (λ us. FitsShape (shape_of p) (state_of_updates (shape_of p) us)) v.packets
    → HasDevice p v d (device_in new d) (past_in d now) → RestsAs p v d (past_in d now)
    → IsWorldOf p v new now
world_behind p w v old new before now d is causal agrees same kept program packets fit has rests = record {
  program = program ∙ is.program;
  causal = causal;
  devices = λ e below. elim (apart e d) [
    | inl own ↦ subst (λ x. HasDevice p v x (device_in new x) (past_in x now)) (sym own) has
    | inr other ↦ subst (λ o. HasDevice p v e o (past_in e now)) (sym (same e other.1)) (other_stands p w v e (device_in old e) before now below causal (agrees e other.0) (λ f. kept e f other.1) (is.devices e below))
  ];
  files = λ e below. elim (apart e d) [
    | inl own ↦ subst (λ x. RestsAs p v x (past_in x now)) (sym own) rests
    | inr other ↦ rests_agree p w v e (past_in 0 before) (past_in 0 now) (agrees e other.0) (λ f. kept e f other.1) (is.files e below)
  ];
  packets = packets;
  fit = fit;
}

-- where no file has moved a world is what it was
pub world_kept : (p : Program) (w : World) (v : WorldState) (before now : Seen) → IsWorldOf p w v before → ((e f : ℕ) → IsKept e f (past_in 0 before) (past_in 0 now)) → IsWorldOf p w v now
world_kept p w v before now is kept = record {
  program = is.program;
  causal = is.causal;
  devices = λ e below. other_stands p w w e (device_in v e) before now below is.causal (untouched_same e w) (kept e) (is.devices e below);
  files = λ e below. rests_agree p w w e (past_in 0 before) (past_in 0 now) (untouched_same e w) (kept e) (is.files e below);
  packets = is.packets;
  fit = is.fit;
}
