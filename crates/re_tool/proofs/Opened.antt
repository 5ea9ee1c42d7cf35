-- What the opening of all devices is to a run.
use Rattle.std.proofs.Common.{[], ◌≡◌, ◌<◌, ℕ, Bool, Err, List, None, Ok, Some, refl, subst, sym, true, ◌∙◌}
use Rattle.std.specs.Prelude.{◌≢◌, IfOk, OnOk, Result, ⊤}
use Rattle.re_compact.specs.declared.fault.OpenFault.{OpenFault}
use Rattle.re_compact.specs.declared.fault.OpenFault.TheVariants as unopened
use Rattle.re_device.specs.Device.{DeviceState}
use Rattle.re_outside.specs.Moment.{Throughout}
use Rattle.re_outside.specs.Outside.{Rose, Seen, content_in}
use Rattle.re_outside.specs.Port.{disk_faults, other_faults, past_in}
use Rattle.re_outside.specs.Trace.{IsJointImage}
use Rattle.re_record.specs.Stores as stores
use Rattle.re_record.specs.Stores.{HasStore}
use Rattle.re_session.proofs.Acting.{opening_goes}
use Rattle.re_session.specs.Begins.{Begins}
use Rattle.re_session.specs.Serving.{Goes}
use Rattle.re_terms.specs.Admission.{device_count}
use Rattle.re_terms.specs.DeviceWorlds.{World, start_world}
use Rattle.re_terms.specs.Programs.{IsProgram}
use Rattle.re_terms.specs.Runs.{PlainState}
use Rattle.re_terms.specs.Updates.{Update}
use Rattle.re_terms.specs.declared.program.Program.{Program}
use Rattle.re_tool.specs.Acts.{FailsOpening, IsOpening, IsWhy, OpensAs}
use Rattle.re_world.proofs.Opened.{same_refusal}
use Rattle.re_world.proofs.OpeningSteps.{all_handed}
use Rattle.re_world.specs.Images.{Restores}
use Rattle.re_world.specs.Opening.{HasAllOpeningSteps, IsOpened, OpenBefore}
use Rattle.re_world.specs.Standing.{IsWorldOf}
use Rattle.re_world.specs.Starting.{StartsAt}
use Rattle.re_world.specs.State.{WorldState, device_in}

-- what the opening of all devices promises
pub record Given (p : Program) (old new : Seen) (r : Result WorldState (ℕ × OpenFault)) (tells : Bool) : Type 0 where
  pub is_program : IsProgram p
  pub always : old.told ≡ tells
  pub told : new.told ≡ old.told
  pub program : IfOk r (λ v. v.program ≡ p)
  pub opened : IfOk r (λ v. (d : ℕ) → d < device_count p.decls.items → (x : DeviceState) × (device_in v d ≡ Some x) × IsOpened p d x)
  pub packets : IfOk r (λ v. ◌≡◌ {A = List (List ℕ)} v.packets [])
  pub world : (base : ℕ → PlainState) (base_number : ℕ → ℕ) (log : List Update) → tells ≡ true → StartsAt p base base_number log (past_in 0 old) → IfOk r (λ v. IsWorldOf p (start_world p base base_number log) v new)
  pub restores : (base : ℕ → PlainState) (base_number : ℕ → ℕ) (log : List Update) → tells ≡ true → StartsAt p base base_number log (past_in 0 old) → Throughout (past_in 0 old) (past_in 0 new) (λ now. (files : ℕ → ℕ → List ℕ) → IsJointImage now files → Restores p (start_world p base base_number log) None files)
  pub bad : (d file at : ℕ) → tells ≡ true → r ≡ Err (d, unopened.BadStore file at) → HasStore p d (content_in old d 0) (content_in old d 1) (stores.Bad file at)
  pub other : (d : ℕ) → tells ≡ true → r ≡ Err (d, unopened.OtherProgram) → HasStore p d (content_in old d 0) (content_in old d 1) stores.OtherProgram
  pub disk : (d : ℕ) → r ≡ Err (d, unopened.Disk) → Rose (disk_faults d old) (disk_faults d new)
  pub others : (d : ℕ) → r ≡ Err (d, unopened.Disk) → other_faults d new ≡ other_faults d old
  pub calm : ((d : ℕ) → r ≢ Err (d, unopened.Disk)) → new.faults ≡ old.faults
  pub all : tells ≡ true → OnOk r (OpenBefore p (device_count p.decls.items) old)
  pub first : (d : ℕ) (fault : OpenFault) → tells ≡ true → r ≡ Err (d, fault) → OpenBefore p d old
  pub steps : tells ≡ true → HasAllOpeningSteps p (past_in 0 old) (past_in 0 new) r
  pub left : tells ≡ true → new.left ≡ old.left
  pub number : (d : ℕ) (fault : OpenFault) → r ≡ Err (d, fault) → d < device_count p.decls.items

module _ (p : Program) (old new : Seen) (tells : Bool) where
  module _ (r : Result WorldState (ℕ × OpenFault)) (g : Given p old new r tells) where
    tells_here : old.told ≡ true → tells ≡ true
    tells_here t = sym g.always ∙ t

    goes_here : Goes old new [] []
    goes_here = opening_goes p old new r g.told (λ t. g.steps (tells_here t)) (λ t. g.left (tells_here t)) g.disk g.others g.calm

    restores_here : (w : World) → Begins p w old → Throughout (past_in 0 old) (past_in 0 new) (λ now. (files : ℕ → ℕ → List ℕ) → IsJointImage now files → Restores p w None files)
    restores_here w b = subst (λ x. Throughout (past_in 0 old) (past_in 0 new) (λ now. (files : ℕ → ℕ → List ℕ) → IsJointImage now files → Restores p x None files)) (sym b.is) (g.restores b.base b.base_number b.log (tells_here b.told) b.starts)

  calm_ok : (v : WorldState) → Given p old new (Ok v) tells → new.faults ≡ old.faults
  calm_ok v g = g.calm (λ d e. absurd (cc))

  -- all devices are opened
  pub opens_as : (v : WorldState) → Given p old new (Ok v) tells → OpensAs p v old new
  opens_as v g = record {
    opening = record {
      is_program = g.is_program;
      finds = λ t. g.all (tells_here (Ok v) g t);
      steps = λ t. g.steps (tells_here (Ok v) g t);
      of_program = tt;
      failed = calm_ok v g;
      restores = restores_here (Ok v) g;
      goes = goes_here (Ok v) g;
    };
    program = g.program;
    packets = g.packets;
    opened = g.opened;
    stands = λ w b. subst (λ x. IsWorldOf p x v new) (sym b.is) (g.world b.base b.base_number b.log (tells_here (Ok v) g b.told) b.starts);
  }

  why : (d : ℕ) (fault : OpenFault) → Given p old new (Err (d, fault)) tells → tells ≡ true → IsWhy p d fault old new
  why d unopened.Memory g t = tt
  why d unopened.Disk g t = g.disk d refl
  why d (unopened.BadStore file at) g t = g.bad d file at t refl
  why d unopened.OtherProgram g t = g.other d t refl

  fails : (d : ℕ) (fault : OpenFault) → Given p old new (Err (d, fault)) tells → FailsOpening (Some (d, fault)) old new
  fails d unopened.Disk g = (g.disk d refl, g.others d refl)
  fails d unopened.Memory g = g.calm (λ e is. let no : unopened.Memory ≡ unopened.Disk = (same_refusal {T = WorldState} d e unopened.Memory unopened.Disk is).1 in absurd (cc))
  fails d (unopened.BadStore file at) g = g.calm (λ e is. let no : unopened.BadStore file at ≡ unopened.Disk = (same_refusal {T = WorldState} d e (unopened.BadStore file at) unopened.Disk is).1 in absurd (cc))
  fails d unopened.OtherProgram g = g.calm (λ e is. let no : unopened.OtherProgram ≡ unopened.Disk = (same_refusal {T = WorldState} d e unopened.OtherProgram unopened.Disk is).1 in absurd (cc))

  -- a device doesn't open
  pub is_opening : (d : ℕ) (fault : OpenFault) → Given p old new (Err (d, fault)) tells → IsOpening p (Some (d, fault)) old new
  is_opening d fault g = record {
    is_program = g.is_program;
    finds = λ t. let here = tells_here (Err (d, fault)) g t in (g.first d fault here refl, why d fault g here);
    steps = λ t. all_handed WorldState {U = ⊤} p (Err (d, fault)) (d, fault) (past_in 0 old) (past_in 0 new) refl (g.steps (tells_here (Err (d, fault)) g t));
    of_program = g.number d fault refl;
    failed = fails d fault g;
    restores = restores_here (Err (d, fault)) g;
    goes = goes_here (Err (d, fault)) g;
  }
