-- Files of many devices at one moment.
use Rattle.std.proofs.Common.{◌≡◌, ◌≢◌, ◌⊎◌, inl, inr, ℕ, true, false, List, sym, subst}
use Rattle.std.specs.Prelude.{◌==◌, ◌&&◌, if◌then◌else◌}
use Rattle.std.proofs.lemmas.Bool.Decides.{eqb_tells}
use Rattle.re_outside.specs.Trace.{Past, IsBefore, IsCrashImageAt, IsCrashImageOf, IsJointImage}
use Rattle.re_outside.specs.Moment.{Changes}
use Rattle.re_outside.proofs.Steps.{kept, same_device}

-- the files with another in one place
abbrev pub with_file : ℕ → ℕ → List ℕ → (ℕ → ℕ → List ℕ) → ℕ → ℕ → List ℕ
with_file d f file files e g = if e == d && g == f then file else files e g

-- what a stop leaves of all files is what one might have left then, but for the one file
pub joint_was : (f : ℕ) (R : List ℕ → List ℕ → Type 0) (old now : Past) (files : ℕ → ℕ → List ℕ) → IsBefore old now → Changes f R old now → IsJointImage now files
    → (was : List ℕ) × R was (files old.device f) × IsJointImage old (with_file old.device f was files)
joint_was f R old now files before changes joint =
    let own : IsCrashImageOf now f (files old.device f) = subst (λ d. IsCrashImageAt now d f (files old.device f)) (sym (same_device old now before)) (joint old.device f) in
    let was = changes.images (files old.device f) own in
    (was.0, was.2, λ e g. at was.0 was.1 e g (eqb_tells e old.device) (eqb_tells g f))
  where
    at : (was : List ℕ) → IsCrashImageOf old f was → (e g : ℕ) → ((e == old.device) ≡ true × e ≡ old.device) ⊎ ((e == old.device) ≡ false × (e ≢ old.device)) → ((g == f) ≡ true × g ≡ f) ⊎ ((g == f) ≡ false × (g ≢ f)) → IsCrashImageAt old e g (with_file old.device f was files e g)
    at was image e g (inl d) (inl h) =
        subst (IsCrashImageAt old e g) (λ i. if sym d.0 i && sym h.0 i then was else files e g) (subst (λ k. IsCrashImageAt old k g was) (sym d.1) (subst (λ k. IsCrashImageAt old old.device k was) (sym h.1) image))
    at was image e g (inl d) (inr h) = subst (IsCrashImageAt old e g) (λ i. if sym d.0 i && sym h.0 i then was else files e g) ((kept f e g old now before changes.others (inr h.1)).images _ (joint e g))
    at was image e g (inr d) h = subst (IsCrashImageAt old e g) (λ i. if sym d.0 i && (g == f) then was else files e g) ((kept f e g old now before changes.others (inl d.1)).images _ (joint e g))
