-- What a call of a port changes of the outside behind it.
use Rattle.std.specs.Prelude.{◌==◌, ◌&&◌, if◌then◌else◌, Result, Ok, Err, OnOk, OnErr}
use Rattle.std.proofs.Common.{◌≡◌, inl, inr, ℕ, Bool, true, false, List, [], ◌∷◌, ◌++◌, refl, sym, ◌∙◌, ap, subst}
use Rattle.std.proofs.lemmas.List.{append-nil}
use Rattle.re_outside.specs.Listed.{Listed, plain}
use Rattle.re_outside.specs.FileAct.{FileAct, Wrote, CutTo, Synced}
use Rattle.re_outside.specs.Image.{content}
use Rattle.re_outside.specs.Trace.{acts_of, failed_act}
use Rattle.re_outside.specs.Outside.{FaultKind, Disk, is_kind, Faults, none, disk_fault, Seen, content_in, Moves, FailsOn}
use Rattle.re_outside.specs.Port.{rest_in, other_faults, other_files}
use Rattle.re_outside.specs.declared.step.Call.{Call}
use Rattle.re_outside.specs.declared.step.Step.{Step}
use Rattle.re_outside.specs.declared.step.Step.TheVariants as steps
use Rattle.re_outside.proofs.Acts.{acts_of-append}

-- steps of this device alone
abbrev pub AreOf : ℕ → List Step → Type 0
AreOf d added = (device file : ℕ) → (device == d) ≡ false → acts_of device file added ≡ []

masked : {A : Type 0} (t t' : Bool) (x y z : A) → t' ≡ t → (t ≡ true → y ≡ x) → (if t' then y else z) ≡ (if t then x else z)
masked true t' x y z e h = ap (λ b. if b then y else z) e ∙ h refl
masked false t' x y z e h = ap (λ b. if b then y else z) e

but_own : (own : Bool) (x y : ℕ) → (own ≡ false → y ≡ x) → (if own then 0 else y) ≡ (if own then 0 else x)
but_own true x y h = refl
but_own false x y h = h refl

but_mine : (mine : Bool) (x y : List ℕ) → (mine ≡ false → y ≡ x) → (if mine then [] else y) ≡ (if mine then [] else x)
but_mine true x y h = refl
but_mine false x y h = h refl

-- a call with steps of device d alone, and faults of that device alone, leaves the rest
pub rest_kept : (name d : ℕ) (a b : Seen) (added : List Step) (f : Faults) → AreOf d added → ((k : FaultKind) → is_kind (Disk d) k ≡ false → f k ≡ 0) → Moves a b [] added f → rest_in name d b ≡ rest_in name d a
rest_kept name d a b added f mine own p = λ i. record {
  name = name;
  told = p.told i;
  faults = λ k. counts k i;
  left = masked a.told b.told a.left b.left [] p.told (λ t. sym (p.left t)) i;
  others = λ device file. others device file i;
  start = λ device file. starts device file i;
}
  where
    counts : (k : FaultKind) → other_faults d b k ≡ other_faults d a k
    counts k = but_own (is_kind (Disk d) k) (a.faults k) (b.faults k) (λ e. (p.counts k).0 (own k e))

    starts : (device file : ℕ) → (if b.told then b.start device file else []) ≡ (if a.told then a.start device file else [])
    starts device file = masked a.told b.told (a.start device file) (b.start device file) [] p.told (λ t. ap (λ s. s device file) (p.start t))

    same : (device file : ℕ) → (device == d) ≡ false → a.told ≡ true → content_in b device file ≡ content_in a device file
    same device file e t =
        let acts : acts_of device file b.trace ≡ acts_of device file a.trace =
        ap (acts_of device file) (p.trace t) ∙ acts_of-append device file a.trace added ∙ ap (λ (l : List FileAct). acts_of device file a.trace ++ l) (mine device file e) ∙ append-nil (acts_of device file a.trace) in
        λ i. content (p.start t i device file) (acts i)

    others : (device file : ℕ) → (if b.told then other_files d b device file else []) ≡ (if a.told then other_files d a device file else [])
    others device file = masked a.told b.told (other_files d a device file) (other_files d b device file) [] p.told (λ t. but_mine (device == d) (content_in a device file) (content_in b device file) (λ e. same device file e t))

no_fault : (d : ℕ) (k : FaultKind) → is_kind (Disk d) k ≡ false → disk_fault d k ≡ 0
no_fault d k e = ap (λ (b : Bool). if b then 1 else 0) e

pub none_of : (d : ℕ) → AreOf d []
none_of d device file e = refl

pub write_of : (d f at : ℕ) (bytes : Listed ℕ) → AreOf d (steps.Write d f at bytes ∷ [])
write_of d f at bytes device file e = ap (λ b. (if b && file == f then Wrote at bytes.items ∷ [] else []) ++ []) e

pub cut_of : (d f n : ℕ) → AreOf d (steps.Cut d f n ∷ [])
cut_of d f n device file e = ap (λ b. (if b && file == f then CutTo n ∷ [] else []) ++ []) e

pub sync_of : (d f : ℕ) → AreOf d (steps.Sync d f ∷ [])
sync_of d f device file e = ap (λ b. (if b && file == f then Synced ∷ [] else []) ++ []) e

failure_of : (call : Call) (d f at : ℕ) (bytes left : Listed ℕ) → AreOf d (steps.Fail call d f at bytes left ∷ [])
failure_of call d f at bytes left device file e = ap (λ b. (if b && file == f then failed_act call at bytes.items left.items else []) ++ []) e

-- a call that came through leaves the rest
pub rest_done : (name d : ℕ) (a b : Seen) (added : List Step) → AreOf d added → Moves a b [] added none → rest_in name d b ≡ rest_in name d a
rest_done name d a b added mine p = rest_kept name d a b added none mine (λ k e. refl) p

-- a call that failed leaves the rest
pub rest_failed : (name d f at : ℕ) (call : Call) (bytes : List ℕ) (leaves : List ℕ → List ℕ → Type 0) (a b : Seen) → FailsOn a b call d f at bytes leaves → rest_in name d b ≡ rest_in name d a
rest_failed name d f at call bytes leaves a b p = elim p.failure [
  | inl e ↦ rest_kept name d a b p.steps (disk_fault d) (subst (AreOf d) (sym e) (none_of d)) (no_fault d) p.moves
  | inr (left, honest, e) ↦ rest_kept name d a b p.steps (disk_fault d) (subst (AreOf d) (sym e) (failure_of call d f at (plain bytes) (plain left))) (no_fault d) p.moves
]

-- what holds if a call came through and if it failed
pub either_way : {T : Type 0} {E : Type 0} (r : Result T E) (P Q R : Type 0) → OnOk r P → OnErr r Q → (P → R) → (Q → R) → R
either_way (Ok x) P Q R p q f g = f p
either_way (Err e) P Q R p q f g = g q
