-- What a disk did through a port, the outside behind it did.
use Rattle.std.specs.Prelude.{if◌then◌else◌, Result, Ok, Err, OnOk, OnErr, MatchResult}
use Rattle.std.proofs.Common.{◌≡◌, inl, inr, ℕ, ◌+◌, ◌≤◌, Bool, true, false, List, [], ◌∷◌, refl, sym, ◌∙◌, ap, subst, arith, append_assoc}
use Rattle.std.proofs.lemmas.Bool.Decides.{eqb_tells}
use Rattle.re_outside.specs.Trace.{Past, with_steps}
use Rattle.re_outside.specs.Outside.{FaultKind, Input, Output, Disk, is_kind, Faults, failures, Counts, Rose, Seen, Moves}
use Rattle.re_outside.specs.Plan.{FailsTo, StopsAt}
use Rattle.re_outside.specs.Port.{Rest, past_in, rest_in, disk_faults}
use Rattle.re_outside.specs.declared.step.Step.{Step}
use Rattle.re_outside.specs.declared.step.Step.TheVariants as steps
use Rattle.re_outside.proofs.Does.{stays, failures-append}
use Rattle.re_outside.proofs.Moments.{goes_nothing}

-- so many faults of the disk of device d
abbrev pub several : ℕ → ℕ → Faults
several n d kind = if is_kind (Disk d) kind then n else 0

shown : {A : Type 0} (t t' : Bool) (x y z : A) → t' ≡ t → (if t' then y else z) ≡ (if t then x else z) → t ≡ true → y ≡ x
shown true t' x y z e h q = ap (λ b. if b then y else z) (sym e) ∙ h
shown false t' x y z e h q = absurd (cc)

kind_is : (d : ℕ) (k : FaultKind) → is_kind (Disk d) k ≡ true → Disk d ≡ k
kind_is d Input e = absurd (cc)
kind_is d Output e = absurd (cc)
kind_is d (Disk n) e = elim (eqb_tells d n) [ inl same ↦ ap Disk same.1 | inr other ↦ absurd (let h = other.0 in cc) ]

-- what is seen of a disk at two moments says how the outside has moved
pub lifted : (name later d n : ℕ) (a b : Seen) (added : List Step) → (a.told ≡ true → past_in d b ≡ with_steps (past_in d a) added) → rest_in later d b ≡ rest_in name d a
    → Counts n (disk_faults d a) (disk_faults d b) → ((k : FaultKind) → failures added k ≤ several n d k) → Moves a b [] added (several n d)
lifted name later d n a b added past same own counted = record {
  told = told;
  left = λ t. sym (shown a.told b.told a.left b.left [] told (ap (λ (r : Rest). r.left) same) t);
  start = λ t. ap (λ p. p.start) (past t);
  trace = λ t. ap (λ p. p.trace) (past t);
  counted = counted;
  counts = λ k. by_kind k (is_kind (Disk d) k) refl;
}
  where
    told : b.told ≡ a.told
    told = ap (λ (r : Rest). r.told) same

    by_kind : (k : FaultKind) (mine : Bool) → is_kind (Disk d) k ≡ mine → Counts (several n d k) (a.faults k) (b.faults k)
    by_kind k true e = subst (λ m. Counts m (a.faults k) (b.faults k)) (ap (λ (c : Bool). if c then n else 0) (sym e)) (subst (λ j. Counts n (a.faults j) (b.faults j)) (kind_is d k e) own)
    by_kind k false e =
        let kept : b.faults k ≡ a.faults k =
        ap (λ (c : Bool). if c then 0 else b.faults k) (sym e) ∙ (ap (λ (r : Rest). r.faults k) same ∙ ap (λ (c : Bool). if c then 0 else a.faults k) e) in
        subst (λ m. Counts m (a.faults k) (b.faults k)) (ap (λ (c : Bool). if c then n else 0) (sym e)) (subst (Counts 0 (a.faults k)) (sym kept) (stays (a.faults k)))

-- the same where the port was made from an outside of these values, and its own given back to it
pub through_port : {O : Type 0} (seen : O → Seen) (name later d e f n : ℕ) (a b c z : O) (added : List Step) → e ≡ d → b ≡ a → f ≡ e → z ≡ c
    → ((seen b).told ≡ true → past_in f (seen c) ≡ with_steps (past_in e (seen b)) added) → rest_in later f (seen c) ≡ rest_in name e (seen b)
    → Counts n (disk_faults e (seen b)) (disk_faults f (seen c)) → ((k : FaultKind) → failures added k ≤ several n d k) → Moves (seen a) (seen z) [] added (several n d)
through_port seen name later d e f n a b c z added same_device from kept to past same own counted =
    subst (λ x. Moves (seen a) (seen x) [] added (several n d)) (sym to) (subst (λ x. Moves (seen x) (seen c) [] added (several n d)) from
    (moved (subst (λ i. (k : FaultKind) → failures added k ≤ several n i k) (sym same_device) counted)))
  where
    moved : ((k : FaultKind) → failures added k ≤ several n e k) → Moves (seen b) (seen c) [] added (several n d)
    moved all = subst (λ i. Moves (seen b) (seen c) [] added (several n i)) same_device (lifted name later e n (seen b) (seen c) added
        (λ t. subst (λ i. past_in i (seen c) ≡ with_steps (past_in e (seen b)) added) kept (past t))
        (subst (λ i. rest_in later i (seen c) ≡ rest_in name e (seen b)) kept same)
        (subst (λ i. Counts n (disk_faults e (seen b)) (disk_faults i (seen c))) kept own) all)

-- what a call says of each of its two answers
pub on_ok : {T : Type 0} {E : Type 0} (r : Result T E) (I A B C Q : Type 0) → (I → OnOk r A) → MatchResult r (λ _. B) (λ _. C) → ((I → A) → B → Q) → OnOk r Q
on_ok (Ok x) I A B C Q p q f = f p q
on_ok (Err e) I A B C Q p q f = tt

pub on_err : {T : Type 0} {E : Type 0} (r : Result T E) (I A B C Q : Type 0) → (I → OnErr r A) → MatchResult r (λ _. B) (λ _. C) → ((I → A) → C → Q) → OnErr r Q
on_err (Ok x) I A B C Q p q f = tt
on_err (Err e) I A B C Q p q f = f p q

-- a count that has risen counts one fault
pub rose_counts : (a b : ℕ) → Rose a b → Counts 1 a b
rose_counts a b rose = (λ h. absurd (omega arith), rose)

-- a count that stayed counts none
pub same_counts : (a b : ℕ) → b ≡ a → Counts 0 a b
same_counts a b e = subst (Counts 0 a) (sym e) (stays a)

-- ---- plans of one device

-- each step is a write, cut or sync of device d
abbrev pub AreCallsOf : ℕ → List Step → Type 0
AreCallsOf d [] = Unit {0}
AreCallsOf d (steps.Write device file at bytes ∷ plan) = (device ≡ d) × AreCallsOf d plan
AreCallsOf d (steps.Cut device file n ∷ plan) = (device ≡ d) × AreCallsOf d plan
AreCallsOf d (steps.Sync device file ∷ plan) = (device ≡ d) × AreCallsOf d plan
AreCallsOf d (steps.Say bytes ∷ plan) = ⊥
AreCallsOf d (steps.Fail call device file at bytes content ∷ plan) = ⊥

-- such steps are no failures
pub none_failed : (d n : ℕ) (plan : List Step) → AreCallsOf d plan → (k : FaultKind) → failures plan k ≤ several n d k
none_failed d n [] own k = omega arith
none_failed d n (steps.Write device file at bytes ∷ plan) own k = none_failed d n plan own.1 k
none_failed d n (steps.Cut device file m ∷ plan) own k = none_failed d n plan own.1 k
none_failed d n (steps.Sync device file ∷ plan) own k = none_failed d n plan own.1 k
none_failed d n (steps.Say bytes ∷ plan) own k = absurd own
none_failed d n (steps.Fail call device file at bytes content ∷ plan) own k = absurd own

one_failure : (d e : ℕ) (k : FaultKind) → e ≡ d → (if is_kind (Disk e) k then 1 else 0) + 0 ≤ several 1 d k
one_failure d e k same = subst (λ m. (if is_kind (Disk m) k then 1 else 0) + 0 ≤ several 1 d k) (sym same) (omega arith)

-- the steps that a call or a plan added, of which at most one is a failure
pub record Added (d : ℕ) (old new : Past) : Type 0 where
  pub added : List Step
  pub past : new ≡ with_steps old added
  pub counted : (k : FaultKind) → failures added k ≤ several 1 d k

nothing_added : (d : ℕ) (old new : Past) → new ≡ old → Added d old new
nothing_added d old new e = record { added = []; past = e ∙ goes_nothing old; counted = λ k. omega arith }

fails_adds : (d : ℕ) (s : Step) (old new : Past) → AreCallsOf d (s ∷ []) → FailsTo s old new → Added d old new
fails_adds d s old new own (inl e) = nothing_added d old new e
fails_adds d (steps.Write device file at bytes) old new own (inr (left, honest, e)) = record { added = _; past = e; counted = λ k. one_failure d device k own.0 }
fails_adds d (steps.Cut device file n) old new own (inr (left, honest, e)) = record { added = _; past = e; counted = λ k. one_failure d device k own.0 }
fails_adds d (steps.Sync device file) old new own (inr (left, honest, e)) = record { added = _; past = e; counted = λ k. one_failure d device k own.0 }
fails_adds d (steps.Say bytes) old new own (inr f) = absurd own
fails_adds d (steps.Fail call device file at bytes content) old new own (inr f) = absurd own

behind : (d : ℕ) (s : Step) (old new : Past) → ((k : FaultKind) → failures (s ∷ []) k ≤ 0) → Added d (with_steps old (s ∷ [])) new → Added d old new
behind d s old new quiet more = record {
  added = s ∷ more.added;
  past = more.past ∙ (λ i. record { device = old.device; start = old.start; trace = append_assoc old.trace (s ∷ []) more.added i });
  counted = λ k. omega (arith, failures-append (s ∷ []) more.added k, quiet k, more.counted k);
}

-- what a plan of a device's calls added up to the one that failed
pub stops_adds : (d : ℕ) (plan : List Step) (calls at : ℕ) (old new : Past) → AreCallsOf d plan → StopsAt plan calls at old new → Added d old new
stops_adds d [] calls at old new own stop = absurd stop
stops_adds d (steps.Write device file place bytes ∷ plan) calls at old new own (inl here) = fails_adds d (steps.Write device file place bytes) old new (own.0, tt) here.1
stops_adds d (steps.Cut device file n ∷ plan) calls at old new own (inl here) = fails_adds d (steps.Cut device file n) old new (own.0, tt) here.1
stops_adds d (steps.Sync device file ∷ plan) calls at old new own (inl here) = fails_adds d (steps.Sync device file) old new (own.0, tt) here.1
stops_adds d (steps.Write device file place bytes ∷ plan) calls at old new own (inr there) = behind d (steps.Write device file place bytes) old new (λ k. omega arith) (stops_adds d plan (calls + 1) at _ new own.1 there)
stops_adds d (steps.Cut device file n ∷ plan) calls at old new own (inr there) = behind d (steps.Cut device file n) old new (λ k. omega arith) (stops_adds d plan (calls + 1) at _ new own.1 there)
stops_adds d (steps.Sync device file ∷ plan) calls at old new own (inr there) = behind d (steps.Sync device file) old new (λ k. omega arith) (stops_adds d plan (calls + 1) at _ new own.1 there)
stops_adds d (steps.Say bytes ∷ plan) calls at old new own stop = absurd own
stops_adds d (steps.Fail call device file place bytes content ∷ plan) calls at old new own stop = absurd own
