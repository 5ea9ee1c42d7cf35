-- Steps of other files and of other devices.
use Rattle.std.specs.Prelude.{not, ◌==◌, ◌&&◌, if◌then◌else◌}
use Rattle.std.proofs.Common.{◌≡◌, ◌≢◌, ℕ, Bool, true, false, List, [], ◌∷◌, ◌++◌, refl, sym, ◌∙◌, ap, subst, arith}
use Rattle.std.proofs.lemmas.Bool.Decides.{nat_tests}
use Rattle.re_outside.specs.FileAct.{FileAct, Wrote, CutTo, Synced}
use Rattle.re_outside.specs.Image.{content, IsCrashImage}
use Rattle.re_outside.specs.Trace.{act_of, acts_of, failed_act, is_of, is_on, is_file_call, elsewhere, elsewhere_on, Past, with_steps, IsBefore, IsCrashImageAt, IsJointImage}
use Rattle.re_outside.specs.Moment.{IsKept, OnlyMoves, OnlyDeviceMoves}
use Rattle.re_outside.specs.Listed.{Listed}
use Rattle.re_outside.specs.Outside.{said, IsOutput, AreOutputs}
use Rattle.std.proofs.lemmas.List.{append-nil}
use Rattle.re_outside.proofs.Acts.{acts_of-append}
use Rattle.re_outside.specs.declared.step.Step.{Step}
use Rattle.re_outside.specs.declared.step.Step.TheVariants as steps
use Rattle.re_outside.specs.declared.step.Call.{Call}
use Rattle.re_outside.specs.declared.step.Call.TheVariants as calls

-- ---- steps of another device

off : (d e g device file : ℕ) → (d == device) ≡ true → e ≢ d → (e == device && g == file) ≡ false
off d e g device file own h = grind (arith, nat_tests)

not_mine : (call : Call) (d e g device file at : ℕ) (bytes left : List ℕ) → (is_file_call call && d == device) ≡ true → e ≢ d → (if e == device && g == file then failed_act call at bytes left else []) ≡ []
not_mine calls.Write d e g device file at bytes left own h = ap (λ b. if b then failed_act calls.Write at bytes left else []) (off d e g device file own h)
not_mine calls.Cut d e g device file at bytes left own h = ap (λ b. if b then failed_act calls.Cut at bytes left else []) (off d e g device file own h)
not_mine calls.Sync d e g device file at bytes left own h = ap (λ b. if b then failed_act calls.Sync at bytes left else []) (off d e g device file own h)
not_mine calls.Size d e g device file at bytes left own h = ap (λ b. if b then failed_act calls.Size at bytes left else []) (off d e g device file own h)
not_mine calls.Fetch d e g device file at bytes left own h = ap (λ b. if b then failed_act calls.Fetch at bytes left else []) (off d e g device file own h)
not_mine calls.Take d e g device file at bytes left own h = absurd (cc)
not_mine calls.Say d e g device file at bytes left own h = absurd (cc)

no_act_on : (d e g : ℕ) (s : Step) → is_on d s ≡ true → e ≢ d → act_of e g s ≡ []
no_act_on d e g (steps.Write device file at bytes) own h = ap (λ b. if b then Wrote at bytes.items ∷ [] else []) (off d e g device file own h)
no_act_on d e g (steps.Cut device file n) own h = ap (λ b. if b then CutTo n ∷ [] else []) (off d e g device file own h)
no_act_on d e g (steps.Sync device file) own h = ap (λ b. if b then Synced ∷ [] else []) (off d e g device file own h)
no_act_on d e g (steps.Say bytes) own h = refl
no_act_on d e g (steps.Fail call device file at bytes left) own h = not_mine call d e g device file at bytes.items left.items own h

acts_elsewhere_on : (d e g : ℕ) → e ≢ d → (trace : List Step) → acts_of e g (elsewhere_on d trace) ≡ acts_of e g trace
acts_elsewhere_on d e g h [] = refl
acts_elsewhere_on d e g h (s ∷ trace) = by_test (acts_elsewhere_on d e g h trace) (is_on d s) refl
  where
    by_test : acts_of e g (elsewhere_on d trace) ≡ acts_of e g trace → (b : Bool) → is_on d s ≡ b → acts_of e g (if not b then s ∷ elsewhere_on d trace else elsewhere_on d trace) ≡ act_of e g s ++ acts_of e g trace
    by_test rest true own = rest ∙ ap (λ (l : List FileAct). l ++ acts_of e g trace) (sym (no_act_on d e g s own h))
    by_test rest false other = ap (λ (l : List FileAct). act_of e g s ++ l) rest

-- files of another device are as they were
pub kept_on : (d g : ℕ) (old now : Past) → IsBefore old now → OnlyDeviceMoves old now → d ≢ old.device → IsKept d g old now
kept_on d g old now before only h =
    let same : acts_of d g now.trace ≡ acts_of d g old.trace = sym (acts_elsewhere_on old.device d g h now.trace) ∙ (ap (acts_of d g) only ∙ acts_elsewhere_on old.device d g h old.trace) in
    let start : now.start ≡ old.start = ap (λ p. p.start) before.1 in
    record {
      content = (λ i. content (start i d g) (same i));
      images = λ file image. subst (λ (l : List FileAct). IsCrashImage (old.start d g) l file) same (subst (λ (st : ℕ → ℕ → List ℕ). IsCrashImage (st d g) (acts_of d g now.trace) file) start image);
    }

-- what a stop leaves of another device's files it might have left before
pub joint_kept : (old now : Past) (files : ℕ → ℕ → List ℕ) → IsBefore old now → OnlyDeviceMoves old now → IsJointImage now files → (d g : ℕ) → d ≢ old.device → IsCrashImageAt old d g (files d g)
joint_kept old now files before only joint d g h = (kept_on d g old now before only h).images (files d g) (joint d g)

-- ---- steps of a file are steps of its device

both : (x y : Bool) → (x && y) ≡ true → x ≡ true
both true y e = refl
both false y e = e

three : (x y z : Bool) → (x && (y && z)) ≡ true → (x && y) ≡ true
three true true z e = refl
three true false z e = e
three false y z e = e

is_on_file : (d f : ℕ) (s : Step) → is_of d f s ≡ true → is_on d s ≡ true
is_on_file d f (steps.Write device file at bytes) e = both (d == device) (f == file) e
is_on_file d f (steps.Cut device file n) e = both (d == device) (f == file) e
is_on_file d f (steps.Sync device file) e = both (d == device) (f == file) e
is_on_file d f (steps.Say bytes) e = e
is_on_file d f (steps.Fail call device file at bytes left) e = three (is_file_call call) (d == device) (f == file) e

elsewhere_twice : (d f : ℕ) (trace : List Step) → elsewhere_on d (elsewhere d f trace) ≡ elsewhere_on d trace
elsewhere_twice d f [] = refl
elsewhere_twice d f (s ∷ trace) = by_test (elsewhere_twice d f trace) (is_of d f s) (is_on d s) refl refl
  where
    by_test : elsewhere_on d (elsewhere d f trace) ≡ elsewhere_on d trace → (b c : Bool) → is_of d f s ≡ b → is_on d s ≡ c
        → elsewhere_on d (if not b then s ∷ elsewhere d f trace else elsewhere d f trace) ≡ (if not c then s ∷ elsewhere_on d trace else elsewhere_on d trace)
    by_test rest true true own on = rest
    by_test rest true false own on = absurd (let e = is_on_file d f s own in cc)
    by_test rest false c own on = ap (λ (b : Bool). if not b then s ∷ elsewhere_on d (elsewhere d f trace) else elsewhere_on d (elsewhere d f trace)) on ∙ ap (λ (l : List Step). if not c then s ∷ l else l) rest

-- where only a file moves, only its device does
pub device_moves : (f : ℕ) (old now : Past) → OnlyMoves f old now → OnlyDeviceMoves old now
device_moves f old now only = sym (elsewhere_twice old.device f now.trace) ∙ ap (elsewhere_on old.device) only ∙ elsewhere_twice old.device f old.trace

-- ---- what is said

said_elsewhere : (d : ℕ) (trace : List Step) → said (elsewhere_on d trace) ≡ said trace
said_elsewhere d [] = refl
said_elsewhere d (s ∷ trace) = by_test s (said_elsewhere d trace) (is_on d s) refl
  where
    by_test : (s : Step) → said (elsewhere_on d trace) ≡ said trace → (b : Bool) → is_on d s ≡ b → said (if not b then s ∷ elsewhere_on d trace else elsewhere_on d trace) ≡ said (s ∷ trace)
    by_test (steps.Say bytes) rest true own = absurd (cc)
    by_test (steps.Write e g at bytes) rest true own = rest
    by_test (steps.Cut e g n) rest true own = rest
    by_test (steps.Sync e g) rest true own = rest
    by_test (steps.Fail call e g at bytes left) rest true own = rest
    by_test (steps.Say bytes) rest false own = ap (λ t. bytes.items ++ t) rest
    by_test (steps.Write e g at bytes) rest false own = rest
    by_test (steps.Cut e g n) rest false own = rest
    by_test (steps.Sync e g) rest false own = rest
    by_test (steps.Fail call e g at bytes left) rest false own = rest

-- while only a device's files move, nothing is said
pub quiet : (old now : Past) → OnlyDeviceMoves old now → said now.trace ≡ said old.trace
quiet old now only = sym (said_elsewhere old.device now.trace) ∙ ap said only ∙ said_elsewhere old.device old.trace

-- ---- steps that are no acts of a file

-- steps that were nothing to a file leave it
pub kept_by : (d g : ℕ) (old : Past) (more : List Step) → acts_of d g more ≡ [] → IsKept d g old (with_steps old more)
kept_by d g old more none =
    let same : acts_of d g (old.trace ++ more) ≡ acts_of d g old.trace = acts_of-append d g old.trace more ∙ (ap (λ (l : List FileAct). acts_of d g old.trace ++ l) none ∙ append-nil (acts_of d g old.trace)) in
    record {
      content = ap (content (old.start d g)) same;
      images = λ file image. subst (λ (l : List FileAct). IsCrashImage (old.start d g) l file) same image;
    }

neither : (b : Bool) (l : List FileAct) → l ≡ [] → (if b then l else []) ≡ []
neither true l e = e
neither false l e = refl

failed_output : (call : Call) (at : ℕ) (bytes left : List ℕ) → IsOutput call → failed_act call at bytes left ≡ []
failed_output calls.Take at bytes left o = refl
failed_output calls.Say at bytes left o = refl
failed_output calls.Size at bytes left o = absurd o
failed_output calls.Fetch at bytes left o = absurd o
failed_output calls.Write at bytes left o = absurd o
failed_output calls.Cut at bytes left o = absurd o
failed_output calls.Sync at bytes left o = absurd o

output_acts : (d g : ℕ) (more : List Step) → AreOutputs more → acts_of d g more ≡ []
output_acts d g [] o = refl
output_acts d g (steps.Say bytes ∷ more) o = output_acts d g more o
output_acts d g (steps.Write device file at bytes ∷ more) o = absurd o
output_acts d g (steps.Cut device file n ∷ more) o = absurd o
output_acts d g (steps.Sync device file ∷ more) o = absurd o
output_acts d g (steps.Fail call device file at bytes left ∷ more) o =
    ap (λ (l : List FileAct). l ++ acts_of d g more) (neither (d == device && g == file) (failed_act call at bytes.items left.items) (failed_output call at bytes.items left.items o.0)) ∙ output_acts d g more o.1

-- what is taken and said leaves all files
pub kept_by_outputs : (d g : ℕ) (old : Past) (more : List Step) → AreOutputs more → IsKept d g old (with_steps old more)
kept_by_outputs d g old more o = kept_by d g old more (output_acts d g more o)

-- a failed call that asks for a length or for bytes leaves all files
pub kept_by_size : (d g device file at : ℕ) (bytes left : Listed ℕ) (old : Past) → IsKept d g old (with_steps old (steps.Fail calls.Size device file at bytes left ∷ []))
kept_by_size d g device file at bytes left old = kept_by d g old _ (ap (λ (l : List FileAct). l ++ []) (neither (d == device && g == file) [] refl))

pub kept_by_fetch : (d g device file at : ℕ) (bytes left : Listed ℕ) (old : Past) → IsKept d g old (with_steps old (steps.Fail calls.Fetch device file at bytes left ∷ []))
kept_by_fetch d g device file at bytes left old = kept_by d g old _ (ap (λ (l : List FileAct). l ++ []) (neither (d == device && g == file) [] refl))
