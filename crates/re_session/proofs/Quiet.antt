-- Steps on files: they say nothing, and of those of one part at most the last fails.
use Rattle.std.proofs.Common.{arith, ℕ, ◌≡◌, ◌≤◌, ◌+◌, List, [], ◌∷◌, ◌++◌, Option, Some, None, refl, sym, ap, ◌∙◌, inl, inr, append_assoc}
use Rattle.std.proofs.lemmas.List.{append-nil}
use Rattle.re_outside.proofs.Does.{failures-append, said-append}
use Rattle.re_outside.specs.Image.{IsUnchanged}
use Rattle.re_outside.specs.Listed.{plain}
use Rattle.re_outside.specs.Outside.{FaultKind, Faults, disk_fault, failures, none, said}
use Rattle.re_outside.specs.Plan.{CutAt, FailsAt, FailsTo, FileChange, StopsAt, WriteAt, failure_of, synced_steps}
use Rattle.re_outside.specs.Trace.{Past, with_steps}
use Rattle.re_outside.specs.declared.step.Call.{Call}
use Rattle.re_outside.specs.declared.step.Call.TheVariants as calls
use Rattle.re_outside.specs.declared.step.Step.{Step}
use Rattle.re_outside.specs.declared.step.Step.TheVariants as steps
use Rattle.re_journal.specs.Commits.{StopsJournal, commit_steps}
use Rattle.re_journal.specs.Scans.{FailsReading}

-- ---- steps

-- these steps say nothing, and no more of them failed than this
pub record AreQuiet (faults : Faults) (more : List Step) : Type 0 where
  pub says : said more ≡ []
  pub counted : (k : FaultKind) → failures more k ≤ faults k

pub quiet_nil : (f : Faults) → AreQuiet f []
quiet_nil f = record { says = refl; counted = λ k. omega arith }

-- one part behind another, in which none failed
pub quiet_append : (f : Faults) (xs ys : List Step) → AreQuiet none xs → AreQuiet f ys → AreQuiet f (xs ++ ys)
quiet_append f xs ys a b = record {
  says = said-append xs ys ∙ ap (λ t. t ++ said ys) a.says ∙ b.says;
  counted = λ k. omega (arith, failures-append xs ys k, a.counted k, b.counted k);
}

-- a step writes, cuts or syncs a file of this device
abbrev pub IsChange : ℕ → Step → Type 0
IsChange d (steps.Write device file at bytes) = device ≡ d
IsChange d (steps.Cut device file length) = device ≡ d
IsChange d (steps.Sync device file) = device ≡ d
IsChange d (steps.Say bytes) = ⊥
IsChange d (steps.Fail call device file at bytes content) = ⊥

-- all of these do
abbrev pub AreChanges : ℕ → List Step → Type 0
AreChanges d [] = Unit {0}
AreChanges d (s ∷ plan) = IsChange d s × AreChanges d plan

pub changes_append : (d : ℕ) (xs ys : List Step) → AreChanges d xs → AreChanges d ys → AreChanges d (xs ++ ys)
changes_append d [] ys a b = b
changes_append d (s ∷ xs) ys a b = (a.0, changes_append d xs ys a.1 b)

change_quiet : (d : ℕ) (f : Faults) (s : Step) (plan : List Step) → IsChange d s → AreQuiet f plan → AreQuiet f (s ∷ plan)
change_quiet d f (steps.Write device file at bytes) plan is a = record { says = a.says; counted = a.counted }
change_quiet d f (steps.Cut device file length) plan is a = record { says = a.says; counted = a.counted }
change_quiet d f (steps.Sync device file) plan is a = record { says = a.says; counted = a.counted }
change_quiet d f (steps.Say bytes) plan is a = absurd is
change_quiet d f (steps.Fail call device file at bytes content) plan is a = absurd is

pub changes_quiet : (d : ℕ) (plan : List Step) → AreChanges d plan → AreQuiet none plan
changes_quiet d [] is = quiet_nil none
changes_quiet d (s ∷ plan) is = change_quiet d none s plan is.0 (changes_quiet d plan is.1)

-- ---- moments

-- from these files and steps to those some quiet steps were added
pub record Adds (faults : Faults) (start start' : ℕ → ℕ → List ℕ) (trace trace' : List Step) : Type 0 where
  pub more : List Step
  pub quiet : AreQuiet faults more
  pub start_is : start' ≡ start
  pub trace_is : trace' ≡ trace ++ more

-- the same of two moments
abbrev pub AddsTo : Faults → Past → Past → Type 0
AddsTo f old now = Adds f old.start now.start old.trace now.trace

pub adds_steps : (f : Faults) (old now : Past) (more : List Step) → AreQuiet f more → now ≡ with_steps old more → AddsTo f old now
adds_steps f old now more quiet e = record { more = more; quiet = quiet; start_is = ap (λ (m : Past). m.start) e; trace_is = ap (λ (m : Past). m.trace) e }

pub adds_none : (f : Faults) (old now : Past) → now ≡ old → AddsTo f old now
adds_none f old now e = record { more = []; quiet = quiet_nil f; start_is = ap (λ (m : Past). m.start) e; trace_is = ap (λ (m : Past). m.trace) e ∙ sym (append-nil old.trace) }

-- quiet steps behind others of which none failed
pub adds_behind : (f : Faults) (start start' : ℕ → ℕ → List ℕ) (trace trace' : List Step) (front : List Step) → AreQuiet none front → Adds f start start' (trace ++ front) trace' → Adds f start start' trace trace'
adds_behind f start start' trace trace' front quiet a = record {
  more = front ++ a.more;
  quiet = quiet_append f front a.more quiet a.quiet;
  start_is = a.start_is;
  trace_is = a.trace_is ∙ append_assoc trace front a.more;
}

-- ---- plans

-- the step of a call that failed
fail_quiet : (d : ℕ) (s : Step) (content : List ℕ) → IsChange d s → AreQuiet (disk_fault d) (failure_of s content ∷ [])
fail_quiet d (steps.Write device file at bytes) content is = record { says = refl; counted = λ k. let e = ap (λ (x : ℕ). disk_fault x k) is in omega (arith, e) }
fail_quiet d (steps.Cut device file length) content is = record { says = refl; counted = λ k. let e = ap (λ (x : ℕ). disk_fault x k) is in omega (arith, e) }
fail_quiet d (steps.Sync device file) content is = record { says = refl; counted = λ k. let e = ap (λ (x : ℕ). disk_fault x k) is in omega (arith, e) }
fail_quiet d (steps.Say bytes) content is = absurd is
fail_quiet d (steps.Fail call device file at bytes was) content is = absurd is

fails_adds : (d : ℕ) (s : Step) (old new : Past) → IsChange d s → FailsTo s old new → AddsTo (disk_fault d) old new
fails_adds d s old new is (inl e) = adds_none (disk_fault d) old new e
fails_adds d s old new is (inr w) = adds_steps (disk_fault d) old new (failure_of s w.0 ∷ []) (fail_quiet d s w.0 is) w.2

-- a plan's calls were made up to one that failed
pub stops_adds : (d : ℕ) (plan : List Step) (calls at : ℕ) (old new : Past) → AreChanges d plan → StopsAt plan calls at old new → AddsTo (disk_fault d) old new
stops_adds d [] calls at old new is stops = absurd stops
stops_adds d (s ∷ plan) calls at old new is (inl here) = fails_adds d s old new is.0 here.1
stops_adds d (s ∷ plan) calls at old new is (inr behind) = adds_behind (disk_fault d) old.start new.start old.trace new.trace (s ∷ []) (changes_quiet d (s ∷ []) (is.0, tt)) (stops_adds d plan (calls + 1) at (with_steps old (s ∷ [])) new is.1 behind)

-- the same of a journal's calls
pub journal_adds : (d : ℕ) (plan : List Step) (calls : ℕ) (stopped : Option ℕ) (old new : Past) → AreChanges d plan → StopsJournal plan calls stopped old new → AddsTo (disk_fault d) old new
journal_adds d plan calls None old new is stops = absurd stops
journal_adds d plan calls (Some at) old new is stops = stops_adds d plan calls stops.0 old new is stops.2

-- a call that asked for a length or for bytes failed
asked_adds : (call : Call) (file at : ℕ) (old new : Past) → ((k : FaultKind) → failures (steps.Fail call old.device file at (plain []) (plain []) ∷ []) k ≤ disk_fault old.device k) → FailsAt old.device call file at [] IsUnchanged old new → AddsTo (disk_fault old.device) old new
asked_adds call file at old new counted (inl e) = adds_none (disk_fault old.device) old new e
asked_adds call file at old new counted (inr w) = adds_steps (disk_fault old.device) old new (steps.Fail call old.device file at (plain []) (plain w.0) ∷ []) (record { says = refl; counted = counted }) w.2

pub reading_adds : (file : ℕ) (old new : Past) → FailsReading file old new → AddsTo (disk_fault old.device) old new
reading_adds file old new (inl fails) = asked_adds calls.Size file 0 old new (λ k. omega arith) fails
reading_adds file old new (inr w) = asked_adds calls.Fetch file w.0 old new (λ k. omega arith) w.1

-- ---- the plans of commits and openings

pub synced_changes : (d f : ℕ) (changes : List FileChange) → AreChanges d (synced_steps d f changes)
synced_changes d f [] = tt
synced_changes d f (WriteAt at bytes ∷ changes) = (refl, (refl, synced_changes d f changes))
synced_changes d f (CutAt n ∷ changes) = (refl, (refl, synced_changes d f changes))

pub commit_changes : (d f gate : ℕ) (frame : List ℕ) → AreChanges d (commit_steps d f gate frame)
commit_changes d f gate frame = (refl, (refl, (refl, (refl, tt))))
