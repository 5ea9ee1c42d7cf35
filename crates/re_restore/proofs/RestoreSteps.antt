-- The steps of an opening: the two syncs, and the laying behind them.
use Rattle.std.proofs.Common.{◌≡◌, inl, inr, ◌+◌, ◌++◌, ◌∷◌, [], ℕ, List, Bool, true, false, Option, Some, None, Result, Ok, Err, length, refl, sym, ap, subst, ◌∙◌}
use Rattle.std.specs.Prelude.{◌&&◌, if◌then◌else◌, OnErr}
use Rattle.re_outside.specs.Frame.{Blank, HasStoreFrame, Store, is_blank}
use Rattle.re_outside.specs.Moment.{Throughout}
use Rattle.re_outside.specs.Plan.{StopsAt}
use Rattle.re_outside.specs.Trace.{Past, content_at, content_of, with_steps}
use Rattle.re_outside.specs.declared.step.Step.{Step}
use Rattle.re_outside.proofs.Moments.{at_end, goes_nothing}
use Rattle.re_outside.proofs.Stores.{one_store}
use Rattle.re_journal.specs.Commits.{HasCause, StopsJournal}
use Rattle.re_journal.specs.Journals.{StandsOnBlank, frame_of, other_file}
use Rattle.re_journal.specs.declared.fault.JournalFault.{JournalFault}
use Rattle.re_journal.specs.declared.fault.JournalFault.TheVariants.{Disk as DiskFault, Stopped}
use Rattle.re_journal.specs.declared.journal.Journal.{Journal}
use Rattle.re_compact.specs.Finding.{HasOpenSteps, KeepsFiles, open_steps}
use Rattle.re_compact.specs.Laying.{publish_steps}
use Rattle.re_compact.specs.declared.fault.OpenFault.{OpenFault}
use Rattle.re_compact.specs.declared.fault.OpenFault.TheVariants.{BadStore, Disk, Memory, OtherProgram}
use Rattle.re_compact.proofs.Steps.{then_steps}
use Rattle.re_terms.specs.declared.program.Program.{Program}
use Rattle.re_restore.specs.Opening.{AreBlank, HasPlannedSteps, HasRestoreSteps, StopsIn, lay_steps, start_snapshot, start_steps}

-- ---- where a plan stops

-- in its first part
in_front : (a b : List Step) (calls at : ℕ) (old new : Past) → StopsAt a calls at old new → StopsAt (a ++ b) calls at old new
in_front [] b calls at old new none = absurd none
in_front (s ∷ a) b calls at old new (inl here) = inl here
in_front (s ∷ a) b calls at old new (inr there) = inr (in_front a b (calls + 1) at (with_steps old (s ∷ [])) new there)

-- the same call, where another number of calls was made before
counted_from : (plan : List Step) (calls at count : ℕ) (old new : Past) → StopsAt plan calls at old new → (n : ℕ) × StopsAt plan count n old new
counted_from [] calls at count old new none = absurd none
counted_from (s ∷ plan) calls at count old new (inl here) = (count + 1, inl (refl, here.1))
counted_from (s ∷ plan) calls at count old new (inr there) = let h = counted_from plan (calls + 1) at (count + 1) (with_steps old (s ∷ [])) new there in (h.0, inr h.1)

-- behind its first part
behind : (a b : List Step) (calls at count : ℕ) (old new : Past) → StopsAt b calls at (with_steps old a) new → (n : ℕ) × StopsAt (a ++ b) count n old new
behind [] b calls at count old new stops = counted_from b calls at count old new (subst (λ p. StopsAt b calls at p new) (sym (goes_nothing old)) stops)
behind (s ∷ a) b calls at count old new stops =
    let h = behind a b calls at (count + 1) (with_steps old (s ∷ [])) new (subst (λ p. StopsAt b calls at p new) (sym (then_steps old (s ∷ []) a)) stops) in
    (h.0, inr h.1)

-- where its journal stopped
journal_stops : (plan : List Step) (calls : ℕ) (stopped : Option ℕ) (old new : Past) → StopsJournal plan calls stopped old new → StopsIn plan old new
journal_stops plan calls None old new none = absurd none
journal_stops plan calls (Some at) old new (number, same, stops) = counted_from plan calls number 0 old new stops

pub stops_first : (a b : List Step) (calls : ℕ) (stopped : Option ℕ) (old new : Past) → StopsJournal a calls stopped old new → StopsIn (a ++ b) old new
stops_first a b calls stopped old new stops = let h = journal_stops a calls stopped old new stops in (h.0, in_front a b 0 h.0 old new h.1)

pub stops_then : (a : List Step) (file other calls : ℕ) (stopped : Option ℕ) (old mid new : Past) → mid ≡ with_steps old a → other ≡ file → StopsJournal (publish_steps mid.device other) calls stopped mid new → StopsIn (a ++ publish_steps old.device file) old new
stops_then a file other calls stopped old mid new is same stops =
    let h : StopsIn (publish_steps mid.device other) mid new = journal_stops (publish_steps mid.device other) calls stopped mid new stops in
    let own : StopsIn (publish_steps mid.device file) mid new = subst (λ f. StopsIn (publish_steps mid.device f) mid new) same h in
    let here : StopsIn (publish_steps old.device file) (with_steps old a) new = subst (λ p. StopsIn (publish_steps p.device file) p new) is own in
    behind a (publish_steps old.device file) 0 here.0 0 old new here.1

-- a journal that was running is refused for the disk alone
pub for_disk : {T : Type 0} (r : Result T JournalFault) (before now : ℕ) (Q : Type 0) → HasCause None before now r → (r ≡ Err DiskFault → Q) → OnErr r Q
for_disk (Ok x) before now Q cause f = tt
for_disk (Err DiskFault) before now Q cause f = f refl
for_disk (Err (Stopped at)) before now Q cause f = absurd (cc (cause.0))

pub is_disk : {T : Type 0} (r : Result T JournalFault) (fault : JournalFault) (before now : ℕ) → r ≡ Err fault → HasCause None before now r → r ≡ Err DiskFault
is_disk (Ok x) fault before now was cause = absurd (cc (was))
is_disk (Err DiskFault) fault before now was cause = refl
is_disk (Err (Stopped at)) fault before now was cause = absurd (cc (cause.0))

-- ---- the plan of an opening

-- where both files are blank
blank_plan : (p : Program) (device : ℕ) (old : Past) → AreBlank old → start_steps p device old ≡ lay_steps old.device 0 true (length (content_of old 0)) (frame_of (start_snapshot p device))
blank_plan p device old blank = λ i. if blank.0 i && blank.1 i then lay_steps old.device 0 true (length (content_of old 0)) (frame_of (start_snapshot p device)) else []

-- a store isn't two blank files
not_blank : (a b body : List ℕ) (bodies : List (List ℕ)) (file : ℕ) → HasStoreFrame a b (Store file body bodies) → (is_blank a && is_blank b) ≡ false
not_blank a b body bodies file has = by_tests (is_blank a) (is_blank b) refl refl
  where
    by_tests : (x y : Bool) → is_blank a ≡ x → is_blank b ≡ y → (x && y) ≡ false
    by_tests false y first second = refl
    by_tests true false first second = refl
    by_tests true true first second = absurd (let h = one_store a b Blank (Store file body bodies) (first, second) has in cc (h))

-- where they hold a store
store_plan : (p : Program) (device : ℕ) (old : Past) (body : List ℕ) (bodies : List (List ℕ)) (file : ℕ) → HasStoreFrame (content_of old 0) (content_of old 1) (Store file body bodies) → start_steps p device old ≡ []
store_plan p device old body bodies file has = ap (λ t. if t then lay_steps old.device 0 true (length (content_of old 0)) (frame_of (start_snapshot p device)) else []) (not_blank (content_of old 0) (content_of old 1) body bodies file has)

-- the laying of a journal on two blank files is that of file 0
pub own_plan : (j : Journal) (old mid : Past) (framed : List ℕ) → mid.device ≡ old.device → Throughout old mid (KeepsFiles old) → j.file ≡ 1 → StandsOnBlank j mid
    → lay_steps mid.device (other_file j.file) j.other_blank j.other_length framed ≡ lay_steps old.device 0 true (length (content_of old 0)) framed
own_plan j old mid framed same t file stands =
    let kept = at_end old mid (KeepsFiles old) t in
    let content : content_of mid 0 ≡ content_of old 0 = ap (λ d. content_at mid d 0) same ∙ kept.first.content in
    let size : j.other_length ≡ length (content_of old 0) = stands.files.other_length ∙ ap (λ f. length (content_of mid (other_file f))) file ∙ ap length content in
    λ i. lay_steps (same i) (other_file (file i)) (stands.other_blank i) (size i) framed

-- ---- the steps of an opening

-- nothing was found
pub not_found : {T U : Type 0} (p : Program) (device : ℕ) (old new : Past) (r : Result T OpenFault) (s : Result U OpenFault) (e : OpenFault) → r ≡ Err e → s ≡ Err e → HasOpenSteps old new r → HasRestoreSteps p device old new s
not_found {T} {U} p device old new r s e was is steps = subst (HasRestoreSteps p device old new) (sym is) (by_fault e (subst (HasOpenSteps old new) was steps))
  where
    by_fault : (f : OpenFault) → HasOpenSteps {T = T} old new (Err f) → HasRestoreSteps {T = U} p device old new (Err f)
    by_fault Memory h = h
    by_fault Disk h = inl h
    by_fault (BadStore file at) h = h
    by_fault OtherProgram h = h

module _ {T : Type 0} (p : Program) (device : ℕ) (old mid new : Past) (is : mid ≡ with_steps old (open_steps old.device)) where
  -- two blank files were found
  pub blank_steps : (r : Result T OpenFault) (plan : List Step) → AreBlank old → plan ≡ lay_steps old.device 0 true (length (content_of old 0)) (frame_of (start_snapshot p device)) → HasPlannedSteps plan mid new r → HasRestoreSteps p device old new r
  blank_steps r plan blank same steps = by_result r (subst (λ l. HasPlannedSteps l mid new r) (same ∙ sym (blank_plan p device old blank)) steps)
    where
      by_result : (r : Result T OpenFault) → HasPlannedSteps (start_steps p device old) mid new r → HasRestoreSteps p device old new r
      by_result (Ok x) h = h ∙ ap (λ q. with_steps q (start_steps p device old)) is ∙ then_steps old (open_steps old.device) (start_steps p device old)
      by_result (Err Memory) h = h ∙ is
      by_result (Err Disk) h = inr (subst (λ q. StopsIn (start_steps p device old) q new) is h)
      by_result (Err (BadStore file at)) h = absurd h
      by_result (Err OtherProgram) h = absurd h

  -- a store was found, and no call was made behind it
  pub store_steps : (r : Result T OpenFault) (body : List ℕ) (bodies : List (List ℕ)) (file : ℕ) → HasStoreFrame (content_of old 0) (content_of old 1) (Store file body bodies) → (r ≡ Err Disk → ⊥) → new ≡ mid → HasRestoreSteps p device old new r
  store_steps (Ok x) body bodies file has no_disk same = same ∙ is ∙ ap (λ l. with_steps old (open_steps old.device ++ l)) (sym (store_plan p device old body bodies file has))
  store_steps (Err Memory) body bodies file has no_disk same = same ∙ is
  store_steps (Err Disk) body bodies file has no_disk same = absurd (no_disk refl)
  store_steps (Err (BadStore number at)) body bodies file has no_disk same = same ∙ is
  store_steps (Err OtherProgram) body bodies file has no_disk same = same ∙ is
