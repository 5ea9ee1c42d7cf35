-- What a stop leaves of two files while they are opened.
use Rattle.std.specs.Prelude.{◌&&◌, ◌==◌, not, if◌then◌else◌, Result, Ok, Err, IfOk}
use Rattle.std.proofs.Common.{◌≡◌, inl, inr, ℕ, true, [], ◌∷◌, ◌++◌, refl, sym, ◌∙◌, ap, subst, arith}
use Rattle.std.proofs.lemmas.Bool.Decides.{nat_tests}
use Rattle.std.proofs.lemmas.List.{append-nil}
use Rattle.std.proofs.lemmas.List.Elements.{filter-append}
use Rattle.re_outside.specs.Listed.{plain}
use Rattle.re_outside.specs.FileAct.{SyncFailed}
use Rattle.re_outside.specs.Moment.{Throughout, IsKept, IsSettled, OnlyMoves}
use Rattle.re_outside.specs.Plan.{FailsTo, IsSafe}
use Rattle.re_outside.specs.Trace.{Past, IsBefore, with_steps, is_of, elsewhere, elsewhere_on, content_at, content_of, IsCrashImageAt, IsCrashImageOf}
use Rattle.re_outside.specs.declared.step.Step.{Step}
use Rattle.re_outside.specs.declared.step.Step.TheVariants as steps
use Rattle.re_outside.specs.declared.step.Call.TheVariants as calls
use Rattle.re_outside.proofs.Calls.{failed_sync_changes}
use Rattle.re_outside.proofs.Elsewhere.{device_moves, kept_by_size, kept_by_fetch}
use Rattle.re_outside.proofs.Moments.{goes_nothing, join, no_step, one_step}
use Rattle.re_outside.proofs.Safe.{ran_safe, stops_safe}
use Rattle.re_outside.proofs.Steps.{kept, sync_settles, only_moves, is_synced, is_failed, reads_more}
use Rattle.re_journal.specs.Scans.{FailsReading}
use Rattle.re_compact.specs.declared.fault.OpenFault.{OpenFault}
use Rattle.re_compact.specs.declared.fault.OpenFault.TheVariants.{Memory, Disk, BadStore, OtherProgram}
use Rattle.re_compact.specs.Finding.{KeepsFiles, open_steps, StopsOpening, HasOpenSteps, HasReadSteps, AreSettled}
use Rattle.re_compact.proofs.Crash.{own_content, own_settled, as_read, zero_one, one_zero}
use Rattle.re_compact.proofs.Steps.{then_steps}

-- ---- one file

kept_same : (d f : ℕ) (now : Past) → IsKept d f now now
kept_same d f now = record { content = refl; images = λ file image. image }

kept_trans : (d f : ℕ) (a b c : Past) → IsKept d f a b → IsKept d f b c → IsKept d f a c
kept_trans d f a b c first second = record { content = second.content ∙ first.content; images = λ file image. first.images file (second.images file image) }

keeps_same : (now : Past) → KeepsFiles now now
keeps_same now = record { first = kept_same now.device 0 now; second = kept_same now.device 1 now; others = refl }

keeps_trans : (a b c : Past) → b.device ≡ a.device → KeepsFiles a b → KeepsFiles b c → KeepsFiles a c
keeps_trans a b c same first second = record {
  first = kept_trans a.device 0 a b c first.first (subst (λ d. IsKept d 0 b c) same second.first);
  second = kept_trans a.device 1 a b c first.second (subst (λ d. IsKept d 1 b c) same second.second);
  others = subst (λ d. elsewhere_on d c.trace ≡ elsewhere_on d b.trace) same second.others ∙ first.others;
}

-- a file is settled as it reads, which a stop might have left before
settled_kept : (f : ℕ) (old new : Past) → new.device ≡ old.device → IsCrashImageOf old f (content_of old f) → IsSettled f (content_of old f) new → IsKept old.device f old new
settled_kept f old new same reads settled = record {
  content = ap (λ d. content_at new d f) (sym same) ∙ settled.content;
  images = λ file image. subst (IsCrashImageOf old f) (sym (settled.only file (subst (λ d. IsCrashImageAt new d f file) (sym same) image))) reads;
}

-- ---- the syncs

abbrev synced : ℕ → Past → Past
synced f old = with_steps old (steps.Sync old.device f ∷ [])

only_synced : (f : ℕ) (old : Past) → OnlyMoves f old (synced f old)
only_synced f old = only_moves f old _ _ (is_synced old.device f)

settled_synced : (f : ℕ) (old : Past) → IsSettled f (content_of old f) (synced f old)
settled_synced f old = sync_settles f (content_of old f) old (synced f old) refl refl

-- a sync that failed
failed_kept : (f : ℕ) (old new : Past) → FailsTo (steps.Sync old.device f) old new → IsKept old.device f old new
failed_kept f old new fails =
    let c = failed_sync_changes f old new fails in
    record {
      content = reads fails;
      images = λ file image. let was = c.images file (subst (λ d. IsCrashImageAt new d f file) (sym (device_same fails)) image) in subst (IsCrashImageOf old f) (sym was.2) was.1;
    }
  where
    reads : FailsTo (steps.Sync old.device f) old new → content_at new old.device f ≡ content_of old f
    reads (inl is) = ap (λ p. content_at p old.device f) is
    reads (inr (left, honest, is)) = ap (λ p. content_at p old.device f) is ∙ reads_more f old _ _ (is_failed calls.Sync old.device f 0 [] left SyncFailed refl refl)

    device_same : FailsTo (steps.Sync old.device f) old new → new.device ≡ old.device
    device_same (inl is) = ap (λ p. p.device) is
    device_same (inr (left, honest, is)) = ap (λ p. p.device) is

failed_before : (f : ℕ) (old new : Past) → FailsTo (steps.Sync old.device f) old new → IsBefore old new
failed_before f old new (inl is) = ([], is ∙ goes_nothing old)
failed_before f old new (inr (left, honest, is)) = (_, is)

first_failed : (old new : Past) → FailsTo (steps.Sync old.device 0) old new → KeepsFiles old new
first_failed old new fails =
    let only = (failed_sync_changes 0 old new fails).others in
    record { first = failed_kept 0 old new fails; second = kept 0 old.device 1 old new (failed_before 0 old new fails) only (inr one_zero); others = device_moves 0 old new only }

second_failed : (old new : Past) → FailsTo (steps.Sync old.device 1) old new → KeepsFiles old new
second_failed old new fails =
    let only = (failed_sync_changes 1 old new fails).others in
    record { first = kept 1 old.device 0 old new (failed_before 1 old new fails) only (inr zero_one); second = failed_kept 1 old new fails; others = device_moves 1 old new only }

module _ (old : Past) (first : IsCrashImageOf old 0 (content_of old 0)) (second : IsCrashImageOf old 1 (content_of old 1)) where
  abbrev mid : Past
  mid = synced 0 old

  abbrev last : Past
  last = synced 1 mid

  abbrev opened : Past
  opened = with_steps old (open_steps old.device)

  same_last : last ≡ opened
  same_last = then_steps old (steps.Sync old.device 0 ∷ []) (steps.Sync old.device 1 ∷ [])

  keeps_mid : KeepsFiles old mid
  keeps_mid = record {
    first = settled_kept 0 old mid refl first (settled_synced 0 old);
    second = kept 0 old.device 1 old mid (_, refl) (only_synced 0 old) (inr one_zero);
    others = device_moves 0 old mid (only_synced 0 old);
  }

  second_reads : content_of mid 1 ≡ content_of old 1
  second_reads = own_content 1 0 one_zero old mid (_, refl) (only_synced 0 old)

  first_settled : IsSettled 0 (content_of old 0) last
  first_settled = own_settled 0 1 zero_one mid last (_, refl) (only_synced 1 mid) (content_of old 0) (settled_synced 0 old)

  second_settled : IsSettled 1 (content_of old 1) last
  second_settled = subst (λ l. IsSettled 1 l last) second_reads (settled_synced 1 mid)

  keeps_last : KeepsFiles old last
  keeps_last = record {
    first = settled_kept 0 old last refl first first_settled;
    second = settled_kept 1 old last refl second second_settled;
    others = device_moves 1 mid last (only_synced 1 mid) ∙ device_moves 0 old mid (only_synced 0 old);
  }

  keeps_opened : KeepsFiles old opened
  keeps_opened = subst (KeepsFiles old) same_last keeps_last

  safe : IsSafe (KeepsFiles old) (open_steps old.device) old
  safe = (
    keeps_same old,
    first_failed old,
    (
      keeps_mid,
      (λ new fails. keeps_trans old mid new refl keeps_mid (second_failed mid new fails)),
      keeps_last,
    ),
  )

  -- ---- a call behind them

  only_by : (f : ℕ) (now : Past) (s : Step) → is_of now.device f s ≡ true → OnlyMoves f now (with_steps now (s ∷ []))
  only_by f now s mine = filter-append (λ t. not (is_of now.device f t)) now.trace (s ∷ []) ∙ (ap (λ b. elsewhere now.device f now.trace ++ (if not b then s ∷ [] else [])) mine ∙ append-nil _)

  same_file : (d f : ℕ) → (d == d && f == f) ≡ true
  same_file d f = grind (arith, nat_tests)

  reading_keeps : (f : ℕ) (now new : Past) → FailsReading f now new → KeepsFiles now new
  reading_keeps f now new (inl (inl is)) = subst (KeepsFiles now) (sym is) (keeps_same now)
  reading_keeps f now new (inl (inr (left, honest, is))) = subst (KeepsFiles now) (sym is) (record {
    first = kept_by_size now.device 0 now.device f 0 (plain []) (plain left) now;
    second = kept_by_size now.device 1 now.device f 0 (plain []) (plain left) now;
    others = device_moves f now (with_steps now ((steps.Fail calls.Size now.device f 0 (plain []) (plain left)) ∷ [])) (only_by f now (steps.Fail calls.Size now.device f 0 (plain []) (plain left)) (same_file now.device f));
  })
  reading_keeps f now new (inr (at, inl is)) = subst (KeepsFiles now) (sym is) (keeps_same now)
  reading_keeps f now new (inr (at, inr (left, honest, is))) = subst (KeepsFiles now) (sym is) (record {
    first = kept_by_fetch now.device 0 now.device f at (plain []) (plain left) now;
    second = kept_by_fetch now.device 1 now.device f at (plain []) (plain left) now;
    others = device_moves f now (with_steps now ((steps.Fail calls.Fetch now.device f at (plain []) (plain left)) ∷ [])) (only_by f now (steps.Fail calls.Fetch now.device f at (plain []) (plain left)) (same_file now.device f));
  })

  behind : (f : ℕ) (new : Past) → FailsReading f opened new → Throughout opened new (KeepsFiles old)
  behind f new fails = by_cases fails (keeps_trans old opened new refl keeps_opened (reading_keeps f opened new fails))
    where
      by_cases : FailsReading f opened new → KeepsFiles old new → Throughout opened new (KeepsFiles old)
      by_cases (inl (inl is)) later = no_step opened new (KeepsFiles old) is keeps_opened
      by_cases (inl (inr (left, honest, is))) later = one_step opened new (KeepsFiles old) _ is keeps_opened later
      by_cases (inr (at, inl is)) later = no_step opened new (KeepsFiles old) is keeps_opened
      by_cases (inr (at, inr (left, honest, is))) later = one_step opened new (KeepsFiles old) _ is keeps_opened later

  pub opened_throughout : (new : Past) → new ≡ opened → Throughout old new (KeepsFiles old)
  opened_throughout new is = ran_safe (KeepsFiles old) (open_steps old.device) old new safe is

  pub stopped_throughout : (new : Past) → StopsOpening old new → Throughout old new (KeepsFiles old)
  stopped_throughout new (inl (at, stops)) = stops_safe (KeepsFiles old) (open_steps old.device) 0 at old new safe stops
  stopped_throughout new (inr (f, fails)) = join old opened new (KeepsFiles old) (opened_throughout opened refl) (behind f new fails)

  -- at each moment
  pub each_moment : {T : Type 0} (r : Result T OpenFault) (new : Past) → HasOpenSteps old new r → Throughout old new (KeepsFiles old)
  each_moment (Ok x) new is = opened_throughout new is
  each_moment (Err Memory) new is = opened_throughout new is
  each_moment (Err Disk) new stops = stopped_throughout new stops
  each_moment (Err (BadStore f at)) new is = opened_throughout new is
  each_moment (Err OtherProgram) new is = opened_throughout new is

  -- both files are settled behind the syncs, and read as before
  pub settled_opened : (new : Past) → new ≡ opened → AreSettled new
  settled_opened new is = subst AreSettled (same_last ∙ sym is) (record { first = as_read 0 (content_of old 0) last first_settled; second = as_read 1 (content_of old 1) last second_settled })

  pub first_read : (new : Past) → new ≡ opened → content_of new 0 ≡ content_of old 0
  first_read new is = ap (λ p. content_of p 0) (is ∙ sym same_last) ∙ first_settled.content

  pub second_read : (new : Past) → new ≡ opened → content_of new 1 ≡ content_of old 1
  second_read new is = ap (λ p. content_of p 1) (is ∙ sym same_last) ∙ second_settled.content

-- ---- what was read behind them

-- a fact of what came through
pub if_ok : {T : Type 0} {E : Type 0} (r : Result T E) (P Q : T → Type 0) → ((x : T) → P x → Q x) → IfOk r P → IfOk r Q
if_ok (Ok x) P Q f p = f x p
if_ok (Err e) P Q f p = tt

-- the steps of the reading are those behind the syncs
pub then_read : {T : Type 0} (old mid new : Past) → mid ≡ with_steps old (open_steps old.device) → (r : Result T OpenFault) → HasReadSteps mid new r → HasOpenSteps old new r
then_read old mid new is (Ok x) same = same ∙ is
then_read old mid new is (Err Memory) same = same ∙ is
then_read old mid new is (Err Disk) (f, fails) = inr (f, subst (λ p. FailsReading f p new) is fails)
then_read old mid new is (Err (BadStore f at)) same = same ∙ is
then_read old mid new is (Err OtherProgram) same = same ∙ is

-- where it came through, nothing has moved
pub moved_on : {T : Type 0} (mid new : Past) (Q : T → Past → Type 0) (r : Result T OpenFault) → HasReadSteps mid new r → IfOk r (λ x. Q x mid) → IfOk r (λ x. Q x new)
moved_on mid new Q (Ok x) same q = subst (Q x) (sym same) q
moved_on mid new Q (Err e) steps q = tt
