-- What a stop leaves of the files while they are opened, and what they open to behind it.
use Rattle.std.proofs.Common.{◌≡◌, inl, inr, ℕ, ◌<◌, List, [], refl, ap, subst, sym, ◌∙◌}
use Rattle.re_outside.specs.Frame as frame
use Rattle.re_outside.specs.Frame.{HasStoreFrame, StoreFrame}
use Rattle.re_outside.specs.Moment.{IsKept, Throughout}
use Rattle.re_outside.specs.Trace.{Past, IsBefore, IsCrashImageAt, IsCrashImageOf, content_at, content_of, elsewhere_on}
use Rattle.re_outside.proofs.Moments.{at_end, join, no_step}
use Rattle.re_compact.specs.Finding.{KeepsFiles}
use Rattle.re_compact.specs.Pair.{Holds, IsOldOrNew, StandsIn}
use Rattle.re_compact.proofs.Standing.{at_rest}
use Rattle.re_journal.specs.declared.journal.Journal.{Journal}
use Rattle.re_record.specs.Restoring.{Opened, unopened}
use Rattle.re_record.specs.Stores.{OpensTo}
use Rattle.re_record.proofs.StoreLaws.{one_opening}
use Rattle.re_terms.specs.Programs.{IsProgram}
use Rattle.re_terms.specs.declared.program.Program.{Program}
use Rattle.re_restore.specs.Opening.{AreBlank, StillOpens, start_snapshot}
use Rattle.re_restore.proofs.Laid.{start_comes}
use Rattle.re_restore.proofs.Opened.{opens_blank, opens_store}

-- the device at a later moment is the same
same_device : (old now : Past) → IsBefore old now → now.device ≡ old.device
same_device old now on = ap (λ past. past.device) on.1

-- what keeps the files still opens
keeps_still : (p : Program) (device : ℕ) (old now : Past) → IsBefore old now → KeepsFiles old now → StillOpens p device old now
keeps_still p device old now on keeps = record {
  images = λ first second one two. inl (
    keeps.first.images first (subst (λ d. IsCrashImageAt now d 0 first) (same_device old now on) one),
    keeps.second.images second (subst (λ d. IsCrashImageAt now d 1 second) (same_device old now on) two),
  );
  others = keeps.others;
}

pub found_still : (p : Program) (device : ℕ) (old new : Past) → Throughout old new (KeepsFiles old) → Throughout old new (StillOpens p device old)
found_still p device old new t = record { goes_on = t.goes_on; each = λ now on behind. keeps_still p device old now on (t.each now on behind) }

-- two files that are blank still, or hold the start alone, open to the start
opens_still : (p : Program) (device file : ℕ) (first second : List ℕ) (f : StoreFrame) → IsProgram p → HasStoreFrame first second f → IsOldOrNew frame.Blank file (start_snapshot p device) f → OpensTo p device first second (unopened p)
opens_still p device file first second f is has (inl same) = opens_blank p device first second (subst (HasStoreFrame first second) same has)
opens_still p device file first second f is has (inr same) = opens_store p device file first second (start_snapshot p device) [] (unopened p) (subst (HasStoreFrame first second) same has) (start_comes p device is)

module _ (p : Program) (device : ℕ) (old mid : Past) (is : IsProgram p) (blank : AreBlank old) (on : IsBefore old mid) (keeps : KeepsFiles old mid) (file : ℕ) where
  holds_still : (now : Past) → Holds (IsOldOrNew frame.Blank file (start_snapshot p device)) mid now → StillOpens p device old now
  holds_still now h = record {
    images = λ first second one two. let found = h.images first second one two in inr (blank, opens_still p device file first second found.0 is found.1 found.2);
    others = subst (λ d. elsewhere_on d now.trace ≡ elsewhere_on d mid.trace) (same_device old mid on) h.others ∙ keeps.others;
  }

  pub laid_still : (new : Past) → Throughout mid new (Holds (IsOldOrNew frame.Blank file (start_snapshot p device)) mid) → Throughout mid new (StillOpens p device old)
  laid_still new t = record { goes_on = t.goes_on; each = λ now since behind. holds_still now (t.each now since behind) }

-- the two syncs, and behind them the laying of the start
pub blank_still : (p : Program) (device : ℕ) (old mid new : Past) (file : ℕ) → IsProgram p → HasStoreFrame (content_of old 0) (content_of old 1) frame.Blank → Throughout old mid (KeepsFiles old) → Throughout mid new (Holds (IsOldOrNew frame.Blank file (start_snapshot p device)) mid) → Throughout old new (StillOpens p device old)
blank_still p device old mid new file is has found laid =
    join old mid new (StillOpens p device old) (found_still p device old mid found)
    (laid_still p device old mid is has found.goes_on (at_end old mid (KeepsFiles old) found) file new laid)

-- where nothing is laid
pub not_laid : (journal : Journal) (now : Past) (file : ℕ) (snapshot : List ℕ) → StandsIn journal frame.Blank now → Throughout now now (Holds (IsOldOrNew frame.Blank file snapshot) now)
not_laid journal now file snapshot stands = no_step now now (Holds (IsOldOrNew frame.Blank file snapshot) now) refl (at_rest frame.Blank (IsOldOrNew frame.Blank file snapshot) now stands.rests (inl refl))

-- ---- what the files open to as they read

-- a file that was kept reads as it did
reads_as_before : (old mid : Past) (f : ℕ) → mid.device ≡ old.device → IsKept old.device f old mid → content_of mid f ≡ content_of old f
reads_as_before old mid f same kept = ap (λ d. content_at mid d f) same ∙ kept.content

-- where nothing was laid they open as before
pub found_reads : (p : Program) (device : ℕ) (old mid : Past) (o : Opened) → mid.device ≡ old.device → Throughout old mid (KeepsFiles old) → OpensTo p device (content_of old 0) (content_of old 1) o → OpensTo p device (content_of mid 0) (content_of mid 1) o
found_reads p device old mid o same t opens =
    let kept = at_end old mid (KeepsFiles old) t in
    let second = subst (λ (b : List ℕ). OpensTo p device (content_of old 0) b o) (sym (reads_as_before old mid 1 same kept.second)) opens in
    subst (λ (a : List ℕ). OpensTo p device a (content_of mid 1) o) (sym (reads_as_before old mid 0 same kept.first)) second

-- two blank files opened to the start, and so do they wherever the laying of the start ended
pub blank_reads : (p : Program) (device file : ℕ) (old mid new : Past) (o : Opened) → IsProgram p → device < 256 → AreBlank old → Throughout mid new (Holds (IsOldOrNew frame.Blank file (start_snapshot p device)) mid)
    → IsCrashImageOf new 0 (content_of new 0) → IsCrashImageOf new 1 (content_of new 1) → OpensTo p device (content_of old 0) (content_of old 1) o → OpensTo p device (content_of new 0) (content_of new 1) o
blank_reads p device file old mid new o is small blank laid first second opens =
    let same = one_opening p device (content_of old 0) (content_of old 1) (unopened p) o is small (opens_blank p device (content_of old 0) (content_of old 1) blank) opens in
    let held = (at_end mid new (Holds (IsOldOrNew frame.Blank file (start_snapshot p device)) mid) laid).images (content_of new 0) (content_of new 1) first second in
    subst (OpensTo p device (content_of new 0) (content_of new 1)) same (opens_still p device file (content_of new 0) (content_of new 1) held.0 is held.1 held.2)
