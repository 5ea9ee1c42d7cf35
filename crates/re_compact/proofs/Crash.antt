-- What a stop leaves of the two files while a snapshot is laid and its gate opened.
use Rattle.std.proofs.Common.{◌≡◌, ◌≢◌, inl, inr, ℕ, zero, suc, ◌<◌, true, List, [], ◌∷◌, ◌++◌, length, refl, sym, ◌∙◌, ap, subst, arith}
use Rattle.re_outside.specs.Frame.{StoreFrame, Store, HasStoreFrame, IsOlder, framed, is_blank}
use Rattle.re_outside.specs.declared.step.Step.{Step}
use Rattle.re_outside.specs.Moment.{Throughout, Leaves, IsKept, IsSettled, OnlyMoves}
use Rattle.re_outside.specs.Plan.{IsSafe, StopsAt}
use Rattle.re_outside.specs.Trace.{Past, IsBefore, with_steps, content_at, content_of, IsCrashImageAt, IsCrashImageOf}
use Rattle.re_outside.proofs.Elsewhere.{device_moves}
use Rattle.re_outside.proofs.Moments.{at_end}
use Rattle.re_outside.proofs.Safe.{ran_safe, stops_safe}
use Rattle.re_outside.proofs.Steps.{kept, same_device}
use Rattle.re_outside.proofs.SyncedChanges.{changes_safe, changes_settle}
use Rattle.re_compact.specs.Laying.{laying, opening, prepare_steps, publish_steps, IsSnapshot}
use Rattle.re_compact.specs.Pair.{IsIn, Holds, Rests, IsOldOrNew}
use Rattle.re_journal.specs.Journals.{other_file, frame_of}
use Rattle.re_compact.proofs.Laid.{IsSameOrBlank, lay_keeps, laid, IsShutOrOpen, open_keeps, opened, shut_blank}
use Rattle.re_compact.proofs.Stores.{first_emptied, second_emptied, first_published, second_published}

-- ---- the file that isn't touched

module _ (f g : ℕ) (apart : f ≢ g) (old now : Past) (before : IsBefore old now) (only : OnlyMoves g old now) where
  own_kept : IsKept old.device f old now
  own_kept = kept g old.device f old now before only (inr apart)

  pub own_content : content_of now f ≡ content_of old f
  own_content = ap (λ d. content_at now d f) (same_device old now before) ∙ own_kept.content

  own_image : (file : List ℕ) → IsCrashImageOf now f file → IsCrashImageOf old f file
  own_image file image = own_kept.images file (subst (λ d. IsCrashImageAt now d f file) (same_device old now before) image)

  pub own_settled : (bytes : List ℕ) → IsSettled f bytes old → IsSettled f bytes now
  own_settled bytes settled = record { content = own_content ∙ settled.content; only = λ file image. settled.only file (own_image file image) }

-- ---- the two files together

pub zero_one : ◌≢◌ {A = ℕ} 0 1
zero_one e = absurd (omega arith)

pub one_zero : ◌≢◌ {A = ℕ} 1 0
one_zero e = absurd (omega arith)

module _ (held : StoreFrame) (old now : Past) (rests : Rests held old) (before : IsBefore old now) (P : StoreFrame → Type 0) (Q : List ℕ → Type 0) where
  -- where file 1 alone is touched
  pub second_touched : ((file : List ℕ) → Q file → (frame : StoreFrame) × HasStoreFrame (content_of old 0) file frame × P frame) → Leaves 1 Q old now → Holds P old now
  second_touched holds leaves = record {
    images = λ first second a b.
        let same : first ≡ content_of old 0 = rests.first.only first (own_image 0 1 zero_one old now before leaves.others first a) in
        let h = holds second (leaves.images second b) in
        (h.0, subst (λ l. HasStoreFrame l second h.0) (sym same) h.1, h.2);
    others = device_moves 1 old now leaves.others;
  }

  -- where file 0 alone is touched
  pub first_touched : ((file : List ℕ) → Q file → (frame : StoreFrame) × HasStoreFrame file (content_of old 1) frame × P frame) → Leaves 0 Q old now → Holds P old now
  first_touched holds leaves = record {
    images = λ first second a b.
        let same : second ≡ content_of old 1 = rests.second.only second (own_image 1 0 one_zero old now before leaves.others second b) in
        let h = holds first (leaves.images first a) in
        (h.0, subst (λ l. HasStoreFrame first l h.0) (sym same) h.1, h.2);
    others = device_moves 0 old now leaves.others;
  }

-- ---- the frame is written

-- where one file is laid, the two hold what they held
abbrev SameHeld : StoreFrame → StoreFrame → Type 0
SameHeld held frame = frame ≡ held

module _ (held : StoreFrame) (old : Past) (rests : Rests held old) where
  second_same : IsIn 0 held → (file : List ℕ) → IsSameOrBlank (content_of old 1) file → (frame : StoreFrame) × HasStoreFrame (content_of old 0) file frame × SameHeld held frame
  second_same here file (inl same) = (held, subst (λ l. HasStoreFrame (content_of old 0) l held) (sym same) rests.frame, refl)
  second_same here file (inr blank) = (held, second_emptied (content_of old 0) (content_of old 1) file held rests.frame here blank, refl)

  first_same : IsIn 1 held → (file : List ℕ) → IsSameOrBlank (content_of old 0) file → (frame : StoreFrame) × HasStoreFrame file (content_of old 1) frame × SameHeld held frame
  first_same here file (inl same) = (held, subst (λ l. HasStoreFrame l (content_of old 1) held) (sym same) rests.frame, refl)
  first_same here file (inr blank) = (held, first_emptied (content_of old 0) (content_of old 1) file held rests.frame here blank, refl)

  -- at each moment
  same_throughout : (f : ℕ) → f < 2 → IsIn f held → (new : Past) → Throughout old new (Leaves (other_file f) (IsSameOrBlank (content_of old (other_file f))) old) → Throughout old new (Holds (SameHeld held) old)
  same_throughout zero low here new t = record {
    goes_on = t.goes_on;
    each = λ now on behind. second_touched held old now rests on (SameHeld held) (IsSameOrBlank (content_of old 1)) (second_same here) (t.each now on behind);
  }
  same_throughout (suc zero) low here new t = record {
    goes_on = t.goes_on;
    each = λ now on behind. first_touched held old now rests on (SameHeld held) (IsSameOrBlank (content_of old 0)) (first_same here) (t.each now on behind);
  }
  same_throughout (suc (suc f)) low here new t = absurd (omega arith)

  pub settled_of : (g : ℕ) → g < 2 → IsSettled g (content_of old g) old
  settled_of zero low = rests.first
  settled_of (suc zero) low = rests.second
  settled_of (suc (suc g)) low = absurd (omega arith)

-- as it reads
pub as_read : (f : ℕ) (bytes : List ℕ) (now : Past) → IsSettled f bytes now → IsSettled f (content_of now f) now
as_read f bytes now settled = record { content = refl; only = λ file image. settled.only file image ∙ sym settled.content }

-- both files are settled
pub resting : (held : StoreFrame) (first second : List ℕ) (now : Past) → IsSettled 0 first now → IsSettled 1 second now → HasStoreFrame first second held → Rests held now
resting held first second now a b frame = record {
  first = as_read 0 first now a;
  second = as_read 1 second now b;
  frame = subst (λ l. HasStoreFrame l (content_of now 1) held) (sym a.content) (subst (λ l. HasStoreFrame first l held) (sym b.content) frame);
}

module _ (held : StoreFrame) (old : Past) (rests : Rests held old) (f : ℕ) (low : f < 2) (here : IsIn f held) (framed : List ℕ) where
  abbrev other : List ℕ
  other = content_of old (other_file f)

  abbrev plan : List Step
  plan = prepare_steps old.device (other_file f) (is_blank other) (length other) framed

  other_low : other_file f < 2
  other_low = omega arith

  pub prepare_leaves : IsSafe (Leaves (other_file f) (IsSameOrBlank other) old) plan old
  prepare_leaves = changes_safe (other_file f) (IsSameOrBlank other) old (laying (is_blank other) (length other) framed) other old refl refl (settled_of held old rests (other_file f) other_low) (lay_keeps other framed)

  -- where all calls came through
  pub prepared_throughout : (new : Past) → new ≡ with_steps old plan → Throughout old new (Holds (SameHeld held) old)
  prepared_throughout new is = same_throughout held old rests f low here new (ran_safe _ plan old new prepare_leaves is)

  -- where one failed
  pub prepare_stopped_throughout : (calls at : ℕ) (new : Past) → StopsAt plan calls at old new → Throughout old new (Holds (SameHeld held) old)
  prepare_stopped_throughout calls at new stops = same_throughout held old rests f low here new (stops_safe _ plan calls at old new prepare_leaves stops)

  pub prepared_settled : (new : Past) → new ≡ with_steps old plan → IsSettled (other_file f) (0 ∷ framed) new
  prepared_settled new is =
      subst (IsSettled (other_file f) (0 ∷ framed)) (sym is) (subst (λ l. IsSettled (other_file f) l (with_steps old plan)) (laid other framed)
      (changes_settle (other_file f) (laying (is_blank other) (length other) framed) other old (settled_of held old rests (other_file f) other_low)))

pub zero_blank : (framed : List ℕ) → is_blank (0 ∷ framed) ≡ true
zero_blank framed = shut_blank (0 ∷ framed) (λ (e : ◌≡◌ {A = ℕ} 0 1). absurd (omega arith))

-- both files are settled after it, and hold what they held
pub prepared_rests : (held : StoreFrame) (old new : Past) → Rests held old → (f : ℕ) → f < 2 → IsIn f held → (framed : List ℕ)
    → new ≡ with_steps old (prepare_steps old.device (other_file f) (is_blank (content_of old (other_file f))) (length (content_of old (other_file f))) framed) → Rests held new
prepared_rests held old new rests zero low here framed is =
    let leaves = at_end old new _ (ran_safe _ _ old new (prepare_leaves held old rests 0 low here framed) is) in
    resting held (content_of old 0) (0 ∷ framed) new (own_settled 0 1 zero_one old new (_, is) leaves.others (content_of old 0) rests.first) (prepared_settled held old rests 0 low here framed new is)
    (second_emptied (content_of old 0) (content_of old 1) (0 ∷ framed) held rests.frame here (zero_blank framed))
prepared_rests held old new rests (suc zero) low here framed is =
    let leaves = at_end old new _ (ran_safe _ _ old new (prepare_leaves held old rests 1 low here framed) is) in
    resting held (0 ∷ framed) (content_of old 1) new (prepared_settled held old rests 1 low here framed new is) (own_settled 1 0 one_zero old new (_, is) leaves.others (content_of old 1) rests.second)
    (first_emptied (content_of old 0) (content_of old 1) (0 ∷ framed) held rests.frame here (zero_blank framed))
prepared_rests held old new rests (suc (suc f)) low here framed is = absurd (omega arith)

-- ---- the gate is opened

module _ (held : StoreFrame) (old : Past) (rests : Rests held old) (snapshot : List ℕ) (g : ℕ) (is : IsSnapshot snapshot g) where
  abbrev tail : List ℕ
  tail = framed snapshot ++ 0 ∷ []

  second_new : IsIn 0 held → IsOlder (content_of old 0) g → (file : List ℕ) → IsShutOrOpen tail file → (frame : StoreFrame) × HasStoreFrame (content_of old 0) file frame × IsOldOrNew held 1 snapshot frame
  second_new here older file (inl blank) = (held, second_emptied (content_of old 0) (content_of old 1) file held rests.frame here blank, inl refl)
  second_new here older file (inr open_) = (Store 1 snapshot [], subst (λ l. HasStoreFrame (content_of old 0) l (Store 1 snapshot [])) (sym open_) (second_published (content_of old 0) snapshot g is older), inr refl)

  first_new : IsIn 1 held → IsOlder (content_of old 1) g → (file : List ℕ) → IsShutOrOpen tail file → (frame : StoreFrame) × HasStoreFrame file (content_of old 1) frame × IsOldOrNew held 0 snapshot frame
  first_new here older file (inl blank) = (held, first_emptied (content_of old 0) (content_of old 1) file held rests.frame here blank, inl refl)
  first_new here older file (inr open_) = (Store 0 snapshot [], subst (λ l. HasStoreFrame l (content_of old 1) (Store 0 snapshot [])) (sym open_) (first_published (content_of old 1) snapshot g is older), inr refl)

  new_throughout : (f : ℕ) → f < 2 → IsIn f held → IsOlder (content_of old f) g → (new : Past) → Throughout old new (Leaves (other_file f) (IsShutOrOpen tail) old) → Throughout old new (Holds (IsOldOrNew held (other_file f) snapshot) old)
  new_throughout zero low here older new t = record {
    goes_on = t.goes_on;
    each = λ now on behind. second_touched held old now rests on (IsOldOrNew held 1 snapshot) (IsShutOrOpen tail) (second_new here older) (t.each now on behind);
  }
  new_throughout (suc zero) low here older new t = record {
    goes_on = t.goes_on;
    each = λ now on behind. first_touched held old now rests on (IsOldOrNew held 0 snapshot) (IsShutOrOpen tail) (first_new here older) (t.each now on behind);
  }
  new_throughout (suc (suc f)) low here older new t = absurd (omega arith)

  module _ (f : ℕ) (low : f < 2) (here : IsIn f held) (older : IsOlder (content_of old f) g) (prepared : IsSettled (other_file f) (0 ∷ frame_of snapshot) old) where
    pub publish_leaves : IsSafe (Leaves (other_file f) (IsShutOrOpen tail) old) (publish_steps old.device (other_file f)) old
    publish_leaves = changes_safe (other_file f) (IsShutOrOpen tail) old opening (0 ∷ tail) old refl refl prepared (open_keeps tail)

    pub published_throughout : (new : Past) → new ≡ with_steps old (publish_steps old.device (other_file f)) → Throughout old new (Holds (IsOldOrNew held (other_file f) snapshot) old)
    published_throughout new done = new_throughout f low here older new (ran_safe _ (publish_steps old.device (other_file f)) old new publish_leaves done)

    pub publish_stopped_throughout : (calls at : ℕ) (new : Past) → StopsAt (publish_steps old.device (other_file f)) calls at old new → Throughout old new (Holds (IsOldOrNew held (other_file f) snapshot) old)
    publish_stopped_throughout calls at new stops = new_throughout f low here older new (stops_safe _ (publish_steps old.device (other_file f)) calls at old new publish_leaves stops)

    pub published_settled : (new : Past) → new ≡ with_steps old (publish_steps old.device (other_file f)) → IsSettled (other_file f) (1 ∷ tail) new
    published_settled new done =
        subst (IsSettled (other_file f) (1 ∷ tail)) (sym done) (subst (λ l. IsSettled (other_file f) l (with_steps old (publish_steps old.device (other_file f)))) (opened tail)
        (changes_settle (other_file f) opening (0 ∷ tail) old prepared))

-- both files are settled after it, and hold the new store
pub published_rests : (held : StoreFrame) (old new : Past) → Rests held old → (snapshot : List ℕ) (g : ℕ) → IsSnapshot snapshot g → (f : ℕ) → f < 2 → IsIn f held → IsOlder (content_of old f) g → IsSettled (other_file f) (0 ∷ frame_of snapshot) old
    → new ≡ with_steps old (publish_steps old.device (other_file f)) → Rests (Store (other_file f) snapshot []) new
published_rests held old new rests snapshot g is zero low here older prepared done =
    let leaves = at_end old new _ (ran_safe _ _ old new (publish_leaves held old rests snapshot g is 0 low here older prepared) done) in
    resting (Store 1 snapshot []) (content_of old 0) (1 ∷ (framed snapshot ++ 0 ∷ [])) new (own_settled 0 1 zero_one old new (_, done) leaves.others (content_of old 0) rests.first)
    (published_settled held old rests snapshot g is 0 low here older prepared new done) (second_published (content_of old 0) snapshot g is older)
published_rests held old new rests snapshot g is (suc zero) low here older prepared done =
    let leaves = at_end old new _ (ran_safe _ _ old new (publish_leaves held old rests snapshot g is 1 low here older prepared) done) in
    resting (Store 0 snapshot []) (1 ∷ (framed snapshot ++ 0 ∷ [])) (content_of old 1) new (published_settled held old rests snapshot g is 1 low here older prepared new done)
    (own_settled 1 0 one_zero old new (_, done) leaves.others (content_of old 1) rests.second) (first_published (content_of old 1) snapshot g is older)
published_rests held old new rests snapshot g is (suc (suc f)) low here older prepared done = absurd (omega arith)
