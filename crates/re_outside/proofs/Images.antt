-- How what a stop may leave with_steps on with one act more.
use Rattle.std.proofs.Common.{append_assoc, ◌-◌, replicate, take-append-drop, add-zero, drop, ◌≡◌, ℕ, ◌+◌, ◌<◌, ◌≤◌, min, max, Bool, true, false, ◌||◌, List, [], ◌∷◌, ◌++◌, length, slice_index, map, take, length-take, length-drop, get_or-take, refl, sym, ◌∙◌, ap, subst, arith, length-append, inl, inr}
use Rattle.std.specs.Prelude.{nat_le, if◌then◌else◌}
use Rattle.std.specs.List.{list_any, range_with_len}
use Rattle.std.proofs.lemmas.List.{ext_get_or, length-replicate}
use Rattle.std.proofs.lemmas.List.Folds.{list_any-append}
use Rattle.std.proofs.lemmas.List.FromFn.{length-map-range_with_len, get_or-map-range_with_len}
use Rattle.std.proofs.lemmas.Bool.Decides.{nat_tests, leb_tells}
use Rattle.re_outside.specs.FileAct.{FileAct, Wrote, CutTo, Synced, WriteFailed, CutFailed, SyncFailed}
use Rattle.re_outside.specs.Image.{after, content, is_sync, up_to_sync, since_sync, asked_length, least_length, greatest_length, is_written_by, is_written, IsUnsyncedImage, IsCrashImage, IsChanged, IsTorn, IsCutShort, written, is_in_write, write_end}

pub content-append : (start : List ℕ) (acts more : List FileAct) → content start (acts ++ more) ≡ content (content start acts) more
content-append start [] more = refl
content-append start (a ∷ acts) more = content-append (after start a) acts more

-- ---- the last sync

has_sync-snoc : (acts : List FileAct) (a : FileAct) → list_any is_sync (acts ++ a ∷ []) ≡ (list_any is_sync acts || is_sync a)
has_sync-snoc acts a = list_any-append is_sync acts (a ∷ []) ∙ ap (λ b. list_any is_sync acts || b) (or_false (is_sync a))
  where
    or_false : (b : Bool) → (b || false) ≡ b
    or_false true = refl
    or_false false = refl

or_same : (b c : Bool) → c ≡ false → (b || c) ≡ b
or_same true c e = refl
or_same false c e = e

or_true : (b c : Bool) → c ≡ true → (b || c) ≡ true
or_true true c e = refl
or_true false c e = e

pub since_sync-other : (acts : List FileAct) (a : FileAct) → is_sync a ≡ false → since_sync (acts ++ a ∷ []) ≡ since_sync acts ++ a ∷ []
since_sync-other [] a other = ap (λ b. if b || false then [] else a ∷ []) other
since_sync-other (b ∷ acts) a other =
    ap (λ c. if is_sync b || c then since_sync (acts ++ a ∷ []) else b ∷ (acts ++ a ∷ [])) (has_sync-snoc acts a ∙ or_same _ _ other)
    ∙ push_if (is_sync b || list_any is_sync acts) (since_sync-other acts a other)
  where
    push_if : (c : Bool) → since_sync (acts ++ a ∷ []) ≡ since_sync acts ++ a ∷ [] → (if c then since_sync (acts ++ a ∷ []) else b ∷ (acts ++ a ∷ [])) ≡ (if c then since_sync acts else b ∷ acts) ++ a ∷ []
    push_if true e = e
    push_if false e = refl

pub up_to_sync-other : (acts : List FileAct) (a : FileAct) → is_sync a ≡ false → up_to_sync (acts ++ a ∷ []) ≡ up_to_sync acts
up_to_sync-other [] a other = ap (λ b. if b || false then a ∷ [] else []) other
up_to_sync-other (b ∷ acts) a other =
    ap (λ c. if is_sync b || c then b ∷ up_to_sync (acts ++ a ∷ []) else []) (has_sync-snoc acts a ∙ or_same _ _ other)
    ∙ ap (λ (l : List FileAct). if is_sync b || list_any is_sync acts then b ∷ l else []) (up_to_sync-other acts a other)

pub since_sync-sync : (acts : List FileAct) → since_sync (acts ++ Synced ∷ []) ≡ []
since_sync-sync [] = refl
since_sync-sync (b ∷ acts) =
    ap (λ c. if c then since_sync (acts ++ Synced ∷ []) else b ∷ (acts ++ Synced ∷ [])) (or_true (is_sync b) _ (has_sync-snoc acts Synced ∙ or_true _ _ refl))
    ∙ since_sync-sync acts

pub up_to_sync-sync : (acts : List FileAct) → up_to_sync (acts ++ Synced ∷ []) ≡ acts ++ Synced ∷ []
up_to_sync-sync [] = refl
up_to_sync-sync (b ∷ acts) =
    ap (λ c. if c then b ∷ up_to_sync (acts ++ Synced ∷ []) else []) (or_true (is_sync b) _ (has_sync-snoc acts Synced ∙ or_true _ _ refl))
    ∙ ap (λ (l : List FileAct). b ∷ l) (up_to_sync-sync acts)

pub upto_since : (acts : List FileAct) → up_to_sync acts ++ since_sync acts ≡ acts
upto_since [] = refl
upto_since (a ∷ acts) = parts (list_any is_sync (a ∷ acts)) (upto_since acts)
  where
    parts : (b : Bool) → up_to_sync acts ++ since_sync acts ≡ acts → (if b then a ∷ up_to_sync acts else []) ++ (if b then since_sync acts else a ∷ acts) ≡ a ∷ acts
    parts true e = ap (λ (l : List FileAct). a ∷ l) e
    parts false e = refl

pub content_since : (start : List ℕ) (acts : List FileAct) → content (content start (up_to_sync acts)) (since_sync acts) ≡ content start acts
content_since start acts = sym (content-append start (up_to_sync acts) (since_sync acts)) ∙ ap (content start) (upto_since acts)

-- ---- the lengths and the places written

pub least-snoc : (start : List ℕ) (acts : List FileAct) (a : FileAct) → least_length start (acts ++ a ∷ []) ≡ min (least_length start acts) (min (asked_length (content start acts) a) (length (after (content start acts) a)))
least-snoc start [] a = omega arith
least-snoc start (b ∷ acts) a = omega (arith, least-snoc (after start b) acts a)

pub greatest-snoc : (start : List ℕ) (acts : List FileAct) (a : FileAct) → greatest_length start (acts ++ a ∷ []) ≡ max (greatest_length start acts) (max (asked_length (content start acts) a) (length (after (content start acts) a)))
greatest-snoc start [] a = omega arith
greatest-snoc start (b ∷ acts) a = omega (arith, greatest-snoc (after start b) acts a)

pub least_content : (start : List ℕ) (acts : List FileAct) → least_length start acts ≤ length (content start acts)
least_content start [] = omega arith
least_content start (b ∷ acts) = omega (arith, least_content (after start b) acts)

pub greatest_content : (start : List ℕ) (acts : List FileAct) → length (content start acts) ≤ greatest_length start acts
greatest_content start [] = omega arith
greatest_content start (b ∷ acts) = omega (arith, greatest_content (after start b) acts)

pub is_written-snoc : (start : List ℕ) (acts : List FileAct) (a : FileAct) (i : ℕ) → is_written start (acts ++ a ∷ []) i ≡ (is_written start acts i || is_written_by (content start acts) a i)
is_written-snoc start [] a i = or_false (is_written_by start a i)
  where
    or_false : (b : Bool) → (b || false) ≡ b
    or_false true = refl
    or_false false = refl
is_written-snoc start (b ∷ acts) a i = ap (λ c. is_written_by start b i || c) (is_written-snoc (after start b) acts a i) ∙ or_assoc (is_written_by start b i) _ _
  where
    or_assoc : (x y z : Bool) → (x || (y || z)) ≡ ((x || y) || z)
    or_assoc true y z = refl
    or_assoc false y z = refl

-- ---- one act more

old_byte : (written : Bool) (size i new old : ℕ) → written ≡ false → i < size → (if written || nat_le size i then new else old) ≡ old
old_byte true size i new old none within = grind (arith, nat_tests)
old_byte false size i new old none within = grind (arith, nat_tests)

same_byte : (written : Bool) (size i new old : ℕ) → (written ≡ false → i < size → new ≡ old) → new ≡ (if written || nat_le size i then new else old)
same_byte true size i new old same = refl
same_byte false size i new old same = elim (leb_tells size i) [
  | inl past ↦ grind (arith, nat_tests)
  | inr within ↦ let e = same refl within.1 in grind (arith, nat_tests)
]

module _ (start : List ℕ) (acts : List FileAct) (a : FileAct) (file : List ℕ) (left : IsUnsyncedImage start (acts ++ a ∷ []) file) where
  byte_before : ℕ → ℕ
  byte_before i = if is_written start acts i || nat_le (length start) i then slice_index file i else slice_index start i

  size_before : ℕ
  size_before = max (least_length start acts) (min (length file) (greatest_length start acts))

  file_before : List ℕ
  file_before = map byte_before (range_with_len 0 size_before)

  length-file_before : length file_before ≡ size_before
  unfolding file_before
  length-file_before = length-map-range_with_len byte_before 0 size_before

  file_before-at : (i : ℕ) → i < size_before → slice_index file_before i ≡ byte_before i
  unfolding file_before
  file_before-at i h = get_or-map-range_with_len byte_before 0 size_before i i 0 h (omega arith)

  before_left : IsUnsyncedImage start acts file_before
  unfolding size_before byte_before
  before_left = record {
    no_shorter = omega (arith, length-file_before);
    no_longer = omega (arith, length-file_before, least_content start acts, greatest_content start acts);
    kept = λ i here there unwritten. file_before-at i (omega (arith, length-file_before)) ∙ old_byte (is_written start acts i) (length start) i _ _ unwritten here;
  }

  before_changed : IsChanged (content start acts) a file_before file
  unfolding size_before byte_before
  before_changed = record {
    no_shorter = omega (arith, length-file_before, least-snoc start acts a, left.no_shorter);
    no_longer = omega (arith, length-file_before, greatest-snoc start acts a, left.no_longer);
    above = omega (arith, length-file_before, greatest_content start acts);
    below = omega (arith, length-file_before, least_content start acts);
    kept = λ i here there unwritten.
        same_byte (is_written start acts i) (length start) i _ _ (λ none within. left.kept i within there (is_written-snoc start acts a i ∙ ap (λ b. b || is_written_by (content start acts) a i) none ∙ unwritten))
        ∙ sym (file_before-at i (omega (arith, length-file_before)));
  }

  -- what a stop may leave now is what one might have left before, changed by the act
  pub one_more : (old : List ℕ) × IsUnsyncedImage start acts old × IsChanged (content start acts) a old file
  one_more = (file_before, before_left, before_changed)

-- ---- images

pub image_act : (start : List ℕ) (acts : List FileAct) (a : FileAct) (file : List ℕ) → is_sync a ≡ false → IsCrashImage start (acts ++ a ∷ []) file → (old : List ℕ) × IsCrashImage start acts old × IsChanged (content start acts) a old file
image_act start acts a file other image =
    let synced = content start (up_to_sync acts) in
    let left : IsUnsyncedImage synced (since_sync acts ++ a ∷ []) file =
    subst (λ (l : List FileAct). IsUnsyncedImage (content start l) (since_sync acts ++ a ∷ []) file) (up_to_sync-other acts a other)
    (subst (λ (l : List FileAct). IsUnsyncedImage (content start (up_to_sync (acts ++ a ∷ []))) l file) (since_sync-other acts a other) image) in
    let more = one_more synced (since_sync acts) a file left in
    (more.0, more.1, subst (λ now. IsChanged now a more.0 file) (content_since start acts) more.2)

left_nothing : (start file : List ℕ) → IsUnsyncedImage start [] file → file ≡ start
left_nothing start file left =
    ext_get_or 0 file start (omega (arith, left.no_shorter, left.no_longer)) (λ i within. left.kept i (omega (arith, left.no_shorter, left.no_longer)) within refl)

-- after a successful sync what reads give is all that a stop may leave
pub image_sync : (start : List ℕ) (acts : List FileAct) (file : List ℕ) → IsCrashImage start (acts ++ Synced ∷ []) file → file ≡ content start acts
image_sync start acts file image =
    let left : IsUnsyncedImage (content start (acts ++ Synced ∷ [])) [] file =
    subst (λ (l : List FileAct). IsUnsyncedImage (content start l) [] file) (up_to_sync-sync acts)
    (subst (λ (l : List FileAct). IsUnsyncedImage (content start (up_to_sync (acts ++ Synced ∷ []))) l file) (since_sync-sync acts) image) in
    left_nothing _ _ left ∙ content-append start acts (Synced ∷ [])

pub image_start : (start file : List ℕ) → IsCrashImage start [] file → file ≡ start
image_start start file image = left_nothing start file image

-- ---- each act

pub length-written : (old : List ℕ) (at b : ℕ) (bytes : List ℕ) → length (written old at (b ∷ bytes)) ≡ max (length old) (at + length (b ∷ bytes))
length-written old at b bytes = simp (length-append, length-take, length-drop, length-replicate) (omega arith)

-- a write that begins within the file
pub written_inside : (old : List ℕ) (at : ℕ) (bytes : List ℕ) → at ≤ length old → written old at bytes ≡ take at old ++ (bytes ++ drop (at + length bytes) old)
written_inside old at [] within = sym (take-append-drop at old) ∙ ap (λ n. take at old ++ drop n old) (sym (add-zero at))
written_inside old at (b ∷ bytes) within =
    let none : at - length old ≡ 0 = omega arith in
    ap (λ n. take at old ++ (replicate n 0 ++ (b ∷ bytes)) ++ drop (at + length (b ∷ bytes)) old) none ∙ append_assoc (take at old) (b ∷ bytes) _

torn : (now : List ℕ) (at n : ℕ) (a : FileAct) (old new : List ℕ) → IsChanged now a old new → length now ≤ asked_length now a → length now ≤ length (after now a)
    → asked_length now a ≤ max (length now) (write_end at n) → length (after now a) ≤ max (length now) (write_end at n) → ((i : ℕ) → is_written_by now a i ≡ is_in_write (length now) at n i) → IsTorn (length now) at n old new
torn now at n a old new changed asks grows asks_no_more grows_no_more same = record {
  no_shorter = omega (arith, changed.no_shorter, changed.below);
  no_longer = omega (arith, changed.no_longer, changed.above);
  kept = λ i here outside. changed.kept i here (omega (arith, changed.no_shorter, changed.below)) (same i ∙ outside);
}

pub wrote : (now : List ℕ) (at : ℕ) (bytes old new : List ℕ) → IsChanged now (Wrote at bytes) old new → IsTorn (length now) at (length bytes) old new
wrote now at [] old new changed = torn now at 0 (Wrote at []) old new changed (omega arith) (omega arith) (omega arith) (omega arith) (λ i. refl)
wrote now at (b ∷ bytes) old new changed =
    let long = length-written now at b bytes in
    torn now at (length (b ∷ bytes)) (Wrote at (b ∷ bytes)) old new changed (omega arith) (omega arith) (omega arith) (omega arith) (λ i. refl)

pub write_failed : (now : List ℕ) (at : ℕ) (bytes left old new : List ℕ) → IsTorn (length now) at (length bytes) now left → IsChanged now (WriteFailed at bytes left) old new → IsTorn (length now) at (length bytes) old new
write_failed now at [] left old new honest changed = torn now at 0 (WriteFailed at [] left) old new changed (omega arith) (omega (arith, honest.no_shorter)) (omega arith) (omega (arith, honest.no_longer)) (λ i. refl)
write_failed now at (b ∷ bytes) left old new honest changed =
    let long = length-written now at b bytes in
    torn now at (length (b ∷ bytes)) (WriteFailed at (b ∷ bytes) left) old new changed (omega arith) (omega (arith, honest.no_shorter)) (omega arith) (omega (arith, honest.no_longer)) (λ i. refl)

cut_short : (now : List ℕ) (n : ℕ) (a : FileAct) (old new : List ℕ) → IsChanged now a old new → asked_length now a ≡ min n (length now) → min n (length now) ≤ length (after now a) → length (after now a) ≤ length now
    → ((i : ℕ) → is_written_by now a i ≡ false) → IsCutShort n old new
cut_short now n a old new changed asks low high none =
    let no_longer : length new ≤ length old = omega (arith, changed.no_longer, changed.above) in
    record {
      no_shorter = omega (arith, changed.no_shorter, changed.below);
      front = ext_get_or 0 new (take (length new) old) (simp length-take (omega arith)) (λ i within. changed.kept i (omega arith) within (none i) ∙ sym (get_or-take (length new) old i 0 within));
    }

pub cut_done : (now : List ℕ) (n : ℕ) (old new : List ℕ) → IsChanged now (CutTo n) old new → IsCutShort n old new
cut_done now n old new changed = cut_short now n (CutTo n) old new changed refl (simp length-take (omega arith)) (simp length-take (omega arith)) (λ i. refl)

pub cut_failed : (now : List ℕ) (n : ℕ) (left old new : List ℕ) → IsCutShort n now left → IsChanged now (CutFailed n left) old new → IsCutShort n old new
cut_failed now n left old new honest changed =
    let long : length left ≤ length now = omega (arith, simp length-take at (ap length honest.front)) in
    cut_short now n (CutFailed n left) old new changed refl honest.no_shorter long (λ i. refl)

pub sync_failed : (now old new : List ℕ) → IsChanged now SyncFailed old new → new ≡ old
sync_failed now old new changed =
    let same : length new ≡ length old = omega (arith, changed.no_shorter, changed.no_longer, changed.above, changed.below) in
    ext_get_or 0 new old same (λ i within. changed.kept i (omega arith) within refl)
