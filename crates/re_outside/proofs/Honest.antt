-- What reads give is one of the things that a stop may leave.
use Rattle.std.proofs.Common.{◌≡◌, ◌⊎◌, inl, inr, ℕ, zero, suc, ◌+◌, ◌-◌, ◌<◌, ◌≤◌, min, Bool, true, false, ◌||◌, List, [], ◌∷◌, ◌++◌, length, slice_index, take, replicate, refl, sym, ◌∙◌, ap, subst, arith, length-append, length-take, get_or-take, get_or-drop}
use Rattle.std.proofs.lemmas.Bool.Decides.{nat_tests, leb_tells}
use Rattle.std.proofs.lemmas.List.{get_or_append_left, get_or-append_right}
use Rattle.re_outside.specs.FileAct.{FileAct, Wrote, CutTo, Synced, WriteFailed, CutFailed, SyncFailed}
use Rattle.re_outside.specs.Image.{is_sync, after, content, up_to_sync, since_sync, write_end, is_in_write, is_written_by, is_written, IsUnsyncedImage, IsCrashImage, IsTorn, written, IsHonest, AreHonest}
use Rattle.re_outside.proofs.Images.{content-append, content_since, upto_since, least_content, greatest_content, length-written, written_inside, least-snoc, greatest-snoc, is_written-snoc, up_to_sync-other, since_sync-other, up_to_sync-sync, since_sync-sync}

outside : (size at n i : ℕ) → is_in_write size at n i ≡ false → (i < min at size) ⊎ (write_end at n ≤ i)
outside size at n i e = grind (arith, nat_tests)

-- a write of some of the bytes is a torn one
pub written_torn : (old : List ℕ) (at : ℕ) (bytes : List ℕ) (n : ℕ) → length bytes ≤ n → IsTorn (length old) at n old (written old at bytes)
written_torn old at [] n fits = record { no_shorter = omega arith; no_longer = omega arith; kept = λ i h out. refl }
written_torn old at (b ∷ bytes) zero fits = absurd (omega arith)
written_torn old at (b ∷ bytes) (suc n) fits =
    let long = length-written old at b bytes in
    record {
      no_shorter = omega arith;
      no_longer = omega arith;
      kept = λ i h out. kept i h (outside (length old) at (suc n) i out);
    }
  where
    kept : (i : ℕ) → i < length old → (i < min at (length old)) ⊎ (write_end at (suc n) ≤ i) → slice_index (written old at (b ∷ bytes)) i ≡ slice_index old i
    kept i h (inl low) =
        get_or_append_left (take at old ++ (replicate (at - length old) 0 ++ (b ∷ bytes))) _ 0 i (simp (length-append, length-take) (omega arith))
        ∙ (get_or_append_left (take at old) _ 0 i (simp length-take (omega arith)) ∙ get_or-take at old i 0 (omega arith))
    kept i h (inr high) =
        let n = length (b ∷ bytes) in
        ap (λ l. slice_index l i) (written_inside old at (b ∷ bytes) (omega arith))
        ∙ (get_or-append_right (take at old) _ at i 0 (simp length-take (omega arith)) (omega arith)
        ∙ (get_or-append_right (b ∷ bytes) _ n (i - at) 0 refl (omega arith)
        ∙ (get_or-drop (at + n) old (i - at - n) 0 ∙ ap (slice_index old) (omega arith))))

either : (b c : Bool) → (b || c) ≡ false → (b ≡ false) × (c ≡ false)
either true c e = absurd (cc)
either false c e = (refl, e)

-- one act
torn_past : (now : List ℕ) (at n i : ℕ) (new : List ℕ) → IsTorn (length now) at n now new → length now ≤ i → is_in_write (length now) at n i ≡ false → length new ≤ i
torn_past now at n i new torn past out = elim (outside (length now) at n i out) [
  | inl low ↦ omega arith
  | inr high ↦ omega (arith, torn.no_longer)
]

act_past : (now : List ℕ) (a : FileAct) (i : ℕ) → IsHonest now a → length now ≤ i → is_written_by now a i ≡ false → length (after now a) ≤ i
act_past now (Wrote at bytes) i honest past out = torn_past now at (length bytes) i (written now at bytes) (written_torn now at bytes (length bytes) (omega arith)) past out
act_past now (CutTo n) i honest past out = simp length-take (omega arith)
act_past now Synced i honest past out = past
act_past now (WriteFailed at bytes left) i honest past out = torn_past now at (length bytes) i left honest past out
act_past now (CutFailed n left) i honest past out = omega (arith, simp length-take at (ap length honest.front))
act_past now SyncFailed i honest past out = past

act_kept : (now : List ℕ) (a : FileAct) (i : ℕ) → IsHonest now a → i < length now → i < length (after now a) → is_written_by now a i ≡ false → slice_index (after now a) i ≡ slice_index now i
act_kept now (Wrote at bytes) i honest within there out = (written_torn now at bytes (length bytes) (omega arith)).kept i within out
act_kept now (CutTo n) i honest within there out = get_or-take n now i 0 (omega (arith, length-take n now))
act_kept now Synced i honest within there out = refl
act_kept now (WriteFailed at bytes left) i honest within there out = honest.kept i within out
act_kept now (CutFailed n left) i honest within there out = ap (λ l. slice_index l i) honest.front ∙ get_or-take (length left) now i 0 there
act_kept now SyncFailed i honest within there out = refl

past_end : (start : List ℕ) (acts : List FileAct) (i : ℕ) → AreHonest start acts → length start ≤ i → is_written start acts i ≡ false → length (content start acts) ≤ i
past_end start [] i honest past out = past
past_end start (a ∷ acts) i honest past out =
    let none = either (is_written_by start a i) (is_written (after start a) acts i) out in
    past_end (after start a) acts i honest.1 (act_past start a i honest.0 past none.0) none.1

kept_byte : (start : List ℕ) (acts : List FileAct) (i : ℕ) → AreHonest start acts → i < length start → i < length (content start acts) → is_written start acts i ≡ false → slice_index (content start acts) i ≡ slice_index start i
kept_byte start [] i honest within there out = refl
kept_byte start (a ∷ acts) i honest within there out =
    let none = either (is_written_by start a i) (is_written (after start a) acts i) out in
    let inside : i < length (after start a) = elim (leb_tells (length (after start a)) i) [
      | inl short ↦ absurd (omega (arith, past_end (after start a) acts i honest.1 short.1 none.1))
      | inr long ↦ long.1
    ] in
    kept_byte (after start a) acts i honest.1 inside there none.1 ∙ act_kept start a i honest.0 within inside none.0

content_left : (start : List ℕ) (acts : List FileAct) → AreHonest start acts → IsUnsyncedImage start acts (content start acts)
content_left start acts honest = record { no_shorter = least_content start acts; no_longer = greatest_content start acts; kept = λ i within there out. kept_byte start acts i honest within there out }

honest_behind : (start : List ℕ) (acts more : List FileAct) → AreHonest start (acts ++ more) → AreHonest (content start acts) more
honest_behind start [] more honest = honest
honest_behind start (a ∷ acts) more honest = honest_behind (after start a) acts more honest.1

-- what reads give is an image
pub reads_image : (start : List ℕ) (acts : List FileAct) → AreHonest start acts → IsCrashImage start acts (content start acts)
reads_image start acts honest =
    subst (IsUnsyncedImage (content start (up_to_sync acts)) (since_sync acts)) (content_since start acts)
    (content_left (content start (up_to_sync acts)) (since_sync acts) (honest_behind start (up_to_sync acts) (since_sync acts) (subst (AreHonest start) (sym (upto_since acts)) honest)))

pub honest_more : (start : List ℕ) (acts more : List FileAct) → AreHonest start acts → AreHonest (content start acts) more → AreHonest start (acts ++ more)
honest_more start [] more honest then = then
honest_more start (a ∷ acts) more honest then = (honest.0, honest_more (after start a) acts more honest.1 then)

-- ---- one act more

left_more : (start : List ℕ) (acts : List FileAct) (a : FileAct) → IsHonest (content start acts) a → IsUnsyncedImage start acts (content start acts) → IsUnsyncedImage start (acts ++ a ∷ []) (after (content start acts) a)
left_more start acts a honest left =
    let now = content start acts in
    record {
      no_shorter = omega (arith, least-snoc start acts a);
      no_longer = omega (arith, greatest-snoc start acts a);
      kept = λ i within there out.
          let none = either (is_written start acts i) (is_written_by now a i) (sym (is_written-snoc start acts a i) ∙ out) in
          elim (leb_tells (length now) i) [
            | inl past ↦ absurd (omega (arith, act_past now a i honest past.1 none.1))
            | inr here ↦ act_kept now a i honest here.1 there none.1 ∙ left.kept i within here.1 none.0
          ];
    }

image_other : (start : List ℕ) (acts : List FileAct) (a : FileAct) → is_sync a ≡ false → IsHonest (content start acts) a → IsCrashImage start acts (content start acts) → IsCrashImage start (acts ++ a ∷ []) (content start (acts ++ a ∷ []))
image_other start acts a other honest image =
    let synced = content start (up_to_sync acts) in
    let now : content synced (since_sync acts) ≡ content start acts = content_since start acts in
    let more : IsUnsyncedImage synced (since_sync acts ++ a ∷ []) (after (content synced (since_sync acts)) a) =
    left_more synced (since_sync acts) a (subst (λ c. IsHonest c a) (sym now) honest) (subst (IsUnsyncedImage synced (since_sync acts)) (sym now) image) in
    let at : IsUnsyncedImage synced (since_sync acts ++ a ∷ []) (content start (acts ++ a ∷ [])) = subst (IsUnsyncedImage synced (since_sync acts ++ a ∷ [])) (ap (λ c. after c a) now ∙ sym (content-append start acts (a ∷ []))) more in
    subst (λ (l : List FileAct). IsUnsyncedImage (content start l) (since_sync (acts ++ a ∷ [])) (content start (acts ++ a ∷ []))) (sym (up_to_sync-other acts a other))
    (subst (λ (l : List FileAct). IsUnsyncedImage synced l (content start (acts ++ a ∷ []))) (sym (since_sync-other acts a other)) at)

pub image_next : (start : List ℕ) (acts : List FileAct) (a : FileAct) → IsHonest (content start acts) a → IsCrashImage start acts (content start acts) → IsCrashImage start (acts ++ a ∷ []) (content start (acts ++ a ∷ []))
image_next start acts (Wrote at bytes) honest image = image_other start acts (Wrote at bytes) refl honest image
image_next start acts (CutTo n) honest image = image_other start acts (CutTo n) refl honest image
image_next start acts Synced honest image =
    let done = content start (acts ++ Synced ∷ []) in
    let trivial : IsUnsyncedImage done [] done = record { no_shorter = omega arith; no_longer = omega arith; kept = λ i within there out. refl } in
    subst (λ (l : List FileAct). IsUnsyncedImage (content start l) (since_sync (acts ++ Synced ∷ [])) done) (sym (up_to_sync-sync acts)) (subst (λ (l : List FileAct). IsUnsyncedImage done l done) (sym (since_sync-sync acts)) trivial)
image_next start acts (WriteFailed at bytes left) honest image = image_other start acts (WriteFailed at bytes left) refl honest image
image_next start acts (CutFailed n left) honest image = image_other start acts (CutFailed n left) refl honest image
image_next start acts SyncFailed honest image = image_other start acts SyncFailed refl honest image
