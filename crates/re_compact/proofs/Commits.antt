-- What the two files hold while a record is committed to the journal's own one.
use Rattle.std.specs.Int.{w32, w64, to_be_bytes}
use Rattle.std.specs.List.{flat_map}
use Rattle.std.proofs.Common.{◌≡◌, ◌⊎◌, inl, inr, ℕ, zero, suc, ◌^◌, ◌<◌, List, [], ◌∷◌, ◌++◌, length, take, drop, refl, sym, ◌∙◌, ap, subst, arith, append_assoc, take-append-drop}
use Rattle.std.proofs.lemmas.List.{take-append-le}
use Rattle.std.proofs.Math.Seq.{take-append_seam}
use Rattle.re_outside.specs.Frame.{StoreFrame, Store, HasStoreFrame, HasFrame, HasGeneration, IsSnapshotLength, opened}
use Rattle.re_outside.specs.Moment.{Throughout, Leaves}
use Rattle.re_outside.specs.Trace.{Past, content_of}
use Rattle.re_outside.proofs.Frames.{split_length}
use Rattle.re_journal.specs.Journals.{HasAllOrOneMore}
use Rattle.re_compact.specs.Pair.{Holds, Rests}
use Rattle.re_compact.proofs.Crash.{first_touched, second_touched}

low_length : (n : ℕ) → IsSnapshotLength n → n < 2 ^ 32
low_length n fits = omega (arith, fits.1)

-- what stands behind the gate of a file with this snapshot
behind_gate : (file s : List ℕ) (bs : List (List ℕ)) (t : List ℕ) → file ≡ (opened s ++ flat_map opened bs) ++ t → file ≡ 1 ∷ (to_be_bytes w32 (length s) ++ (s ++ (flat_map opened bs ++ t)))
behind_gate file s bs t is = is ∙ (append_assoc (opened s) (flat_map opened bs) t ∙ ap (λ (l : List ℕ). 1 ∷ l) (append_assoc (to_be_bytes w32 (length s)) s (flat_map opened bs ++ t)))

-- a file with the snapshot of one that has a generation has that generation
same_generation : (a b s : List ℕ) (bs cs : List (List ℕ)) (g : ℕ) → HasGeneration a g → HasFrame a s bs → HasFrame b s cs → HasGeneration b g
same_generation a b s bs cs g (n, rest, is, fits, number) (t, reads, shut) (u, more, closed) =
    let tail = flat_map opened bs ++ t in
    let whole : 1 ∷ (to_be_bytes w32 n ++ (to_be_bytes w64 g ++ rest)) ≡ 1 ∷ (to_be_bytes w32 (length s) ++ (s ++ tail)) = sym is ∙ behind_gate a s bs t reads.whole in
    let body : to_be_bytes w32 n ++ (to_be_bytes w64 g ++ rest) ≡ to_be_bytes w32 (length s) ++ (s ++ tail) = ap (drop 1) whole in
    let parts = split_length n (length s) (to_be_bytes w64 g ++ rest) (s ++ tail) (low_length n fits) (low_length (length s) reads.snapshot_length) body in
    let first : take 8 s ≡ to_be_bytes w64 g = sym (take-append-le 8 s tail reads.snapshot_length.0) ∙ (ap (take 8) (sym parts.1) ∙ take-append_seam (to_be_bytes w64 g) rest) in
    let split : s ≡ to_be_bytes w64 g ++ drop 8 s = sym (take-append-drop 8 s) ∙ ap (λ (l : List ℕ). l ++ drop 8 s) first in
    let other = flat_map opened cs ++ u in (
      length s,
      drop 8 s ++ other,
      behind_gate b s cs u more.whole ∙ ap (λ (l : List ℕ). 1 ∷ (to_be_bytes w32 (length s) ++ l)) (ap (λ (l : List ℕ). l ++ other) split ∙ append_assoc (to_be_bytes w64 g) (drop 8 s) other),
      more.snapshot_length,
      number,
    )

-- file 0 with other records behind the same snapshot
pub first_with : (now : Past) (s own : List ℕ) (bs cs : List (List ℕ)) → HasStoreFrame (content_of now 0) (content_of now 1) (Store 0 s bs) → HasFrame own s cs → HasStoreFrame own (content_of now 1) (Store 0 s cs)
first_with now s own bs cs (file, inl (zero_is, at, g, has, older), frame) other =
    (own, inl (refl, refl, g, same_generation (content_of now 0) own s bs cs g has (subst (λ l. HasFrame l s bs) at frame) other, older), other)
first_with now s own bs cs (file, inr (one_is, at, g, has, older), frame) other = absurd (omega (arith, one_is))

-- the same of file 1
pub second_with : (now : Past) (s own : List ℕ) (bs cs : List (List ℕ)) → HasStoreFrame (content_of now 0) (content_of now 1) (Store 1 s bs) → HasFrame own s cs → HasStoreFrame (content_of now 0) own (Store 1 s cs)
second_with now s own bs cs (file, inr (one_is, at, g, has, older), frame) other =
    (own, inr (refl, refl, g, same_generation (content_of now 1) own s bs cs g has (subst (λ l. HasFrame l s bs) at frame) other, older), other)
second_with now s own bs cs (file, inl (zero_is, at, g, has, older), frame) other = absurd (omega (arith, zero_is))

-- the records that were there, or these and one more
abbrev pub IsAllOrOneMore : ℕ → List ℕ → List (List ℕ) → List ℕ → StoreFrame → Type 0
IsAllOrOneMore f s bs body frame = (frame ≡ Store f s bs) ⊎ (frame ≡ Store f s (bs ++ body ∷ []))

-- at each moment of a commit the two files hold the records that were there, or these and one more
pub commit_throughout : (f : ℕ) → f < 2 → (old new : Past) (s body : List ℕ) (bs : List (List ℕ)) → Rests (Store f s bs) old → Throughout old new (Leaves f (HasAllOrOneMore s bs body) old) → Throughout old new (Holds (IsAllOrOneMore f s bs body) old)
commit_throughout zero low old new s body bs rests t = record {
  goes_on = t.goes_on;
  each = λ now on behind. first_touched (Store 0 s bs) old now rests on (IsAllOrOneMore 0 s bs body) (HasAllOrOneMore s bs body) (λ file has. elim has [
    | inl all ↦ (Store 0 s bs, first_with old s file bs bs rests.frame all, inl refl)
    | inr one ↦ (Store 0 s (bs ++ body ∷ []), first_with old s file bs (bs ++ body ∷ []) rests.frame one, inr refl)
  ]) (t.each now on behind);
}
commit_throughout (suc zero) low old new s body bs rests t = record {
  goes_on = t.goes_on;
  each = λ now on behind. second_touched (Store 1 s bs) old now rests on (IsAllOrOneMore 1 s bs body) (HasAllOrOneMore s bs body) (λ file has. elim has [
    | inl all ↦ (Store 1 s bs, second_with old s file bs bs rests.frame all, inl refl)
    | inr one ↦ (Store 1 s (bs ++ body ∷ []), second_with old s file bs (bs ++ body ∷ []) rests.frame one, inr refl)
  ]) (t.each now on behind);
}
commit_throughout (suc (suc f)) low old new s body bs rests t = absurd (omega arith)
