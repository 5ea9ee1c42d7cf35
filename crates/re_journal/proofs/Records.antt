-- A file that reads up to one record more.
use Rattle.std.specs.List.{flat_map}
use Rattle.std.proofs.Common.{◌≡◌, ◌⊎◌, inl, inr, ℕ, ◌+◌, List, [], ◌∷◌, ◌++◌, length, sym, refl, ◌∙◌, ap, subst, append_assoc}
use Rattle.std.proofs.lemmas.List.{append-nil}
use Rattle.std.proofs.lemmas.List.Concat.{flat_map-append}
use Rattle.re_outside.specs.Frame.{IsRecordLength, AreRecords, opened, generation, front, MayOpen, ReadsTo}

-- one record more
pub all_records : (bodies : List (List ℕ)) (body : List ℕ) → AreRecords bodies → IsRecordLength (length body) → AreRecords (bodies ++ body ∷ [])
all_records [] body all fits = (fits, tt)
all_records (b ∷ bodies) body all fits = (all.0, all_records bodies body all.1 fits)

pub no_more : {X : Type 0} (r s : List X) (x : X) → r ++ x ∷ s ≡ [] → ⊥
no_more [] s x e = absurd (cc)
no_more (y ∷ r) s x e = absurd (cc)

-- a record of a list with one more at its end is that one, or one of the others
last_or_before : {X : Type 0} (xs r s : List X) (x y : X) → xs ++ x ∷ [] ≡ r ++ y ∷ s → (r ≡ xs) ⊎ ((t : List X) × (xs ≡ r ++ y ∷ t))
last_or_before [] [] s x y e = inl refl
last_or_before [] (z ∷ r) s x y e = absurd (no_more r s y (let tail : r ++ y ∷ s ≡ [] = cc in tail))
last_or_before (w ∷ xs) [] s x y e = inr (xs, (let head : w ≡ y = cc in ap (λ v. v ∷ xs) head))
last_or_before (w ∷ xs) (z ∷ r) s x y e =
    let head : w ≡ z = cc in
    let tail : xs ++ x ∷ [] ≡ r ++ y ∷ s = cc in
    elim (last_or_before xs r s x y tail) [
      | inl last ↦ inl (λ i. sym head i ∷ last i)
      | inr (t, is) ↦ inr (t, (λ i. head i ∷ is i))
    ]

pub front_more : (snapshot body : List ℕ) (bodies : List (List ℕ)) → front snapshot (bodies ++ body ∷ []) ≡ front snapshot bodies ++ opened body
front_more snapshot body bodies =
    ap (λ (l : List ℕ). opened snapshot ++ l) (flat_map-append opened bodies (body ∷ []) ∙ ap (λ (l : List ℕ). flat_map opened bodies ++ l) (append-nil (opened body)))
    ∙ sym (append_assoc (opened snapshot) (flat_map opened bodies) (opened body))

-- where an open gate and a record stand behind those that were read, it reads up to the gate behind that one
pub reads_more : (file snapshot body rest behind : List ℕ) (bodies : List (List ℕ)) → ReadsTo file snapshot bodies rest → IsRecordLength (length body) → MayOpen (generation snapshot) bodies → rest ≡ opened body ++ behind → ReadsTo file snapshot (bodies ++ body ∷ []) behind
reads_more file snapshot body rest behind bodies reads fits opens is = record {
  whole = reads.whole ∙ (ap (λ (l : List ℕ). front snapshot bodies ++ l) is ∙ (sym (append_assoc (front snapshot bodies) (opened body) behind) ∙ ap (λ (l : List ℕ). l ++ behind) (sym (front_more snapshot body bodies))));
  snapshot_length = reads.snapshot_length;
  generation_fits = reads.generation_fits;
  records = all_records bodies body reads.records fits;
  gates = λ b s x e. elim (last_or_before bodies b s body x e) [
    | inl last ↦ subst (MayOpen (generation snapshot)) (sym last) opens
    | inr (t, at) ↦ reads.gates b t x at
  ];
}
