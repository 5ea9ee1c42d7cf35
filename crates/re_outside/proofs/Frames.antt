-- A file has one frame, or it is refused at one place.
use Rattle.std.specs.Int.{w32, w64, to_be_bytes, from_be_bytes}
use Rattle.std.specs.List.{flat_map}
use Rattle.std.proofs.Common.{◌≡◌, ◌⊎◌, inl, inr, ℕ, ◌+◌, ◌^◌, ◌<◌, List, [], ◌∷◌, ◌++◌, length, refl, sym, ◌∙◌, ap, subst, arith, append_assoc, length-append}
use Rattle.std.proofs.lemmas.List.{append-nil}
use Rattle.std.proofs.lemmas.Nat.{from_be_bytes-to_be_bytes_4, from_be_bytes-to_be_bytes_8}
use Rattle.re_outside.specs.Frame.{IsSnapshotLength, IsRecordLength, AreRecords, framed, opened, IsCutOff, IsRefusedBody, generation, front, MayOpen, ReadsTo, IsClosed, IsRefusedGate, HasFrame, HasBadFrame}

-- ---- parts of one list

-- of equal lists the fronts of one length are equal, and what stands behind them
pub split : (a b r s : List ℕ) → length a ≡ length b → a ++ r ≡ b ++ s → (a ≡ b) × (r ≡ s)
split [] [] r s l e = (refl, e)
split [] (y ∷ b) r s l e = absurd (omega (arith, l))
split (x ∷ a) [] r s l e = absurd (omega (arith, l))
split (x ∷ a) (y ∷ b) r s l e =
    let head : x ≡ y = cc in
    let tail : a ++ r ≡ b ++ s = cc in
    let more = split a b r s (omega (arith, l)) tail in
    ((λ i. head i ∷ more.0 i), more.1)

-- the same of two numbers of four bytes
pub split_length : (n m : ℕ) (r s : List ℕ) → n < 2 ^ 32 → m < 2 ^ 32 → to_be_bytes w32 n ++ r ≡ to_be_bytes w32 m ++ s → (n ≡ m) × (r ≡ s)
split_length n m r s low high e =
    let parts = split (to_be_bytes w32 n) (to_be_bytes w32 m) r s refl e in
    (sym (from_be_bytes-to_be_bytes_4 n low) ∙ (ap (from_be_bytes w32) parts.0 ∙ from_be_bytes-to_be_bytes_4 m high), parts.1)

-- the same of two numbers of eight bytes
pub split_generation : (n m : ℕ) (r s : List ℕ) → n < 2 ^ 64 → m < 2 ^ 64 → to_be_bytes w64 n ++ r ≡ to_be_bytes w64 m ++ s → (n ≡ m) × (r ≡ s)
split_generation n m r s low high e =
    let parts = split (to_be_bytes w64 n) (to_be_bytes w64 m) r s refl e in
    (sym (from_be_bytes-to_be_bytes_8 n low) ∙ (ap (from_be_bytes w64) parts.0 ∙ from_be_bytes-to_be_bytes_8 m high), parts.1)

-- the same of two bodies with their lengths
pub split_body : (b c r s : List ℕ) → length b < 2 ^ 32 → length c < 2 ^ 32 → framed b ++ r ≡ framed c ++ s → (b ≡ c) × (r ≡ s)
split_body b c r s low high e =
    let parts = split_length (length b) (length c) (b ++ r) (c ++ s) low high (sym (append_assoc (to_be_bytes w32 (length b)) b r) ∙ (e ∙ append_assoc (to_be_bytes w32 (length c)) c s)) in
    split b c r s parts.0 parts.1

-- ---- records

short_record : (n : ℕ) → IsRecordLength n → n < 2 ^ 32
short_record n fits = omega (arith, fits.1)

short_snapshot : (n : ℕ) → IsSnapshotLength n → n < 2 ^ 32
short_snapshot n fits = omega (arith, fits.1)

record_at : (before behind : List (List ℕ)) (body : List ℕ) → AreRecords (before ++ body ∷ behind) → IsRecordLength (length body)
record_at [] behind body all = all.0
record_at (b ∷ before) behind body all = record_at before behind body all.1

-- what stands behind some records, with one more in front
one_more : (b : List ℕ) (bs : List (List ℕ)) (t : List ℕ) → flat_map opened (b ∷ bs) ++ t ≡ 1 ∷ (framed b ++ (flat_map opened bs ++ t))
one_more b bs t = append_assoc (opened b) (flat_map opened bs) t

-- of two lists of records in front of one list, one is a front of the other
abbrev pub IsFrontOf : List (List ℕ) → List (List ℕ) → List ℕ → List ℕ → Type 0
IsFrontOf bs cs t u = (more : List (List ℕ)) × (cs ≡ bs ++ more) × (t ≡ flat_map opened more ++ u)

compare : (bs cs : List (List ℕ)) (t u : List ℕ) → AreRecords bs → AreRecords cs → flat_map opened bs ++ t ≡ flat_map opened cs ++ u → IsFrontOf bs cs t u ⊎ IsFrontOf cs bs u t
compare [] cs t u p q e = inl (cs, refl, e)
compare (b ∷ bs) [] t u p q e = inr (b ∷ bs, refl, sym e)
compare (b ∷ bs) (c ∷ cs) t u p q e =
    let same : 1 ∷ (framed b ++ (flat_map opened bs ++ t)) ≡ 1 ∷ (framed c ++ (flat_map opened cs ++ u)) = sym (one_more b bs t) ∙ (e ∙ one_more c cs u) in
    let tail : framed b ++ (flat_map opened bs ++ t) ≡ framed c ++ (flat_map opened cs ++ u) = cc in
    let parts = split_body b c (flat_map opened bs ++ t) (flat_map opened cs ++ u) (short_record (length b) p.0) (short_record (length c) q.0) tail in
    elim (compare bs cs t u p.1 q.1 parts.1) [
      | inl f ↦ inl (f.0, (λ i. sym parts.0 i ∷ f.1 i), f.2)
      | inr f ↦ inr (f.0, (λ i. parts.0 i ∷ f.1 i), f.2)
    ]

-- ---- where reading ends

-- at a closed gate, or at one that is refused
abbrev pub Ends : ℕ → List (List ℕ) → List ℕ → Type 0
Ends g bs t = IsClosed t ⊎ ((k : ℕ) × IsRefusedGate g bs t k)

-- a body that stands there whole isn't refused
pub not_refused : (Fits : ℕ → Type 0) (b rest bytes : List ℕ) (k : ℕ) → ((n : ℕ) → Fits n → n < 2 ^ 32) → Fits (length b) → bytes ≡ framed b ++ rest → IsRefusedBody Fits bytes k → ⊥
not_refused Fits b rest bytes k low fits is (inl none) = none.0 (length b) (b ++ rest) (is ∙ append_assoc (to_be_bytes w32 (length b)) b rest) fits
not_refused Fits b rest bytes k low fits is (inr cut) =
    let n = cut.0.0 in
    let parts = split_length n (length b) cut.0.1 (b ++ rest) (low n cut.0.3) (low (length b) fits) (sym cut.0.2 ∙ (is ∙ append_assoc (to_be_bytes w32 (length b)) b rest)) in
    omega (arith, cut.0.4, parts.0, ap length parts.1, length-append b rest)

-- where a record may stand and stands whole, reading doesn't end
goes_on : (g : ℕ) (bs more : List (List ℕ)) (b t u : List ℕ) → MayOpen g bs → IsRecordLength (length b) → t ≡ flat_map opened (b ∷ more) ++ u → Ends g bs t → ⊥
goes_on g bs more b t u may fits is end =
    let there : t ≡ 1 ∷ (framed b ++ (flat_map opened more ++ u)) = is ∙ one_more b more u in
    by_end there end
  where
    by_end : t ≡ 1 ∷ (framed b ++ (flat_map opened more ++ u)) → Ends g bs t → ⊥
    by_end there (inl (gate, behind, shut, e)) = shut (let same : gate ∷ behind ≡ 1 ∷ (framed b ++ (flat_map opened more ++ u)) = sym e ∙ there in cc)
    by_end there (inr (k, inl none)) = let same : [] ≡ 1 ∷ (framed b ++ (flat_map opened more ++ u)) = sym none.0 ∙ there in absurd (cc)
    by_end there (inr (k, inr (inl over))) = over.2 may
    by_end there (inr (k, inr (inr (behind, i, e, opens, refused, at)))) =
        let same : 1 ∷ behind ≡ 1 ∷ (framed b ++ (flat_map opened more ++ u)) = sym e ∙ there in
        let tail : behind ≡ framed b ++ (flat_map opened more ++ u) = cc in
        not_refused IsRecordLength b (flat_map opened more ++ u) behind i short_record fits tail refused

front_end : (g h : ℕ) (bs cs : List (List ℕ)) (t u : List ℕ) → g ≡ h → AreRecords cs → ((before behind : List (List ℕ)) (body : List ℕ) → cs ≡ before ++ body ∷ behind → MayOpen h before) → Ends g bs t → IsFrontOf bs cs t u → (bs ≡ cs) × (t ≡ u)
front_end g h bs cs t u same all gates end ([], e, rest) = (sym (e ∙ append-nil bs), rest)
front_end g h bs cs t u same all gates end (b ∷ more, e, rest) =
    absurd (goes_on g bs more b t u (subst (λ n. MayOpen n bs) (sym same) (gates bs more b e)) (record_at bs more b (subst AreRecords e all)) rest end)

-- two readings of one file that end are one
pub one_reading : (file s z : List ℕ) (bs cs : List (List ℕ)) (t u : List ℕ) → ReadsTo file s bs t → ReadsTo file z cs u → Ends (generation s) bs t → Ends (generation z) cs u → (s ≡ z) × (bs ≡ cs) × (t ≡ u)
one_reading file s z bs cs t u p q e f =
    let same : 1 ∷ (framed s ++ (flat_map opened bs ++ t)) ≡ 1 ∷ (framed z ++ (flat_map opened cs ++ u)) = sym (append_assoc (opened s) (flat_map opened bs) t) ∙ (sym p.whole ∙ (q.whole ∙ append_assoc (opened z) (flat_map opened cs) u)) in
    let tail : framed s ++ (flat_map opened bs ++ t) ≡ framed z ++ (flat_map opened cs ++ u) = cc in
    let parts = split_body s z (flat_map opened bs ++ t) (flat_map opened cs ++ u) (short_snapshot (length s) p.snapshot_length) (short_snapshot (length z) q.snapshot_length) tail in
    let rest = by_front (ap generation parts.0) (compare bs cs t u p.records q.records parts.1) in
    (parts.0, rest.0, rest.1)
  where
    by_front : generation s ≡ generation z → IsFrontOf bs cs t u ⊎ IsFrontOf cs bs u t → (bs ≡ cs) × (t ≡ u)
    by_front g (inl x) = front_end (generation s) (generation z) bs cs t u g q.records q.gates e x
    by_front g (inr x) = let back = front_end (generation z) (generation s) cs bs u t (sym g) p.records p.gates f x in (sym back.0, sym back.1)

-- ---- one outcome

closed_refused : (g : ℕ) (bs : List (List ℕ)) (t : List ℕ) (k : ℕ) → IsClosed t → IsRefusedGate g bs t k → ⊥
closed_refused g bs t k (gate, behind, shut, e) (inl none) = let same : [] ≡ gate ∷ behind = sym none.0 ∙ e in absurd (cc)
closed_refused g bs t k (gate, behind, shut, e) (inr (inl over)) = shut (let same : gate ∷ behind ≡ 1 ∷ over.0 = sym e ∙ over.1 in cc)
closed_refused g bs t k (gate, behind, shut, e) (inr (inr refused)) = shut (let same : gate ∷ behind ≡ 1 ∷ refused.0 = sym e ∙ refused.2 in cc)

-- a body is refused at one place
pub body_place : (Fits : ℕ → Type 0) (bytes : List ℕ) (i j : ℕ) → IsRefusedBody Fits bytes i → IsRefusedBody Fits bytes j → i ≡ j
body_place Fits bytes i j (inl p) (inl q) = p.1 ∙ sym q.1
body_place Fits bytes i j (inr p) (inr q) = p.1 ∙ sym q.1
body_place Fits bytes i j (inl p) (inr q) = absurd (p.0 q.0.0 q.0.1 q.0.2 q.0.3)
body_place Fits bytes i j (inr p) (inl q) = absurd (q.0 p.0.0 p.0.1 p.0.2 p.0.3)

gate_place : (g : ℕ) (bs : List (List ℕ)) (t : List ℕ) (k l : ℕ) → IsRefusedGate g bs t k → IsRefusedGate g bs t l → k ≡ l
gate_place g bs t k l (inl p) (inl q) = p.1 ∙ sym q.1
gate_place g bs t k l (inl p) (inr (inl q)) = p.1 ∙ sym q.3
gate_place g bs t k l (inl p) (inr (inr q)) = let same : [] ≡ 1 ∷ q.0 = sym p.0 ∙ q.2 in absurd (cc)
gate_place g bs t k l (inr (inl p)) (inl q) = p.3 ∙ sym q.1
gate_place g bs t k l (inr (inl p)) (inr (inl q)) = p.3 ∙ sym q.3
gate_place g bs t k l (inr (inl p)) (inr (inr q)) = absurd (p.2 q.3)
gate_place g bs t k l (inr (inr p)) (inl q) = let same : [] ≡ 1 ∷ p.0 = sym q.0 ∙ p.2 in absurd (cc)
gate_place g bs t k l (inr (inr p)) (inr (inl q)) = absurd (q.2 p.3)
gate_place g bs t k l (inr (inr p)) (inr (inr q)) =
    let same : 1 ∷ p.0 ≡ 1 ∷ q.0 = sym p.2 ∙ q.2 in
    let tail : p.0 ≡ q.0 = cc in
    p.5 ∙ (ap (λ n. 1 + n) (body_place IsRecordLength q.0 p.1 q.1 (subst (λ b. IsRefusedBody IsRecordLength b p.1) tail p.4) q.4) ∙ sym q.5)

-- a snapshot that is cut off isn't read
cut_not_read : (file s : List ℕ) (bs : List (List ℕ)) (t bytes : List ℕ) → ReadsTo file s bs t → file ≡ 1 ∷ bytes → IsCutOff IsSnapshotLength bytes → ⊥
cut_not_read file s bs t bytes p is cut =
    let same : 1 ∷ bytes ≡ 1 ∷ (framed s ++ (flat_map opened bs ++ t)) = sym is ∙ (p.whole ∙ append_assoc (opened s) (flat_map opened bs) t) in
    let tail : bytes ≡ framed s ++ (flat_map opened bs ++ t) = cc in
    not_refused IsSnapshotLength s (flat_map opened bs ++ t) bytes 4 short_snapshot p.snapshot_length tail (inr (cut, refl))

-- a file has one snapshot and one list of records
pub one_frame : (file s z : List ℕ) (bs cs : List (List ℕ)) → HasFrame file s bs → HasFrame file z cs → (s ≡ z) × (bs ≡ cs)
one_frame file s z bs cs (t, p, e) (u, q, f) = let same = one_reading file s z bs cs t u p q (inl e) (inl f) in (same.0, same.1)

-- and then it isn't refused
pub frame_not_bad : (file s : List ℕ) (bs : List (List ℕ)) (place : ℕ) → HasFrame file s bs → HasBadFrame file place → ⊥
frame_not_bad file s bs place (t, p, e) (inl (bytes, is, cut, at)) = cut_not_read file s bs t bytes p is cut
frame_not_bad file s bs place (t, p, e) (inr (z, cs, u, k, q, refused, at)) =
    let same = one_reading file s z bs cs t u p q (inl e) (inr (k, refused)) in
    closed_refused (generation z) cs u k (subst IsClosed same.2 e) refused

-- a file is refused at one place
pub one_place : (file : List ℕ) (m n : ℕ) → HasBadFrame file m → HasBadFrame file n → m ≡ n
one_place file m n (inl p) (inl q) = p.3 ∙ sym q.3
one_place file m n (inl (bytes, is, cut, at)) (inr (s, bs, t, k, p, refused, place)) = absurd (cut_not_read file s bs t bytes p is cut)
one_place file m n (inr (s, bs, t, k, p, refused, place)) (inl (bytes, is, cut, at)) = absurd (cut_not_read file s bs t bytes p is cut)
one_place file m n (inr (s, bs, t, k, p, first, at)) (inr (z, cs, u, l, q, second, place)) =
    let same = one_reading file s z bs cs t u p q (inr (k, first)) (inr (l, second)) in
    let moved : IsRefusedGate (generation z) cs u k = subst (λ g. IsRefusedGate g cs u k) (ap generation same.0) (subst (λ (x : List (List ℕ)). IsRefusedGate (generation s) x u k) same.1 (subst (λ x. IsRefusedGate (generation s) bs x k) same.2 first)) in
    at ∙ ((λ i. length (front (same.0 i) (same.1 i)) + gate_place (generation z) cs u k l moved second i) ∙ sym place)
