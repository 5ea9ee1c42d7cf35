-- Two files are always something: every file reads to an end.
use Rattle.std.specs.Prelude.{◌==◌, ◌||◌, not, nat_le}
use Rattle.std.specs.Int.{w32, w64, to_be_bytes, from_be_bytes}
use Rattle.std.specs.List.{flat_map}
use Rattle.std.proofs.Common.{◌≡◌, ◌≢◌, ◌⊎◌, inl, inr, ℕ, zero, suc, ◌+◌, ◌^◌, ◌<◌, ◌≤◌, Bool, true, false, List, [], ◌∷◌, ◌++◌, length, take, drop, refl, sym, ◌∙◌, ap, subst, arith, append_assoc, length-append, length-take}
use Rattle.std.proofs.lemmas.Bool.{cases_eq}
use Rattle.std.proofs.lemmas.Bool.Decides.{leb_tells, eqb_tells}
use Rattle.std.proofs.lemmas.List.{append-nil, take-append-drop}
use Rattle.std.proofs.lemmas.Grind.{flat_map-append}
use Rattle.std.proofs.lemmas.Nat.{from_be_bytes-to_be_bytes_4, from_be_bytes-to_be_bytes_8}
use Rattle.re_outside.specs.Frame.{is_blank, HasGeneration, HasNoGeneration, IsBadHead, StoreFrame, Blank, Bad, Store, HasHead, Counting, HasStoreFrame, IsSnapshotLength, IsRecordLength, AreRecords, framed, opened, HasNoLength, IsRefusedBody, generation, IsGeneration, journal_bytes, MayOpen, ReadsTo, HasFrame, HasBadFrame}
use Rattle.re_outside.proofs.Frames.{split}
use Rattle.re_outside.proofs.Stores.{generation_of}

-- two lists are equal or not
same_or_not : (xs ys : List ℕ) → (xs ≡ ys) ⊎ (xs ≢ ys)
same_or_not [] [] = inl refl
same_or_not [] (y ∷ ys) = inr (λ e. cc)
same_or_not (x ∷ xs) [] = inr (λ e. cc)
same_or_not (x ∷ xs) (y ∷ ys) = elim (cases_eq x y) [
  | inr other ↦ inr (λ e. other (cc))
  | inl head ↦ elim (same_or_not xs ys) [
    | inl tail ↦ inl (λ i. head i ∷ tail i)
    | inr other ↦ inr (λ e. other (cc))
  ]
]

-- ---- numbers in front

-- a number that is written in so many bytes stands in front, or none does
module _ (write : ℕ → List ℕ) (read : List ℕ → ℕ) (size bound : ℕ) (sized : (n : ℕ) → length (write n) ≡ size) (back : (n : ℕ) → n < bound → read (write n) ≡ n)
    (Fits : ℕ → Type 0) (low : (n : ℕ) → Fits n → n < bound) (decide : (n : ℕ) → Fits n ⊎ (Fits n → ⊥)) (bytes : List ℕ) where
  abbrev HasNumber : Type 0
  HasNumber = (n : ℕ) × (rest : List ℕ) × (bytes ≡ write n ++ rest) × Fits n

  abbrev HasNoNumber : Type 0
  HasNoNumber = (n : ℕ) (rest : List ℕ) → bytes ≡ write n ++ rest → Fits n → ⊥

  too_short : length bytes < size → HasNoNumber
  too_short short n rest is fits = omega (arith, ap length is, length-append (write n) rest, sized n)

  long_enough : size ≤ length bytes → HasNumber ⊎ HasNoNumber
  long_enough long = by_value (same_or_not (take size bytes) (write (read (take size bytes))))
    where
      of_value : (n : ℕ) (rest : List ℕ) → bytes ≡ write n ++ rest → Fits n → take size bytes ≡ write n
      of_value n rest is fits = (split (take size bytes) (write n) (drop size bytes) rest (omega (arith, length-take size bytes, sized n)) (take-append-drop size bytes ∙ is)).0

      by_value : (take size bytes ≡ write (read (take size bytes))) ⊎ (take size bytes ≢ write (read (take size bytes))) → HasNumber ⊎ HasNoNumber
      by_value (inr other) = inr (λ n rest is fits.
          let here = of_value n rest is fits in
          other (here ∙ ap write (sym (back n (low n fits)) ∙ ap read (sym here))))
      by_value (inl same) = elim (decide (read (take size bytes))) [
        | inl fits ↦ inl (read (take size bytes), drop size bytes, sym (take-append-drop size bytes) ∙ ap (λ l. l ++ drop size bytes) same, fits)
        | inr not ↦ inr (λ n rest is fits. not (subst Fits (sym (back n (low n fits)) ∙ ap read (sym (of_value n rest is fits))) fits))
      ]

  pub number_or_none : HasNumber ⊎ HasNoNumber
  number_or_none = elim (leb_tells size (length bytes)) [
    | inl long ↦ long_enough long.1
    | inr short ↦ inr (too_short (omega (arith, short.1)))
  ]

between : (low high n : ℕ) → ((low ≤ n) × (n ≤ high)) ⊎ ((low ≤ n) × (n ≤ high) → ⊥)
between low high n = elim (leb_tells low n) [
  | inr under ↦ inr (λ p. omega (arith, under.1, p.0))
  | inl over ↦ elim (leb_tells n high) [
    | inl fits ↦ inl (over.1, fits.1)
    | inr past ↦ inr (λ p. omega (arith, past.1, p.1))
  ]
]

pub generation_or_none : (bytes : List ℕ) → ((g : ℕ) × (rest : List ℕ) × (bytes ≡ to_be_bytes w64 g ++ rest) × IsGeneration g) ⊎ HasNoGeneration bytes
generation_or_none bytes = number_or_none (to_be_bytes w64) (from_be_bytes w64) 8 (2 ^ 64) (λ n. refl) from_be_bytes-to_be_bytes_8 IsGeneration (λ g fits. omega (arith, fits.1)) (between 1 (2 ^ 62)) bytes

-- ---- bodies

module _ (Fits : ℕ → Type 0) (low : (n : ℕ) → Fits n → n < 2 ^ 32) (decide : (n : ℕ) → Fits n ⊎ (Fits n → ⊥)) where
  pub length_or_none : (bytes : List ℕ) → ((n : ℕ) × (rest : List ℕ) × (bytes ≡ to_be_bytes w32 n ++ rest) × Fits n) ⊎ HasNoLength Fits bytes
  length_or_none bytes = number_or_none (to_be_bytes w32) (from_be_bytes w32) 4 (2 ^ 32) (λ n. refl) from_be_bytes-to_be_bytes_4 Fits low decide bytes

  -- a body stands in front, whole, or it is refused
  pub body_or_refused : (bytes : List ℕ) → ((body : List ℕ) × (rest : List ℕ) × (bytes ≡ framed body ++ rest) × Fits (length body)) ⊎ ((k : ℕ) × IsRefusedBody Fits bytes k)
  body_or_refused bytes = elim (length_or_none bytes) [
    | inr none ↦ inr (0, inl (none, refl))
    | inl (n, rest, is, fits) ↦ elim (leb_tells n (length rest)) [
      | inr short ↦ inr (4, inr ((n, rest, is, fits, omega (arith, short.1)), refl))
      | inl enough ↦ inl (whole n rest is fits enough.1)
    ]
  ]
    where
      whole : (n : ℕ) (rest : List ℕ) → bytes ≡ to_be_bytes w32 n ++ rest → Fits n → n ≤ length rest → (body : List ℕ) × (more : List ℕ) × (bytes ≡ framed body ++ more) × Fits (length body)
      whole n rest is fits enough =
          let size : length (take n rest) ≡ n = length-take n rest ∙ omega arith in (
            take n rest,
            drop n rest,
            is ∙ (ap (λ l. to_be_bytes w32 n ++ l) (sym (take-append-drop n rest)) ∙ (ap (λ m. to_be_bytes w32 m ++ (take n rest ++ drop n rest)) (sym size) ∙ sym (append_assoc (to_be_bytes w32 (length (take n rest))) (take n rest) (drop n rest)))),
            subst Fits (sym size) fits,
          )

-- ---- the frame of one file

last_or_inner : (bs : List (List ℕ)) (b : List ℕ) (before : List (List ℕ)) (body : List ℕ) (behind : List (List ℕ)) → bs ++ b ∷ [] ≡ before ++ body ∷ behind → (bs ≡ before) ⊎ ((inner : List (List ℕ)) × (bs ≡ before ++ body ∷ inner))
last_or_inner [] b [] body behind e = inl refl
last_or_inner [] b (x ∷ []) body behind e = absurd (let tail : [] ≡ body ∷ behind = cc in cc)
last_or_inner [] b (x ∷ y ∷ before) body behind e = absurd (let tail : [] ≡ y ∷ (before ++ body ∷ behind) = cc in cc)
last_or_inner (c ∷ bs) b [] body behind e = inr (bs, (let head : c ≡ body = cc in λ i. head i ∷ bs))
last_or_inner (c ∷ bs) b (x ∷ before) body behind e =
    let head : c ≡ x = cc in
    let tail : bs ++ b ∷ [] ≡ before ++ body ∷ behind = cc in
    elim (last_or_inner bs b before body behind tail) [
      | inl same ↦ inl (λ i. head i ∷ same i)
      | inr (inner, is) ↦ inr (inner, (λ i. head i ∷ is i))
    ]

more_records : (bs : List (List ℕ)) (b : List ℕ) → AreRecords bs → IsRecordLength (length b) → AreRecords (bs ++ b ∷ [])
more_records [] b all fits = (fits, tt)
more_records (c ∷ bs) b all fits = (all.0, more_records bs b all.1 fits)

-- one record more
read_more : (file s : List ℕ) (bs : List (List ℕ)) (b more : List ℕ) → ReadsTo file s bs (1 ∷ (framed b ++ more)) → MayOpen (generation s) bs → IsRecordLength (length b) → ReadsTo file s (bs ++ b ∷ []) more
read_more file s bs b more p may fits = record {
  whole =
      p.whole
      ∙ (append_assoc (opened s) (flat_map opened bs) (opened b ++ more)
      ∙ (ap (λ l. opened s ++ l) (sym (append_assoc (flat_map opened bs) (opened b) more) ∙ ap (λ l. l ++ more) (ap (λ l. flat_map opened bs ++ l) (sym (append-nil (opened b))) ∙ sym (flat_map-append opened bs (b ∷ []))))
      ∙ sym (append_assoc (opened s) (flat_map opened (bs ++ b ∷ [])) more)));
  snapshot_length = p.snapshot_length;
  generation_fits = p.generation_fits;
  records = more_records bs b p.records fits;
  gates = λ before behind body is. elim (last_or_inner bs b before body behind is) [
    | inl same ↦ subst (MayOpen (generation s)) same may
    | inr (inner, at) ↦ p.gates before inner body at
  ];
}

may_or_not : (g : ℕ) (bs : List (List ℕ)) → MayOpen g bs ⊎ (MayOpen g bs → ⊥)
may_or_not g bs = elim (leb_tells (journal_bytes bs) 65536) [
  | inl within ↦ inl (inl within.1)
  | inr over ↦ elim (cases_eq g (2 ^ 62)) [
    | inl last ↦ inl (inr last)
    | inr other ↦ inr (λ m. elim m [ inl within ↦ omega (arith, over.1, within) | inr last ↦ other last ])
  ]
]

-- a file has a frame or is refused
abbrev pub Read : List ℕ → Type 0
Read file = ((s : List ℕ) × (bs : List (List ℕ)) × HasFrame file s bs) ⊎ ((place : ℕ) × HasBadFrame file place)

-- reading ends at this gate, or goes on behind one record more
abbrev pub Goes : List ℕ → List ℕ → List (List ℕ) → ℕ → Type 0
Goes file s bs size = Read file ⊎ ((body : List ℕ) × (rest : List ℕ) × ReadsTo file s (bs ++ body ∷ []) rest × (length rest < size))

at_gate : (file s : List ℕ) (bs : List (List ℕ)) (gate : ℕ) (more : List ℕ) → ReadsTo file s bs (gate ∷ more) → Goes file s bs (length (gate ∷ more))
at_gate file s bs gate more p = by_gate (cases_eq gate 1)
  where
    there : gate ≡ 1 → gate ∷ more ≡ 1 ∷ more
    there e = λ i. e i ∷ more

    by_body : gate ≡ 1 → MayOpen (generation s) bs → ((body : List ℕ) × (rest : List ℕ) × (more ≡ framed body ++ rest) × IsRecordLength (length body)) ⊎ ((k : ℕ) × IsRefusedBody IsRecordLength more k) → Goes file s bs (length (gate ∷ more))
    by_body e may (inr (k, refused)) = inl (inr (_, inr (s, bs, gate ∷ more, 1 + k, p, inr (inr (more, k, there e, may, refused, refl)), refl)))
    by_body e may (inl (body, rest, is, size)) =
        inr (body, rest, read_more file s bs body rest (subst (ReadsTo file s bs) (there e ∙ (λ i. 1 ∷ is i)) p) may size, omega (arith, ap length is, length-append (framed body) rest))

    by_limit : gate ≡ 1 → MayOpen (generation s) bs ⊎ (MayOpen (generation s) bs → ⊥) → Goes file s bs (length (gate ∷ more))
    by_limit e (inr over) = inl (inr (_, inr (s, bs, gate ∷ more, 0, p, inr (inl (more, there e, over, refl)), refl)))
    by_limit e (inl may) = by_body e may (body_or_refused IsRecordLength (λ n fits. omega (arith, fits.1)) (between 1 65536) more)

    by_gate : (gate ≡ 1) ⊎ (gate ≢ 1) → Goes file s bs (length (gate ∷ more))
    by_gate (inr shut) = inl (inl (s, bs, (gate ∷ more, p, (gate, more, shut, refl))))
    by_gate (inl e) = by_limit e (may_or_not (generation s) bs)

read_on : (fuel : ℕ) (file s : List ℕ) (bs : List (List ℕ)) (rest : List ℕ) → length rest ≤ fuel → ReadsTo file s bs rest → Read file
read_on fuel file s bs [] fits p = inr (_, inr (s, bs, [], 0, p, inl (refl, refl), refl))
read_on zero file s bs (gate ∷ more) fits p = absurd (omega (arith, fits))
read_on (suc fuel) file s bs (gate ∷ more) fits p = elim (at_gate file s bs gate more p) [
  | inl done ↦ done
  | inr (body, rest, q, less) ↦ read_on fuel file s (bs ++ body ∷ []) rest (omega (arith, fits, less)) q
]

empty : (before behind : List (List ℕ)) (body : List ℕ) → [] ≡ before ++ body ∷ behind → ⊥
empty [] behind body e = cc
empty (x ∷ before) behind body e = cc

-- a file whose length and generation read has a frame or is refused
pub read_file : (file : List ℕ) (g : ℕ) → HasGeneration file g → Read file
read_file file g (n, rest, is, fits, number) = by_body (body_or_refused IsSnapshotLength (λ n fits. omega (arith, fits.1)) (between 8 131072) bytes)
  where
    bytes : List ℕ
    bytes = to_be_bytes w32 n ++ (to_be_bytes w64 g ++ rest)

    by_body : ((body : List ℕ) × (more : List ℕ) × (to_be_bytes w32 n ++ (to_be_bytes w64 g ++ rest) ≡ framed body ++ more) × IsSnapshotLength (length body)) ⊎ ((k : ℕ) × IsRefusedBody IsSnapshotLength (to_be_bytes w32 n ++ (to_be_bytes w64 g ++ rest)) k) → Read file
    by_body (inr (k, inl none)) = absurd (none.0 n (to_be_bytes w64 g ++ rest) refl fits)
    by_body (inr (k, inr cut)) = inr (5, inl (to_be_bytes w32 n ++ (to_be_bytes w64 g ++ rest), is, cut.0, refl))
    by_body (inl (s, more, e, size)) =
        let whole : file ≡ 1 ∷ (framed s ++ more) = is ∙ (λ i. 1 ∷ e i) in
        let same : generation s ≡ g = generation_of file s more g (n, rest, is, fits, number) whole size in
        read_on (length more) file s [] more (omega arith) (record {
          whole = whole ∙ ap (λ l. l ++ more) (sym (append-nil (opened s)));
          snapshot_length = size;
          generation_fits = subst IsGeneration (sym same) number;
          records = tt;
          gates = λ before behind body no. absurd (empty before behind body no);
        })

-- ---- two files

bool_cases : (b : Bool) → (b ≡ true) ⊎ (b ≡ false)
bool_cases true = inl refl
bool_cases false = inr refl

by_or : (b : Bool) → (b || not false) ≡ false → ⊥
by_or true e = cc
by_or false e = cc

unblank : (x : ℕ) (bytes : List ℕ) → is_blank (x ∷ bytes) ≡ false → (x == 1) ≡ false → ⊥
unblank x bytes full other = by_or (nat_le (length (x ∷ bytes)) 1) (ap (λ b. nat_le (length (x ∷ bytes)) 1 || not b) (sym other) ∙ full)

gate_of : (file : List ℕ) → is_blank file ≡ false → (bytes : List ℕ) × (file ≡ 1 ∷ bytes)
gate_of [] full = absurd (cc)
gate_of (x ∷ bytes) full = elim (eqb_tells x 1) [
  | inl same ↦ (bytes, (λ i. same.1 i ∷ bytes))
  | inr other ↦ absurd (unblank x bytes full other.0)
]

by_bytes : (file : List ℕ) → is_blank file ≡ false → (bytes : List ℕ) × (file ≡ 1 ∷ bytes) → HasHead file ⊎ ((place : ℕ) × IsBadHead file place)
by_bytes file full (bytes, is) = elim (length_or_none IsSnapshotLength (λ n fits. omega (arith, fits.1)) (between 8 131072) bytes) [
  | inr none ↦ inr (1, (full, bytes, is, inl (none, refl)))
  | inl (n, rest, at, fits) ↦ elim (generation_or_none rest) [
    | inr none ↦ inr (5, (full, bytes, is, inr (n, rest, at, fits, none, refl)))
    | inl (g, more, here, number) ↦ inl (inr (g, (n, more, is ∙ (λ i. 1 ∷ (at ∙ ap (λ l. to_be_bytes w32 n ++ l) here) i), fits, number)))
  ]
]

head_or_bad : (file : List ℕ) → HasHead file ⊎ ((place : ℕ) × IsBadHead file place)
head_or_bad file = elim (bool_cases (is_blank file)) [
  | inl blank ↦ inl (inl blank)
  | inr full ↦ by_bytes file full (gate_of file full)
]

module _ (first second : List ℕ) where
  counted : (n : ℕ) (file : List ℕ) → Counting first second n file → Read file → (v : StoreFrame) × HasStoreFrame first second v
  counted n file counts (inl (s, bs, frame)) = (Store n s bs, (file, counts, frame))
  counted n file counts (inr (place, bad)) = (Bad n place, inr (file, counts, bad))

  -- two files are something
  pub some_store : (v : StoreFrame) × HasStoreFrame first second v
  some_store = elim (head_or_bad first) [
    | inr (place, bad) ↦ (Bad 0 place, inl (inl (refl, bad)))
    | inl head ↦ elim (head_or_bad second) [
      | inr (place, bad) ↦ (Bad 1 place, inl (inr (inl (refl, head, bad))))
      | inl other ↦ by_heads head other
    ]
  ]
    where
      by_heads : HasHead first → HasHead second → (v : StoreFrame) × HasStoreFrame first second v
      by_heads (inl a) (inl b) = (Blank, (a, b))
      by_heads (inl a) (inr (h, b)) = counted 1 second (inr (refl, refl, h, b, inl a)) (read_file second h b)
      by_heads (inr (g, a)) (inl b) = counted 0 first (inl (refl, refl, g, a, inl b)) (read_file first g a)
      by_heads (inr (g, a)) (inr (h, b)) = elim (cases_eq g h) [
        | inl same ↦ (Bad 1 5, inl (inr (inr (refl, refl, h, subst (HasGeneration first) same a, b))))
        | inr other ↦ elim (leb_tells g h) [
          | inl less ↦ counted 1 second (inr (refl, refl, h, b, inr (g, a, omega (arith, less.1, other)))) (read_file second h b)
          | inr more ↦ counted 0 first (inl (refl, refl, g, a, inr (h, b, omega (arith, more.1)))) (read_file first g a)
        ]
      ]
