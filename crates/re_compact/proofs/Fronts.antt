-- What the first bytes of a file say of it.
use Rattle.std.specs.Prelude.{◌||◌, ◌==◌, not}
use Rattle.std.specs.Int.{w32, w64, to_be_bytes, from_be_bytes}
use Rattle.std.proofs.Common.{◌≡◌, ◌⊎◌, inl, inr, ℕ, suc, ◌+◌, ◌^◌, ◌<◌, ◌≤◌, false, List, [], ◌∷◌, ◌++◌, length, slice_index, get_or, take, drop, refl, sym, ◌∙◌, ap, subst, arith, length-append, length-take, length-drop, get_or-take, get_or-drop, take-append-drop, append_assoc}
use Rattle.std.proofs.lemmas.List.{get_or_past, drop_all, take-append-le}
use Rattle.std.proofs.lemmas.Bool.Decides.{leb_tells}
use Rattle.std.proofs.lemmas.Nat.{from_be_bytes-to_be_bytes_4, from_be_bytes-to_be_bytes_8, be_bytes_4, be_bytes_8}
use Rattle.std.proofs.Math.Seq.{take-append_seam}
use Rattle.re_outside.specs.Frame.{IsSnapshotLength, IsGeneration, HasNoLength, HasNoGeneration, is_blank, IsBadHead, HasGeneration}

low_length : (n : ℕ) → IsSnapshotLength n → n < 2 ^ 32
low_length n fits = omega (arith, fits.1)

low_generation : (g : ℕ) → IsGeneration g → g < 2 ^ 64
low_generation g fits = omega (arith, fits.1)

-- ---- a number in front

-- the number that stands in front of these bytes, four of them
four_back : (bytes rest : List ℕ) (n : ℕ) → n < 2 ^ 32 → bytes ≡ to_be_bytes w32 n ++ rest → from_be_bytes w32 (take 4 bytes) ≡ n
four_back bytes rest n low is = ap (from_be_bytes w32) (ap (take 4) is ∙ take-append_seam (to_be_bytes w32 n) rest) ∙ from_be_bytes-to_be_bytes_4 n low

eight_back : (bytes rest : List ℕ) (n : ℕ) → n < 2 ^ 64 → bytes ≡ to_be_bytes w64 n ++ rest → from_be_bytes w64 (take 8 bytes) ≡ n
eight_back bytes rest n low is = ap (from_be_bytes w64) (ap (take 8) is ∙ take-append_seam (to_be_bytes w64 n) rest) ∙ from_be_bytes-to_be_bytes_8 n low

no_length : (bytes : List ℕ) → (length bytes < 4) ⊎ (IsSnapshotLength (from_be_bytes w32 (take 4 bytes)) → ⊥) → HasNoLength IsSnapshotLength bytes
no_length bytes (inl short) n rest is fits = absurd (omega (arith, ap length is, length-append (to_be_bytes w32 n) rest))
no_length bytes (inr out) n rest is fits = out (subst IsSnapshotLength (sym (four_back bytes rest n (low_length n fits) is)) fits)

no_generation : (bytes : List ℕ) → (length bytes < 8) ⊎ (IsGeneration (from_be_bytes w64 (take 8 bytes)) → ⊥) → HasNoGeneration bytes
no_generation bytes (inl short) n rest is fits = absurd (omega (arith, ap length is, length-append (to_be_bytes w64 n) rest))
no_generation bytes (inr out) n rest is fits = out (subst IsGeneration (sym (eight_back bytes rest n (low_generation n fits) is)) fits)

-- ---- bytes

-- each of these is a byte
abbrev pub AreBytes : List ℕ → Type 0
AreBytes bytes = (i : ℕ) → get_or bytes i 0 < 256

take_bytes : (n : ℕ) (bytes : List ℕ) → AreBytes bytes → AreBytes (take n bytes)
take_bytes n bytes all i = elim (leb_tells n i) [
  | inl past ↦ (let e = get_or_past (take n bytes) i 0 (omega (arith, length-take n bytes, past.1)) in omega arith)
  | inr within ↦ (let e = get_or-take n bytes i 0 within.1 in omega (arith, all i))
]

drop_bytes : (n : ℕ) (bytes : List ℕ) → AreBytes bytes → AreBytes (drop n bytes)
drop_bytes n bytes all i = let e = get_or-drop n bytes i 0 in omega (arith, all (n + i))

-- the first four
first_four : (bytes : List ℕ) → 4 ≤ length bytes → take 4 bytes ≡ get_or bytes 0 0 ∷ get_or bytes 1 0 ∷ get_or bytes 2 0 ∷ get_or bytes 3 0 ∷ []
first_four [] long = absurd (omega arith)
first_four (a ∷ []) long = absurd (omega arith)
first_four (a ∷ b ∷ []) long = absurd (omega arith)
first_four (a ∷ b ∷ c ∷ []) long = absurd (omega arith)
first_four (a ∷ b ∷ c ∷ d ∷ rest) long = refl

-- the first eight
first_eight : (bytes : List ℕ) → 8 ≤ length bytes → take 8 bytes ≡ get_or bytes 0 0 ∷ get_or bytes 1 0 ∷ get_or bytes 2 0 ∷ get_or bytes 3 0 ∷ get_or bytes 4 0 ∷ get_or bytes 5 0 ∷ get_or bytes 6 0 ∷ get_or bytes 7 0 ∷ []
first_eight [] long = absurd (omega arith)
first_eight (a ∷ []) long = absurd (omega arith)
first_eight (a ∷ b ∷ []) long = absurd (omega arith)
first_eight (a ∷ b ∷ c ∷ []) long = absurd (omega arith)
first_eight (a ∷ b ∷ c ∷ d ∷ []) long = absurd (omega arith)
first_eight (a ∷ b ∷ c ∷ d ∷ e ∷ []) long = absurd (omega arith)
first_eight (a ∷ b ∷ c ∷ d ∷ e ∷ f ∷ []) long = absurd (omega arith)
first_eight (a ∷ b ∷ c ∷ d ∷ e ∷ f ∷ g ∷ []) long = absurd (omega arith)
first_eight (a ∷ b ∷ c ∷ d ∷ e ∷ f ∷ g ∷ h ∷ rest) long = refl

-- the eight behind the first four
next_eight : (bytes : List ℕ) → 12 ≤ length bytes → take 8 (drop 4 bytes) ≡ get_or bytes 4 0 ∷ get_or bytes 5 0 ∷ get_or bytes 6 0 ∷ get_or bytes 7 0 ∷ get_or bytes 8 0 ∷ get_or bytes 9 0 ∷ get_or bytes 10 0 ∷ get_or bytes 11 0 ∷ []
next_eight bytes long = simp get_or-drop at (first_eight (drop 4 bytes) (omega (arith, length-drop 4 bytes)))

-- ---- the parts of a file

-- a file that begins with 1 and has more bytes isn't blank
full : (file : List ℕ) → 1 < length file → slice_index file 0 ≡ 1 → is_blank file ≡ false
full file long is_open = elim (leb_tells (length file) 1) [
  | inl short ↦ absurd (omega (arith, short.1))
  | inr more ↦ ap (λ b. b || not (slice_index file 0 == 1)) more.0 ∙ ap (λ x. not (x == 1)) is_open
]

-- a file is a front of it and the rest
whole : (front file : List ℕ) → front ≡ take 13 file → file ≡ front ++ drop 13 file
whole front file is = sym (take-append-drop 13 file) ∙ ap (λ (l : List ℕ). l ++ drop 13 file) (sym is)

-- a short front is all of it
nothing_behind : (front file : List ℕ) → front ≡ take 13 file → length front < 13 → drop 13 file ≡ []
nothing_behind front file is short = drop_all 13 file (omega (arith, ap length is, length-take 13 file))

-- the length, and what stands behind it
length_in_front : (bytes : List ℕ) → 4 ≤ length bytes → AreBytes bytes → bytes ≡ to_be_bytes w32 (from_be_bytes w32 (take 4 bytes)) ++ drop 4 bytes
length_in_front bytes long all =
    sym (take-append-drop 4 bytes) ∙ ap (λ (l : List ℕ). l ++ drop 4 bytes) (sym (be_bytes_4 (take 4 bytes) (from_be_bytes w32 (take 4 bytes)) (omega (arith, length-take 4 bytes)) (take_bytes 4 bytes all) refl))

generation_in_front : (bytes : List ℕ) → 8 ≤ length bytes → AreBytes bytes → bytes ≡ to_be_bytes w64 (from_be_bytes w64 (take 8 bytes)) ++ drop 8 bytes
generation_in_front bytes long all =
    sym (take-append-drop 8 bytes) ∙ ap (λ (l : List ℕ). l ++ drop 8 bytes) (sym (be_bytes_8 (take 8 bytes) (from_be_bytes w64 (take 8 bytes)) (omega (arith, length-take 8 bytes)) (take_bytes 8 bytes all) refl))

-- the bytes of a front behind its gate
tail_bytes : (x : ℕ) (bytes : List ℕ) → AreBytes (x ∷ bytes) → AreBytes bytes
tail_bytes x bytes all i = all (suc i)

module _ (x n : ℕ) (bytes file : List ℕ) (is : x ∷ bytes ≡ take 13 file) (all : AreBytes (x ∷ bytes)) (is_open : x ≡ 1) (long : 4 ≤ length bytes)
    (number : n ≡ from_be_bytes w32 (get_or bytes 0 0 ∷ get_or bytes 1 0 ∷ get_or bytes 2 0 ∷ get_or bytes 3 0 ∷ [])) (fits : IsSnapshotLength n) where
  more : List ℕ
  more = drop 13 file

  as_read : n ≡ from_be_bytes w32 (take 4 bytes)
  as_read = number ∙ ap (from_be_bytes w32) (sym (first_four bytes long))

  split : file ≡ 1 ∷ (bytes ++ drop 13 file)
  split = whole (x ∷ bytes) file is ∙ (λ i. is_open i ∷ (bytes ++ drop 13 file))

  behind_length : bytes ++ drop 13 file ≡ to_be_bytes w32 n ++ (drop 4 bytes ++ drop 13 file)
  behind_length =
      ap (λ (l : List ℕ). l ++ drop 13 file) (length_in_front bytes long (tail_bytes x bytes all))
      ∙ (append_assoc (to_be_bytes w32 (from_be_bytes w32 (take 4 bytes))) (drop 4 bytes) (drop 13 file)
      ∙ ap (λ m. to_be_bytes w32 m ++ (drop 4 bytes ++ drop 13 file)) (sym as_read))

  refused : HasNoGeneration (drop 4 bytes ++ drop 13 file) → IsBadHead file 5
  refused none = (
    full file (omega (arith, ap length split, length-append bytes (drop 13 file))) (ap (λ (l : List ℕ). slice_index l 0) split),
    bytes ++ drop 13 file,
    split,
    inr (n, drop 4 bytes ++ drop 13 file, behind_length, fits, none, refl),
  )

  -- the generation is cut off
  pub cut_generation : length bytes < 12 → IsBadHead file 5
  cut_generation short =
      let none : drop 13 file ≡ [] = nothing_behind (x ∷ bytes) file is (omega arith) in
      refused (no_generation (drop 4 bytes ++ drop 13 file) (inl (omega (arith, length-append (drop 4 bytes) (drop 13 file), length-drop 4 bytes, ap length none))))

  module _ (g : ℕ) (enough : 12 ≤ length bytes)
      (generation : g ≡ from_be_bytes w64 (get_or bytes 4 0 ∷ get_or bytes 5 0 ∷ get_or bytes 6 0 ∷ get_or bytes 7 0 ∷ get_or bytes 8 0 ∷ get_or bytes 9 0 ∷ get_or bytes 10 0 ∷ get_or bytes 11 0 ∷ [])) where
    read_too : g ≡ from_be_bytes w64 (take 8 (drop 4 bytes))
    read_too = generation ∙ ap (from_be_bytes w64) (sym (next_eight bytes enough))

    -- the generation is out of range
    pub bad_generation : (IsGeneration g → ⊥) → IsBadHead file 5
    bad_generation out =
        let front : take 8 (drop 4 bytes ++ drop 13 file) ≡ take 8 (drop 4 bytes) = take-append-le 8 (drop 4 bytes) (drop 13 file) (omega (arith, length-drop 4 bytes)) in
        refused (no_generation (drop 4 bytes ++ drop 13 file) (inr (λ fits. out (subst IsGeneration (ap (from_be_bytes w64) front ∙ sym read_too) fits))))

    -- both read
    pub numbered : IsGeneration g → HasGeneration file g
    numbered fits_too = (
      n,
      drop 8 (drop 4 bytes) ++ drop 13 file,
      split ∙ ap (λ (l : List ℕ). 1 ∷ l) (behind_length ∙ ap (λ (l : List ℕ). to_be_bytes w32 n ++ l)
          (ap (λ (l : List ℕ). l ++ drop 13 file) (generation_in_front (drop 4 bytes) (omega (arith, length-drop 4 bytes)) (drop_bytes 4 bytes (tail_bytes x bytes all)) ∙ ap (λ m. to_be_bytes w64 m ++ drop 8 (drop 4 bytes)) (sym read_too))
          ∙ append_assoc (to_be_bytes w64 g) (drop 8 (drop 4 bytes)) (drop 13 file))),
      fits,
      fits_too,
    )

-- ---- of the front of a file

pub front_cut : (n : ℕ) (front file : List ℕ) → front ≡ take 13 file → AreBytes front → get_or front 0 0 ≡ 1 → 5 ≤ length front → n ≡ from_be_bytes w32 (get_or front 1 0 ∷ get_or front 2 0 ∷ get_or front 3 0 ∷ get_or front 4 0 ∷ []) → IsSnapshotLength n → length front < 13 → IsBadHead file 5
front_cut n [] file is all is_open long number fits short = absurd (omega arith)
front_cut n (x ∷ bytes) file is all is_open long number fits short = cut_generation x n bytes file is all is_open (omega arith) number fits (omega arith)

pub front_out : (n g : ℕ) (front file : List ℕ) → front ≡ take 13 file → AreBytes front → get_or front 0 0 ≡ 1 → 13 ≤ length front → n ≡ from_be_bytes w32 (get_or front 1 0 ∷ get_or front 2 0 ∷ get_or front 3 0 ∷ get_or front 4 0 ∷ []) → IsSnapshotLength n
    → g ≡ from_be_bytes w64 (get_or front 5 0 ∷ get_or front 6 0 ∷ get_or front 7 0 ∷ get_or front 8 0 ∷ get_or front 9 0 ∷ get_or front 10 0 ∷ get_or front 11 0 ∷ get_or front 12 0 ∷ []) → (IsGeneration g → ⊥) → IsBadHead file 5
front_out n g [] file is all is_open long number fits generation out = absurd (omega arith)
front_out n g (x ∷ bytes) file is all is_open long number fits generation out = bad_generation x n bytes file is all is_open (omega arith) number fits g (omega arith) generation out

pub front_numbered : (n g : ℕ) (front file : List ℕ) → front ≡ take 13 file → AreBytes front → get_or front 0 0 ≡ 1 → 13 ≤ length front → n ≡ from_be_bytes w32 (get_or front 1 0 ∷ get_or front 2 0 ∷ get_or front 3 0 ∷ get_or front 4 0 ∷ []) → IsSnapshotLength n
    → g ≡ from_be_bytes w64 (get_or front 5 0 ∷ get_or front 6 0 ∷ get_or front 7 0 ∷ get_or front 8 0 ∷ get_or front 9 0 ∷ get_or front 10 0 ∷ get_or front 11 0 ∷ get_or front 12 0 ∷ []) → IsGeneration g → HasGeneration file g
front_numbered n g [] file is all is_open long number fits generation fits_too = absurd (omega arith)
front_numbered n g (x ∷ bytes) file is all is_open long number fits generation fits_too = numbered x n bytes file is all is_open (omega arith) number fits g (omega arith) generation fits_too
