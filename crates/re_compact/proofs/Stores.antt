-- What two files hold when one of them is emptied, or gets a snapshot of a later generation.
use Rattle.std.specs.Int.{w32, w64, to_be_bytes, from_be_bytes}
use Rattle.std.proofs.Common.{◌≡◌, inl, inr, ℕ, ◌^◌, ◌<◌, true, List, [], ◌∷◌, ◌++◌, length, take, refl, sym, ◌∙◌, ap, subst, arith, append_assoc}
use Rattle.std.proofs.lemmas.List.{append-nil}
use Rattle.std.proofs.lemmas.Nat.{from_be_bytes-to_be_bytes_8}
use Rattle.std.proofs.Math.Seq.{take-append_seam}
use Rattle.re_outside.specs.Frame.{StoreFrame, Blank, Bad, Store, HasStoreFrame, HasFrame, HasGeneration, IsOlder, IsGeneration, generation, framed, opened, is_blank}
use Rattle.re_compact.specs.Pair.{IsIn}
use Rattle.re_compact.specs.Laying.{IsSnapshot}

-- ---- the other file is emptied

pub second_emptied : (first second blank : List ℕ) (frame : StoreFrame) → HasStoreFrame first second frame → IsIn 0 frame → is_blank blank ≡ true → HasStoreFrame first blank frame
second_emptied first second blank Blank holds here is = (holds.0, is)
second_emptied first second blank (Bad number place) holds here is = absurd here
second_emptied first second blank (Store number snapshot bodies) (file, inl (zero_is, at, g, has, older), frame) here is = (file, inl (zero_is, at, g, has, inl is), frame)
second_emptied first second blank (Store number snapshot bodies) (file, inr (one_is, at, g, has, older), frame) here is = absurd (omega (arith, here, one_is))

pub first_emptied : (first second blank : List ℕ) (frame : StoreFrame) → HasStoreFrame first second frame → IsIn 1 frame → is_blank blank ≡ true → HasStoreFrame blank second frame
first_emptied first second blank Blank holds here is = (is, holds.1)
first_emptied first second blank (Bad number place) holds here is = absurd here
first_emptied first second blank (Store number snapshot bodies) (file, inr (one_is, at, g, has, older), frame) here is = (file, inr (one_is, at, g, has, inl is), frame)
first_emptied first second blank (Store number snapshot bodies) (file, inl (zero_is, at, g, has, older), frame) here is = absurd (omega (arith, here, zero_is))

-- ---- a snapshot of a later generation

low_generation : (g : ℕ) → IsGeneration g → g < 2 ^ 64
low_generation g fits = omega (arith, fits.1)

-- the number in front is the generation
pub generation_of : (snapshot : List ℕ) (g : ℕ) → IsSnapshot snapshot g → generation snapshot ≡ g
generation_of snapshot g is =
    ap (from_be_bytes w64) (ap (take 8) is.whole ∙ take-append_seam (to_be_bytes w64 g) is.rest) ∙ from_be_bytes-to_be_bytes_8 g (low_generation g is.number)

-- the file of a snapshot and a closed gate
abbrev snapshot_file : List ℕ → List ℕ
snapshot_file snapshot = 1 ∷ (framed snapshot ++ 0 ∷ [])

pub has_generation : (snapshot : List ℕ) (g : ℕ) → IsSnapshot snapshot g → HasGeneration (snapshot_file snapshot) g
has_generation snapshot g is = (
  length snapshot,
  is.rest ++ 0 ∷ [],
  ap (λ (l : List ℕ). 1 ∷ l) (append_assoc (to_be_bytes w32 (length snapshot)) snapshot (0 ∷ []) ∙ ap (λ (l : List ℕ). to_be_bytes w32 (length snapshot) ++ l) (ap (λ (l : List ℕ). l ++ 0 ∷ []) is.whole ∙ append_assoc (to_be_bytes w64 g) is.rest (0 ∷ []))),
  is.size,
  is.number,
)

no_bodies : (before behind : List (List ℕ)) (body : List ℕ) → [] ≡ before ++ body ∷ behind → ⊥
no_bodies [] behind body e = cc
no_bodies (x ∷ before) behind body e = cc

pub has_frame : (snapshot : List ℕ) (g : ℕ) → IsSnapshot snapshot g → HasFrame (snapshot_file snapshot) snapshot []
has_frame snapshot g is = (
  0 ∷ [],
  record {
    whole = ap (λ (l : List ℕ). l ++ 0 ∷ []) (sym (append-nil (opened snapshot)));
    snapshot_length = is.size;
    generation_fits = subst IsGeneration (sym (generation_of snapshot g is)) is.number;
    records = tt;
    gates = λ before behind body none. absurd (no_bodies before behind body none);
  },
  (0, [], (λ (e : ◌≡◌ {A = ℕ} 0 1). absurd (omega arith)), refl),
)

pub second_published : (first snapshot : List ℕ) (g : ℕ) → IsSnapshot snapshot g → IsOlder first g → HasStoreFrame first (snapshot_file snapshot) (Store 1 snapshot [])
second_published first snapshot g is older = (snapshot_file snapshot, inr (refl, refl, g, has_generation snapshot g is, older), has_frame snapshot g is)

pub first_published : (second snapshot : List ℕ) (g : ℕ) → IsSnapshot snapshot g → IsOlder second g → HasStoreFrame (snapshot_file snapshot) second (Store 0 snapshot [])
first_published second snapshot g is older = (snapshot_file snapshot, inl (refl, refl, g, has_generation snapshot g is, older), has_frame snapshot g is)
