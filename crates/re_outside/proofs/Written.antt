-- What a file holds after a write, place by place.
use Rattle.std.proofs.Common.{◌≡◌, ◌⊎◌, inl, inr, ℕ, suc, ◌+◌, ◌-◌, ◌<◌, ◌≤◌, min, max, false, List, [], ◌∷◌, ◌++◌, length, slice_index, take, replicate, refl, ◌∙◌, ap, arith, length-append, length-take}
use Rattle.std.proofs.lemmas.Bool.Decides.{nat_tests}
use Rattle.std.proofs.lemmas.List.{get_or_append_left, get_or-append_right, length-replicate, get_or-replicate, take_all}
use Rattle.re_outside.specs.Image.{written, is_in_write}
use Rattle.re_outside.proofs.Images.{length-written}
use Rattle.re_outside.proofs.Honest.{written_torn}

-- its length
pub long : (old bytes : List ℕ) (at : ℕ) → 0 < length bytes → length (written old at bytes) ≡ max (length old) (at + length bytes)
long old [] at some = absurd (omega arith)
long old (b ∷ bytes) at some = length-written old at b bytes

-- the bytes that were written
pub inside : (old bytes : List ℕ) (at i : ℕ) → i < length bytes → slice_index (written old at bytes) (at + i) ≡ slice_index bytes i
inside old [] at i within = absurd (omega arith)
inside old (b ∷ bytes) at i within =
    let gap = at - length old in
    let front : length (take at old) ≡ min at (length old) = length-take at old in
    let zeros : List ℕ = replicate gap 0 in
    let filled : length zeros ≡ gap = length-replicate gap 0 in
    let body = b ∷ bytes in
    get_or_append_left (take at old ++ (zeros ++ body)) _ 0 (at + i) (omega (arith, length-append (take at old) (zeros ++ body), length-append zeros body, front, filled))
    ∙ (get_or-append_right (take at old) (zeros ++ body) (min at (length old)) (at + i) 0 front (omega arith)
    ∙ (get_or-append_right zeros body gap (at + i - min at (length old)) 0 filled (omega arith)
    ∙ ap (slice_index body) (omega arith)))

-- the gap before them
pub gap_filled : (old bytes : List ℕ) (at i : ℕ) → 0 < length bytes → length old ≤ i → i < at → slice_index (written old at bytes) i ≡ 0
gap_filled old [] at i some past before = absurd (omega arith)
gap_filled old (b ∷ bytes) at i some past before =
    let gap = at - length old in
    let front : length (take at old) ≡ min at (length old) = length-take at old in
    let zeros : List ℕ = replicate gap 0 in
    let filled : length zeros ≡ gap = length-replicate gap 0 in
    let body = b ∷ bytes in
    get_or_append_left (take at old ++ (zeros ++ body)) _ 0 i (omega (arith, length-append (take at old) (zeros ++ body), length-append zeros body, front, filled))
    ∙ (get_or-append_right (take at old) (zeros ++ body) (min at (length old)) i 0 front (omega arith)
    ∙ (get_or_append_left zeros body 0 (i - min at (length old)) (omega (arith, filled))
    ∙ get_or-replicate gap (i - min at (length old)) 0 0 (omega arith)))

out_of : (size at n i : ℕ) → (i < at) ⊎ (at + suc n ≤ i) → i < size → is_in_write size at (suc n) i ≡ false
out_of size at n i (inl low) here = grind (arith, nat_tests)
out_of size at n i (inr high) here = grind (arith, nat_tests)

-- the bytes that were there
pub around : (old bytes : List ℕ) (at i : ℕ) → i < length old → (i < at) ⊎ (at + length bytes ≤ i) → slice_index (written old at bytes) i ≡ slice_index old i
around old [] at i here out = refl
around old (b ∷ bytes) at i here out = (written_torn old at (b ∷ bytes) (length (b ∷ bytes)) (omega arith)).kept i here (out_of (length old) at (length bytes) i out here)

-- a cut that leaves all
pub all_left : (old : List ℕ) (n : ℕ) → length old ≤ n → take n old ≡ old
all_left old n enough = take_all n old enough
