-- Small cases that the definitions were read against.
use Rattle.std.specs.Prelude.{◌||◌}
use Rattle.std.specs.Int.{w64, to_be_bytes}
use Rattle.std.proofs.Common.{◌≡◌, inl, inr, ℕ, zero, suc, lit<, ◌+◌, ◌<◌, ◌≤◌, true, false, List, [], ◌∷◌, ◌++◌, length, slice_index, refl, ap, ◌∙◌, arith, length-append}
use Rattle.re_outside.specs.FileAct.{Wrote}
use Rattle.re_outside.specs.Frame.{is_blank, IsClosed, Bad, HasStoreFrame}
use Rattle.re_outside.specs.Image.{is_in_write, IsCrashImage}

-- ---- what a stop may leave

kept_byte : (i : ℕ) → i < 3 → (is_in_write 3 1 1 i || false) ≡ false → slice_index (1 ∷ 7 ∷ 3 ∷ []) i ≡ slice_index (1 ∷ 2 ∷ 3 ∷ []) i
kept_byte zero a b = refl
kept_byte (suc zero) a b = absurd (cc)
kept_byte (suc (suc zero)) a b = refl
kept_byte (suc (suc (suc n))) a b = absurd (omega arith)

-- the byte that was written may be any byte
torn_byte : IsCrashImage (1 ∷ 2 ∷ 3 ∷ []) (Wrote 1 (9 ∷ []) ∷ []) (1 ∷ 7 ∷ 3 ∷ [])
torn_byte = record { no_shorter = omega arith; no_longer = omega arith; kept = λ i a b c. kept_byte i a c }

-- no other byte changes
other_byte : IsCrashImage (1 ∷ 2 ∷ 3 ∷ []) (Wrote 1 (9 ∷ []) ∷ []) (8 ∷ 2 ∷ 3 ∷ []) → ⊥
other_byte image = let e : ◌≡◌ {A = ℕ} 8 1 = image.kept 0 (lit< tt) (lit< tt) refl in absurd (cc)

-- the file is no longer than the write made it
too_long : IsCrashImage (1 ∷ []) (Wrote 2 (9 ∷ []) ∷ []) (1 ∷ 5 ∷ 6 ∷ 7 ∷ []) → ⊥
too_long image = let h : 4 ≤ 3 = image.no_longer in omega arith

-- ---- frames

-- a file of the one byte 1 is blank
one_byte : is_blank (1 ∷ []) ≡ true
one_byte = refl

-- a gate of 7 is closed
seven_closed : (rest : List ℕ) → IsClosed (7 ∷ rest)
seven_closed rest = (7, rest, (λ e. let same : ◌≡◌ {A = ℕ} 7 1 = e in absurd (omega (arith, same))), refl)

no_bytes : (g : ℕ) (rest : List ℕ) → [] ≡ to_be_bytes w64 g ++ rest → ⊥
no_bytes g rest e = absurd (let l : 0 ≡ length (to_be_bytes w64 g) + length rest = ap length e ∙ length-append (to_be_bytes w64 g) rest in let m : length (to_be_bytes w64 g) ≡ 8 = refl in omega (arith, l, m))

-- a snapshot of 70 bytes that is cut off at once is refused at its first byte
cut_at_five : HasStoreFrame (1 ∷ 0 ∷ 0 ∷ 0 ∷ 70 ∷ []) [] (Bad 0 5)
cut_at_five = inl (inl (refl, (refl, 0 ∷ 0 ∷ 0 ∷ 70 ∷ [], refl, inr (70, [], refl, (omega arith, omega arith), (λ g rest e fits. no_bytes g rest e), refl))))
