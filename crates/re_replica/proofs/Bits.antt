-- Bits of numbers.
use Rattle.std.proofs.Common.{◌≡◌, ℕ, ◌+◌, ◌-◌, ◌*◌, ◌/◌, ◌%◌, ◌^◌, ◌<◌, true, false, ap, ◌∙◌, arith}
use Rattle.std.specs.Prelude.{nat_eq}
use Rattle.std.proofs.Math.Pow.{pow-lt}
use Rattle.std.proofs.lemmas.Nat.Bits.{bit_at_above, bit_at_cat_low, bit_at_cat_high}
use Rattle.re_replica.specs.Changed.{has_bit}

added : (n place : ℕ) → n + 2 ^ place ≡ 1 * 2 ^ place + n
added n place = omega arith

pub bit_past : (n place : ℕ) → n < 2 ^ place → has_bit n place ≡ false
unfolding has_bit
bit_past n place h = ap (λ b. nat_eq b 1) (bit_at_above n place place h (omega arith))

pub bit_added : (n place : ℕ) → n < 2 ^ place → has_bit (n + 2 ^ place) place ≡ true
unfolding has_bit
bit_added n place h = ap (λ m. nat_eq (m / 2 ^ place % 2) 1) (added n place) ∙ ap (λ b. nat_eq b 1) (bit_at_cat_high 1 place n place h (omega arith)) ∙ ap (λ m. nat_eq (1 / 2 ^ m % 2) 1) (let e : place - place ≡ 0 = omega arith in e)

pub bit_kept : (n place k : ℕ) → k < place → has_bit (n + 2 ^ place) k ≡ has_bit n k
unfolding has_bit
bit_kept n place k h = ap (λ m. nat_eq (m / 2 ^ k % 2) 1) (added n place) ∙ ap (λ b. nat_eq b 1) (bit_at_cat_low 1 place n k h)

-- a one at a place of 32 bits
pub one_shifted : (place : ℕ) → place < 32 → 1 * 2 ^ place % 4294967296 ≡ 2 ^ place
one_shifted place h = ap (λ m. m % 4294967296) (let e : 1 * 2 ^ place ≡ 2 ^ place = omega arith in e) ∙ small_mod (2 ^ place) (pow_small place h)
  where
    small_mod : (n : ℕ) → n < 4294967296 → n % 4294967296 ≡ n
    small_mod n h = omega arith

    pow_small : (place : ℕ) → place < 32 → 2 ^ place < 4294967296
    pow_small place h = pow-lt {i = place} {j = 32} h
