-- Sets of regions, as bits.
use Rattle.std.proofs.Common.{◌≡◌, ◌<◌, ◌≤◌, ◌*◌, ◌/◌, ◌^◌, ◌%◌, ◌==◌, ◌⊎◌, inl, inr, ℕ, zero, suc, Bool, true, false, ◌||◌, max, refl, sym, ap, ◌∙◌, arith}
use Rattle.std.specs.Prelude.{bit_or, bit_and}
use Rattle.std.specs.Int.{bit_at}
use Rattle.std.proofs.lemmas.Bool.{cases_eq, eq-eqb, ne_eqb}
use Rattle.std.proofs.lemmas.Nat.Bits.{bit_at_or, bit_at-lt, bit_at-zero, bit_at-pow_same, bit_at-pow_other, shr_and_one}
use Rattle.std.proofs.Math.Bool.{or_comm}
use Rattle.re_graph.specs.Kept.{has_bit}

bits_or : (a b : ℕ) → a < 2 → b < 2 → (max a b == 1) ≡ ((a == 1) || (b == 1))
bits_or a b p q = grind arith

-- one of two sets
pub has_bit-or : (a b region : ℕ) → has_bit (bit_or a b) region ≡ (has_bit a region || has_bit b region)
has_bit-or a b region = ap (λ n. n == 1) (bit_at_or a b region) ∙ bits_or (bit_at a region) (bit_at b region) (bit_at-lt a region) (bit_at-lt b region)

-- the set of nothing
pub has_bit-none : (region : ℕ) → has_bit 0 region ≡ false
has_bit-none region = ap (λ n. n == 1) (bit_at-zero region)

one_by : (own region : ℕ) → (own ≡ region) ⊎ (own ≡ region → ⊥) → has_bit (2 ^ own) region ≡ (own == region)
one_by own region (inl e) = ap (λ n. bit_at (2 ^ n) region == 1) e ∙ ap (λ n. n == 1) (bit_at-pow_same region) ∙ sym (eq-eqb own region e)
one_by own region (inr other) = ap (λ n. n == 1) (bit_at-pow_other own region (λ e. other (sym e))) ∙ sym (ne_eqb own region other)

-- the set of one region
pub has_bit-one : (own region : ℕ) → has_bit (2 ^ own) region ≡ (own == region)
has_bit-one own region = one_by own region (cases_eq own region)

shifted : (own : ℕ) → own ≤ 4 → 1 * 2 ^ own % 2 ^ 8 ≡ 2 ^ own
shifted zero low = refl
shifted (suc zero) low = refl
shifted (suc (suc zero)) low = refl
shifted (suc (suc (suc zero))) low = refl
shifted (suc (suc (suc (suc zero)))) low = refl
shifted (suc (suc (suc (suc (suc n))))) low = absurd (omega arith)

-- one region joined to a set
pub has_bit-joined : (bits own region : ℕ) (b : Bool) → own ≤ 4 → has_bit bits region ≡ b → has_bit (bit_or bits (1 * 2 ^ own % 2 ^ 8)) region ≡ ((own == region) || b)
has_bit-joined bits own region b low is =
    ap (λ n. has_bit (bit_or bits n) region) (shifted own low)
    ∙ has_bit-or bits (2 ^ own) region
    ∙ ap (λ t. has_bit bits region || t) (has_bit-one own region)
    ∙ or_comm (has_bit bits region) (own == region)
    ∙ ap (λ t. (own == region) || t) is

-- the bit that is tried
pub has_bit-tried : (bits region : ℕ) → bit_and (bits / 2 ^ region) 1 ≡ 1 → has_bit bits region ≡ true
has_bit-tried bits region is = eq-eqb (bit_at bits region) 1 (sym (shr_and_one bits region) ∙ is)

pub has_bit-failed : (bits region : ℕ) → (bit_and (bits / 2 ^ region) 1 ≡ 1 → ⊥) → has_bit bits region ≡ false
has_bit-failed bits region isnt = ne_eqb (bit_at bits region) 1 (λ e. isnt (shr_and_one bits region ∙ e))
