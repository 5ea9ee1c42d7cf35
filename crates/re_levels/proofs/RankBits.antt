-- Sets of ranks, word by word.
use Rattle.std.proofs.Common.{◌≡◌, ◌<◌, ◌≤◌, ◌+◌, ◌*◌, ◌/◌, ◌%◌, ◌^◌, ◌==◌, ◌⊎◌, inl, inr, ℕ, Bool, true, false, ◌&&◌, ◌||◌, List, length, get_or, refl, sym, ap, ◌∙◌, arith}
use Rattle.std.specs.Prelude.{not, bit_or, bit_and, nat_lt}
use Rattle.std.specs.Int.{bit_at, bit_not, trailing_zeros, w64}
use Rattle.std.proofs.Math.ListN.{set}
use Rattle.std.proofs.lemmas.Bool.{cases_eq, eq-eqb, ne_eqb, ltb-true, ltb-false}
use Rattle.std.proofs.lemmas.List.{get_or-set_same, get_or-set_other, get_or_past}
use Rattle.std.proofs.lemmas.Nat.Bits.{bit_at-zero, bit_at-trailing_zeros, bit_at_set_same, bit_at_set_other, bit_at_clear_same, bit_at_clear_other}
use Rattle.re_levels.specs.declared.ranks.Ranks.{Ranks as Set}
use Rattle.re_levels.specs.Ranks.{TakesLowest, has_bit}

or_true : (b : Bool) → (b || true) ≡ true
or_true true = refl
or_true false = refl

or_false : (b : Bool) → (b || false) ≡ b
or_false true = refl
or_false false = refl

and_true : (b : Bool) → (b && true) ≡ b
and_true true = refl
and_true false = refl

and_false : (b : Bool) → (b && false) ≡ false
and_false true = refl
and_false false = refl

-- a word in the place of another
same_word : (words : List ℕ) (w rank other : ℕ) → rank / 64 < length words → other / 64 ≡ rank / 64 → has_bit (set words (rank / 64) w) other ≡ (bit_at w (other % 64) == 1)
same_word words w rank other within e = ap (λ k. bit_at (get_or (set words (rank / 64) w) k 0) (other % 64) == 1) e ∙ ap (λ n. bit_at n (other % 64) == 1) (get_or-set_same words (rank / 64) w 0 within)

other_word : (words : List ℕ) (w rank other : ℕ) → (other / 64 ≡ rank / 64 → ⊥) → has_bit (set words (rank / 64) w) other ≡ has_bit words other
other_word words w rank other away = ap (λ n. bit_at n (other % 64) == 1) (get_or-set_other words (rank / 64) (other / 64) w 0 away)

own_word : (words : List ℕ) (rank other : ℕ) → other / 64 ≡ rank / 64 → has_bit words other ≡ (bit_at (get_or words (rank / 64) 0) (other % 64) == 1)
own_word words rank other e = ap (λ k. bit_at (get_or words k 0) (other % 64) == 1) e

module _ (words : List ℕ) (rank : ℕ) (within : rank / 64 < length words) where
  abbrev put : ℕ
  put = bit_or (get_or words (rank / 64) 0) (1 * 2 ^ (rank % 64) % 2 ^ 64)

  put_by : (other : ℕ) → other / 64 ≡ rank / 64 → (other % 64 ≡ rank % 64) ⊎ (other % 64 ≡ rank % 64 → ⊥) → has_bit (set words (rank / 64) put) other ≡ (has_bit words other || (rank == other))
  put_by other e (inl f) =
      let here : rank ≡ other = omega arith in
      same_word words put rank other within e
      ∙ ap (λ k. bit_at put k == 1) f
      ∙ eq-eqb (bit_at put (rank % 64)) 1 (bit_at_set_same w64 (get_or words (rank / 64) 0) (rank % 64) (omega arith))
      ∙ sym (or_true (has_bit words other))
      ∙ ap (λ b. has_bit words other || b) (sym (eq-eqb rank other here))
  put_by other e (inr g) =
      let away : rank ≡ other → ⊥ = λ s. g (ap (λ k. k % 64) (sym s)) in
      same_word words put rank other within e
      ∙ ap (λ n. n == 1) (bit_at_set_other w64 (get_or words (rank / 64) 0) (rank % 64) (omega arith) (other % 64) g)
      ∙ sym (own_word words rank other e)
      ∙ sym (or_false (has_bit words other))
      ∙ ap (λ b. has_bit words other || b) (sym (ne_eqb rank other away))

  put_any : (other : ℕ) → (other / 64 ≡ rank / 64) ⊎ (other / 64 ≡ rank / 64 → ⊥) → has_bit (set words (rank / 64) put) other ≡ (has_bit words other || (rank == other))
  put_any other (inl e) = put_by other e (cases_eq (other % 64) (rank % 64))
  put_any other (inr g) =
      let away : rank ≡ other → ⊥ = λ s. g (ap (λ k. k / 64) (sym s)) in
      other_word words put rank other g
      ∙ sym (or_false (has_bit words other))
      ∙ ap (λ b. has_bit words other || b) (sym (ne_eqb rank other away))

  -- one number more
  pub has_bit-put : (other : ℕ) → has_bit (set words (rank / 64) put) other ≡ (has_bit words other || (rank == other))
  has_bit-put other = put_any other (cases_eq (other / 64) (rank / 64))

  abbrev cleared : ℕ
  cleared = bit_and (get_or words (rank / 64) 0) (bit_not w64 (1 * 2 ^ (rank % 64) % 2 ^ 64))

  clear_by : (other : ℕ) → other / 64 ≡ rank / 64 → (other % 64 ≡ rank % 64) ⊎ (other % 64 ≡ rank % 64 → ⊥) → has_bit (set words (rank / 64) cleared) other ≡ (has_bit words other && not (rank == other))
  clear_by other e (inl f) =
      let here : rank ≡ other = omega arith in
      same_word words cleared rank other within e
      ∙ ap (λ k. bit_at cleared k == 1) f
      ∙ ap (λ n. n == 1) (bit_at_clear_same w64 (get_or words (rank / 64) 0) (rank % 64) (omega arith))
      ∙ sym (and_false (has_bit words other))
      ∙ ap (λ b. has_bit words other && not b) (sym (eq-eqb rank other here))
  clear_by other e (inr g) =
      let away : rank ≡ other → ⊥ = λ s. g (ap (λ k. k % 64) (sym s)) in
      same_word words cleared rank other within e
      ∙ ap (λ n. n == 1) (bit_at_clear_other w64 (get_or words (rank / 64) 0) (rank % 64) (omega arith) (other % 64) (omega arith) g)
      ∙ sym (own_word words rank other e)
      ∙ sym (and_true (has_bit words other))
      ∙ ap (λ b. has_bit words other && not b) (sym (ne_eqb rank other away))

  clear_any : (other : ℕ) → (other / 64 ≡ rank / 64) ⊎ (other / 64 ≡ rank / 64 → ⊥) → has_bit (set words (rank / 64) cleared) other ≡ (has_bit words other && not (rank == other))
  clear_any other (inl e) = clear_by other e (cases_eq (other % 64) (rank % 64))
  clear_any other (inr g) =
      let away : rank ≡ other → ⊥ = λ s. g (ap (λ k. k / 64) (sym s)) in
      other_word words cleared rank other g
      ∙ sym (and_true (has_bit words other))
      ∙ ap (λ b. has_bit words other && not b) (sym (ne_eqb rank other away))

  -- one number less
  pub has_bit-cleared : (other : ℕ) → has_bit (set words (rank / 64) cleared) other ≡ (has_bit words other && not (rank == other))
  has_bit-cleared other = clear_any other (cases_eq (other / 64) (rank / 64))

-- a word of nothing has no number
pub has_bit-nothing : (words : List ℕ) (other : ℕ) → get_or words (other / 64) 0 ≡ 0 → has_bit words other ≡ false
has_bit-nothing words other e = ap (λ n. bit_at n (other % 64) == 1) e ∙ ap (λ n. n == 1) (bit_at-zero (other % 64))

-- behind the words there is no number
pub has_bit-past : (words : List ℕ) (other : ℕ) → length words * 64 ≤ other → has_bit words other ≡ false
has_bit-past words other past = has_bit-nothing words other (get_or_past words (other / 64) 0 (omega arith))

module _ (words : List ℕ) (place word : ℕ) (is : word ≡ get_or words place 0) (some : word ≡ 0 → ⊥) (fits : word < 2 ^ 64) (none : (k : ℕ) → k < place → get_or words k 0 ≡ 0) where
  lowest_is : (trailing_zeros w64 word < 64) × (bit_at word (trailing_zeros w64 word) ≡ 1) × ((i : ℕ) → i < trailing_zeros w64 word → bit_at word i ≡ 0)
  lowest_is = bit_at-trailing_zeros w64 word (omega arith) fits

  abbrev lowest : ℕ
  lowest = place * 64 + trailing_zeros w64 word

  pub lowest_bit : trailing_zeros w64 word < 64
  lowest_bit = lowest_is.0

  pub lowest_place : lowest / 64 ≡ place
  lowest_place = omega (arith, lowest_is.0)

  pub lowest_rest : lowest % 64 ≡ trailing_zeros w64 word
  lowest_rest = omega (arith, lowest_is.0)

  -- the lowest number is in the set
  pub lowest_had : has_bit words lowest ≡ true
  lowest_had =
      ap (λ k. bit_at (get_or words k 0) (lowest % 64) == 1) lowest_place
      ∙ ap (λ n. bit_at n (lowest % 64) == 1) (sym is)
      ∙ ap (λ k. bit_at word k == 1) lowest_rest
      ∙ eq-eqb (bit_at word (trailing_zeros w64 word)) 1 lowest_is.1

  below_by : (other : ℕ) → other < lowest → (b : Bool) → nat_lt (other / 64) place ≡ b → has_bit words other ≡ false
  below_by other under true lt = has_bit-nothing words other (none (other / 64) (ltb-true (other / 64) place lt))
  below_by other under false lt =
      let from : place ≤ other / 64 = ltb-false (other / 64) place lt in
      let here : other / 64 ≡ place = omega (arith, lowest_is.0) in
      let rest : other % 64 < trailing_zeros w64 word = omega (arith, lowest_is.0) in
      ap (λ k. bit_at (get_or words k 0) (other % 64) == 1) here
      ∙ ap (λ n. bit_at n (other % 64) == 1) (sym is)
      ∙ ap (λ n. n == 1) (lowest_is.2 (other % 64) rest)

  -- and nothing below it is
  pub lowest_least : (other : ℕ) → other < lowest → has_bit words other ≡ false
  lowest_least other under = below_by other under (nat_lt (other / 64) place) refl

-- the lowest number is taken out of a set
pub takes_lowest : (words : List ℕ) (place : ℕ) → place < length words → length words ≡ 8 → (get_or words place 0 ≡ 0 → ⊥) → get_or words place 0 < 2 ^ 64 → ((k : ℕ) → k < place → get_or words k 0 ≡ 0)
    → (old new : Set) → old.bits ≡ words → new.bits ≡ set words place (bit_and (get_or words place 0) (bit_not w64 (1 * 2 ^ trailing_zeros w64 (get_or words place 0) % 2 ^ 64)))
    → TakesLowest old new (place * 64 + trailing_zeros w64 (get_or words place 0))
takes_lowest words place within count some fits none old new was is =
    let word : ℕ = get_or words place 0 in
    let rank : ℕ = place * 64 + trailing_zeros w64 word in
    let bit : trailing_zeros w64 word < 64 = lowest_bit words place word refl some fits none in
    let at : rank / 64 ≡ place = lowest_place words place word refl some fits none in
    let rest : rank % 64 ≡ trailing_zeros w64 word = lowest_rest words place word refl some fits none in
    let inside : rank / 64 < length words = omega arith in
    let gone : new.bits ≡ set words (rank / 64) (bit_and (get_or words (rank / 64) 0) (bit_not w64 (1 * 2 ^ (rank % 64) % 2 ^ 64))) =
    is
    ∙ ap (λ b. set words place (bit_and (get_or words place 0) (bit_not w64 (1 * 2 ^ b % 2 ^ 64)))) (sym rest)
    ∙ ap (λ k. set words k (bit_and (get_or words k 0) (bit_not w64 (1 * 2 ^ (rank % 64) % 2 ^ 64)))) (sym at) in
    record {
      small = omega arith;
      had = ap (λ ws. has_bit ws rank) was ∙ lowest_had words place word refl some fits none;
      lowest = λ other under. ap (λ ws. has_bit ws other) was ∙ lowest_least words place word refl some fits none other under;
      left = λ other. ap (λ ws. has_bit ws other) gone ∙ has_bit-cleared words rank inside other ∙ ap (λ ws. has_bit ws other && not (rank == other)) (sym was);
    }
