-- Rows after an amount.
use Rattle.std.proofs.Common.{◌≡◌, ◌+◌, ℕ, zero, suc, List, [], ◌∷◌, sym, ap, refl, add-zero, ◌∙◌, arith}
use mathlib.Core.Bool.{true≢false}
use Rattle.std.proofs.lemmas.Bool.Decides.{nat_tests}
use Rattle.std.specs.Int.Signed.{le_z}
use Rattle.std.specs.Int.RustNames.{unsigned_abs}
use Rattle.std.specs.Prelude.{true, false, ℤ, pos, negsuc, slice_index, slice_set}
use Rattle.re_terms.specs.UpdateStates.{raise, rows_after}
use Rattle.re_terms.specs.declared.replicated.Rows.{Rows}

set_same : (row : List ℕ) (device : ℕ) → slice_set row device (slice_index row device + 0) ≡ row
set_same [] zero = refl
set_same [] (suc device) = refl
set_same (n ∷ row) zero = ap (λ k. k ∷ row) (add-zero n)
set_same (n ∷ row) (suc device) = ap (λ r. n ∷ r) (set_same row device)

-- nothing raises nothing
pub raise_none : (device : ℕ) (row : List ℕ) → raise device 0 row ≡ row
unfolding raise
raise_none device row = set_same row device

pub after_increment : (device n : ℕ) (rows : Rows) → record { plus = raise device n rows.plus; minus = rows.minus } ≡ rows_after device (pos n) rows
after_increment device n rows = ap (λ m. record { plus = raise device n rows.plus; minus = m }) (sym (raise_none device rows.minus))

pub after_decrement : (device n : ℕ) (rows : Rows) → record { plus = rows.plus; minus = raise device (suc n) rows.minus } ≡ rows_after device (negsuc n) rows
after_decrement device n rows = ap (λ p. record { plus = p; minus = raise device (suc n) rows.minus }) (sym (raise_none device rows.plus))

-- a row that was raised by the magnitude of an amount of 0 or more, and by that of a negative one
pub after_up : (device n : ℕ) (amount : ℤ) (rows : Rows) (row : List ℕ) → le_z (pos 0) amount ≡ true → n ≡ unsigned_abs amount → row ≡ raise device n rows.plus → record { plus = row; minus = rows.minus } ≡ rows_after device amount rows
after_up device n (pos k) rows row up is e = ap (λ r. record { plus = r; minus = rows.minus }) (e ∙ ap (λ m. raise device m rows.plus) is) ∙ after_increment device k rows
after_up device n (negsuc k) rows row up is e = absurd (true≢false (sym up))

pub after_down : (device n : ℕ) (amount : ℤ) (rows : Rows) (row : List ℕ) → le_z (pos 0) amount ≡ false → n ≡ unsigned_abs amount → row ≡ raise device n rows.minus → record { plus = rows.plus; minus = row } ≡ rows_after device amount rows
after_down device n (pos k) rows row down is e = absurd (grind (arith, nat_tests))
after_down device n (negsuc k) rows row down is e = ap (λ r. record { plus = rows.plus; minus = r }) (e ∙ ap (λ m. raise device m rows.minus) is) ∙ after_decrement device k rows
