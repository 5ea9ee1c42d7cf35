-- Vectors and rows, as far as they are read.
use Rattle.std.proofs.Common.{◌≡◌, ℕ, ◌-◌, ◌+◌, ◌<◌, ◌≤◌, List, [], ◌∷◌, ◌++◌, length, map, set, replicate, Result, Ok, refl, sym, ap, ◌∙◌, arith, length-append}
use Rattle.std.proofs.lemmas.List.{length-map, map_push}
use Rattle.re_wire.specs.Reading.{padded, several_at}
use Rattle.re_wire.proofs.Several.{with_front, with_nothing, goes_on, is_done, set_padded}

-- the numbers of the first devices are read and stand in their places; and with what is still to be read they give the total
pub record IsReadTo (read : ℕ → Result (ℕ × ℕ) ℕ) (devices device at : ℕ) (counts : List ℕ) (total : Result (List ℕ × ℕ) ℕ) : Type 0 where
  pub front : List ℕ
  pub len : length front ≡ device
  pub places : counts ≡ front ++ replicate (16 - device) 0
  pub so_far : with_front front (several_at read (devices - device) at) ≡ total

pub record AreReadTo (read : ℕ → Result ((ℕ × ℕ) × ℕ) ℕ) (devices device at : ℕ) (increments decrements : List ℕ) (total : Result (List (ℕ × ℕ) × ℕ) ℕ) : Type 0 where
  pub front : List (ℕ × ℕ)
  pub len : length front ≡ device
  pub plus : increments ≡ map (λ row. row.0) front ++ replicate (16 - device) 0
  pub minus : decrements ≡ map (λ row. row.1) front ++ replicate (16 - device) 0
  pub so_far : with_front front (several_at read (devices - device) at) ≡ total

pub none_read : (read : ℕ → Result (ℕ × ℕ) ℕ) (devices at : ℕ) → IsReadTo read devices 0 at (replicate 16 0) (several_at read devices at)
none_read read devices at = record { front = []; len = refl; places = refl; so_far = ap (λ (n : ℕ). with_front [] (several_at read n at)) (omega arith) ∙ with_nothing (several_at read devices at) }

pub one_more : (read : ℕ → Result (ℕ × ℕ) ℕ) (devices device at : ℕ) (counts : List ℕ) (total : Result (List ℕ × ℕ) ℕ) (x after : ℕ) → device < devices → devices ≤ 16 → read at ≡ Ok (x, after)
    → IsReadTo read devices device at counts total → IsReadTo read devices (device + 1) after (set counts device x) total
one_more read devices device at counts total x after lt few h so =
    record {
      front = so.front ++ x ∷ [];
      len = omega (arith, length-append so.front (x ∷ []), so.len);
      places = ap (λ (xs : List ℕ). set xs device x) so.places ∙ set_padded so.front device x so.len (omega arith);
      so_far = goes_on read so.front devices device at x after total lt h so.so_far;
    }

pub no_rows_read : (read : ℕ → Result ((ℕ × ℕ) × ℕ) ℕ) (devices at : ℕ) → AreReadTo read devices 0 at (replicate 16 0) (replicate 16 0) (several_at read devices at)
no_rows_read read devices at = record { front = []; len = refl; plus = refl; minus = refl; so_far = ap (λ (n : ℕ). with_front [] (several_at read n at)) (omega arith) ∙ with_nothing (several_at read devices at) }

set_mapped : (f : ℕ × ℕ → ℕ) (front : List (ℕ × ℕ)) (i : ℕ) (numbers : List ℕ) (x : ℕ × ℕ) → length front ≡ i → i < 16 → numbers ≡ map f front ++ replicate (16 - i) 0 → set numbers i (f x) ≡ map f (front ++ x ∷ []) ++ replicate (16 - (i + 1)) 0
set_mapped f front i numbers x len lt e =
    ap (λ (xs : List ℕ). set xs i (f x)) e ∙ set_padded (map f front) i (f x) (length-map front f ∙ len) lt ∙ ap (λ (xs : List ℕ). xs ++ replicate (16 - (i + 1)) 0) (sym (map_push f front x))

pub one_more_row : (read : ℕ → Result ((ℕ × ℕ) × ℕ) ℕ) (devices device at : ℕ) (increments decrements : List ℕ) (total : Result (List (ℕ × ℕ) × ℕ) ℕ) (x y after : ℕ) → device < devices → devices ≤ 16 → read at ≡ Ok ((x, y), after)
    → AreReadTo read devices device at increments decrements total → AreReadTo read devices (device + 1) after (set increments device x) (set decrements device y) total
one_more_row read devices device at increments decrements total x y after lt few h so =
    record {
      front = so.front ++ (x, y) ∷ [];
      len = omega (arith, length-append so.front ((x, y) ∷ []), so.len);
      plus = set_mapped (λ row. row.0) so.front device increments (x, y) so.len (omega arith) so.plus;
      minus = set_mapped (λ row. row.1) so.front device decrements (x, y) so.len (omega arith) so.minus;
      so_far = goes_on read so.front devices device at (x, y) after total lt h so.so_far;
    }

pub all_read : (read : ℕ → Result (ℕ × ℕ) ℕ) (devices device at : ℕ) (counts : List ℕ) (total : Result (List ℕ × ℕ) ℕ) → device ≡ devices → IsReadTo read devices device at counts total → (numbers : List ℕ) × (total ≡ Ok (numbers, at)) × (padded numbers ≡ counts)
all_read read devices device at counts total e so =
    (so.front, is_done read so.front devices device at total (omega arith) so.so_far, ap (λ (n : ℕ). so.front ++ replicate (16 - n) 0) so.len ∙ sym so.places)

pub all_rows_read : (read : ℕ → Result ((ℕ × ℕ) × ℕ) ℕ) (devices device at : ℕ) (increments decrements : List ℕ) (total : Result (List (ℕ × ℕ) × ℕ) ℕ) → device ≡ devices → AreReadTo read devices device at increments decrements total
    → (rows : List (ℕ × ℕ)) × (total ≡ Ok (rows, at)) × (padded (map (λ row. row.0) rows) ≡ increments) × (padded (map (λ row. row.1) rows) ≡ decrements)
all_rows_read read devices device at increments decrements total e so = (
  so.front,
  is_done read so.front devices device at total (omega arith) so.so_far,
  ap (λ (n : ℕ). map (λ row. row.0) so.front ++ replicate (16 - n) 0) (length-map so.front (λ row. row.0) ∙ so.len) ∙ sym so.plus,
  ap (λ (n : ℕ). map (λ row. row.1) so.front ++ replicate (16 - n) 0) (length-map so.front (λ row. row.1) ∙ so.len) ∙ sym so.minus,
)
