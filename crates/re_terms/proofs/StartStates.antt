-- The start state of a shape fits it.
use Rattle.std.proofs.Common.{◌≡◌, ◌<◌, ◌≤◌, ◌^◌, ◌⊎◌, inl, inr, ℕ, Some, List, [], ◌∷◌, length, map, refl, sym, ap, subst, ◌∙◌, arith}
use Rattle.std.specs.Prelude.{slice_get, slice_index}
use Rattle.std.specs.List.{sum_by}
use Rattle.std.specs.List.Sorted.{IsStrictlySortedBy}
use Rattle.std.specs.Option.{option_map}
use Rattle.std.proofs.lemmas.Bool.{cases_lt}
use Rattle.std.proofs.lemmas.List.{length-map, length-replicate, get_or-replicate, get_or_past}
use Rattle.std.proofs.lemmas.List.Elements.{All-replicate}
use Rattle.std.proofs.lemmas.List.Sums.{sum_by-cons}
use Rattle.std.proofs.lemmas.Option.{slice_get-map}
use Rattle.re_terms.specs.declared.replicated.RCell.{RCell}
use Rattle.re_terms.specs.declared.replicated.RKind.{RKind}
use Rattle.re_terms.specs.declared.replicated.RKind.TheVariants as replicated
use Rattle.re_terms.specs.declared.replicated.Shape.{Shape}
use Rattle.re_terms.specs.Shapes.{AreOfDevices, FitsKind, FitsShape, pair_count, start_cell, start_replicated, zeros}

zero_by : (device : ℕ) → (device < 16) ⊎ (16 ≤ device) → slice_index zeros device ≡ 0
zero_by device (inl below) = get_or-replicate 16 device 0 0 below
zero_by device (inr past) = get_or_past zeros device 0 (let n : length zeros ≡ 16 = length-replicate {A = ℕ} 16 0 in omega arith)

-- a list of zeros is one number for each device
zeros_of : (devices bound : ℕ) → 0 < bound → AreOfDevices devices bound zeros
zeros_of devices bound some = record {
  places = length-replicate {A = ℕ} 16 0;
  bounded = All-replicate (λ n. n < bound) 16 0 some;
  none = λ device _. zero_by device (cases_lt device 16);
}

-- a replicated cell at the start is one of its kind
start_cell-fits : (shape : Shape) (k : RKind) → FitsKind shape zeros k (start_cell k)
unfolding IsStrictlySortedBy
start_cell-fits shape replicated.Counter = (zeros_of shape.devices (2 ^ 63) (omega arith), zeros_of shape.devices (2 ^ 63) (omega arith))
start_cell-fits shape (replicated.Set k) = (tt, refl, refl)
start_cell-fits shape (replicated.Register k start) = record {
  bounded = omega arith;
  unwritten = λ _. (refl, refl);
  written = λ above. absurd (omega (arith, above));
}

start_cell-fits_at : (shape : Shape) (kinds : List RKind) (place : ℕ) (k : RKind) (c : RCell) → slice_get kinds place ≡ Some k → slice_get (map start_cell kinds) place ≡ Some c → FitsKind shape zeros k c
start_cell-fits_at shape kinds place k c at there =
    let found : Some (start_cell k) ≡ Some c = sym (slice_get-map start_cell kinds place ∙ ap (option_map start_cell) at) ∙ there in
    let is : start_cell k ≡ c = cc in
    subst (FitsKind shape zeros k) is (start_cell-fits shape k)

no_pair : (k : RKind) → pair_count (start_cell k) ≡ 0
no_pair replicated.Counter = refl
no_pair (replicated.Set k) = refl
no_pair (replicated.Register k start) = refl

no_pairs : (kinds : List RKind) → sum_by pair_count (map start_cell kinds) ≡ 0
no_pairs [] = refl
no_pairs (k ∷ kinds) = omega (arith, sum_by-cons pair_count (start_cell k) (map start_cell kinds), no_pair k, no_pairs kinds)

-- the replicated state at the start has the shape
pub start_fits : (shape : Shape) → FitsShape shape (start_replicated shape)
start_fits shape = record {
  plain = refl;
  counts = zeros_of shape.devices (2 ^ 48) (omega arith);
  count = length-map shape.cells.items start_cell;
  cells = start_cell-fits_at shape shape.cells.items;
  pairs = omega (arith, no_pairs shape.cells.items);
}
