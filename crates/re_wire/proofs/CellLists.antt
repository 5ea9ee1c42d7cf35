-- Reading cells one behind the other, as a loop does.
use Rattle.std.proofs.Common.{◌≡◌, ℕ, ◌-◌, ◌+◌, ◌≤◌, ◌<◌, List, [], ◌∷◌, ◌++◌, length, drop, get_or, Result, Ok, Err, refl, sym, ap, ◌∙◌}
use Rattle.std.proofs.lemmas.List.{append-nil, drop_all, drop_more}
use Rattle.re_terms.specs.Shapes.{pair_count}
use Rattle.re_terms.specs.declared.replicated.RCell.{RCell}
use Rattle.re_terms.specs.declared.replicated.RKind.{RKind}
use Rattle.re_terms.specs.declared.replicated.Shape.{Shape}
use Rattle.re_wire.specs.declared.fault.WireFault.{WireFault}
use Rattle.re_wire.specs.declared.fault.WireFault.TheVariants as faults
use Rattle.re_wire.specs.Reading.{Fails, cell_at, cells_at}
use Rattle.re_wire.proofs.Several.{with_front, regroup}

next_kind : (ks : List RKind) (i : ℕ) (k : RKind) → i < length ks → k ≡ get_or ks i k → drop i ks ≡ k ∷ drop (i + 1) ks
next_kind ks i k lt is = drop_more ks i k lt ∙ ap (λ (first : RKind). first ∷ drop (i + 1) ks) (sym is)

pub goes_on : (shape : Shape) (counts : List ℕ) (bytes : List ℕ) (front : List RCell) (ks : List RKind) (i room at : ℕ) (k : RKind) (c : RCell) (after : ℕ) (total : Result (List RCell × ℕ) ℕ) → i < length ks → k ≡ get_or ks i k
    → cell_at shape counts room k bytes at ≡ Ok (c, after) → with_front front (cells_at shape counts room (drop i ks) bytes at) ≡ total
    → with_front (front ++ c ∷ []) (cells_at shape counts (room - pair_count c) (drop (i + 1) ks) bytes after) ≡ total
unfolding cells_at
goes_on shape counts bytes front ks i room at k c after total lt is h so_far =
    let one : with_front front (cells_at shape counts room (drop i ks) bytes at) ≡ with_front (front ++ c ∷ []) (cells_at shape counts (room - pair_count c) (drop (i + 1) ks) bytes after) = rw (next_kind ks i k lt is, h) (regroup front c (cells_at shape counts (room - pair_count c) (drop (i + 1) ks) bytes after)) in
    sym one ∙ so_far

pub ends : (shape : Shape) (counts : List ℕ) (bytes : List ℕ) (e : WireFault) (front : List RCell) (ks : List RKind) (i room at : ℕ) (k : RKind) (total : Result (List RCell × ℕ) ℕ) → i < length ks → k ≡ get_or ks i k
    → Fails e (cell_at shape counts room k bytes at) → with_front front (cells_at shape counts room (drop i ks) bytes at) ≡ total → Fails e total
unfolding cells_at
ends shape counts bytes faults.Memory front ks i room at k total lt is h so_far = tt
ends shape counts bytes (faults.At place) front ks i room at k total lt is h so_far =
    let one : with_front front (cells_at shape counts room (drop i ks) bytes at) ≡ Err place = rw (next_kind ks i k lt is, h) refl in
    sym so_far ∙ one

pub is_done : (shape : Shape) (counts : List ℕ) (bytes : List ℕ) (front : List RCell) (ks : List RKind) (i room at : ℕ) (total : Result (List RCell × ℕ) ℕ) → length ks ≤ i
    → with_front front (cells_at shape counts room (drop i ks) bytes at) ≡ total → total ≡ Ok (front, at)
unfolding cells_at
is_done shape counts bytes front ks i room at total le so_far =
    let one : with_front front (cells_at shape counts room (drop i ks) bytes at) ≡ Ok (front, at) = rw (drop_all i ks le) (ap (λ (cs : List RCell). Ok (cs, at)) (append-nil front)) in
    sym so_far ∙ one
