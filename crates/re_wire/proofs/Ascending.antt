-- Reading pairs one behind the other, as a loop does.
use Rattle.std.proofs.Common.{◌≡◌, ℕ, suc, ◌-◌, ◌+◌, ◌≤◌, ◌<◌, List, [], ◌∷◌, ◌++◌, Option, Some, Result, Ok, Err, refl, sym, ap, ◌∙◌, arith}
use Rattle.std.proofs.lemmas.List.{append-nil}
use Rattle.re_terms.specs.declared.word.Kind.{Kind}
use Rattle.re_terms.specs.declared.replicated.Pair.{Pair}
use Rattle.re_terms.specs.declared.replicated.Shape.{Shape}
use Rattle.re_wire.specs.declared.fault.WireFault.{WireFault}
use Rattle.re_wire.specs.declared.fault.WireFault.TheVariants as faults
use Rattle.re_wire.specs.Reading.{Fails, Refuses, pair_at, ascending_at}
use Rattle.re_wire.proofs.Several.{with_front, regroup}

pub goes_on : (shape : Shape) (k : Kind) (counts : List ℕ) (bytes : List ℕ) (front : List Pair) (count i : ℕ) (before : Option Pair) (at : ℕ) (p : Pair) (after : ℕ) (total : Result (List Pair × ℕ) ℕ) → i < count
    → pair_at shape k counts before bytes at ≡ Ok (p, after) → with_front front (ascending_at shape k counts (count - i) before bytes at) ≡ total
    → with_front (front ++ p ∷ []) (ascending_at shape k counts (count - (i + 1)) (Some p) bytes after) ≡ total
unfolding ascending_at
goes_on shape k counts bytes front count i before at p after total lt h so_far =
    let left : count - i ≡ suc (count - (i + 1)) = omega arith in
    let one : with_front front (ascending_at shape k counts (count - i) before bytes at) ≡ with_front (front ++ p ∷ []) (ascending_at shape k counts (count - (i + 1)) (Some p) bytes after) = rw (left, h) (regroup front p (ascending_at shape k counts (count - (i + 1)) (Some p) bytes after)) in
    sym one ∙ so_far

pub ends : (shape : Shape) (k : Kind) (counts : List ℕ) (bytes : List ℕ) (e : WireFault) (front : List Pair) (count i : ℕ) (before : Option Pair) (at : ℕ) (total : Result (List Pair × ℕ) ℕ) → i < count
    → Refuses e (pair_at shape k counts before bytes at) → with_front front (ascending_at shape k counts (count - i) before bytes at) ≡ total → Fails e total
unfolding ascending_at
ends shape k counts bytes faults.Memory front count i before at total lt h so_far = tt
ends shape k counts bytes (faults.At place) front count i before at total lt h so_far =
    let left : count - i ≡ suc (count - (i + 1)) = omega arith in
    let one : with_front front (ascending_at shape k counts (count - i) before bytes at) ≡ Err place = rw (left, h) refl in
    sym so_far ∙ one

pub is_done : (shape : Shape) (k : Kind) (counts : List ℕ) (bytes : List ℕ) (front : List Pair) (count i : ℕ) (before : Option Pair) (at : ℕ) (total : Result (List Pair × ℕ) ℕ) → count ≤ i
    → with_front front (ascending_at shape k counts (count - i) before bytes at) ≡ total → total ≡ Ok (front, at)
unfolding ascending_at
is_done shape k counts bytes front count i before at total le so_far =
    let left : count - i ≡ 0 = omega arith in
    let one : with_front front (ascending_at shape k counts (count - i) before bytes at) ≡ Ok (front, at) = rw left (ap (λ (ps : List Pair). Ok (ps, at)) (append-nil front)) in
    sym so_far ∙ one
