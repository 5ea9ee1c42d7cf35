-- The states for tests fit their shape.
use Rattle.std.proofs.Common.{◌≡◌, ◌<◌, ◌≤◌, ◌^◌, inl, inr, ℕ, zero, suc, Some, [], ◌∷◌, refl, subst, arith}
use Rattle.std.specs.Prelude.{pos, slice_get, slice_index, replicate}
use Rattle.std.specs.List.Sorted.{IsStrictlySortedBy}
use Rattle.std.proofs.lemmas.Bool.{cases_lt}
use Rattle.std.proofs.lemmas.List.{get_or-replicate, get_or_past}
use Rattle.std.proofs.lemmas.List.Elements.{All-cons, All-replicate}
use Rattle.re_terms.specs.Listed.{plain}
use Rattle.re_terms.specs.Shapes.{AreOfDevices, FitsKind, FitsShape, zeros}
use Rattle.re_terms.specs.declared.replicated.RCell.{RCell}
use Rattle.re_terms.specs.declared.replicated.RCell.TheVariants as cell
use Rattle.re_terms.specs.declared.replicated.RKind.{RKind}
use Rattle.re_terms.specs.declared.replicated.RKind.TheVariants as replicated
use Rattle.re_terms.specs.declared.word.Kind.TheVariants as kind
use Rattle.re_terms.specs.declared.word.Word.TheVariants as word
use Rattle.re_replica.specs.Sample.{sample, sample_state}

-- a number of device 0 and no other
numbers_of : (n bound : ℕ) → 0 < bound → n < bound → AreOfDevices 2 bound (n ∷ replicate 15 0)
numbers_of n bound some h = record {
  places = refl;
  bounded = All-cons (λ m. m < bound) n (replicate 15 0) h (All-replicate (λ m. m < bound) 15 0 some);
  none = none;
}
  where
    zero_by : (device : ℕ) → slice_index (replicate 15 0) device ≡ 0
    zero_by device = elim (cases_lt device 15) [
      | inl below ↦ get_or-replicate 15 device 0 0 below
      | inr past ↦ get_or_past (replicate 15 0) device 0 past
    ]

    none : (device : ℕ) → 2 ≤ device → slice_index (n ∷ replicate 15 0) device ≡ 0
    none zero h = absurd (omega arith)
    none (suc device) h = zero_by device

cells_fit : (count stamp place : ℕ) (k : RKind) (c : RCell) → stamp < 2 ^ 52 → slice_get sample.cells.items place ≡ Some k → slice_get (sample_state count stamp).cells.items place ≡ Some c → FitsKind sample (sample_state count stamp).vector.counts k c
unfolding IsStrictlySortedBy
cells_fit count stamp zero k c h found at =
    let a : replicated.Counter ≡ k = cc in
    let b : cell.Counter (record { plus = zeros; minus = zeros }) ≡ c = cc in
    let fits : FitsKind sample (sample_state count stamp).vector.counts replicated.Counter (cell.Counter (record { plus = zeros; minus = zeros })) = (numbers_of 0 (2 ^ 63) (omega arith) (omega arith), numbers_of 0 (2 ^ 63) (omega arith) (omega arith)) in
    subst (λ x. FitsKind sample (sample_state count stamp).vector.counts x c) a (subst (FitsKind sample (sample_state count stamp).vector.counts replicated.Counter) b fits)
cells_fit count stamp (suc zero) k c h found at =
    let a : replicated.Set kind.Int ≡ k = cc in
    let b : cell.Set (plain []) ≡ c = cc in
    let fits : FitsKind sample (sample_state count stamp).vector.counts (replicated.Set kind.Int) (cell.Set (plain [])) = (tt, refl, refl) in
    subst (λ x. FitsKind sample (sample_state count stamp).vector.counts x c) a (subst (FitsKind sample (sample_state count stamp).vector.counts (replicated.Set kind.Int)) b fits)
cells_fit count stamp (suc (suc zero)) k c h found at =
    let a : replicated.Register kind.Int (word.Int (pos 0)) ≡ k = cc in
    let b : cell.Register (record { stamp = stamp; device = 0; word = word.Int (pos 0) }) ≡ c = cc in
    let fits : FitsKind sample (sample_state count stamp).vector.counts (replicated.Register kind.Int (word.Int (pos 0))) (cell.Register (record { stamp = stamp; device = 0; word = word.Int (pos 0) })) = record { bounded = h; unwritten = λ _. (refl, refl); written = λ _. (omega arith, refl) } in
    subst (λ x. FitsKind sample (sample_state count stamp).vector.counts x c) a (subst (FitsKind sample (sample_state count stamp).vector.counts (replicated.Register kind.Int (word.Int (pos 0)))) b fits)
cells_fit count stamp (suc (suc (suc place))) k c h found at = absurd (cc)

pub sample_fits : (count stamp : ℕ) → count < 2 ^ 48 → stamp < 2 ^ 52 → FitsShape sample (sample_state count stamp)
sample_fits count stamp small low = record {
  plain = refl;
  counts = numbers_of count (2 ^ 48) (omega arith) small;
  count = refl;
  cells = λ place k c found at. cells_fit count stamp place k c low found at;
  pairs = omega arith;
}
