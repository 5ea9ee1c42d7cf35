-- The state after an operation and the limit that it would pass, by what the act does to its cell.
use Rattle.std.proofs.Common.{◌≡◌, ℕ, ◌+◌, ◌<◌, ◌≤◌, ◌^◌, ◌↔◌, true, false, cond, inl, inr, Result, Ok, Err, Option, None, Some, length, refl, sym, ap, ◌∙◌, subst, arith}
use Rattle.std.specs.Prelude.{◌||◌, nat_le, nat_lt, slice_get, slice_index, slice_set}
use Rattle.std.specs.List.{sum_by}
use Rattle.std.specs.Option.{option_map_or}
use Rattle.std.proofs.lemmas.Bool.{cases_lt}
use Rattle.std.proofs.lemmas.Bool.Decides.{nat_tests}
use Rattle.std.proofs.lemmas.Option.{slice_get_within}
use Rattle.re_terms.specs.Admission.{is_act_of}
use Rattle.re_terms.specs.Limits.{OperationFault, OperationFault.CounterFull, OperationFault.DotsSpent, OperationFault.SetFull, at_cell, operation_fault, stamp_after, total_after}
use Rattle.re_terms.specs.Listed.{Listed, plain}
use Rattle.re_terms.specs.ShapedUpdates.{is_operation_in}
use Rattle.re_terms.specs.Shapes.{FitsShape, pair_count}
use Rattle.re_terms.specs.UpdateStates.{act_on, after_operation}
use Rattle.re_terms.specs.declared.replicated.Dot.{Dot}
use Rattle.re_terms.specs.declared.replicated.RCell.{RCell}
use Rattle.re_terms.specs.declared.replicated.RepOp.{RepOp}
use Rattle.re_terms.specs.declared.replicated.RState.{RState}
use Rattle.re_terms.specs.declared.replicated.Shape.{Shape}
use Rattle.re_replica.specs.Cells.{acted, at_place}
use Rattle.re_replica.specs.declared.fault.ReplicaFault.{ReplicaFault}
use Rattle.re_replica.specs.declared.fault.ReplicaFault.TheVariants as fault
use Rattle.re_replica.proofs.Shaped.{acted_is, change_is}

abbrev pub dot_of : ℕ → RState → Dot
dot_of device r = record { device = device; number = slice_index r.vector.counts device + 1 }

-- an operation's cell is there
pub operation_within : (shape : Shape) (op : RepOp) → is_operation_in shape op ≡ true → op.cell < length shape.cells.items
operation_within shape op e = by_kind (slice_get shape.cells.items op.cell) refl e
  where
    by_kind : (found : Option _) → slice_get shape.cells.items op.cell ≡ found → option_map_or (λ k. is_act_of shape.symbols k op.act) found false ≡ true → op.cell < length shape.cells.items
    by_kind None is e = absurd (cc)
    by_kind (Some k) is e = slice_get_within shape.cells.items op.cell k is

module _ (shape : Shape) (device : ℕ) (op : RepOp) (r : RState) (fits : FitsShape shape r) where
  cells_are : (after_operation shape device op r).cells.items ≡ at_place op.cell (acted (dot_of device r) op.act) r.cells.items
  cells_are = change_is (λ k. act_on k (dot_of device r) op.act) (acted (dot_of device r) op.act) op.cell shape.cells.items r.cells.items fits.count
      (λ k c found at. acted_is shape r.vector.counts k c (dot_of device r) op.act (fits.cells op.cell k c found at))

  pub state_is : (cells : Listed RCell) → cells ≡ record { items = at_place op.cell (acted (dot_of device r) op.act) r.cells.items; spare = r.cells.spare } → record { vector = record { counts = slice_set r.vector.counts device (slice_index r.vector.counts device + 1) }; cells = cells } ≡ after_operation shape device op r
  state_is cells e =
      let is : cells ≡ plain (at_place op.cell (acted (dot_of device r) op.act) r.cells.items) = e ∙ ap (λ n. record { items = at_place op.cell (acted (dot_of device r) op.act) r.cells.items; spare = n }) fits.plain in
      let all : cells ≡ (after_operation shape device op r).cells = is ∙ ap plain (sym cells_are) in
      ap (λ l. record { vector = record { counts = slice_set r.vector.counts device (slice_index r.vector.counts device + 1) }; cells = l }) all

-- the first limit that these numbers pass
abbrev pub fault_of : (number stamp pairs total : ℕ) → Option OperationFault
fault_of number stamp pairs total =
    cond (nat_le (2 ^ 48) number || nat_le (2 ^ 52) stamp) (Some DotsSpent)
    (cond (nat_lt 1024 pairs) (Some SetFull)
    (cond (nat_le (2 ^ 63) total) (Some CounterFull) None))

pub fault_is : (shape : Shape) (device : ℕ) (op : RepOp) (r : RState) → FitsShape shape r → operation_fault shape device op r ≡ fault_of (slice_index r.vector.counts device + 1) (at_cell (stamp_after op.act) (slice_get r.cells.items op.cell)) (sum_by pair_count (at_place op.cell (acted (dot_of device r) op.act) r.cells.items)) (at_cell (total_after op.act device) (slice_get r.cells.items op.cell))
fault_is shape device op r fits = ap (λ l. fault_of (slice_index r.vector.counts device + 1) (at_cell (stamp_after op.act) (slice_get r.cells.items op.cell)) (sum_by pair_count l) (at_cell (total_after op.act device) (slice_get r.cells.items op.cell))) (cells_are shape device op r fits)

-- an answer says which limit would be passed
pub record Answers (answer : Result (Unit {0}) ReplicaFault) (o : Option OperationFault) : Type 0 where
  pub dots_spent : (answer ≡ Err fault.DotsSpent) ↔ (o ≡ Some DotsSpent)
  pub set_full : (answer ≡ Err fault.SetFull) ↔ (o ≡ Some SetFull)
  pub counter_full : (answer ≡ Err fault.CounterFull) ↔ (o ≡ Some CounterFull)
  pub none : answer ≡ Ok tt → o ≡ None

spent : (number stamp pairs total : ℕ) → 2 ^ 52 ≤ stamp → fault_of number stamp pairs total ≡ Some DotsSpent
spent number stamp pairs total h = grind (arith, nat_tests)

full : (number stamp pairs total : ℕ) → number < 2 ^ 48 → stamp < 2 ^ 52 → 1024 < pairs → fault_of number stamp pairs total ≡ Some SetFull
full number stamp pairs total n s h = grind (arith, nat_tests)

total_full : (number stamp pairs total : ℕ) → number < 2 ^ 48 → stamp < 2 ^ 52 → pairs ≤ 1024 → 2 ^ 63 ≤ total → fault_of number stamp pairs total ≡ Some CounterFull
total_full number stamp pairs total n s p h = grind (arith, nat_tests)

none_full : (number stamp pairs total : ℕ) → number < 2 ^ 48 → stamp < 2 ^ 52 → pairs ≤ 1024 → total < 2 ^ 63 → fault_of number stamp pairs total ≡ None
none_full number stamp pairs total n s p h = grind (arith, nat_tests)

pub answers_are : (answer : Result (Unit {0}) ReplicaFault) (number stamp pairs total : ℕ) → number < 2 ^ 48 → (answer ≡ Err fault.DotsSpent) ↔ (2 ^ 52 ≤ stamp) → (answer ≡ Err fault.SetFull) ↔ (1024 < pairs) → (answer ≡ Err fault.CounterFull) ↔ (2 ^ 63 ≤ total) → Answers answer (fault_of number stamp pairs total)
answers_are answer number stamp pairs total n dots sets counters =
    elim (cases_lt stamp (2 ^ 52)) [
      | inr high ↦ let a = dots.1 high in let o = spent number stamp pairs total high in record { dots_spent = (λ _. o, λ _. a); set_full = (λ e. absurd (cc), λ e. absurd (cc)); counter_full = (λ e. absurd (cc), λ e. absurd (cc)); none = λ e. absurd (cc) }
      | inl low ↦ elim (cases_lt 1024 pairs) [
        | inl over ↦ let a = sets.1 over in let o = full number stamp pairs total n low over in record { dots_spent = (λ e. absurd (cc), λ e. absurd (cc)); set_full = (λ _. o, λ _. a); counter_full = (λ e. absurd (cc), λ e. absurd (cc)); none = λ e. absurd (cc) }
        | inr room ↦ elim (cases_lt total (2 ^ 63)) [
          | inr high ↦ let a = counters.1 high in let o = total_full number stamp pairs total n low room high in record { dots_spent = (λ e. absurd (cc), λ e. absurd (cc)); set_full = (λ e. absurd (cc), λ e. absurd (cc)); counter_full = (λ _. o, λ _. a); none = λ e. absurd (cc) }
          | inl small ↦ let o = none_full number stamp pairs total n low room small in record { dots_spent = (λ e. absurd (let k = dots.0 e in omega arith), λ e. absurd (cc)); set_full = (λ e. absurd (let k = sets.0 e in omega arith), λ e. absurd (cc)); counter_full = (λ e. absurd (let k = counters.0 e in omega arith), λ e. absurd (cc)); none = λ _. o }
        ]
      ]
    ]

-- the same of the numbers that a call was given
pub answers_of :
    (shape : Shape) (device : ℕ) (op : RepOp) (r : RState) → FitsShape shape r
    → (place : ℕ) (dot : Dot) (answer : Result (Unit {0}) ReplicaFault) → place ≡ op.cell → dot ≡ dot_of device r
    → slice_index r.vector.counts device + 1 < 2 ^ 48
    → (answer ≡ Err fault.DotsSpent) ↔ (2 ^ 52 ≤ at_cell (stamp_after op.act) (slice_get r.cells.items place))
    → (answer ≡ Err fault.SetFull) ↔ (1024 < sum_by pair_count (at_place place (acted dot op.act) r.cells.items))
    → (answer ≡ Err fault.CounterFull) ↔ (2 ^ 63 ≤ at_cell (total_after op.act dot.device) (slice_get r.cells.items place))
    → Answers answer (operation_fault shape device op r)
answers_of shape device op r fits place dot answer at is number dots sets counters =
    let Q : ℕ → Dot → Type 0 = λ p d. Answers answer (fault_of d.number (at_cell (stamp_after op.act) (slice_get r.cells.items p)) (sum_by pair_count (at_place p (acted d op.act) r.cells.items)) (at_cell (total_after op.act d.device) (slice_get r.cells.items p))) in
    let here : Q place dot = answers_are answer dot.number _ _ _ (subst (λ (d : Dot). d.number < 2 ^ 48) (sym is) number) dots sets counters in
    let there : Q op.cell dot = subst (λ p. Q p dot) at here in
    let own : Q op.cell (dot_of device r) = subst (λ d. Q op.cell d) is there in
    subst (Answers answer) (sym (fault_is shape device op r fits)) own

-- and of the state that it leaves
pub state_of : (shape : Shape) (device : ℕ) (op : RepOp) (r : RState) → FitsShape shape r → (own place : ℕ) (dot : Dot) (cells : Listed RCell) → own ≡ device → place ≡ op.cell → dot ≡ dot_of device r → cells ≡ record { items = at_place place (acted dot op.act) r.cells.items; spare = r.cells.spare } → record { vector = record { counts = slice_set r.vector.counts own dot.number }; cells = cells } ≡ after_operation shape device op r
state_of shape device op r fits own place dot cells same at is e =
    (λ i. record { vector = record { counts = slice_set r.vector.counts (same i) ((is i).number) }; cells = cells })
    ∙ state_is shape device op r fits cells (e ∙ (λ i. record { items = at_place (at i) (acted (is i) op.act) r.cells.items; spare = r.cells.spare }))
