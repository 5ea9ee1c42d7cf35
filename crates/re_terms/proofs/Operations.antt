-- The law of one operation.
use Rattle.std.proofs.Common.{◌≡◌, ℕ, zero, suc, ◌+◌, ◌<◌, ◌≤◌, Bool, true, false, cond, List, [], ◌∷◌, ◌++◌, None, refl, sym, ap, ◌∙◌, subst, arith, inl, inr, length}
use Rattle.std.specs.Prelude.{◌&&◌, ◌⊎◌, ◌≢◌, nat_eq, max, slice_index, slice_set}
use Rattle.std.specs.List.{filter}
use Rattle.std.proofs.lemmas.Bool.Decides.{nat_tests}
use Rattle.std.proofs.lemmas.Bool.{cases_eq}
use Rattle.std.proofs.lemmas.List.{get_or-set_same, get_or-set_other}
use Rattle.std.proofs.lemmas.List.Elements.{filter-append}
use Rattle.re_terms.specs.declared.word.Word.{Word}
use Rattle.re_terms.specs.declared.replicated.Dot.{Dot}
use Rattle.re_terms.specs.declared.replicated.Pair.{Pair}
use Rattle.re_terms.specs.declared.replicated.Act.{Act}
use Rattle.re_terms.specs.declared.replicated.Act.TheVariants.{Add, Insert, Remove, Write}
use Rattle.re_terms.specs.declared.replicated.Written.{Written}
use Rattle.re_terms.proofs.Logs.{numbered_of, covers-from, covers-gives, covers-up, IsIn-from_filter, IsIn-left, IsIn-right, greatest-covered, at-vector_of, fresh, seen_covered}
use Rattle.re_terms.proofs.OneMore.{Past, past_of, not_true, same_number, inserted-at, inserted-other, takes-at, takes-other, pairs-insert, pairs-remove, pairs-same, row-push, row-same, write-push, stamp-write, set-by_device}
use Rattle.re_terms.specs.CellStates.{Pairing.AddWins, inserted_by, takes_element, pairs_of, row_of, rows_of, increment, decrement, unwritten, written, written_by, or_later, join_written, is_after, written_of}
use Rattle.re_terms.specs.UpdateStates.{content_of, contents_from, state_of_updates, raise, act_on, change_at, after_operation}
use Rattle.re_terms.specs.Updates.{Update, IsIn, covered, IsCausallyClosed, IsNext, IsCausalLog, greatest_stamp, write_stamp, count_of, next_update, operation_of, vector_of, greatest_number}
use Rattle.re_terms.specs.Vectors.{covers, AtMost, with_dot}
use Rattle.re_terms.specs.Listed.{plain}
use Rattle.re_terms.specs.declared.replicated.RCell.TheVariants as content
use Rattle.re_terms.specs.declared.replicated.RKind.{RKind}
use Rattle.re_terms.specs.declared.replicated.RepOp.{RepOp}
use Rattle.re_terms.specs.declared.word.Kind.{Kind}
use Rattle.re_terms.specs.declared.replicated.RKind.TheVariants as kind
use Rattle.re_terms.specs.declared.replicated.Shape.{Shape}
use Rattle.re_terms.proofs.Joint.{IsContinuation-append}

-- ---- one cell

unequal : (a b : ℕ) → a ≢ b → nat_eq a b ≡ false
unequal a b h = grind (arith, nat_tests)

pub same_tests : (a b : Bool) → (a ≡ true → b ≡ true) → (b ≡ true → a ≡ true) → a ≡ b
same_tests true b h k = sym (h refl)
same_tests false true h k = k refl
same_tests false false h k = refl

filter_same : (p q : Update → Bool) (xs : List Update) → ((x : Update) → IsIn x xs → p x ≡ q x) → filter p xs ≡ filter q xs
filter_same p q [] h = refl
filter_same p q (x ∷ xs) h = λ i. cond (h x (inl refl) i) (x ∷ filter_same p q xs (λ y k. h y (inr k)) i) (filter_same p q xs (λ y k. h y (inr k)) i)

cond_zero : (b : Bool) (n : ℕ) → n ≡ 0 → cond b n 0 ≡ 0
cond_zero true n e = e
cond_zero false n e = refl

written-at : (u : Update) → written u.cell u ≡ written_by u.act u.stamp u.dot.device
unfolding written
written-at u = ap (λ b. cond b (written_by u.act u.stamp u.dot.device) None) (same_number u.cell u.cell refl)

module _ (us : List Update) (u : Update) (past : Past us u) where
  rows_same : (a : Act) → u.act ≡ a → increment a ≡ 0 → decrement a ≡ 0 → rows_of u.cell (us ++ u ∷ []) ≡ rows_of u.cell us
  rows_same a e p m = λ i. record {
    plus = row-same increment u.cell us u (λ d. cond_zero _ _ (ap increment e ∙ p)) i;
    minus = row-same decrement u.cell us u (λ d. cond_zero _ _ (ap decrement e ∙ m)) i;
  }

  counter_push : (a : Act) → u.act ≡ a → content.Counter (rows_of u.cell (us ++ u ∷ [])) ≡ act_on kind.Counter u.dot a (content.Counter (rows_of u.cell us))
  counter_push (Add n) e = λ i. content.Counter (record {
    plus = (row-push increment us u past.device ∙ ap (λ a. raise u.dot.device (increment a) (row_of increment u.cell us)) e) i;
    minus = (row-push decrement us u past.device ∙ ap (λ a. raise u.dot.device (decrement a) (row_of decrement u.cell us)) e) i;
  })
  counter_push (Insert w) e = ap content.Counter (rows_same (Insert w) e refl refl)
  counter_push (Remove w) e = ap content.Counter (rows_same (Remove w) e refl refl)
  counter_push (Write w) e = ap content.Counter (rows_same (Write w) e refl refl)

  pairs_keep : (a : Act) → u.act ≡ a → inserted_by AddWins a u.dot ≡ None → ((q : Pair) → takes_element AddWins q.element a ≡ false) → pairs_of AddWins u.cell (us ++ u ∷ []) ≡ pairs_of AddWins u.cell us
  pairs_keep a e none silent = pairs-same us u past AddWins u.cell (inserted-at AddWins u.cell u refl ∙ ap (λ x. inserted_by AddWins x u.dot) e ∙ none) (λ q. takes-at AddWins u.cell q u refl ∙ ap (λ x. takes_element AddWins q.element x && covers u.seen q.dot) e ∙ ap (λ b. b && covers u.seen q.dot) (silent q))

  set_push : (k : Kind) (a : Act) → u.act ≡ a → content.Set (plain (pairs_of AddWins u.cell (us ++ u ∷ []))) ≡ act_on (kind.Set k) u.dot a (content.Set (plain (pairs_of AddWins u.cell us)))
  set_push k (Add n) e = ap (λ ps. content.Set (plain ps)) (pairs_keep (Add n) e refl (λ q. refl))
  set_push k (Insert w) e = ap (λ ps. content.Set (plain ps)) (pairs-insert us u past w e)
  set_push k (Remove w) e = ap (λ ps. content.Set (plain ps)) (pairs-remove us u past w e)
  set_push k (Write w) e = ap (λ ps. content.Set (plain ps)) (pairs_keep (Write w) e refl (λ q. refl))

  written_keep : (start : Word) (a : Act) → u.act ≡ a → written_by a u.stamp u.dot.device ≡ None → written_of start u.cell (us ++ u ∷ []) ≡ written_of start u.cell us
  written_keep start a e none = write-push u.cell (unwritten start) us u ∙ ap (or_later (written_of start u.cell us)) (written-at u ∙ ap (λ x. written_by x u.stamp u.dot.device) e ∙ none)

  later_wins : (r s : Written) → r.stamp < s.stamp → join_written r s ≡ s
  unfolding join_written
  later_wins r s h = ap (λ b. cond b s r) (let e : is_after r s ≡ true = grind (arith, nat_tests) in e)

  register_push : (k : Kind) (start : Word) (a : Act) → u.act ≡ a → content.Register (written_of start u.cell (us ++ u ∷ [])) ≡ act_on (kind.Register k start) u.dot a (content.Register (written_of start u.cell us))
  register_push k start (Add n) e = ap content.Register (written_keep start (Add n) e refl)
  register_push k start (Insert w) e = ap content.Register (written_keep start (Insert w) e refl)
  register_push k start (Remove w) e = ap content.Register (written_keep start (Remove w) e refl)
  register_push k start (Write w) e =
      let r = written_of start u.cell us in
      let stamp : u.stamp ≡ r.stamp + 1 = past.stamp ∙ ap (λ a. write_stamp a (greatest_stamp u.cell us + 1)) e ∙ (let k = stamp-write u.cell (unwritten start) us in omega arith) in
      let s : Written = record { stamp = u.stamp; device = u.dot.device; word = w } in
      ap content.Register (
      write-push u.cell (unwritten start) us u
      ∙ ap (or_later r) (written-at u ∙ ap (λ x. written_by x u.stamp u.dot.device) e)
      ∙ later_wins r s (omega arith)
      ∙ ap (λ n. record { stamp = n; device = u.dot.device; word = w }) stamp)

  cell_push : (k : RKind) → content_of k u.cell (us ++ u ∷ []) ≡ act_on k u.dot u.act (content_of k u.cell us)
  cell_push kind.Counter = counter_push u.act refl
  cell_push (kind.Set k) = set_push k u.act refl
  cell_push (kind.Register k start) = register_push k start u.act refl

  -- ---- the other cells

  cell_other : (k : RKind) (i : ℕ) → nat_eq u.cell i ≡ false → content_of k i (us ++ u ∷ []) ≡ content_of k i us
  unfolding written
  cell_other kind.Counter i e = λ j. content.Counter (record {
    plus = row-same increment i us u (λ d. ap (λ b. cond (b && nat_eq u.dot.device d) (increment u.act) 0) e) j;
    minus = row-same decrement i us u (λ d. ap (λ b. cond (b && nat_eq u.dot.device d) (decrement u.act) 0) e) j;
  })
  cell_other (kind.Set k) i e = ap (λ ps. content.Set (plain ps)) (pairs-same us u past AddWins i (inserted-other AddWins i u e) (λ q. takes-other AddWins i q u e))
  cell_other (kind.Register k start) i e = ap content.Register (write-push i (unwritten start) us u ∙ ap (or_later (written_of start i us)) (ap (λ b. cond b (written_by u.act u.stamp u.dot.device) None) e))

  cells_other : (ks : List RKind) (i : ℕ) → u.cell < i → contents_from i ks (us ++ u ∷ []) ≡ contents_from i ks us
  cells_other [] i h = refl
  cells_other (k ∷ ks) i h = λ j. cell_other k i (unequal u.cell i (omega arith)) j ∷ cells_other ks (i + 1) (omega arith) j

  cells_push : (ks : List RKind) (i c : ℕ) → i + c ≡ u.cell → contents_from i ks (us ++ u ∷ []) ≡ change_at c (λ k. act_on k u.dot u.act) ks (contents_from i ks us)
  cells_push [] i c h = refl
  cells_push (k ∷ ks) i zero h =
      let e : u.cell ≡ i = omega arith in
      λ j. subst (λ n. content_of k n (us ++ u ∷ []) ≡ act_on k u.dot u.act (content_of k n us)) e (cell_push k) j ∷ cells_other ks (i + 1) (omega arith) j
  cells_push (k ∷ ks) i (suc c) h = λ j. cell_other k i (unequal u.cell i (omega arith)) j ∷ cells_push ks (i + 1) c (omega arith) j

-- ---- the vector

greatest_number-push : (d : ℕ) (us : List Update) (u : Update) → greatest_number d (us ++ u ∷ []) ≡ max (greatest_number d us) (cond (nat_eq u.dot.device d) u.dot.number 0)
unfolding greatest_number
greatest_number-push d [] u = omega arith
greatest_number-push d (x ∷ us) u = let k = greatest_number-push d us u in omega arith

-- ---- the log

module _ (b : List Update) (u : Update) (causal : IsCausalLog b) (is_next : IsNext b u) where
  pub causal_push : IsCausalLog (b ++ u ∷ [])
  causal_push = IsContinuation-append [] b (u ∷ []) causal (is_next, tt)

  at-with_dot_other : (e : ℕ) → e ≢ u.dot.device → slice_index (with_dot u.seen u.dot) e ≡ slice_index u.seen e
  at-with_dot_other e ne = get_or-set_other u.seen u.dot.device e u.dot.number 0 ne

  at-with_dot : slice_index (with_dot u.seen u.dot) u.dot.device ≡ u.dot.number
  at-with_dot = let d = is_next.device in let p = is_next.places in get_or-set_same u.seen u.dot.device u.dot.number 0 (omega arith)

  AtMost-with_dot : AtMost u.seen (with_dot u.seen u.dot)
  AtMost-with_dot e = elim (cases_eq e u.dot.device) [
    | inl same ↦ subst (λ x. slice_index u.seen x ≤ slice_index (with_dot u.seen u.dot) x) (sym same) (let a = at-with_dot in let o = is_next.own in let n = is_next.number in omega arith)
    | inr other ↦ let a = at-with_dot_other e other in omega arith
  ]

  -- the new vector covers the old one's dots and the new dot
  covers-with_dot : (q : Dot) → covers (with_dot u.seen u.dot) q ≡ true → (covers u.seen q ≡ true) ⊎ (u.dot ≡ q)
  covers-with_dot q e =
      let c = covers-gives _ q e in
      elim (cases_eq q.device u.dot.device) [
        | inl same ↦ a_case q same c.0 (subst (λ n. q.number ≤ n) at-with_dot (subst (λ x. q.number ≤ slice_index (with_dot u.seen u.dot) x) same c.1))
        | inr other ↦ inl (covers-from u.seen q c.0 (let k = at-with_dot_other q.device other in omega arith))
      ]
    where
      a_case : (q : Dot) → q.device ≡ u.dot.device → 0 < q.number → q.number ≤ u.dot.number → (covers u.seen q ≡ true) ⊎ (u.dot ≡ q)
      a_case q same pos le = elim (cases_eq q.number u.dot.number) [
        | inl e ↦ inr (λ i. record { device = sym same i; number = sym e i })
        | inr ne ↦ inl (covers-from u.seen q pos (let o = is_next.own in let n = is_next.number in let k : slice_index u.seen q.device ≡ slice_index u.seen u.dot.device = ap (slice_index u.seen) same in omega arith))
      ]

  pub closed_push : IsCausallyClosed (b ++ u ∷ []) (with_dot u.seen u.dot)
  closed_push q e = elim (covers-with_dot q e) [
    | inl old ↦ let c = is_next.past q old in (c.0, IsIn-left c.0 b _ c.1, c.2, λ d. let x = c.3 d in let y = AtMost-with_dot d in omega arith)
    | inr new ↦ (u, IsIn-right u b _ (inl refl), new, AtMost-with_dot)
  ]

  same_cover : (x : Update) → IsIn x b → covers (with_dot u.seen u.dot) x.dot ≡ covers u.seen x.dot
  same_cover x h = same_tests _ _
      (λ e. elim (covers-with_dot x.dot e) [ inl old ↦ old | inr new ↦ absurd (fresh b u (numbered_of b causal) is_next x h (sym new)) ])
      (λ e. covers-up u.seen (with_dot u.seen u.dot) x.dot AtMost-with_dot e)

  covers_new : covers (with_dot u.seen u.dot) u.dot ≡ true
  covers_new = covers-from _ u.dot (let n = is_next.number in omega arith) (let k = at-with_dot in omega arith)

  pub covered_push : covered (b ++ u ∷ []) (with_dot u.seen u.dot) ≡ covered b u.seen ++ u ∷ []
  covered_push =
      let t = λ (x : Update). covers (with_dot u.seen u.dot) x.dot in
      filter-append t b (u ∷ []) ∙ (λ i. filter_same t (λ x. covers u.seen x.dot) b same_cover i ++ cond (covers_new i) (u ∷ []) [])

  old_greatest : greatest_number u.dot.device (covered b u.seen) + 1 ≡ u.dot.number
  old_greatest = let g = greatest-covered b u.seen is_next.past u.dot.device in let o = is_next.own in let n = is_next.number in omega arith

  vector_push : vector_of (covered b u.seen ++ u ∷ []) ≡ slice_set (vector_of (covered b u.seen)) u.dot.device u.dot.number
  unfolding vector_of
  vector_push = sym (set-by_device _ _ u.dot.device u.dot.number is_next.device
      (greatest_number-push u.dot.device (covered b u.seen) u ∙ ap (λ c. max (greatest_number u.dot.device (covered b u.seen)) (cond c u.dot.number 0)) (same_number u.dot.device u.dot.device refl) ∙ (let k = old_greatest in omega arith))
      (λ e ne. greatest_number-push e (covered b u.seen) u ∙ ap (λ c. max (greatest_number e (covered b u.seen)) (cond c u.dot.number 0)) (unequal u.dot.device e (λ k. ne (sym k))) ∙ omega arith))

  number_is : slice_index (vector_of (covered b u.seen)) u.dot.device + 1 ≡ u.dot.number
  number_is = let a = at-vector_of b u.seen (numbered_of b causal) is_next.past u.dot.device in let o = is_next.own in let n = is_next.number in omega arith

  pub state_push : (shape : Shape) → state_of_updates shape (covered (b ++ u ∷ []) (with_dot u.seen u.dot)) ≡ after_operation shape u.dot.device (operation_of u) (state_of_updates shape (covered b u.seen))
  state_push shape =
      let us = covered b u.seen in
      ap (state_of_updates shape) covered_push
      ∙ (λ j. record { vector = record { counts = vector_push j }; cells = plain (cells_push us u (past_of b u causal is_next) shape.cells.items 0 u.cell (omega arith) j) })
      ∙ ap (λ n. record { vector = record { counts = slice_set (vector_of us) u.dot.device n }; cells = plain (change_at u.cell (λ k. act_on k (record { device = u.dot.device; number = n }) u.act) shape.cells.items (contents_from 0 shape.cells.items us)) }) (sym number_is)

-- the next update of a device whose vector has all its numbers may come next
pub next_update_is_next : (b : List Update) (v : List ℕ) (device : ℕ) (op : RepOp) → IsCausallyClosed b v → device < 16 → length v ≡ 16 → slice_index v device ≡ count_of device b → IsNext b (next_update b v device op)
next_update_is_next b v device op closed small places own =
    record { device = small; places = places; number = ap (λ n. n + 1) own; own = own; past = closed; stamp = refl }

-- ---- one more update, whatever else the log has

module _ (b : List Update) (v : List ℕ) (device : ℕ) (op : RepOp) (causal : IsCausalLog b) (closed : IsCausallyClosed b v) (small : device < 16) where
  abbrev next : Update
  next = next_update b v device op

  next_past : Past (covered b v) next
  next_past =
      record {
        device = small;
        known = λ x h. (IsIn-from_filter (λ x. covers v x.dot) x b h).1;
        seen = λ x h. let m = IsIn-from_filter (λ x. covers v x.dot) x b h in seen_covered b v (numbered_of b causal) closed x m.0 m.1;
        new = not_true _ (λ e. let c = covers-gives v next.dot e in absurd (omega arith));
        stamp = refl;
      }

  taken_vector : vector_of (covered b v ++ next ∷ []) ≡ slice_set (vector_of (covered b v)) device (slice_index v device + 1)
  unfolding vector_of
  taken_vector = sym (set-by_device _ _ device (slice_index v device + 1) small
      (greatest_number-push device (covered b v) next ∙ ap (λ c. max (greatest_number device (covered b v)) (cond c (slice_index v device + 1) 0)) (same_number device device refl) ∙ (let k = greatest-covered b v closed device in omega arith))
      (λ e ne. greatest_number-push e (covered b v) next ∙ ap (λ c. max (greatest_number e (covered b v)) (cond c (slice_index v device + 1) 0)) (unequal device e (λ k. ne (sym k))) ∙ omega arith))

  pub state_taken : (shape : Shape) → state_of_updates shape (covered b v ++ next ∷ []) ≡ after_operation shape device op (state_of_updates shape (covered b v))
  state_taken shape =
      let us = covered b v in
      (λ j. record { vector = record { counts = taken_vector j }; cells = plain (cells_push us next next_past shape.cells.items 0 op.cell (omega arith) j) })
      ∙ ap (λ n. record { vector = record { counts = slice_set (vector_of us) device (n + 1) }; cells = plain (change_at op.cell (λ k. act_on k (record { device = device; number = n + 1 }) op.act) shape.cells.items (contents_from 0 shape.cells.items us)) }) (sym (at-vector_of b v (numbered_of b causal) closed device))
