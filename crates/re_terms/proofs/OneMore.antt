-- What one more update does to a state.
use Rattle.std.proofs.Common.{◌≡◌, ℕ, ◌+◌, ◌<◌, Bool, true, false, cond, not, List, [], ◌∷◌, ◌++◌, Option, None, Some, refl, sym, ap, ◌∙◌, subst, arith, inl, inr, add-zero, zero-add}
use Rattle.std.specs.Prelude.{◌&&◌, ◌||◌, ◌⊎◌, ◌≢◌, nat_eq, max, slice_index, slice_set}
use Rattle.std.specs.List.{list_any, sum_by}
use Rattle.std.specs.Ordering.{eq_by_cmp}
use Rattle.std.proofs.lemmas.Bool.Decides.{nat_tests}
use Rattle.std.proofs.lemmas.List.{get_or-set_same, get_or-set_other, length-set}
use Rattle.std.proofs.lemmas.List.FromFn.{fill_by_all}
use Rattle.std.proofs.lemmas.List.Sums.{sum_by-append}
use Rattle.std.specs.List.Sorted.{IsStrictlySortedBy}
use Rattle.std.proofs.lemmas.List.Kept.{IsStrictlySortedBy-filter}
use Rattle.re_terms.specs.declared.word.Word.{Word}
use Rattle.re_terms.specs.declared.replicated.Pair.{Pair}
use Rattle.re_terms.specs.declared.replicated.Act.{Act}
use Rattle.re_terms.specs.declared.replicated.Act.TheVariants.{Add, Insert, Remove, Write}
use Rattle.re_terms.specs.declared.replicated.Written.{Written}
use Rattle.re_terms.specs.CellStates.{Pairing, Pairing.AddWins, inserted, inserted_by, takes, takes_element, live, pairs_of, part_of, row_of, written, written_by, or_later, join_written, is_after, greatest_write}
use Rattle.re_terms.specs.UpdateStates.{raise, without}
use Rattle.re_terms.specs.Updates.{Update, IsIn, covered, IsNext, IsCausalLog, greatest_stamp, stamp_in, write_stamp}
use Rattle.re_terms.specs.Vectors.{covers, AtMost, by_device}
use Rattle.re_terms.specs.WordOrder.{pair_cmp, ascending, same_word}
use Rattle.re_terms.proofs.WordOrders.{same_word-is, same_word-refl, same_pair-is, ascending_same, ascending_from, ascending_sorted}
use Rattle.re_terms.proofs.Lists.{any-append, passes}
use Rattle.re_terms.proofs.Logs.{numbered_of, covers-gives, covers-up, at-by_device, length-by_device, IsIn-from_filter, IsIn-from_any, seen_covered}
use Rattle.re_terms.proofs.Sets.{adds, adds-dot, takes-covers, has-live, has-pairs_of, kept}
use Rattle.re_terms.proofs.Registers.{stamp_in-write}

-- what a new update knows of those before it
pub record Past (us : List Update) (u : Update) : Type 0 where
  pub device : u.dot.device < 16
  pub known : (x : Update) → IsIn x us → covers u.seen x.dot ≡ true
  pub seen : (x : Update) → IsIn x us → AtMost x.seen u.seen
  pub new : covers u.seen u.dot ≡ false
  pub stamp : u.stamp ≡ write_stamp u.act (greatest_stamp u.cell us + 1)

pub not_true : (b : Bool) → (b ≡ true → ⊥) → b ≡ false
not_true true h = absurd (h refl)
not_true false h = refl

pub past_of : (b : List Update) (u : Update) → IsCausalLog b → IsNext b u → Past (covered b u.seen) u
past_of b u causal is_next =
    let numbered = numbered_of b causal in
    record {
      device = is_next.device;
      known = λ x h. (IsIn-from_filter (λ x. covers u.seen x.dot) x b h).1;
      seen = λ x h. let m = IsIn-from_filter (λ x. covers u.seen x.dot) x b h in seen_covered b u.seen numbered is_next.past x m.0 m.1;
      new = not_true _ (λ e. let c = covers-gives u.seen u.dot e in let n = is_next.number in let o = is_next.own in absurd (omega arith));
      stamp = is_next.stamp;
    }

-- ---- sets

or_false : (b : Bool) → (b || false) ≡ b
or_false true = refl
or_false false = refl

any-push : (f : Update → Bool) (us : List Update) (u : Update) → list_any f (us ++ u ∷ []) ≡ (list_any f us || f u)
any-push f us u = any-append f us (u ∷ []) ∙ ap (λ b. list_any f us || b) (or_false (f u))

pub same_number : (a b : ℕ) → a ≡ b → nat_eq a b ≡ true
same_number a b e = grind (arith, nat_tests)

module _ (us : List Update) (u : Update) (past : Past us u) where
  -- a pair of these is covered
  added_known : (m : Pairing) (cell : ℕ) (q : Pair) → list_any (adds m cell q) us ≡ true → covers u.seen q.dot ≡ true
  added_known m cell q e = let r = IsIn-from_any (adds m cell q) us e in ap (covers u.seen) (sym (adds-dot m cell q r.0 r.2)) ∙ past.known r.0 r.1

  taken_known : (m : Pairing) (cell : ℕ) (q : Pair) → list_any (takes m cell q) us ≡ true → covers u.seen q.dot ≡ true
  taken_known m cell q e = let r = IsIn-from_any (takes m cell q) us e in covers-up _ u.seen q.dot (past.seen r.0 r.1) (takes-covers m cell q r.0 r.2)

  live-push : (m : Pairing) (cell : ℕ) (q : Pair) → list_any (eq_by_cmp pair_cmp q) (live m cell (us ++ u ∷ [])) ≡ ((list_any (adds m cell q) us || adds m cell q u) && not (list_any (takes m cell q) us || takes m cell q u))
  live-push m cell q = has-live m cell (us ++ u ∷ []) q ∙ (λ i. any-push (adds m cell q) us u i && not (any-push (takes m cell q) us u i))

inserted_point : (a t e s s' c : Bool) → (a ≡ true → c ≡ true) → (t ≡ true → c ≡ true) → (e ≡ true → c ≡ false) → s' ≡ s → ((a || e) && not (t || (s' && c))) ≡ (e || ((a && not t) && not s))
inserted_point a t e s s' c h k n q = grind arith

removed_point : (a t s s' c : Bool) → (a ≡ true → c ≡ true) → s' ≡ s → ((a || false) && not (t || (s' && c))) ≡ ((a && not t) && not s)
removed_point a t s s' c h q = grind arith

kept_point : (a t : Bool) → ((a || false) && not (t || false)) ≡ (a && not t)
kept_point a t = grind arith

-- words tie both ways
same_word-swap : (a b : Word) → same_word a b ≡ same_word b a
same_word-swap a b =
    elim (same_word a b) as (λ x. same_word a b ≡ x → x ≡ same_word b a) [
      | true ↦ λ e. sym (ap (same_word b) (same_word-is a b e) ∙ same_word-refl b)
      | false ↦ λ e. elim (same_word b a) as (λ y. same_word b a ≡ y → false ≡ y) [ true ↦ λ k. sym e ∙ ap (same_word a) (same_word-is b a k) ∙ same_word-refl a | false ↦ λ _. refl ] refl
    ] refl

pub inserted-at : (m : Pairing) (cell : ℕ) (u : Update) → u.cell ≡ cell → inserted m cell u ≡ inserted_by m u.act u.dot
unfolding inserted
inserted-at m cell u e = ap (λ b. cond b (inserted_by m u.act u.dot) None) (same_number _ _ e)

pub inserted-other : (m : Pairing) (cell : ℕ) (u : Update) → nat_eq u.cell cell ≡ false → inserted m cell u ≡ None
unfolding inserted
inserted-other m cell u e = ap (λ b. cond b (inserted_by m u.act u.dot) None) e

pub takes-at : (m : Pairing) (cell : ℕ) (q : Pair) (u : Update) → u.cell ≡ cell → takes m cell q u ≡ (takes_element m q.element u.act && covers u.seen q.dot)
unfolding takes
takes-at m cell q u e = ap (λ b. b && (takes_element m q.element u.act && covers u.seen q.dot)) (same_number _ _ e)

pub takes-other : (m : Pairing) (cell : ℕ) (q : Pair) (u : Update) → nat_eq u.cell cell ≡ false → takes m cell q u ≡ false
unfolding takes
takes-other m cell q u e = ap (λ b. b && (takes_element m q.element u.act && covers u.seen q.dot)) e

pub sorted_without : (e : Word) (ps : List Pair) → IsStrictlySortedBy pair_cmp ps → IsStrictlySortedBy pair_cmp (without e ps)
unfolding without
sorted_without e ps h = IsStrictlySortedBy-filter pair_cmp (λ p. not (same_word p.element e)) ps h

module _ (us : List Update) (u : Update) (past : Past us u) where
  has-without : (m : Pairing) (cell : ℕ) (e : Word) (q : Pair) → list_any (eq_by_cmp pair_cmp q) (without e (pairs_of m cell us)) ≡ ((list_any (adds m cell q) us && not (list_any (takes m cell q) us)) && not (same_word q.element e))
  unfolding without
  has-without m cell e q = kept (λ p. not (same_word p.element e)) q (pairs_of m cell us) ∙ ap (λ b. b && not (same_word q.element e)) (has-pairs_of m cell us q)

  pub pairs-insert : (e : Word) → u.act ≡ Insert e → pairs_of AddWins u.cell (us ++ u ∷ []) ≡ ascending (record { element = e; dot = u.dot } ∷ without e (pairs_of AddWins u.cell us))
  unfolding pairs_of
  pairs-insert e act = ascending_same _ _ (λ q.
      let new : Pair = record { element = e; dot = u.dot } in
      let a : adds AddWins u.cell q u ≡ eq_by_cmp pair_cmp q new = ap (passes (eq_by_cmp pair_cmp q)) (inserted-at AddWins u.cell u refl ∙ ap (λ x. inserted_by AddWins x u.dot) act) in
      let t : takes AddWins u.cell q u ≡ (same_word e q.element && covers u.seen q.dot) = takes-at AddWins u.cell q u refl ∙ ap (λ x. takes_element AddWins q.element x && covers u.seen q.dot) act in
      live-push us u past AddWins u.cell q
      ∙ (λ i. (list_any (adds AddWins u.cell q) us || a i) && not (list_any (takes AddWins u.cell q) us || t i))
      ∙ inserted_point _ _ _ (same_word q.element e) (same_word e q.element) (covers u.seen q.dot) (added_known us u past AddWins u.cell q) (taken_known us u past AddWins u.cell q) (λ k. ap (λ p. covers u.seen p.dot) (same_pair-is q new k) ∙ past.new) (same_word-swap e q.element)
      ∙ ap (λ b. eq_by_cmp pair_cmp q new || b) (sym (has-without AddWins u.cell e q)))

  pub pairs-remove : (e : Word) → u.act ≡ Remove e → pairs_of AddWins u.cell (us ++ u ∷ []) ≡ without e (pairs_of AddWins u.cell us)
  unfolding pairs_of
  pairs-remove e act = sym (ascending_from (without e (pairs_of AddWins u.cell us)) (live AddWins u.cell (us ++ u ∷ [])) (sorted_without e (pairs_of AddWins u.cell us) sorted) (λ q.
      let a : adds AddWins u.cell q u ≡ false = ap (passes (eq_by_cmp pair_cmp q)) (inserted-at AddWins u.cell u refl ∙ ap (λ x. inserted_by AddWins x u.dot) act) in
      let t : takes AddWins u.cell q u ≡ (same_word e q.element && covers u.seen q.dot) = takes-at AddWins u.cell q u refl ∙ ap (λ x. takes_element AddWins q.element x && covers u.seen q.dot) act in
      sym (live-push us u past AddWins u.cell q
      ∙ (λ i. (list_any (adds AddWins u.cell q) us || a i) && not (list_any (takes AddWins u.cell q) us || t i))
      ∙ removed_point _ _ (same_word q.element e) (same_word e q.element) (covers u.seen q.dot) (added_known us u past AddWins u.cell q) (same_word-swap e q.element)
      ∙ sym (has-without AddWins u.cell e q))))
    where
      sorted : IsStrictlySortedBy pair_cmp (pairs_of AddWins u.cell us)
      sorted = ascending_sorted (live AddWins u.cell us)

  pub pairs-same : (m : Pairing) (cell : ℕ) → inserted m cell u ≡ None → ((q : Pair) → takes m cell q u ≡ false) → pairs_of m cell (us ++ u ∷ []) ≡ pairs_of m cell us
  unfolding pairs_of
  pairs-same m cell none untaken = ascending_same _ _ (λ q.
      live-push us u past m cell q
      ∙ (λ i. (list_any (adds m cell q) us || ap (passes (eq_by_cmp pair_cmp q)) none i) && not (list_any (takes m cell q) us || untaken q i))
      ∙ kept_point _ _
      ∙ sym (has-live m cell us q))

-- ---- counters

eq_or_not : (a b : ℕ) → (a ≡ b) ⊎ (a ≢ b)
eq_or_not a b = grind arith

pub set-by_device : (f g : ℕ → ℕ) (d n : ℕ) → d < 16 → g d ≡ n → ((e : ℕ) → e ≢ d → g e ≡ f e) → slice_set (by_device f) d n ≡ by_device g
unfolding by_device
set-by_device f g d n h here other =
    fill_by_all g (slice_set (by_device f) d n) 16 0 (length-set (by_device f) d n ∙ length-by_device f) (λ k lt.
    elim (eq_or_not k d) [
      | inl e ↦ subst (λ x. slice_index (slice_set (by_device f) d n) x ≡ g x) (sym e) (get_or-set_same (by_device f) d n 0 (let l = length-by_device f in omega arith) ∙ sym here)
      | inr ne ↦ get_or-set_other (by_device f) d k n 0 ne ∙ at-by_device f k lt ∙ sym (other k ne)
    ])

sum-push : (f : Update → ℕ) (us : List Update) (u : Update) → sum_by f (us ++ u ∷ []) ≡ sum_by f us + f u
sum-push f us u = sum_by-append f us (u ∷ []) ∙ ap (λ n. sum_by f us + n) (zero-add (f u))

part_own : (f : Act → ℕ) (u : Update) → part_of f u.cell u.dot.device u ≡ f u.act
part_own f u = grind (arith, nat_tests)

part_other : (f : Act → ℕ) (u : Update) (d : ℕ) → d ≢ u.dot.device → part_of f u.cell d u ≡ 0
part_other f u d h = grind (arith, nat_tests)

pub row-push : (f : Act → ℕ) (us : List Update) (u : Update) → u.dot.device < 16 → row_of f u.cell (us ++ u ∷ []) ≡ raise u.dot.device (f u.act) (row_of f u.cell us)
unfolding row_of raise
row-push f us u h = sym (set-by_device _ _ u.dot.device _ h
    (sum-push (part_of f u.cell u.dot.device) us u ∙ ap (λ n. sum_by (part_of f u.cell u.dot.device) us + n) (part_own f u) ∙ ap (λ n. n + f u.act) (sym (at-by_device (λ d. sum_by (part_of f u.cell d) us) u.dot.device h)))
    (λ e ne. sum-push (part_of f u.cell e) us u ∙ ap (λ n. sum_by (part_of f u.cell e) us + n) (part_other f u e ne) ∙ add-zero _))

pub row-same : (f : Act → ℕ) (cell : ℕ) (us : List Update) (u : Update) → ((d : ℕ) → part_of f cell d u ≡ 0) → row_of f cell (us ++ u ∷ []) ≡ row_of f cell us
unfolding row_of
row-same f cell us u none = ap by_device (λ i d. (sum-push (part_of f cell d) us u ∙ ap (λ n. sum_by (part_of f cell d) us + n) (none d) ∙ add-zero _) i)

-- ---- registers

pub write-push : (cell : ℕ) (r : Written) (us : List Update) (u : Update) → greatest_write cell r (us ++ u ∷ []) ≡ or_later (greatest_write cell r us) (written cell u)
unfolding greatest_write
write-push cell r [] u = refl
write-push cell r (x ∷ us) u = write-push cell (or_later r (written cell x)) us u

some_none : {A : Type 0} (a : A) → Some a ≡ None → ⊥
some_none a e = cc

later_stamp : (r s : Written) → (join_written r s).stamp ≡ max r.stamp s.stamp
unfolding join_written
later_stamp r s = elim (is_after r s) as (λ b. is_after r s ≡ b → (cond b s r).stamp ≡ max r.stamp s.stamp) [ true ↦ λ e. grind (arith, nat_tests) | false ↦ λ e. grind (arith, nat_tests) ] refl

unwritten_stamp : (cell : ℕ) (u : Update) → written cell u ≡ None → stamp_in cell u ≡ 0
unfolding written stamp_in
unwritten_stamp cell u e = elim (nat_eq u.cell cell) as (λ b. cond b (written_by u.act u.stamp u.dot.device) None ≡ None → cond b (write_stamp u.act u.stamp) 0 ≡ 0) [ true ↦ by_act u.act | false ↦ λ _. refl ] e
  where
    by_act : (a : Act) → written_by a u.stamp u.dot.device ≡ None → write_stamp a u.stamp ≡ 0
    by_act (Write w) h = absurd (some_none _ h)
    by_act (Add n) h = refl
    by_act (Insert w) h = refl
    by_act (Remove w) h = refl

one_stamp : (cell : ℕ) (r : Written) (u : Update) → (or_later r (written cell u)).stamp ≡ max r.stamp (stamp_in cell u)
one_stamp cell r u = go (written cell u) refl
  where
    go : (o : Option Written) → written cell u ≡ o → (or_later r o).stamp ≡ max r.stamp (stamp_in cell u)
    go None e = let k = unwritten_stamp cell u e in omega arith
    go (Some s) e = later_stamp r s ∙ ap (λ n. max r.stamp n) (sym (stamp_in-write cell u s e))

-- the stamp of a register is the greatest of its writes
pub stamp-write : (cell : ℕ) (r : Written) (us : List Update) → (greatest_write cell r us).stamp ≡ max r.stamp (greatest_stamp cell us)
unfolding greatest_write greatest_stamp
stamp-write cell r [] = omega arith
stamp-write cell r (u ∷ us) = stamp-write cell (or_later r (written cell u)) us ∙ let k = one_stamp cell r u in omega arith

-- ---- a set's pairs

pub pairs_ascend : (m : Pairing) (cell : ℕ) (us : List Update) → IsStrictlySortedBy pair_cmp (pairs_of m cell us)
unfolding pairs_of
pairs_ascend m cell us = ascending_sorted (live m cell us)
