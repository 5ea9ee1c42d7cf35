-- A state depends on which updates there are, and not on their order.
use Rattle.std.proofs.Common.{◌≡◌, ℕ, ◌+◌, Bool, List, [], ◌∷◌, refl, sym, ap, ◌∙◌, subst, arith, inl, inr, not, ◌++◌}
use Rattle.std.specs.Prelude.{◌&&◌, map}
use Rattle.std.specs.List.{list_any, sum_by}
use Rattle.re_terms.specs.declared.word.Word.{Word}
use Rattle.re_terms.specs.declared.replicated.Act.{Act}
use Rattle.re_terms.specs.CellStates.{Pairing, Pairing.AddWins, live, greatest_write, part_of, row_of, increment, decrement, pairs_of, unwritten, written_of, takes}
use Rattle.re_terms.specs.UpdateStates.{content_of, contents_from, state_of_updates}
use Rattle.re_terms.specs.Updates.{Update, IsIn, IsCausalLog, vector_of, greatest_number}
use Rattle.re_terms.specs.Vectors.{by_device}
use Rattle.re_terms.specs.Shapes.{start_cell, start_replicated, zeros}
use Rattle.std.specs.List.Sorted.{IsStrictlySortedBy}
use Rattle.re_terms.specs.Listed.{plain}
use Rattle.re_terms.specs.declared.replicated.RCell.TheVariants as content
use Rattle.re_terms.specs.declared.replicated.RKind.{RKind}
use Rattle.re_terms.specs.declared.replicated.RKind.TheVariants as kind
use Rattle.re_terms.specs.declared.replicated.Shape.{Shape}
use Rattle.re_terms.proofs.WordOrders.{ascending_same, ascending_is}
use Rattle.re_terms.proofs.Logs.{IsIn-from_any, any_from_IsIn, greatest_number-le, greatest_number-has, IsIn-left, IsIn-right, IsIn-cases}
use Rattle.re_terms.proofs.Sets.{adds, has-live}
use Rattle.re_terms.proofs.Registers.{best, same_best, Stamped, stamped_of}
use Rattle.re_terms.proofs.Operations.{same_tests}
use Rattle.std.proofs.lemmas.List.Sums.{sum_by-append, sum_by-cons}
use Rattle.re_terms.specs.UpdateSets.{EachOnce, SameUpdates}

module _ (us vs : List Update) (to : (u : Update) → IsIn u us → IsIn u vs) (back : (u : Update) → IsIn u vs → IsIn u us) where
  any_alike : (f : Update → Bool) → list_any f us ≡ list_any f vs
  any_alike f = same_tests _ _
      (λ e. let r = IsIn-from_any f us e in any_from_IsIn f r.0 vs (to r.0 r.1) r.2)
      (λ e. let r = IsIn-from_any f vs e in any_from_IsIn f r.0 us (back r.0 r.1) r.2)

  pub pairs_alike : (m : Pairing) (cell : ℕ) → pairs_of m cell us ≡ pairs_of m cell vs
  unfolding pairs_of
  pairs_alike m cell = ascending_same _ _ (λ q. has-live m cell us q ∙ (λ i. any_alike (adds m cell q) i && not (any_alike (takes m cell q) i)) ∙ sym (has-live m cell vs q))

  greatest_alike : (d : ℕ) → greatest_number d us ≡ greatest_number d vs
  greatest_alike d =
      let a = greatest_number-le d (greatest_number d vs) us (λ u h e. greatest_number-has d vs u (to u h) e) in
      let b = greatest_number-le d (greatest_number d us) vs (λ u h e. greatest_number-has d us u (back u h) e) in
      omega arith

  pub vector_alike : vector_of us ≡ vector_of vs
  unfolding vector_of
  vector_alike = ap by_device (λ i d. greatest_alike d i)

  pub written_alike : (b : List Update) → Stamped b → ((u : Update) → IsIn u vs → IsIn u b) → (start : Word) (cell : ℕ) → written_of start cell us ≡ written_of start cell vs
  written_alike b st within start cell =
      let x = best cell (unwritten start) us in
      same_best b vs st within cell start _ _
      (record { from = elim x.from [ inl e ↦ inl e | inr k ↦ inr (k.0, to k.0 k.1, k.2) ]; start = x.start; top = λ u s h e. x.top u s (back u h) e })
      (best cell (unwritten start) vs)

-- ---- sums over the same updates

-- a member stands between two parts
record Split (u : Update) (vs : List Update) : Type 0 where
  front : List Update
  rest : List Update
  is : vs ≡ front ++ u ∷ rest

split : (u : Update) (vs : List Update) → IsIn u vs → Split u vs
split u [] h = absurd h
split u (v ∷ vs) (inl e) = record { front = []; rest = vs; is = ap (λ x. x ∷ vs) e }
split u (v ∷ vs) (inr h) = let s = split u vs h in record { front = v ∷ s.front; rest = s.rest; is = ap (λ l. v ∷ l) s.is }

once_rest : (p q : List Update) (u : Update) → EachOnce (p ++ u ∷ q) → EachOnce (p ++ q)
once_rest [] q u h = h.1
once_rest (x ∷ p) q u h = (λ k. h.0 (elim (IsIn-cases x p q k) [ inl a ↦ IsIn-left x p (u ∷ q) a | inr a ↦ IsIn-right x p (u ∷ q) (inr a) ]), once_rest p q u h.1)

once_not : (p q : List Update) (u : Update) → EachOnce (p ++ u ∷ q) → IsIn u (p ++ q) → ⊥
once_not [] q u h k = h.0 k
once_not (x ∷ p) q u h (inl e) = h.0 (IsIn-right x p (u ∷ q) (inl (sym e)))
once_not (x ∷ p) q u h (inr k) = once_not p q u h.1 k

sum_middle : (f : Update → ℕ) (p q : List Update) (u : Update) → sum_by f (p ++ u ∷ q) ≡ f u + sum_by f (p ++ q)
sum_middle f p q u = let a = sum_by-append f p (u ∷ q) in let b = sum_by-cons f u q in let c = sum_by-append f p q in omega arith

pub sum_same : (f : Update → ℕ) (us vs : List Update) → EachOnce us → EachOnce vs → ((u : Update) → IsIn u us → IsIn u vs) → ((u : Update) → IsIn u vs → IsIn u us) → sum_by f us ≡ sum_by f vs
sum_same f [] [] a b to back = refl
sum_same f [] (v ∷ vs) a b to back = absurd (back v (inl refl))
sum_same f (u ∷ us) vs a b to back =
    let s = split u vs (to u (inl refl)) in
    let once = subst EachOnce s.is b in
    let e = sum_same f us (s.front ++ s.rest) a.1 (once_rest s.front s.rest u once)
    (λ x h. elim (IsIn-cases x s.front (u ∷ s.rest) (subst (IsIn x) s.is (to x (inr h)))) [
      | inl k ↦ IsIn-left x s.front s.rest k
      | inr k ↦ elim k [ inl e ↦ absurd (a.0 (subst (λ y. IsIn y us) (sym e) h)) | inr k ↦ IsIn-right x s.front s.rest k ]
    ])
    (λ x h. elim (back x (subst (IsIn x) (sym s.is) (elim (IsIn-cases x s.front s.rest h) [ inl k ↦ IsIn-left x s.front (u ∷ s.rest) k | inr k ↦ IsIn-right x s.front (u ∷ s.rest) (inr k) ]))) [
      | inl e ↦ absurd (once_not s.front s.rest u once (subst (λ y. IsIn y (s.front ++ s.rest)) (sym e) h))
      | inr k ↦ k
    ])
    in
    sum_by-cons f u us ∙ ap (λ n. f u + n) e ∙ sym (ap (sum_by f) s.is ∙ sum_middle f s.front s.rest u)

-- ---- states of the same updates

row_alike : (f : Act → ℕ) (cell : ℕ) (us vs : List Update) → SameUpdates us vs → row_of f cell us ≡ row_of f cell vs
unfolding row_of
row_alike f cell us vs s = ap by_device (λ i d. sum_same (part_of f cell d) us vs s.once s.other_once s.to s.back i)

cell_alike : (b us vs : List Update) → IsCausalLog b → SameUpdates us vs → ((u : Update) → IsIn u vs → IsIn u b) → (k : RKind) (i : ℕ) → content_of k i us ≡ content_of k i vs
cell_alike b us vs causal s within kind.Counter i = λ j. content.Counter (record { plus = row_alike increment i us vs s j; minus = row_alike decrement i us vs s j })
cell_alike b us vs causal s within (kind.Set k) i = ap (λ ps. content.Set (plain ps)) (pairs_alike us vs s.to s.back AddWins i)
cell_alike b us vs causal s within (kind.Register k start) i = ap content.Register (written_alike us vs s.to s.back b (stamped_of b causal) within start i)

cells_alike : (b us vs : List Update) → IsCausalLog b → SameUpdates us vs → ((u : Update) → IsIn u vs → IsIn u b) → (ks : List RKind) (i : ℕ) → contents_from i ks us ≡ contents_from i ks vs
cells_alike b us vs causal s within [] i = refl
cells_alike b us vs causal s within (k ∷ ks) i = λ j. cell_alike b us vs causal s within k i j ∷ cells_alike b us vs causal s within ks (i + 1) j

pub state_same : (shape : Shape) (b us vs : List Update) → IsCausalLog b → SameUpdates us vs → ((u : Update) → IsIn u vs → IsIn u b) → state_of_updates shape us ≡ state_of_updates shape vs
state_same shape b us vs causal s within = λ j. record { vector = record { counts = vector_alike us vs s.to s.back j }; cells = plain (cells_alike b us vs causal s within shape.cells.items 0 j) }

-- ---- the state of no updates

no_pairs : (cell : ℕ) → pairs_of AddWins cell [] ≡ []
unfolding pairs_of live IsStrictlySortedBy
no_pairs cell = ascending_is [] tt

content_none : (k : RKind) (place : ℕ) → content_of k place [] ≡ start_cell k
unfolding row_of by_device greatest_write
content_none kind.Counter place = refl
content_none (kind.Set k) place = ap (λ ps. content.Set (plain ps)) (no_pairs place)
content_none (kind.Register k start) place = refl

contents_none : (ks : List RKind) (place : ℕ) → contents_from place ks [] ≡ map start_cell ks
contents_none [] place = refl
contents_none (k ∷ ks) place = λ i. content_none k place i ∷ contents_none ks (place + 1) i

pub state_none : (shape : Shape) → state_of_updates shape [] ≡ start_replicated shape
unfolding vector_of by_device greatest_number
state_none shape = ap (λ cs. record { vector = record { counts = zeros }; cells = plain cs }) (contents_none shape.cells.items 0)
