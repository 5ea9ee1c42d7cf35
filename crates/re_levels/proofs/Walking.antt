-- Going along the ranks, the lowest that is due first: what was taken, and what is due.
use Rattle.std.proofs.Common.{◌≡◌, ◌<◌, ◌≤◌, ◌+◌, ◌==◌, ◌⊎◌, inl, inr, ℕ, zero, suc, Bool, true, false, ◌&&◌, ◌||◌, List, [], ◌∷◌, length, get_or, refl, sym, ap, subst, ◌∙◌, arith}
use Rattle.std.specs.Prelude.{nat_le, nat_lt, not}
use Rattle.std.specs.List.{All, list_any}
use Rattle.std.proofs.lemmas.Bool.{cases_eq, eq-eqb, ne_eqb, lt-ltb, le-ltb, le-leb, ltb-true, ltb-false, leb-true, leb-false}
use Rattle.std.proofs.Math.Bool.{or_assoc}
use Rattle.std.proofs.lemmas.List.Elements.{All-nil, All-cons, All-head, All-tail, All-weaker}
use Rattle.std.proofs.lemmas.List.Folds.{list_any_none}
use Rattle.re_terms.specs.Dependencies.{PlainNode, inputs_at, IsOrdered, is_reached}
use Rattle.re_graph.specs.Kept.{is_among}
use Rattle.re_graph.proofs.Lists.{list_any_same, list_any-or}
use Rattle.re_graph.proofs.Own.{inputs_at-none, is_reached-own}
use Rattle.re_levels.specs.Places.{IsRanking}
use Rattle.re_levels.specs.Ranks.{TakesLowest, has_rank}
use Rattle.re_levels.specs.declared.ranks.Ranks.{Ranks as Set}
use Rattle.re_levels.proofs.Seeing.{All-among}

or_true : (b : Bool) → (b || true) ≡ true
or_true true = refl
or_true false = refl

or_false : (b : Bool) → (b || false) ≡ b
or_false true = refl
or_false false = refl

and_true : (b : Bool) → (b && true) ≡ b
and_true true = refl
and_true false = refl

and_false : (b : Bool) → (b && false) ≡ false
and_false true = refl
and_false false = refl

-- a declaration is touched, or has an input with a lower rank than this that is reached
abbrev pub is_due_in : List PlainNode → List ℕ → List ℕ → ℕ → ℕ → Bool
is_due_in graph touched ranks next id = is_among touched id || list_any (λ input. nat_lt (get_or ranks input 0) next && is_reached graph touched input) (inputs_at graph id)

-- what is due from a rank on is in the set, and nothing else
pub record IsDue (graph : List PlainNode) (touched order ranks : List ℕ) (dirty : Set) (next : ℕ) : Type 0 where
  pub within : next ≤ length graph
  pub due : (r : ℕ) → has_rank dirty r ≡ (nat_lt r (length graph) && (nat_le next r && is_due_in graph touched ranks next (get_or order r 0)))

module _ (graph : List PlainNode) (touched order ranks : List ℕ) (ordered : IsOrdered graph) (ranking : IsRanking graph order ranks) where
  abbrev R : ℕ → Bool
  R = is_reached graph touched

  abbrev rank : ℕ → ℕ
  rank id = get_or ranks id 0

  abbrev at : ℕ → ℕ
  at r = get_or order r 0

  abbrev is_due : ℕ → ℕ → Bool
  is_due = is_due_in graph touched ranks

  lower_inputs : (id : ℕ) → id < length graph → All (λ input. rank input < rank id) (inputs_at graph id)
  lower_inputs id within = All-weaker (λ input. is_among (inputs_at graph id) input ≡ true) (λ input. rank input < rank id) (λ input among. ranking.later id input among) (inputs_at graph id) (All-among (inputs_at graph id))

  input_by : (next i : ℕ) → (next ≤ rank i → R i ≡ false) → (b : Bool) → nat_lt (rank i) next ≡ b → (nat_lt (rank i) next && R i) ≡ R i
  input_by next i none true is = ap (λ b. b && R i) is
  input_by next i none false is = ap (λ b. b && R i) is ∙ sym (none (ltb-false (rank i) next is))

  -- nothing between two ranks is reached
  abbrev Between : ℕ → ℕ → Type 0
  Between next k = (id : ℕ) → id < length graph → next ≤ rank id → rank id < k → R id ≡ false

  both_inputs : (id : ℕ) → id < length graph → (P : ℕ → Type 0) → ((i : ℕ) → i < length graph → rank i < rank id → P i) → (xs : List ℕ) → All (λ i. i < id) xs → All (λ i. rank i < rank id) xs → All P xs
  both_inputs id within P each [] a b = All-nil P
  both_inputs id within P each (x ∷ xs) a b =
      let first = All-head (λ i. i < id) x xs a in
      All-cons P x xs (each x (omega arith) (All-head (λ i. rank i < rank id) x xs b)) (both_inputs id within P each xs (All-tail (λ i. i < id) x xs a) (All-tail (λ i. rank i < rank id) x xs b))

  each_input : (id : ℕ) → id < length graph → (P : ℕ → Type 0) → ((i : ℕ) → i < length graph → rank i < rank id → P i) → All P (inputs_at graph id)
  each_input id within P each = both_inputs id within P each (inputs_at graph id) (ordered id) (lower_inputs id within)

  -- where nothing from a rank up to a declaration's own is reached, it is reached exactly where it is due
  pub reached-due : (next id : ℕ) → id < length graph → Between next (rank id) → R id ≡ is_due next id
  reached-due next id within none =
      is_reached-own graph touched id ordered within
      ∙ ap (λ b. is_among touched id || b) (sym (list_any_same (λ input. nat_lt (rank input) next && R input) R (inputs_at graph id)
      (each_input id within (λ i. (nat_lt (rank i) next && R i) ≡ R i) (λ i inside under. input_by next i (λ from. none i inside from under) (nat_lt (rank i) next) refl))))

  between_more : (next k m : ℕ) → ((id : ℕ) → id < length graph → next ≤ rank id → rank id < k → is_due next id ≡ false) → ((id : ℕ) → id < length graph → rank id < m → next ≤ rank id → rank id < k → R id ≡ false) → (id : ℕ) → id < length graph → rank id < suc m → next ≤ rank id → rank id < k → R id ≡ false
  between_more next k m idle earlier id within under from to =
      reached-due next id within (λ i inside low high. earlier i inside (omega arith) low (omega arith)) ∙ idle id within from to

  between_below : (next k m : ℕ) → ((id : ℕ) → id < length graph → next ≤ rank id → rank id < k → is_due next id ≡ false) → (id : ℕ) → id < length graph → rank id < m → next ≤ rank id → rank id < k → R id ≡ false
  between_below next k zero idle id within under from to = absurd (omega arith)
  between_below next k (suc m) idle id within under from to = between_more next k m idle (between_below next k m idle) id within under from to

  -- where nothing is due between two ranks, nothing is reached there
  pub between : (next k : ℕ) → ((id : ℕ) → id < length graph → next ≤ rank id → rank id < k → is_due next id ≡ false) → Between next k
  between next k idle id within from to = between_below next k (suc (rank id)) idle id within (omega arith) from to

  module _ (dirty : Set) (next : ℕ) (so_far : IsDue graph touched order ranks dirty next) where
    -- a rank that isn't in the set isn't due
    pub idle : (id : ℕ) → id < length graph → next ≤ rank id → has_rank dirty (rank id) ≡ false → is_due next id ≡ false
    idle id within from off =
        let low : rank id < length graph = ranking.low id within in
        ap (λ x. is_due next x) (sym (ranking.back id within))
        ∙ sym (ap (λ b. b && (nat_le next (rank id) && is_due next (at (rank id)))) (lt-ltb (rank id) (length graph) low) ∙ ap (λ b. b && is_due next (at (rank id))) (le-leb next (rank id) from))
        ∙ sym (so_far.due (rank id))
        ∙ off

    -- where the set is empty, nothing from the rank on is reached
    pub all_taken : ((r : ℕ) → has_rank dirty r ≡ false) → (k : ℕ) → Between next k
    all_taken empty k = between next k (λ id within from to. idle id within from (empty (rank id)))

    module _ (left : Set) (k : ℕ) (takes : TakesLowest dirty left k) where
      due_by : (b c : Bool) → nat_lt k (length graph) ≡ b → nat_le next k ≡ c → (k < length graph) × ((next ≤ k) × (is_due next (at k) ≡ true))
      due_by true true lt le =
          let is : is_due next (at k) ≡ true = sym (ap (λ b. b && (nat_le next k && is_due next (at k))) lt ∙ ap (λ b. b && is_due next (at k)) le) ∙ sym (so_far.due k) ∙ takes.had in
          (ltb-true k (length graph) lt, (leb-true next k le, is))
      due_by true false lt le = absurd (let no : false ≡ true = sym (ap (λ b. b && (nat_le next k && is_due next (at k))) lt ∙ ap (λ b. b && is_due next (at k)) le) ∙ sym (so_far.due k) ∙ takes.had in cc)
      due_by false c lt le = absurd (let no : false ≡ true = sym (ap (λ b. b && (nat_le next k && is_due next (at k))) lt) ∙ sym (so_far.due k) ∙ takes.had in cc)

      due_there : (k < length graph) × ((next ≤ k) × (is_due next (at k) ≡ true))
      due_there = due_by (nat_lt k (length graph)) (nat_le next k) refl refl

      pub low : k < length graph
      low = due_there.0

      pub order_is : next ≤ k
      order_is = due_there.1.0

      pub taken_low : at k < length graph
      taken_low = ranking.there k low

      pub taken_rank : rank (at k) ≡ k
      taken_rank = ranking.again k low

      pub none_between : Between next k
      none_between = between next k (λ id within from to. idle id within from (takes.lowest (rank id) to))

      -- the declaration that is taken is reached
      pub taken_reached : R (at k) ≡ true
      taken_reached = reached-due next (at k) taken_low (subst (Between next) (sym taken_rank) none_between) ∙ due_there.1.1

      input_at : (i : ℕ) → i < length graph → (i ≡ at k) ⊎ (i ≡ at k → ⊥) → (nat_lt (rank i) (k + 1) && R i) ≡ ((nat_lt (rank i) next && R i) || (i == at k))
      input_at i inside (inl e) =
          let own : rank i ≡ k = ap rank e ∙ taken_rank in
          let on : R i ≡ true = ap R e ∙ taken_reached in
          let here : (i == at k) ≡ true = eq-eqb i (at k) e in
          ap (λ b. b && R i) (lt-ltb (rank i) (k + 1) (omega arith)) ∙ on ∙ sym (or_true (nat_lt (rank i) next && R i)) ∙ ap (λ b. (nat_lt (rank i) next && R i) || b) (sym here)
      input_at i inside (inr other) =
          let away : (i == at k) ≡ false = ne_eqb i (at k) other in
          let apart : rank i ≡ k → ⊥ = λ e. other (sym (ranking.back i inside) ∙ ap at e) in
          by (nat_lt (rank i) k) refl apart ∙ sym (or_false (nat_lt (rank i) next && R i)) ∙ ap (λ b. (nat_lt (rank i) next && R i) || b) (sym away)
        where
          lower : rank i < k → (b : Bool) → nat_lt (rank i) next ≡ b → (nat_lt (rank i) (k + 1) && R i) ≡ (nat_lt (rank i) next && R i)
          lower under true is = ap (λ b. b && R i) (lt-ltb (rank i) (k + 1) (omega arith) ∙ sym is)
          lower under false is =
              let off : R i ≡ false = none_between i inside (ltb-false (rank i) next is) under in
              ap (λ b. b && R i) (lt-ltb (rank i) (k + 1) (omega arith)) ∙ off ∙ ap (λ b. b && R i) (sym is)

          by : (b : Bool) → nat_lt (rank i) k ≡ b → (rank i ≡ k → ⊥) → (nat_lt (rank i) (k + 1) && R i) ≡ (nat_lt (rank i) next && R i)
          by true is apart = lower (ltb-true (rank i) k is) (nat_lt (rank i) next) refl
          by false is apart =
              let behind : k < rank i = omega (arith, ltb-false (rank i) k is, apart) in
              let from = order_is in
              ap (λ b. b && R i) (le-ltb (rank i) (k + 1) (omega arith) ∙ sym (le-ltb (rank i) next (omega arith)))

      -- behind the one that is taken, those with lower ranks are reached that were, and itself
      pub taken_more : (i : ℕ) → i < length graph → (nat_lt (rank i) (k + 1) && R i) ≡ ((nat_lt (rank i) next && R i) || (i == at k))
      taken_more i inside = input_at i inside (cases_eq i (at k))

      due_more : (other : ℕ) → other < length graph → is_due (k + 1) other ≡ (is_due next other || is_among (inputs_at graph other) (at k))
      due_more other within =
          ap (λ b. is_among touched other || b)
          (list_any_same (λ i. nat_lt (rank i) (k + 1) && R i) (λ i. (nat_lt (rank i) next && R i) || (i == at k)) (inputs_at graph other)
          (each_input other within (λ i. (nat_lt (rank i) (k + 1) && R i) ≡ ((nat_lt (rank i) next && R i) || (i == at k))) (λ i inside under. taken_more i inside))
          ∙ list_any-or (λ i. nat_lt (rank i) next && R i) (λ i. i == at k) (inputs_at graph other))
          ∙ sym (or_assoc (is_among touched other) (list_any (λ i. nat_lt (rank i) next && R i) (inputs_at graph other)) (is_among (inputs_at graph other) (at k)))

      module _ (new : Set) (readers : List ℕ) (marked : (r : ℕ) → has_rank new r ≡ (has_rank left r || list_any (λ x. rank x == r) readers)) (links : (other : ℕ) → is_among readers other ≡ is_among (inputs_at graph other) (at k)) where
        reader_by : (x : ℕ) → is_among (inputs_at graph x) (at k) ≡ true → (b : Bool) → nat_lt x (length graph) ≡ b → x < length graph
        reader_by x among true lt = ltb-true x (length graph) lt
        reader_by x among false lt = absurd (let no : false ≡ true = sym (ap (λ xs. is_among xs (at k)) (inputs_at-none graph x (ltb-false x (length graph) lt))) ∙ among in cc)

        readers_declared : All (λ x. x < length graph) readers
        readers_declared = All-weaker (λ x. is_among readers x ≡ true) (λ x. x < length graph) (λ x among. reader_by x (sym (links x) ∙ among) (nat_lt x (length graph)) refl) readers (All-among readers)

        same_test : (r x : ℕ) → r < length graph → x < length graph → (rank x ≡ r) ⊎ (rank x ≡ r → ⊥) → (rank x == r) ≡ (x == at r)
        same_test r x low_r inside (inl e) = eq-eqb (rank x) r e ∙ sym (eq-eqb x (at r) (sym (ranking.back x inside) ∙ ap at e))
        same_test r x low_r inside (inr other) = ne_eqb (rank x) r other ∙ sym (ne_eqb x (at r) (λ e. other (ap rank e ∙ ranking.again r low_r)))

        -- those that are marked at a rank
        marks_at : (r : ℕ) → r < length graph → list_any (λ x. rank x == r) readers ≡ is_among (inputs_at graph (at r)) (at k)
        marks_at r low_r =
            list_any_same (λ x. rank x == r) (λ x. x == at r) readers (All-weaker (λ x. x < length graph) (λ x. (rank x == r) ≡ (x == at r)) (λ x inside. same_test r x low_r inside (cases_eq (rank x) r)) readers readers_declared)
            ∙ links (at r)

        marks_past : (r : ℕ) → length graph ≤ r → list_any (λ x. rank x == r) readers ≡ false
        marks_past r past = list_any_none (λ x. rank x == r) readers (All-weaker (λ x. x < length graph) (λ x. (rank x == r) ≡ false) (λ x inside. ne_eqb (rank x) r (λ e. absurd (let l = ranking.low x inside in omega arith))) readers readers_declared)

        no_mark : (r : ℕ) → r < length graph → r ≤ k → (b : Bool) → is_among (inputs_at graph (at r)) (at k) ≡ b → b ≡ false
        no_mark r low_r under true is = absurd (let l = ranking.later (at r) (at k) is in let a = ranking.again r low_r in let b = taken_rank in omega (arith, l, a, b))
        no_mark r low_r under false is = refl

        gone : (r : ℕ) → r ≤ k → (r ≡ k) ⊎ (r ≡ k → ⊥) → (has_rank dirty r && not (k == r)) ≡ false
        gone r under (inl e) = ap (λ b. has_rank dirty r && not b) (eq-eqb k r (sym e)) ∙ and_false (has_rank dirty r)
        gone r under (inr other) = ap (λ b. b && not (k == r)) (takes.lowest r (omega (arith, other)))

        due_at : (r : ℕ) → r < length graph → (b : Bool) → nat_le (k + 1) r ≡ b → has_rank new r ≡ (nat_le (k + 1) r && is_due (k + 1) (at r))
        due_at r low_r true is =
            let behind : k + 1 ≤ r = leb-true (k + 1) r is in
            let from = order_is in
            marked r
            ∙ ap (λ b. b || list_any (λ x. rank x == r) readers) (takes.left r ∙ ap (λ b. has_rank dirty r && not b) (ne_eqb k r (λ e. absurd (omega arith))) ∙ and_true (has_rank dirty r))
            ∙ ap (λ b. b || list_any (λ x. rank x == r) readers) (so_far.due r ∙ ap (λ b. b && (nat_le next r && is_due next (at r))) (lt-ltb r (length graph) low_r) ∙ ap (λ b. b && is_due next (at r)) (le-leb next r (omega arith)))
            ∙ ap (λ b. is_due next (at r) || b) (marks_at r low_r)
            ∙ sym (due_more (at r) (ranking.there r low_r))
            ∙ ap (λ b. b && is_due (k + 1) (at r)) (sym is)
        due_at r low_r false is =
            let under : r ≤ k = omega (arith, leb-false (k + 1) r is) in
            marked r
            ∙ ap (λ b. b || list_any (λ x. rank x == r) readers) (takes.left r ∙ gone r under (cases_eq r k))
            ∙ marks_at r low_r
            ∙ no_mark r low_r under (is_among (inputs_at graph (at r)) (at k)) refl
            ∙ ap (λ b. b && is_due (k + 1) (at r)) (sym is)

        due_by_place : (r : ℕ) → (b : Bool) → nat_lt r (length graph) ≡ b → has_rank new r ≡ (nat_lt r (length graph) && (nat_le (k + 1) r && is_due (k + 1) (at r)))
        due_by_place r true is = due_at r (ltb-true r (length graph) is) (nat_le (k + 1) r) refl ∙ ap (λ b. b && (nat_le (k + 1) r && is_due (k + 1) (at r))) (sym is)
        due_by_place r false is =
            let past : length graph ≤ r = ltb-false r (length graph) is in
            marked r
            ∙ ap (λ b. b || list_any (λ x. rank x == r) readers) (takes.left r ∙ ap (λ b. b && not (k == r)) (so_far.due r ∙ ap (λ b. b && (nat_le next r && is_due next (at r))) is))
            ∙ marks_past r past
            ∙ ap (λ b. b && (nat_le (k + 1) r && is_due (k + 1) (at r))) (sym is)

        -- behind the one that is taken, those are due that were, and those that name it
        pub due_next : IsDue graph touched order ranks new (k + 1)
        due_next = record { within = omega (arith, low); due = λ r. due_by_place r (nat_lt r (length graph)) refl }
