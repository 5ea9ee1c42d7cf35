-- The law of sets.
use Rattle.std.proofs.Common.{◌≡◌, ℕ, Bool, true, false, cond, not, List, ◌++◌, None, refl, sym, ap, ◌∙◌, arith}
use Rattle.std.specs.Prelude.{◌&&◌, ◌||◌, nat_eq}
use Rattle.std.specs.List.{list_any, filter, filter_map}
use Rattle.std.specs.Ordering.{eq_by_cmp}
use mathlib.Core.Bool.{true≢false}
use Rattle.re_terms.specs.declared.replicated.Pair.{Pair}
use Rattle.re_terms.specs.declared.replicated.Act.{Act}
use Rattle.re_terms.specs.declared.replicated.Act.TheVariants.{Add, Insert, Remove, Write}
use Rattle.re_terms.specs.CellStates.{Pairing, Pairing.AddWins, Pairing.Latest, inserted, inserted_by, takes, takes_element, live, pairs_of, has_pair, join_pairs}
use Rattle.re_terms.specs.Updates.{Update, covered, IsCausallyClosed, IsCausalLog, vector_of}
use Rattle.re_terms.specs.Vectors.{covers, greater_each, join_vectors}
use Rattle.re_terms.specs.WordOrder.{pair_cmp}
use Rattle.re_terms.proofs.WordOrders.{same_pair-is, ascending_same, any-ascending}
use Rattle.re_terms.proofs.Lists.{any-append, any-filter, any_or, any_agree, any_and_at, passes, any-filter_map}
use Rattle.re_terms.proofs.Logs.{Numbered, numbered_of, covers-greater_each, covers-up, covers-vector_of, seen_covered, IsIn-filter, IsIn-from_filter, IsIn-from_any, any_from_IsIn}

-- whether u inserts this pair
abbrev pub adds : Pairing → ℕ → Pair → Update → Bool
adds m cell q u = passes (eq_by_cmp pair_cmp q) (inserted m cell u)

-- a pair is in a list that a test kept, where it is in the list and passes
pub kept : (f : Pair → Bool) (q : Pair) (ps : List Pair) → list_any (eq_by_cmp pair_cmp q) (filter f ps) ≡ (list_any (eq_by_cmp pair_cmp q) ps && f q)
kept f q ps = any-filter (eq_by_cmp pair_cmp q) f ps ∙ any_and_at (eq_by_cmp pair_cmp q) f (f q) (λ p e. ap f (sym (same_pair-is q p e))) ps

-- a pair is live where it is inserted and not taken
pub has-live : (m : Pairing) (cell : ℕ) (us : List Update) (q : Pair) → list_any (eq_by_cmp pair_cmp q) (live m cell us) ≡ (list_any (adds m cell q) us && not (list_any (takes m cell q) us))
unfolding live
has-live m cell us q =
    kept (λ p. not (list_any (takes m cell p) us)) q (filter_map (inserted m cell) us)
    ∙ ap (λ b. b && not (list_any (takes m cell q) us)) (any-filter_map (eq_by_cmp pair_cmp q) (inserted m cell) us)

pub has-pairs_of : (m : Pairing) (cell : ℕ) (us : List Update) (q : Pair) → list_any (eq_by_cmp pair_cmp q) (pairs_of m cell us) ≡ (list_any (adds m cell q) us && not (list_any (takes m cell q) us))
unfolding pairs_of
has-pairs_of m cell us q = any-ascending (live m cell us) q ∙ has-live m cell us q

-- one of what v or w covers passes a test
any-covered : (f : Update → Bool) (b : List Update) (v w : List ℕ) → list_any f (covered b (greater_each v w)) ≡ (list_any f (covered b v) || list_any f (covered b w))
any-covered f b v w =
    any-filter f (λ u. covers (greater_each v w) u.dot) b
    ∙ any_agree _ _ (λ u. ap (λ c. c && f u) (covers-greater_each v w u.dot) ∙ spread (covers v u.dot) (covers w u.dot) (f u)) b
    ∙ any_or (λ u. covers v u.dot && f u) (λ u. covers w u.dot && f u) b
    ∙ sym (λ i. any-filter f (λ u. covers v u.dot) b i || any-filter f (λ u. covers w u.dot) b i)
  where
    spread : (a b c : Bool) → ((a || b) && c) ≡ ((a && c) || (b && c))
    spread true true true = refl
    spread true true false = refl
    spread true false true = refl
    spread true false false = refl
    spread false b c = refl

-- the law at one pair: whether it is inserted and taken in each part, and covered
merged : (av aw tv tw cv cw : Bool) → (tv ≡ true → cv ≡ true) → (tw ≡ true → cw ≡ true) → (av ≡ true → cw ≡ true → aw ≡ true) → (aw ≡ true → cv ≡ true → av ≡ true)
    → ((((av && not tv) && ((aw && not tw) || not cw))) || ((aw && not tw) && not cv)) ≡ ((av || aw) && not (tv || tw))
merged av aw tv tw cv cw h i j k = grind arith

-- u inserts a pair with its own dot
pub adds-dot : (m : Pairing) (cell : ℕ) (q : Pair) (u : Update) → adds m cell q u ≡ true → u.dot ≡ q.dot
unfolding inserted
adds-dot m cell q u e = elim (nat_eq u.cell cell) as (λ b. passes (eq_by_cmp pair_cmp q) (cond b (inserted_by m u.act u.dot) None) ≡ true → u.dot ≡ q.dot) [ true ↦ by_act m u.act | false ↦ λ h. absurd (true≢false (sym h)) ] e
  where
    by_act : (m : Pairing) (a : Act) → passes (eq_by_cmp pair_cmp q) (inserted_by m a u.dot) ≡ true → u.dot ≡ q.dot
    by_act AddWins (Insert w) h = sym (ap (λ p. p.dot) (same_pair-is q _ h))
    by_act AddWins (Add n) h = absurd (true≢false (sym h))
    by_act AddWins (Remove w) h = absurd (true≢false (sym h))
    by_act AddWins (Write w) h = absurd (true≢false (sym h))
    by_act Latest (Write w) h = sym (ap (λ p. p.dot) (same_pair-is q _ h))
    by_act Latest (Add n) h = absurd (true≢false (sym h))
    by_act Latest (Remove w) h = absurd (true≢false (sym h))
    by_act Latest (Insert w) h = absurd (true≢false (sym h))

-- who takes a pair has seen its dot
pub takes-covers : (m : Pairing) (cell : ℕ) (q : Pair) (u : Update) → takes m cell q u ≡ true → covers u.seen q.dot ≡ true
unfolding takes
takes-covers m cell q u e = last (nat_eq u.cell cell) (takes_element m q.element u.act) (covers u.seen q.dot) e
  where
    last : (a b c : Bool) → (a && (b && c)) ≡ true → c ≡ true
    last true true c e = e
    last true false c e = absurd (true≢false (sym e))
    last false b c e = absurd (true≢false (sym e))

-- a pair that one took is covered
pub taken_covered : (b : List Update) (v : List ℕ) → Numbered b → IsCausallyClosed b v → (m : Pairing) (cell : ℕ) (q : Pair) → list_any (takes m cell q) (covered b v) ≡ true → covers v q.dot ≡ true
taken_covered b v numbered closed m cell q e =
    let r = IsIn-from_any (takes m cell q) (covered b v) e in
    let k = IsIn-from_filter (λ u. covers v u.dot) r.0 b r.1 in
    covers-up _ v q.dot (seen_covered b v numbered closed r.0 k.0 k.1) (takes-covers m cell q r.0 r.2)

-- an insert that one part has and the other covers, it has too
pub added_covered : (b : List Update) (v w : List ℕ) (m : Pairing) (cell : ℕ) (q : Pair) → list_any (adds m cell q) (covered b v) ≡ true → covers w q.dot ≡ true → list_any (adds m cell q) (covered b w) ≡ true
added_covered b v w m cell q e h =
    let r = IsIn-from_any (adds m cell q) (covered b v) e in
    let k = IsIn-from_filter (λ u. covers v u.dot) r.0 b r.1 in
    any_from_IsIn (adds m cell q) r.0 (covered b w) (IsIn-filter (λ u. covers w u.dot) r.0 b k.0 (ap (covers w) (adds-dot m cell q r.0 r.2) ∙ h)) r.2

pub set_join : (b : List Update) (v w : List ℕ) (m : Pairing) (cell : ℕ) → IsCausalLog b → IsCausallyClosed b v → IsCausallyClosed b w
    → join_pairs (vector_of (covered b v)) (vector_of (covered b w)) (pairs_of m cell (covered b v)) (pairs_of m cell (covered b w)) ≡ pairs_of m cell (covered b (join_vectors v w))
unfolding join_pairs pairs_of has_pair
set_join b v w m cell causal closed_v closed_w = ascending_same _ _ each
  where
    numbered : Numbered b
    numbered = numbered_of b causal

    each : (q : Pair) → list_any (eq_by_cmp pair_cmp q) (filter (λ p. has_pair (pairs_of m cell (covered b w)) p || not (covers (vector_of (covered b w)) p.dot)) (pairs_of m cell (covered b v)) ++ filter (λ p. not (covers (vector_of (covered b v)) p.dot)) (pairs_of m cell (covered b w)))
        ≡ list_any (eq_by_cmp pair_cmp q) (live m cell (covered b (join_vectors v w)))
    each q =
        let hv = has-pairs_of m cell (covered b v) q in
        let hw = has-pairs_of m cell (covered b w) q in
        let cv = covers-vector_of b v numbered closed_v q.dot in
        let cw = covers-vector_of b w numbered closed_w q.dot in
        any-append (eq_by_cmp pair_cmp q) _ _
        ∙ (λ i. kept (λ p. has_pair (pairs_of m cell (covered b w)) p || not (covers (vector_of (covered b w)) p.dot)) q (pairs_of m cell (covered b v)) i || kept (λ p. not (covers (vector_of (covered b v)) p.dot)) q (pairs_of m cell (covered b w)) i)
        ∙ (λ i. (hv i && (hw i || not (cw i))) || (hw i && not (cv i)))
        ∙ merged _ _ _ _ _ _ (taken_covered b v numbered closed_v m cell q) (taken_covered b w numbered closed_w m cell q) (added_covered b v w m cell q) (added_covered b w v m cell q)
        ∙ sym (has-live m cell (covered b (join_vectors v w)) q ∙ (λ i. any-covered (adds m cell q) b v w i && not (any-covered (takes m cell q) b v w i)))
