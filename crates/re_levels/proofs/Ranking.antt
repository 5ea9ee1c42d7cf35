-- The ranks of declarations, from the order by level.
use Rattle.std.proofs.Common.{◌≡◌, ◌<◌, ◌≤◌, ◌==◌, ◌⊎◌, inl, inr, ℕ, suc, Bool, true, false, ◌&&◌, ◌||◌, List, [], ◌∷◌, map, max, length, get_or, refl, sym, ap, subst, ◌∙◌, arith}
use Rattle.std.specs.Prelude.{nat_eq, nat_lt}
use Rattle.std.specs.List.{IsDistinct, list_any}
use Rattle.std.proofs.lemmas.Bool.{cases_eq, eq-eqb, eqb-true, ne_eqb, lt-ltb, le-ltb, ltb-true, ltb-false, both_ways}
use Rattle.std.proofs.lemmas.List.Folds.{list_any_at}
use Rattle.std.proofs.lemmas.Map.Keys.{IsDistinct-from_apart}
use Rattle.std.proofs.lemmas.Map.Steps.{length-le_from_distinct_below, le-length_from_below}
use Rattle.re_terms.specs.Dependencies.{PlainNode, inputs_at, IsOrdered, level, level_above}
use Rattle.re_graph.specs.Kept.{is_among, IsOrderBy, comes_before}
use Rattle.re_graph.proofs.Own.{inputs_at-none, level-own}
use Rattle.re_levels.specs.Places.{IsRanking}

eq_turned : (a b : ℕ) → (a == b) ≡ (b == a)
eq_turned a b = by (cases_eq a b)
  where
    by : (a ≡ b) ⊎ (a ≡ b → ⊥) → (a == b) ≡ (b == a)
    by (inl e) = eq-eqb a b e ∙ sym (eq-eqb b a (sym e))
    by (inr other) = ne_eqb a b other ∙ sym (ne_eqb b a (λ e. other (sym e)))

any_turned : (q : ℕ) (xs : List ℕ) → list_any (nat_eq q) xs ≡ is_among xs q
any_turned q [] = refl
any_turned q (x ∷ xs) = λ i. eq_turned q x i || any_turned q xs i

-- where a number stands in a list
record StandsAt (xs : List ℕ) (id : ℕ) : Type 0 where
  place : ℕ
  within : place < length xs
  is : get_or xs place 0 ≡ id

stands_by : (x : ℕ) (xs : List ℕ) (id : ℕ) (b : Bool) → (x == id) ≡ b → (b || is_among xs id) ≡ true → (is_among xs id ≡ true → StandsAt xs id) → StandsAt (x ∷ xs) id
stands_by x xs id true e h rest = record { place = 0; within = omega arith; is = eqb-true x id e }
stands_by x xs id false e h rest = let r = rest h in record { place = suc r.place; within = omega (arith, r.within); is = r.is }

stands : (xs : List ℕ) (id : ℕ) → is_among xs id ≡ true → StandsAt xs id
stands [] id h = absurd (let no : false ≡ true = h in cc)
stands (x ∷ xs) id h = stands_by x xs id (x == id) refl h (stands xs id)

above_by : (x y : ℕ) (more : ℕ) (b : Bool) (f : ℕ → ℕ) → (y == x) ≡ b → (b ≡ false → f x < more) → f x < max (suc (f y)) more
above_by x y more true f e rest = let same : f y ≡ f x = ap f (eqb-true y x e) in omega (arith, same)
above_by x y more false f e rest = let r = rest refl in omega (arith, r)

or_false_left : (b c : Bool) → (b || c) ≡ true → b ≡ false → c ≡ true
or_false_left true c h e = absurd (let no : true ≡ false = e in cc)
or_false_left false c h e = h

level_under : (f : ℕ → ℕ) (xs : List ℕ) (x : ℕ) → is_among xs x ≡ true → f x < level_above (map f xs)
level_under f [] x h = absurd (let no : false ≡ true = h in cc)
level_under f (y ∷ xs) x h = above_by x y (level_above (map f xs)) (y == x) f refl (λ off. level_under f xs x (or_false_left (y == x) (is_among xs x) h off))

module _ (graph : List PlainNode) (ordered : IsOrdered graph) (order : List ℕ) (by_level : IsOrderBy (level graph) (length graph) order) where
  abbrev n : ℕ
  n = length graph

  not_itself : (a : ℕ) → comes_before (level graph) a a ≡ false
  not_itself a =
      ap (λ b. b || ((level graph a == level graph a) && nat_lt a a)) (le-ltb (level graph a) (level graph a) (omega arith))
      ∙ ap (λ b. (level graph a == level graph a) && b) (le-ltb a a (omega arith))
      ∙ and_false (level graph a == level graph a)
    where
      and_false : (b : Bool) → (b && false) ≡ false
      and_false true = refl
      and_false false = refl

  apart_of : (i j d : ℕ) → i < j → j < length order → get_or order i d ≡ get_or order j d → ⊥
  apart_of i j d before within same =
      both_ways (comes_before (level graph) (get_or order j d) (get_or order j d)) (not_itself (get_or order j d))
      (subst (λ a. comes_before (level graph) a (get_or order j d) ≡ true) same (by_level.ascending i j d before within))

  distinct : IsDistinct nat_eq order
  distinct = IsDistinct-from_apart nat_eq order (λ i j d before within. ne_eqb (get_or order i d) (get_or order j d) (apart_of i j d before within))

  below_n : (q : ℕ) → list_any (nat_eq q) order ≡ true → q < n
  below_n q among = ltb-true q n (sym (by_level.each q) ∙ sym (any_turned q order) ∙ among)

  -- as many ranks as declarations
  pub order_long : length order ≡ n
  order_long =
      let up : length order ≤ n = length-le_from_distinct_below order n distinct below_n in
      let down : n ≤ length order = le-length_from_below order n (λ q under. any_turned q order ∙ by_level.each q ∙ lt-ltb q n under) in
      omega arith

  place_among : (i d : ℕ) → i < length order → is_among order (get_or order i d) ≡ true
  place_among i d within = list_any_at (λ other. other == get_or order i d) order i d within (eq-eqb (get_or order i d) (get_or order i d) refl)

  -- each is declared
  pub order_low : (i d : ℕ) → i < length order → get_or order i d < length order
  order_low i d within =
      let long = order_long in
      let low : get_or order i d < n = ltb-true (get_or order i d) n (sym (by_level.each (get_or order i d)) ∙ place_among i d within) in
      omega arith

  one_by : (i j : ℕ) → i < length order → j < length order → get_or order i 0 ≡ get_or order j 0 → (b c : Bool) → nat_lt i j ≡ b → nat_lt j i ≡ c → i ≡ j
  one_by i j wi wj same true c lt gt = absurd (apart_of i j 0 (ltb-true i j lt) wj same)
  one_by i j wi wj same false true lt gt = absurd (apart_of j i 0 (ltb-true j i gt) wi (sym same))
  one_by i j wi wj same false false lt gt = omega (arith, ltb-false i j lt, ltb-false j i gt)

  -- no two places have one declaration
  pub one_place : (i j : ℕ) → i < length order → j < length order → get_or order i 0 ≡ get_or order j 0 → i ≡ j
  one_place i j wi wj same = one_by i j wi wj same (nat_lt i j) (nat_lt j i) refl refl

  module _ (ranks : List ℕ) (count : length ranks ≡ length order) (ranked : (k : ℕ) → k < length order → ((other : ℕ) → other < length order → get_or order other 0 ≡ get_or order k 0 → other ≡ k) → get_or ranks (get_or order k 0) 0 ≡ k) where
    again : (k : ℕ) → k < length order → get_or ranks (get_or order k 0) 0 ≡ k
    again k within = ranked k within (λ other inside same. one_place other k inside within same)

    place_of : (id : ℕ) → id < n → StandsAt order id
    place_of id within = stands order id (by_level.each id ∙ lt-ltb id n within)

    rank_is : (id : ℕ) (within : id < n) → get_or ranks id 0 ≡ (place_of id within).place
    rank_is id within = let s = place_of id within in ap (λ x. get_or ranks x 0) (sym s.is) ∙ again s.place s.within

    declared_by : (id input : ℕ) → is_among (inputs_at graph id) input ≡ true → (b : Bool) → nat_lt id n ≡ b → id < n
    declared_by id input among true lt = ltb-true id n lt
    declared_by id input among false lt = absurd (let no : false ≡ true = sym (ap (λ xs. is_among xs input) (inputs_at-none graph id (ltb-false id n lt))) ∙ among in cc)

    level_lower : (id input : ℕ) → id < n → is_among (inputs_at graph id) input ≡ true → level graph input < level graph id
    level_lower id input within among = subst (λ l. level graph input < l) (sym (level-own graph id ordered within)) (level_under (level graph) (inputs_at graph id) input among)

    input_lower : (id input : ℕ) → is_among (inputs_at graph id) input ≡ true → input < id
    input_lower id input among =
        let s = stands (inputs_at graph id) input among in
        subst (λ x. x < id) s.is (ordered id s.place 0 s.within)

    not_before : (a b : ℕ) → level graph b < level graph a → comes_before (level graph) a b ≡ false
    not_before a b lower =
        ap (λ t. t || ((level graph a == level graph b) && nat_lt a b)) (le-ltb (level graph a) (level graph b) (omega (arith, lower)))
        ∙ ap (λ t. t && nat_lt a b) (ne_eqb (level graph a) (level graph b) (λ e. absurd (omega (arith, lower, e))))

    later_by : (id input : ℕ) (inside : id < n) (declared : input < n) → is_among (inputs_at graph id) input ≡ true → (b : Bool) → nat_lt (get_or ranks input 0) (get_or ranks id 0) ≡ b → get_or ranks input 0 < get_or ranks id 0
    later_by id input inside declared among true lt = ltb-true (get_or ranks input 0) (get_or ranks id 0) lt
    later_by id input inside declared among false lt =
        let s = place_of id inside in
        let t = place_of input declared in
        let first = rank_is id inside in
        let second = rank_is input declared in
        let under : s.place ≤ t.place = omega (arith, ltb-false (get_or ranks input 0) (get_or ranks id 0) lt, first, second) in
        let lower : input < id = input_lower id input among in
        let apart : s.place ≡ t.place → ⊥ = λ e. absurd (let same : id ≡ input = sym s.is ∙ ap (λ k. get_or order k 0) e ∙ t.is in omega (arith, same, lower)) in
        let before : s.place < t.place = omega (arith, under, apart) in
        let rises : comes_before (level graph) (get_or order s.place 0) (get_or order t.place 0) ≡ true = by_level.ascending s.place t.place 0 before t.within in
        let moved : comes_before (level graph) id input ≡ true = subst (λ x. comes_before (level graph) x input ≡ true) s.is (subst (λ y. comes_before (level graph) (get_or order s.place 0) y ≡ true) t.is rises) in
        absurd (both_ways (comes_before (level graph) id input) (not_before id input (level_lower id input inside among)) moved)

    -- the ranks
    pub ranking : IsRanking graph order ranks
    ranking = record {
      order_count = order_long;
      rank_count = count ∙ order_long;
      low = λ id within. let s = place_of id within in let r = rank_is id within in let l = order_long in omega (arith, s.within, r, l);
      back = λ id within. let s = place_of id within in ap (λ k. get_or order k 0) (rank_is id within) ∙ s.is;
      there = λ rank within. let l = order_long in let o = order_low rank 0 (omega (arith, l, within)) in omega (arith, l, o);
      again = λ rank within. let l = order_long in again rank (omega (arith, l, within));
      later = λ id input among.
          let inside = declared_by id input among (nat_lt id n) refl in
          later_by id input inside (omega (arith, inside, input_lower id input among)) among (nat_lt (get_or ranks input 0) (get_or ranks id 0)) refl;
    }
