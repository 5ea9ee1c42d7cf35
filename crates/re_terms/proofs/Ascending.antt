-- A list in strict order is known by its members.
use Rattle.std.proofs.Common.{◌≡◌, ◌≤◌, ◌+◌, ℕ, cond, length, arith, Bool, true, false, List, [], ◌∷◌, refl, sym, ap, ◌∙◌, subst, Option, None, Some}
use Rattle.std.specs.Prelude.{T, ◌&&◌, map, is_some}
use Rattle.std.specs.declared.cmp.Ordering.{Ordering}
use Rattle.std.specs.declared.cmp.Ordering.TheVariants.{Less, Equal, Greater}
use Rattle.std.specs.Ordering.{eq_by_cmp, is_lt}
use Rattle.std.specs.Cmp.{IsTotalOrder}
use Rattle.std.specs.List.{list_any, AllByRecursion}
use Rattle.std.specs.List.Sorted.{IsStrictlySortedBy}
use Rattle.std.proofs.lemmas.List.{length-map}
use Rattle.std.specs.FinMap.{IsAntisymmetric, empty, entries-insert, len-empty, len-entries, keys, entries, entries_sorted, from_entries, get, get-entries, get-from_entries, contains_key-keys, same_map}
use Rattle.std.specs.FinMap.Entries.{find, length-put, below_all, is_sorted, is_some-find, same_entries}
use Rattle.re_terms.specs.WordOrder.{ascending_by}

module _ {K : Type 0} where
  abbrev marked : List K → List (K × Unit {0})
  marked ks = map (λ k. (k, tt {0})) ks

  keys_marked : (ks : List K) → map (λ e. e.0) (marked ks) ≡ ks
  keys_marked [] = refl
  keys_marked (k ∷ ks) = ap (λ l. k ∷ l) (keys_marked ks)

same_marks : (x y : Option (Unit {0})) → is_some x ≡ is_some y → x ≡ y
same_marks None None e = refl
same_marks None (Some v) e = absurd (subst T (sym e) tt)
same_marks (Some u) None e = absurd (subst T e tt)
same_marks (Some u) (Some v) e = refl

less_true : (o : Ordering) → o ≡ Less → T (is_lt o)
less_true o e = subst (λ r. T (is_lt r)) (sym e) tt

true_less : (o : Ordering) → T (is_lt o) → o ≡ Less
true_less Less h = refl
true_less Equal h = absurd h
true_less Greater h = absurd h

both : (a b : Bool) → T a → T b → T (a && b)
both true b h k = k
both false b h k = h

first : (a b : Bool) → T (a && b) → T a
first true b h = tt
first false b h = h

second : (a b : Bool) → T (a && b) → T b
second true b h = h
second false b h = absurd h

module _ {K : Type 0} (R : K → K → Ordering) where
  below_marked : (k : K) (ks : List K) → AllByRecursion (λ y. R k y ≡ Less) ks → T (below_all R k (marked ks))
  below_marked k [] h = tt
  below_marked k (x ∷ ks) h = both _ _ (less_true _ h.0) (below_marked k ks h.1)

  sorted_marked : (ks : List K) → IsStrictlySortedBy R ks → T (is_sorted R (marked ks))
  unfolding IsStrictlySortedBy
  sorted_marked [] h = tt
  sorted_marked (k ∷ ks) h = both _ _ (below_marked k ks h.0) (sorted_marked ks h.1)

  below_keys : (k : K) (es : List (K × Unit {0})) → T (below_all R k es) → AllByRecursion (λ y. R k y ≡ Less) (map (λ e. e.0) es)
  below_keys k [] h = tt
  below_keys k (e ∷ es) h = (true_less _ (first _ _ h), below_keys k es (second _ _ h))

  sorted_keys : (es : List (K × Unit {0})) → T (is_sorted R es) → IsStrictlySortedBy R (map (λ e. e.0) es)
  unfolding IsStrictlySortedBy
  sorted_keys [] h = tt
  sorted_keys (e ∷ es) h = (below_keys e.0 es (first _ _ h), sorted_keys es (second _ _ h))

  pub ascending_by_sorted : (ks : List K) → IsStrictlySortedBy R (ascending_by R ks)
  unfolding ascending_by
  ascending_by_sorted ks = let m = from_entries {R = R} (marked ks) in sorted_keys (entries m) (entries_sorted m)

module _ {K : Type 0} (R : K → K → Ordering) (o : IsTotalOrder R) where
  has : (ks : List K) (q : K) → is_some (get (from_entries {R = R} (marked ks)) q) ≡ list_any (eq_by_cmp R q) ks
  has ks q = ap is_some (get-from_entries o (marked ks) q) ∙ is_some-find R q (marked ks) ∙ ap (list_any (eq_by_cmp R q)) (keys_marked ks)

  pub any-ascending_by : (ks : List K) (q : K) → list_any (eq_by_cmp R q) (ascending_by R ks) ≡ list_any (eq_by_cmp R q) ks
  unfolding ascending_by
  any-ascending_by ks q = sym (contains_key-keys (from_entries {R = R} (marked ks)) q) ∙ has ks q

  pub ascending_by_same : IsAntisymmetric R → (ks ls : List K) → ((q : K) → list_any (eq_by_cmp R q) ks ≡ list_any (eq_by_cmp R q) ls) → ascending_by R ks ≡ ascending_by R ls
  unfolding ascending_by
  ascending_by_same same ks ls h = ap keys (same_map o same _ _ (λ q. same_marks _ _ (has ks q ∙ h q ∙ sym (has ls q))))

  pub ascending_by_is : IsAntisymmetric R → (ks : List K) → IsStrictlySortedBy R ks → ascending_by R ks ≡ ks
  unfolding ascending_by
  ascending_by_is same ks h =
      let m = from_entries {R = R} (marked ks) in
      ap (map (λ e. e.0)) (same_entries R o same (entries m) (marked ks) (entries_sorted m) (sorted_marked R ks h) (λ q. sym (get-entries m q) ∙ get-from_entries o (marked ks) q)) ∙ keys_marked ks

  one_at_most : (b : Bool) (n : ℕ) → cond b n (n + 1) ≤ n + 1
  one_at_most true n = omega arith
  one_at_most false n = omega arith

  entered : (ks : List K) → length (entries (from_entries {R = R} (marked ks))) ≤ length ks
  entered [] = omega (arith, len-entries (empty {X = Unit {0}} {R = R}), len-empty R (Unit {0}))
  entered (k ∷ ks) =
      let m = from_entries {R = R} (marked ks) in
      let e : length (entries (from_entries {R = R} (marked (k ∷ ks)))) ≡ cond (is_some (find R k (entries m))) (length (entries m)) (length (entries m) + 1) = ap length (entries-insert o m k (tt {0})) ∙ length-put R o k (tt {0}) (entries m) (entries_sorted m) in
      omega (arith, e, one_at_most (is_some (find R k (entries m))) (length (entries m)), entered ks)

  -- at most as many as before
  pub length-ascending_by : (ks : List K) → length (ascending_by R ks) ≤ length ks
  unfolding ascending_by
  length-ascending_by ks = omega (arith, length-map (entries (from_entries {R = R} (marked ks))) (λ e. e.0), entered ks)
