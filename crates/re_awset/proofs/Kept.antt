-- What inserts and merges keep: the order of pairs, and what holds of each pair.
use Rattle.std.proofs.Common.{◌≡◌, ℕ, ◌<◌, Bool, true, false, not, List, [], ◌∷◌, refl, sym, ap, ◌∙◌, arith}
use Rattle.std.specs.Prelude.{nat_lt}
use Rattle.std.specs.List.{All, AllByRecursion, list_any}
use Rattle.std.specs.List.Sorted.{IsStrictlySortedBy}
use Rattle.std.proofs.lemmas.Bool.Decides.{nat_tests}
use Rattle.std.proofs.lemmas.List.Elements.{All-from_recursion, recursion_from_All}
use Rattle.re_terms.proofs.Values.{any-pairs}
use Rattle.re_terms.proofs.WordOrders.{ascending_sorted}
use Rattle.re_terms.specs.CellStates.{join_pairs}
use Rattle.re_terms.specs.UpdateStates.{pairs_after, without}
use Rattle.re_terms.specs.WordOrder.{pair_cmp, ascending}
use Rattle.re_terms.specs.declared.word.Word.{Word}
use Rattle.re_terms.specs.declared.replicated.Dot.{Dot}
use Rattle.re_terms.specs.declared.replicated.Pair.{Pair}
use Rattle.re_awset.proofs.Fronts.{or_none}
use Rattle.re_awset.proofs.Ordered.{all_append, all_filter, all_weaker, none_passes}

pub none-ascends : IsStrictlySortedBy pair_cmp []
unfolding IsStrictlySortedBy
none-ascends = tt

pub insert-ascends : (e : Word) (d : Dot) (xs : List Pair) → IsStrictlySortedBy pair_cmp (pairs_after d e xs)
insert-ascends e d xs = ascending_sorted _

pub join-ascends : (av bv : List ℕ) (a b : List Pair) → IsStrictlySortedBy pair_cmp (join_pairs av bv a b)
unfolding join_pairs
join-ascends av bv a b = ascending_sorted _

none_fails : (f : Pair → Bool) (ps : List Pair) → list_any (λ p. not (f p)) ps ≡ false → AllByRecursion (λ p. f p ≡ true) ps
none_fails f [] h = tt
none_fails f (p ∷ ps) h = let n = or_none (not (f p)) _ h in (passes (f p) n.0, none_fails f ps n.1)
  where
    passes : (b : Bool) → not b ≡ false → b ≡ true
    passes true e = refl
    passes false e = sym e

-- each of a list in order passes where each of the list does
all-ascending : (f : Pair → Bool) (ps : List Pair) → AllByRecursion (λ p. f p ≡ true) ps → AllByRecursion (λ p. f p ≡ true) (ascending ps)
all-ascending f ps h = none_fails f (ascending ps) (any-pairs (λ p. not (f p)) ps ∙ none_passes (λ p. not (f p)) ps (all_weaker (λ p. f p ≡ true) (λ p. not (f p) ≡ false) (λ p e. ap not e) ps h))

pub insert-all : (f : Pair → Bool) (e : Word) (d : Dot) (xs : List Pair) → f (record { element = e; dot = d }) ≡ true → AllByRecursion (λ p. f p ≡ true) xs → AllByRecursion (λ p. f p ≡ true) (pairs_after d e xs)
unfolding without
insert-all f e d xs h k = all-ascending f _ (h, all_filter _ _ xs k)

pub join-all : (f : Pair → Bool) (av bv : List ℕ) (a b : List Pair) → AllByRecursion (λ p. f p ≡ true) a → AllByRecursion (λ p. f p ≡ true) b → AllByRecursion (λ p. f p ≡ true) (join_pairs av bv a b)
unfolding join_pairs
join-all f av bv a b h k = all-ascending f _ (all_append _ _ _ (all_filter _ _ a h) (all_filter _ _ b k))

-- the devices of dots
module _ where
  tested : (ps : List Pair) → All (λ p. p.dot.device < 16) ps → AllByRecursion (λ p. nat_lt p.dot.device 16 ≡ true) ps
  tested ps h = all_weaker (λ p. p.dot.device < 16) (λ p. nat_lt p.dot.device 16 ≡ true) (λ p l. grind (arith, nat_tests)) ps (recursion_from_All (λ p. p.dot.device < 16) ps h)

  known : (ps : List Pair) → AllByRecursion (λ p. nat_lt p.dot.device 16 ≡ true) ps → All (λ p. p.dot.device < 16) ps
  known ps h = All-from_recursion (λ p. p.dot.device < 16) ps (all_weaker (λ p. nat_lt p.dot.device 16 ≡ true) (λ p. p.dot.device < 16) (λ p l. grind (arith, nat_tests)) ps h)

pub insert-devices : (e : Word) (d : Dot) (xs : List Pair) → d.device < 16 → All (λ p. p.dot.device < 16) xs → All (λ p. p.dot.device < 16) (pairs_after d e xs)
insert-devices e d xs l h = known _ (insert-all (λ p. nat_lt p.dot.device 16) e d xs (grind (arith, nat_tests)) (tested xs h))

pub join-devices : (av bv : List ℕ) (a b : List Pair) → All (λ p. p.dot.device < 16) a → All (λ p. p.dot.device < 16) b → All (λ p. p.dot.device < 16) (join_pairs av bv a b)
join-devices av bv a b h k = known _ (join-all (λ p. nat_lt p.dot.device 16) av bv a b (tested a h) (tested b k))
