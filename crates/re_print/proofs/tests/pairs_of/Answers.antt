use Rattle.std.proofs.Common.{◌≡◌, List, [], ◌∷◌, ◌++◌, ap, sym, subst, ◌∙◌}
use Rattle.std.specs.declared.cmp.Ordering.TheVariants.{Less}
use Rattle.std.specs.List.Sorted.{IsStrictlySortedBy}
use Rattle.re_terms.specs.declared.replicated.Pair.{Pair}
use Rattle.re_terms.specs.WordOrder.{pair_cmp}
use Rattle.re_print.proofs.tests.pairs_of.Goals as goal

ascend : (x y z : Pair) → pair_cmp x y ≡ Less → pair_cmp x z ≡ Less → pair_cmp y z ≡ Less → IsStrictlySortedBy pair_cmp (x ∷ y ∷ z ∷ [])
unfolding IsStrictlySortedBy
ascend x y z a b c = ((a, (b, tt)), ((c, tt), (tt, tt)))

less : (x y v w : Pair) → x ≡ v → y ≡ w → pair_cmp v w ≡ Less → pair_cmp x y ≡ Less
less x y v w p q h = ap (λ u. pair_cmp u y) p ∙ ap (pair_cmp v) q ∙ h

joined : (none one two three : List Pair) (x y z : Pair) → none ≡ [] → one ≡ none ++ x ∷ [] → two ≡ one ++ y ∷ [] → three ≡ two ++ z ∷ [] → three ≡ x ∷ y ∷ z ∷ []
joined none one two three x y z a b c d = d ∙ ap (λ l. l ++ z ∷ []) (c ∙ ap (λ l. l ++ y ∷ []) (b ∙ ap (λ l. l ++ x ∷ []) a))

pub returns : goal.returns
returns c =
    subst (IsStrictlySortedBy pair_cmp)
    (sym (joined _ _ _ _ c.numbered.result c.numbered-2.result c.numbered-3.result (ap (λ l. l.items) c.new-pairs.ensures) (ap (λ l. l.items) c.in_ok-push.ensures.ok) (ap (λ l. l.items) c.in_ok-push-2.ensures.ok) (ap (λ l. l.items) c.in_ok-push-3.ensures.ok)))
    (ascend c.numbered.result c.numbered-2.result c.numbered-3.result (less _ _ _ _ c.numbered.ensures c.numbered-2.ensures c.requires.first) (less _ _ _ _ c.numbered.ensures c.numbered-3.ensures c.requires.ends) (less _ _ _ _ c.numbered-2.ensures c.numbered-3.ensures c.requires.second))
