use Rattle.std.proofs.Common.{◌≡◌, ℕ, ◌++◌, ◌∷◌, ◌∙◌, List, [], Option, None, Some, ap, cond, drop, subst, sym}
use Rattle.std.specs.Ordering.{ordering_reverse}
use Rattle.std.specs.declared.cmp.Ordering.TheVariants.{Less}
use Rattle.re_terms.proofs.WordOrders.{pair_cmp_total}
use Rattle.re_terms.specs.CellStates.{join_pairs}
use Rattle.re_terms.specs.WordOrder.{pair_cmp}
use Rattle.re_terms.specs.declared.replicated.Pair.{Pair}
use Rattle.re_awset.specs.declared.merging.Step.{Step}
use Rattle.re_awset.proofs.Merges.{both-first, other-first, own-first}
use Rattle.re_awset.proofs.merging.first_step.Goals as goal

-- the step takes the pair that it has off the lists
abbrev Takes : List ℕ → List ℕ → List Pair → List Pair → Step → Type 0
Takes av bv a b step = join_pairs av bv a b ≡ cond step.kept (step.pair ∷ []) [] ++ join_pairs av bv (drop step.own a) (drop step.other b)

-- there is no first
no_first : (x : Pair) (o : Option Pair) → None ≡ o → (y : Pair) → o ≡ Some y → pair_cmp x y ≡ Less
no_first x o e y h = absurd (cc)

-- the first is this one
one_first : (x z : Pair) (o : Option Pair) → Some z ≡ o → pair_cmp x z ≡ Less → (y : Pair) → o ≡ Some y → pair_cmp x y ≡ Less
one_first x z o e less y h = let same : z ≡ y = cc in ap (pair_cmp x) (sym same) ∙ less

pub returns-in-None-Some-clause-merged : goal.returns-in-None-Some-clause-merged
returns-in-None-Some-clause-merged c =
    let a = c.args.a.now in
    let b = c.args.b.now in
    let q = c.in-None-Some.q.now in
    subst (Takes c.args.av.now.counts c.args.bv.now.counts a b) (sym c.other_step.ensures)
    (other-first c.args.av.now.counts c.args.bv.now.counts q a b c.requires.a_ascends c.requires.b_ascends (sym c.in-None-Some.ensures'.value) (no_first q _ c.in-None-Some.ensures.value))

pub returns-in-Some-None-clause-merged : goal.returns-in-Some-None-clause-merged
returns-in-Some-None-clause-merged c =
    let a = c.args.a.now in
    let b = c.args.b.now in
    let p = c.in-Some-None.p.now in
    subst (Takes c.args.av.now.counts c.args.bv.now.counts a b) (sym c.own_step.ensures)
    (own-first c.args.av.now.counts c.args.bv.now.counts p a b c.requires.a_ascends c.requires.b_ascends (sym c.in-Some-None.ensures.value) (no_first p _ c.in-Some-None.ensures'.value))

pub returns-in-Less-clause-merged : goal.returns-in-Less-clause-merged
returns-in-Less-clause-merged c =
    let a = c.args.a.now in
    let b = c.args.b.now in
    let p = c.in-Some-Some.p.now in
    let q = c.in-Some-Some.q.now in
    let less : pair_cmp p q ≡ Less = sym c.in-Less.ensures in
    subst (Takes c.args.av.now.counts c.args.bv.now.counts a b) (sym c.own_step-in-Less.ensures)
    (own-first c.args.av.now.counts c.args.bv.now.counts p a b c.requires.a_ascends c.requires.b_ascends (sym c.in-Some-Some.ensures.value) (one_first p q _ c.in-Some-Some.ensures'.value less))

pub returns-in-Greater-clause-merged : goal.returns-in-Greater-clause-merged
returns-in-Greater-clause-merged c =
    let a = c.args.a.now in
    let b = c.args.b.now in
    let p = c.in-Some-Some.p.now in
    let q = c.in-Some-Some.q.now in
    let less : pair_cmp q p ≡ Less = pair_cmp_total.antisymm q p ∙ ap ordering_reverse (sym c.in-Greater.ensures) in
    subst (Takes c.args.av.now.counts c.args.bv.now.counts a b) (sym c.other_step-in-Greater.ensures)
    (other-first c.args.av.now.counts c.args.bv.now.counts q a b c.requires.a_ascends c.requires.b_ascends (sym c.in-Some-Some.ensures'.value) (one_first q p _ c.in-Some-Some.ensures.value less))

pub returns-in-Equal-clause-merged : goal.returns-in-Equal-clause-merged
returns-in-Equal-clause-merged c =
    both-first c.args.av.now.counts c.args.bv.now.counts c.in-Some-Some.p.now c.in-Some-Some.q.now c.args.a.now c.args.b.now c.requires.a_ascends c.requires.b_ascends (sym c.in-Some-Some.ensures.value) (sym c.in-Some-Some.ensures'.value) (sym c.in-Equal.ensures)
