use Rattle.std.proofs.Common.{◌≡◌, ℕ, ◌+◌, ◌∙◌, Bool, true, false, ap, cond, length, not, subst, sym, take, arith, min}
use Rattle.std.specs.List.Sorted.{IsStrictlySortedBy}
use Rattle.std.proofs.lemmas.List.{take_all}
use Rattle.re_terms.specs.WordOrder.{elements_of, pair_cmp}
use Rattle.re_awset.proofs.Sizes.{elements-le-pairs, size-more, size-none, some_pair}
use Rattle.re_awset.proofs.set.size.Goals as goal
use Rattle.re_awset.proofs.set.size.Goals.{then-is_first, else-is_first}

counted : (b : Bool) (n count before after : ℕ) → n ≡ min (count + 1) 4294967295 → count ≡ min before 4294967295 → after ≡ before + cond b 0 1 → true ≡ not b → n ≡ min after 4294967295
counted true n count before after e f g h = absurd (cc)
counted false n count before after e f g h = omega arith

passed : (b : Bool) (n count before after : ℕ) → n ≡ count → count ≡ min before 4294967295 → after ≡ before + cond b 0 1 → false ≡ not b → n ≡ min after 4294967295
passed true n count before after e f g h = omega arith
passed false n count before after e f g h = absurd (cc)

pub loop-place-init : goal.loop-place-init
loop-place-init c = let none = size-none in omega arith

pub loop-place-preserved : goal.loop-place-preserved
loop-place-preserved c =
    let ascends = subst (IsStrictlySortedBy pair_cmp) (sym c.as_slice-pairs.ensures) c.requires in
    let more = size-more c.as_slice-pairs.result.now c.loop-place.place some_pair ascends c.loop-place-test.true in
    let first = c.is_first.ensures some_pair in
    elim c.if-is_first.branch [
      | then-is_first w ↦ counted _ _ _ _ _ (w.count-is ∙ w.saturating_add-count.ensures) c.loop-place.invariant more (sym w.if-is_first.true ∙ first)
      | else-is_first w ↦ passed _ _ _ _ _ w.count-is c.loop-place.invariant more (sym w.if-is_first.false ∙ first)
    ]

pub returns-clause-few : goal.returns-clause-few
returns-clause-few c =
    let pairs = c.as_slice-pairs.result.now in
    let whole : length (elements_of (take c.loop-place.place pairs)) ≡ length (elements_of c.args.s.now.items) = ap (λ l. length (elements_of l)) (take_all c.loop-place.place pairs c.loop-place-test.false ∙ c.as_slice-pairs.ensures) in
    let few = elements-le-pairs c.args.s.now.items c.requires in
    let count = c.loop-place.invariant in
    λ l. omega arith
