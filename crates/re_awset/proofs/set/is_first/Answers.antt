use Rattle.std.proofs.Common.{◌≡◌, ◌-◌, ◌<◌, ◌∙◌, ap, arith, length, not, refl, sym}
use Rattle.std.specs.Bool.{◌==◌}
use Rattle.std.specs.Ordering.{is_eq, ordering_index}
use Rattle.std.specs.declared.cmp.Ordering.{Ordering}
use Rattle.std.specs.declared.cmp.Ordering.TheVariants.{Less, Equal, Greater}
use Rattle.std.proofs.lemmas.List.{get_or_default}
use Rattle.re_terms.specs.WordOrder.{same_word}
use Rattle.re_awset.proofs.Sizes.{any-before_place, some_pair}
use Rattle.re_awset.proofs.set.is_first.Goals as goal

is_equal : (o : Ordering) → (ordering_index o == 1) ≡ is_eq o
is_equal Less = refl
is_equal Equal = refl
is_equal Greater = refl

pub returns-else-place-eq0 : goal.returns-else-place-eq0
unfolding same_word
returns-else-place-eq0 c = λ d.
    let pairs = c.args.pairs.now in
    let here : c.args.place - 1 < length pairs = omega arith in
    c.ne.ensures
    ∙ ap not (is_equal c.compare_words.result ∙ ap is_eq c.compare_words.ensures)
    ∙ (λ i. not (same_word (get_or_default pairs (c.args.place - 1) some_pair d here i).element (get_or_default pairs c.args.place some_pair d c.requires.within i).element))
    ∙ ap not (sym (any-before_place pairs c.args.place d c.requires.ascend (omega arith) c.requires.within))
