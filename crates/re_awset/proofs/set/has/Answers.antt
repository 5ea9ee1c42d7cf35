use Rattle.std.proofs.Common.{◌∙◌, ap, sym, count_by}
use Rattle.std.specs.Prelude.{nat_lt}
use Rattle.re_awset.proofs.Splits.{any-counts}
use Rattle.re_awset.specs.Places.{is_below, is_up_to}
use Rattle.re_awset.proofs.set.has.Goals as goal

pub returns : goal.returns
returns c =
    let low = c.places_of-places.ensures.from ∙ ap (count_by (is_below c.args.element)) c.as_slice.ensures in
    let high = c.places_of-places.ensures.to ∙ ap (count_by (is_up_to c.args.element)) c.as_slice.ensures in
    (λ i. nat_lt (low i) (high i)) ∙ sym (any-counts c.args.element c.args.s.now.items)
