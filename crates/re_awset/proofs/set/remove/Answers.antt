use Rattle.std.proofs.Common.{◌∙◌, ap}
use Rattle.re_awset.proofs.Inserts.{without-from_places}
use Rattle.re_awset.proofs.set.remove.Goals as goal

pub returns : goal.returns
returns c =
    c.take_out.ensures
    ∙ ap (λ l. record { items = l; spare = c.args.s.now.spare }) (without-from_places c.args.element c.args.s.now.items c.as_slice.result.now _ _ c.as_slice.ensures c.requires c.places_of-places.ensures.from c.places_of-places.ensures.to)
