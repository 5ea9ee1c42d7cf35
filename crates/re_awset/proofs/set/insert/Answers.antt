use Rattle.std.proofs.Common.{◌∙◌, arith, refl}
use Rattle.re_awset.proofs.Inserts.{insert-from_places, length-from_places}
use Rattle.re_awset.proofs.Splits.{absent-from_places}
use Rattle.re_awset.proofs.set.insert.Goals as goal

pub returns-then-others-room-clause-full : goal.returns-then-others-room-clause-full
returns-then-others-room-clause-full c =
    let count = length-from_places c.args.element c.args.dot c.args.s.now.items c.as_slice.result.now _ _ c.as_slice.ensures c.requires c.places_of-places.ensures.from c.places_of-places.ensures.to in
    (λ _. omega arith, λ _. refl)

pub returns-in-Ok-clause-ok : goal.returns-in-Ok-clause-ok
returns-in-Ok-clause-ok c =
    c.in-Ok.ensures.ok
    ∙ insert-from_places c.args.element c.args.dot c.args.s.now.items c.as_slice.result.now _ _ c.as_slice.ensures c.requires c.places_of-places.ensures.from c.places_of-places.ensures.to

pub returns-in-Ok-clause-full : goal.returns-in-Ok-clause-full
returns-in-Ok-clause-full c =
    let count = length-from_places c.args.element c.args.dot c.args.s.now.items c.as_slice.result.now _ _ c.as_slice.ensures c.requires c.places_of-places.ensures.from c.places_of-places.ensures.to in
    (λ e. absurd (cc), λ over. absurd (omega arith))

pub returns-in-Err-clause-full : goal.returns-in-Err-clause-full
returns-in-Err-clause-full c =
    let count = length-from_places c.args.element c.args.dot c.args.s.now.items c.as_slice.result.now _ _ c.as_slice.ensures c.requires c.places_of-places.ensures.from c.places_of-places.ensures.to in
    (λ e. absurd (cc), λ over. absurd (omega arith))

pub returns-in-Err-clause-memory : goal.returns-in-Err-clause-memory
returns-in-Err-clause-memory c =
    let wanting = c.in-Err.ensures.memory in
    λ _. (wanting.0, absent-from_places c.args.element c.args.s.now.items c.as_slice.result.now _ _ c.as_slice.ensures c.places_of-places.ensures.from c.places_of-places.ensures.to wanting.1)
