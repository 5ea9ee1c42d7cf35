use Rattle.re_types.proofs.Turns.{next-part}
use Rattle.re_types.proofs.admitting.resolved_parts.Goals as goal

pub parts-preserved : goal.parts-preserved
parts-preserved c =
    let next = next-part c.args.decls.now c.args.parts.now c.parts.raw-index c.raw-item.result c.in-Some.part c.parts.turn c.push.new.turn c.parts-test.true c.raw-item.is
    c.in-Some.ensures.set c.in-Some.ensures.fire c.in-Some.ensures.act c.parts.invariant.turn c.parts.invariant.kinds c.in_ok-push.ensures in
    record { turn = next.0; kinds = next.1 }
