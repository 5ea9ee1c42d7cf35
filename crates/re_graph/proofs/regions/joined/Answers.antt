use Rattle.re_graph.proofs.Steps.{joined_step}
use Rattle.re_graph.proofs.regions.joined.Goals as goal

pub loop-id-preserved : goal.loop-id-preserved
loop-id-preserved c = λ region. joined_step c.args.regions.now c.args.ids.now c.loop-id.id-index c.loop-id.bits region c.loop-id-test.true (c.loop-id.invariant region)
