use Rattle.std.proofs.Common.{◌≡◌, ◌<◌, ◌+◌, max, get_or, arith}
use Rattle.re_graph.proofs.Steps.{level_step}
use Rattle.re_graph.proofs.levels.level_above.Goals as goal
use Rattle.re_graph.proofs.levels.level_above.Goals.{then-above-level, else-above-level}

pub loop-input-preserved : goal.loop-input-preserved
loop-input-preserved c =
    let input = get_or c.args.inputs.now c.loop-input.input-index 0 in
    let next : c.if-above-level.above ≡ max c.loop-input.above (get_or c.args.levels.now input 0 + 1) = elim c.if-above-level.branch [ then-above-level w ↦ omega arith | else-above-level w ↦ omega arith ] in
    let low : get_or c.args.levels.now input 0 < 511 = c.requires.low input 0 (c.requires.declared c.loop-input.input-index 0 c.loop-input-test.true) in
    (level_step c.args.levels.now c.args.inputs.now c.loop-input.input-index c.loop-input.above c.if-above-level.above c.loop-input-test.true c.loop-input.invariant.0 next, omega (arith, next, low, c.loop-input.invariant.1))
