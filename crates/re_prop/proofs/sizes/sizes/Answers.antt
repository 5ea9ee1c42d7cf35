use Rattle.std.proofs.Common.{◌∙◌}
use Rattle.re_prop.proofs.SetSizes.{sizes_step}
use Rattle.re_prop.proofs.sizes.sizes.Goals as goal

pub sizing-preserved : goal.sizing-preserved
sizing-preserved c = c.in_ok-push.ensures.items ∙ sizes_step c.args.cells.now c.sizing.place c.sizing.sizes.items c.size_at.result c.sizing-test.true c.sizing.invariant c.size_at.ensures
