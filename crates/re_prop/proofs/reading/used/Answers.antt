use Rattle.std.proofs.Common.{◌∙◌}
use Rattle.re_prop.proofs.Uses.{is_used_all}
use Rattle.re_prop.proofs.reading.used.Goals as goal

pub returns-clause-marks : goal.returns-clause-marks
returns-clause-marks c id under = let t = c.marking-test.false in c.marking.invariant.marked id under ∙ is_used_all c.args.g.now c.args.reached.now id c.marking.id-index t
