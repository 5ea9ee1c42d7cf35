use Rattle.std.proofs.Common.{rules}
use Rattle.re_prop.proofs.bodies.cell_count.Goals as goal

pub returns : goal.returns
returns c = search rules
