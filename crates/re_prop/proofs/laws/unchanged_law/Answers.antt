use Rattle.re_prop.proofs.Consequences.{unchanged}
use Rattle.re_prop.proofs.laws.unchanged_law.Goals as goal

pub returns : goal.returns
returns c = unchanged
