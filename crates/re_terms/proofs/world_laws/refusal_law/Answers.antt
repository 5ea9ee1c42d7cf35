use Rattle.re_terms.proofs.WorldSteps.{unchanged}
use Rattle.re_terms.proofs.world_laws.refusal_law.Goals as goal

pub returns : goal.returns
returns c = unchanged
