use Rattle.re_terms.proofs.WorldSteps.{others_kept}
use Rattle.re_terms.proofs.world_laws.others_law.Goals as goal

pub returns : goal.returns
returns c = others_kept
