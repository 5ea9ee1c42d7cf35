use Rattle.re_terms.proofs.CausalSteps.{started, stepped}
use Rattle.re_terms.proofs.world_laws.causal_world_law.Goals as goal

pub returns : goal.returns
returns c = record { start = started; step = stepped }
