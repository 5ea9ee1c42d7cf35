use Rattle.re_terms.proofs.WorldSteps.{down_refused, down_unchanged}
use Rattle.re_terms.proofs.world_laws.down_law.Goals as goal

pub returns : goal.returns
returns c = record { refused = down_refused; unchanged = down_unchanged }
