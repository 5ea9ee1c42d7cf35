use Rattle.re_terms.proofs.Acknowledging.{acknowledged_within, grows}
use Rattle.re_terms.proofs.world_laws.acknowledged_law.Goals as goal

pub returns : goal.returns
returns c = record { settled = grows; acknowledged = acknowledged_within }
