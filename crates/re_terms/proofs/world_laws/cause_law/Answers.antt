use Rattle.re_terms.proofs.WorldSteps.{caused_33, caused_36, caused_37, caused_39}
use Rattle.re_terms.proofs.world_laws.cause_law.Goals as goal

pub returns : goal.returns
returns c = record { memory = caused_36; failed = caused_33; bad = caused_37; other = caused_39 }
