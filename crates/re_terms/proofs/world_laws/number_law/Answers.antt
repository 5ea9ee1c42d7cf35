use Rattle.re_terms.proofs.WorldEffects.{entered_number, applied_number, settled_is, up_is}
use Rattle.re_terms.proofs.world_laws.number_law.Goals as goal

pub returns : goal.returns
returns c = record { entered = entered_number; applied = applied_number; settled = settled_is; up = up_is }
