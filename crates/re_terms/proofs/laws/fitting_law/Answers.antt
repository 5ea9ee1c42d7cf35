use Rattle.re_terms.proofs.FittingStates.{join_fits, operation_fits}
use Rattle.re_terms.proofs.laws.fitting_law.Goals as goal

pub returns : goal.returns
returns c = record { joined = join_fits; operated = operation_fits }
