use Rattle.re_terms.proofs.MergeLimits.{merge_fault-is}
use Rattle.re_terms.proofs.world_laws.merge_limit_law.Goals as goal

pub returns : goal.returns
returns c = merge_fault-is
