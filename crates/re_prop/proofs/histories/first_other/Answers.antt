use Rattle.re_terms.proofs.Ordered.{program-ordered, program-regions}
use Rattle.re_prop.proofs.histories.first_other.Goals as goal

pub build-requires-clause-ordered : goal.build-requires-clause-ordered
build-requires-clause-ordered g c = program-ordered c.in_ok-p.p c.in_ok-p.ensures

pub build-requires-clause-regions : goal.build-requires-clause-regions
build-requires-clause-regions g c = program-regions c.in_ok-p.p c.in_ok-p.ensures
