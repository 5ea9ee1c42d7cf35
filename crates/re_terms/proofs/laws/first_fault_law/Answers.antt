use Rattle.re_terms.proofs.FirstFaults.{first_from, first_is}
use Rattle.re_terms.proofs.laws.first_fault_law.Goals as goal

pub returns : goal.returns
returns c = λ shape device ops us f. (first_from shape device ops us f, first_is shape device ops us f)
