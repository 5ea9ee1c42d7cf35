use Rattle.re_terms.proofs.Values.{elements_are, view_is}
use Rattle.re_terms.proofs.laws.view_law.Goals as goal

pub returns : goal.returns
returns c = record { elements = elements_are; view = view_is }
