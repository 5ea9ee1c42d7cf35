use Rattle.re_terms.proofs.Dots.{one_dot, each_once, vector_back}
use Rattle.re_terms.proofs.laws.dots_law.Goals as goal

pub returns : goal.returns
returns c = record { one = one_dot; each = each_once; vector = vector_back }
