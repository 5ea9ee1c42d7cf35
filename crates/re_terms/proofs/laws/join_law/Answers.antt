use Rattle.re_terms.proofs.Logs.{closed_join}
use Rattle.re_terms.proofs.Joins.{state_join}
use Rattle.re_terms.proofs.laws.join_law.Goals as goal

pub returns : goal.returns
returns c = record { closed = closed_join; joined = state_join }
