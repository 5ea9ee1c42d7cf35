use Rattle.re_terms.proofs.Members.{state_none, state_same}
use Rattle.re_terms.proofs.Unions.{union_join, union_same}
use Rattle.re_terms.proofs.MemberValues.{values_same}
use Rattle.re_terms.proofs.laws.members_law.Goals as goal

pub returns : goal.returns
returns c = record { none = state_none; same = state_same; values = values_same; union = λ log us vs v w causal closed first second. union_same log us vs v w causal closed first second; joined = union_join }
