use Rattle.std.proofs.Common.{arith}
use Rattle.re_terms.proofs.WordMeanings.{meaning_kept}
use Rattle.re_terms.proofs.kind_laws.meaning_kind_law.Goals as goal

pub returns : goal.returns
returns c = λ symbols sorts place env e k. meaning_kept symbols symbols sorts place env e k (omega arith)
