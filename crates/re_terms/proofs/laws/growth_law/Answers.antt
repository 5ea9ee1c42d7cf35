use Rattle.re_terms.proofs.Joint.{closed_grown, covered_grown}
use Rattle.re_terms.proofs.Operations.{causal_push, closed_push, covered_push, state_push}
use Rattle.re_terms.proofs.laws.growth_law.Goals as goal

pub returns : goal.returns
returns c =
    record {
      causal = causal_push;
      new_closed = closed_push;
      new_covered = covered_push;
      new_state = λ shape log u causal next. state_push log u causal next shape;
      closed = closed_grown;
      covered = covered_grown;
    }
