use Rattle.re_replica.proofs.Agreement.{merges_agree, merges_show, same_states}
use Rattle.re_replica.proofs.laws.agreement_law.Goals as goal

pub returns : goal.returns
returns c =
    record {
      agree = λ shape log vs ws causal closed_v closed_w alike. merges_agree shape log causal vs ws closed_v closed_w alike;
      values = λ shape log vs causal closed. merges_show shape log causal vs closed;
      same = λ shape log v w causal closed_v closed_w alike. same_states shape log v w alike;
    }
