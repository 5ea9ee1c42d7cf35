use Rattle.re_terms.proofs.Joint.{joint_causal, joint_closed, joint_covered}
use Rattle.re_terms.proofs.laws.joint_law.Goals as goal

pub returns : goal.returns
returns c = record { causal = joint_causal; closed = joint_closed; covered = joint_covered }
