use Rattle.re_terms.proofs.Growing.{joint_count, joint_count_none}
use Rattle.re_terms.proofs.world_laws.joint_count_law.Goals as goal

pub returns : goal.returns
returns c = record { some = joint_count; none = joint_count_none }
