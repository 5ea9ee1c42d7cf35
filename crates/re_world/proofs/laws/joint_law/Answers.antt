use Rattle.re_world.proofs.Held.{restores}
use Rattle.re_world.proofs.laws.joint_law.Goals as goal

pub returns : goal.returns
returns c = restores
