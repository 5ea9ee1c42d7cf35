use Rattle.re_outside.proofs.Elsewhere.{kept_on, joint_kept, device_moves, quiet, kept_by_outputs, kept_by_size, kept_by_fetch}
use Rattle.re_outside.proofs.Steps.{kept}
use Rattle.re_outside.proofs.laws.elsewhere_law.Goals as goal

pub returns-clause-file : goal.returns-clause-file
returns-clause-file c = λ old now f d g. kept f d g old now

pub returns-clause-device : goal.returns-clause-device
returns-clause-device c = λ old now d g. kept_on d g old now

pub returns-clause-joint : goal.returns-clause-joint
returns-clause-joint c = joint_kept

pub returns-clause-both : goal.returns-clause-both
returns-clause-both c = λ old now f. device_moves f old now

pub returns-clause-quiet : goal.returns-clause-quiet
returns-clause-quiet c = quiet

pub returns-clause-outputs : goal.returns-clause-outputs
returns-clause-outputs c = λ old more d f. kept_by_outputs d f old more

pub returns-clause-failed_size : goal.returns-clause-failed_size
returns-clause-failed_size c = λ old d f device file at bytes content. kept_by_size d f device file at bytes content old

pub returns-clause-failed_fetch : goal.returns-clause-failed_fetch
returns-clause-failed_fetch c = λ old d f device file at bytes content. kept_by_fetch d f device file at bytes content old
