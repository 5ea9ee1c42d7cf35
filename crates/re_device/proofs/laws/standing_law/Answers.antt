use Rattle.re_device.proofs.Settling.{stands_only}
use Rattle.re_device.proofs.laws.standing_law.Goals as goal

pub returns : goal.returns
returns c = stands_only
