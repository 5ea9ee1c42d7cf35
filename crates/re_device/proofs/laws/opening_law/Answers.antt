use Rattle.re_device.proofs.Opening.{opened_device}
use Rattle.re_device.proofs.laws.opening_law.Goals as goal

pub returns : goal.returns
returns c = opened_device
