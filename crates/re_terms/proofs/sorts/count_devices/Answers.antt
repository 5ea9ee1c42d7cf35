use Rattle.std.proofs.Common.{rules}
use Rattle.re_terms.proofs.sorts.count_devices.Goals as goal

-- src/sorts.rt:42:1
pub returns : goal.returns
returns c = search rules
