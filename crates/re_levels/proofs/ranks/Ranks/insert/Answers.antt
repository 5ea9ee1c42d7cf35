use Rattle.std.proofs.Common.{arith}
use Rattle.re_levels.proofs.RankBits.{has_bit-put}
use Rattle.re_levels.proofs.ranks.Ranks.insert.Goals as goal

pub returns : goal.returns
returns c = has_bit-put c.args.self.now.bits c.args.rank (omega arith)
