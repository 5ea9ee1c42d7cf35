use Rattle.std.proofs.Common.{arith}
use Rattle.re_terms.proofs.Arrays.{greater_is}
use Rattle.re_terms.proofs.vectors.join_vectors.Goals as goal

pub returns : goal.returns
returns c =
    greater_is c.loop-i.counts c.args.a.now.counts c.args.b.now.counts (omega arith) (omega arith) (λ k lt. c.loop-i.invariant.done k (omega arith))
