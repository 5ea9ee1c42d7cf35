use Rattle.std.proofs.Common.{arith}
use Rattle.re_terms.proofs.Arrays.{greater_is}
use Rattle.re_scalars.proofs.row.raise_all.Goals as goal

pub returns-clause-joined : goal.returns-clause-joined
returns-clause-joined c = greater_is c.loop-i.a c.args.a.now c.args.b.now (omega arith) (omega arith) (λ k lt. c.loop-i.invariant.done k (omega arith))
