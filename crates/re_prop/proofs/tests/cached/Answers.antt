use Rattle.std.proofs.Common.{length, ap, arith}
use Rattle.re_prop.proofs.Putting.{length-put_at}
use Rattle.re_prop.proofs.tests.cached.Goals as goal

pub word-requires : goal.word-requires
word-requires c = omega (arith, ap length c.put.ensures, length-put_at (λ id. id) c.args.c.now c.args.puts.now.items, c.if-id-count.false, c.requires)
