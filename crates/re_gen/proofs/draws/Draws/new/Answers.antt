use Rattle.std.proofs.Common.{refl}
use Rattle.re_gen.specs.Draws.{state_at}
use Rattle.re_gen.proofs.draws.Draws.new.Goals as goal

pub returns : goal.returns
unfolding state_at
returns c = refl
