use Rattle.re_levels.proofs.Seeing.{seen-effect}
use Rattle.re_levels.proofs.laws.reached_law.Goals as goal

pub returns : goal.returns
returns c = λ p e touched old new s id program tells on. seen-effect p program e touched old new s tells id on
