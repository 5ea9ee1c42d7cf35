use Rattle.re_outside.proofs.Does.{says_alone}
use Rattle.re_outside.proofs.laws.output_law.Goals as goal

pub returns : goal.returns
returns c = record { says = says_alone }
