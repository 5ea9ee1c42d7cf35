use Rattle.re_session.proofs.Blank.{begins_blank}
use Rattle.re_session.proofs.laws.blank_law.Goals as goal

pub returns : goal.returns
returns c = λ p s is_program told fresh blank. begins_blank p is_program s told fresh blank
