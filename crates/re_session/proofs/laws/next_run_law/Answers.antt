use Rattle.re_session.proofs.GoingOn.{goes_on}
use Rattle.re_session.proofs.laws.next_run_law.Goals as goal

pub returns : goal.returns
returns c = λ p w under_way files restored s is_program told fresh start. goes_on p is_program w under_way files restored s told fresh start
