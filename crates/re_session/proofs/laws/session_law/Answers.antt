use Rattle.re_session.proofs.Acting.{acts_world}
use Rattle.re_session.proofs.laws.session_law.Goals as goal

pub returns-clause-says : goal.returns-clause-says
returns-clause-says c = λ p lines before after old new w told acts is. (acts_world p lines before after old new w told acts is).0

pub returns-clause-world : goal.returns-clause-world
returns-clause-world c = λ p lines before after old new w told acts is. (acts_world p lines before after old new w told acts is).1
