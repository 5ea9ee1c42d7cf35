use Rattle.re_levels.proofs.Unreached.{unreached-as_before}
use Rattle.re_levels.proofs.laws.unreached_law.Goals as goal

pub returns-clause-word : goal.returns-clause-word
returns-clause-word c = λ p s touched id program holds off. (unreached-as_before p program s touched holds id off).word

pub returns-clause-still : goal.returns-clause-still
returns-clause-still c = λ p s touched id program holds off. (unreached-as_before p program s touched holds id off).still
