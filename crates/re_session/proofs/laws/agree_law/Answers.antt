use Rattle.re_commands.specs.Commanding.{commanded}
use Rattle.re_session.proofs.Agreements.{cells_agree, signals_agree}
use Rattle.re_session.proofs.laws.agree_law.Goals as goal

pub returns-clause-cell : goal.returns-clause-cell
returns-clause-cell c = λ p w line other a b id causal have get got kept. cells_agree p w a b causal have id (commanded p line) (commanded p other) get got kept

pub returns-clause-signal : goal.returns-clause-signal
returns-clause-signal c = λ p w line other a b id d kind expr is causal have get got at of each. signals_agree p w a b causal have id (commanded p line) (commanded p other) is get got each
