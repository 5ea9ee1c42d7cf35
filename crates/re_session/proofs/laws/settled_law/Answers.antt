use Rattle.re_commands.specs.Commanding.{commanded}
use Rattle.re_session.proofs.Settlings.{deliver_line, line_keeps, number_line, restart_line, settle_line, turn_line}
use Rattle.re_session.proofs.laws.settled_law.Goals as goal

pub returns-clause-turn : goal.returns-clause-turn
returns-clause-turn c = λ p w line o device turn n is h. turn_line p w (commanded p line) o device turn n is h

pub returns-clause-deliver : goal.returns-clause-deliver
returns-clause-deliver c = λ p w line o device k n is h. deliver_line p w (commanded p line) o device k n is h

pub returns-clause-settle : goal.returns-clause-settle
returns-clause-settle c = λ p w line o device n is h. settle_line p w (commanded p line) o device n is h

pub returns-clause-restart : goal.returns-clause-restart
returns-clause-restart c = λ p w line o device n is h. restart_line p w (commanded p line) o device n is h

pub returns-clause-number : goal.returns-clause-number
returns-clause-number c = λ p w line o asked device answer n is mine h told. number_line p w (commanded p line) o asked device answer n is mine h told

pub returns-clause-others : goal.returns-clause-others
returns-clause-others c = λ p w line o device other. line_keeps p w device (commanded p line) o other
