use Rattle.re_commands.specs.Commanding.{commanded}
use Rattle.re_session.proofs.CommandCodes.{bad_line, down_line, failed_line, never_line, other_line, packet_line, packets_line, stopped_line, unsettled_line, up_line}
use Rattle.re_session.proofs.laws.code_law.Goals as goal

pub returns-clause-packet : goal.returns-clause-packet
returns-clause-packet c = λ p w line o. packet_line p w (commanded p line) o

pub returns-clause-down : goal.returns-clause-down
returns-clause-down c = λ p w line o. down_line p w (commanded p line) o

pub returns-clause-up : goal.returns-clause-up
returns-clause-up c = λ p w line o. up_line p w (commanded p line) o

pub returns-clause-stopped : goal.returns-clause-stopped
returns-clause-stopped c = λ p w line o call. stopped_line p w (commanded p line) o call

pub returns-clause-never_stopped : goal.returns-clause-never_stopped
returns-clause-never_stopped c = λ p w line o asked call is none. never_line p w (commanded p line) o asked call is none

pub returns-clause-packets : goal.returns-clause-packets
returns-clause-packets c = λ p w line o. packets_line p w (commanded p line) o

pub returns-clause-unsettled : goal.returns-clause-unsettled
returns-clause-unsettled c = λ p w line o. unsettled_line p w (commanded p line) o

pub returns-clause-failed : goal.returns-clause-failed
returns-clause-failed c = λ p w line o. failed_line p w (commanded p line) o

pub returns-clause-bad : goal.returns-clause-bad
returns-clause-bad c = λ p w line o file place. bad_line p w (commanded p line) o file place

pub returns-clause-other : goal.returns-clause-other
returns-clause-other c = λ p w line o. other_line p w (commanded p line) o
