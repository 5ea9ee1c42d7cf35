use Rattle.re_commands.specs.Commanding.{commanded}
use Rattle.re_session.proofs.Refusals.{fault_from, fault_is, none_from, none_is, memory_from, memory_is}
use Rattle.re_session.proofs.NeverMemory.{no_memory}
use Rattle.re_session.proofs.laws.refusal_law.Goals as goal

pub returns-clause-no_command : goal.returns-clause-no_command
returns-clause-no_command c = λ p w line o f n. (fault_from p w (commanded p line) o f n, fault_is p w (commanded p line) o f)

pub returns-clause-no_answer : goal.returns-clause-no_answer
returns-clause-no_answer c = λ p w line o. (none_from p w (commanded p line) o, none_is p w (commanded p line) o)

pub returns-clause-memory : goal.returns-clause-memory
returns-clause-memory c = λ p w line o. (memory_from p w (commanded p line) o (no_memory p line), memory_is p w (commanded p line) o)
