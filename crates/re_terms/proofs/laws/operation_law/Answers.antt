use Rattle.std.proofs.Common.{sym}
use Rattle.re_terms.proofs.Operations.{causal_push, state_taken, next_update_is_next}
use Rattle.re_terms.specs.Updates.{next_update}
use Rattle.re_terms.proofs.laws.operation_law.Goals as goal

pub returns : goal.returns
returns c = record { state = λ shape log v device op causal closed small. sym (state_taken log v device op causal closed small shape); next = next_update_is_next; causal = λ log v device op causal closed small places own. causal_push log (next_update log v device op) causal (next_update_is_next log v device op closed small places own) }
