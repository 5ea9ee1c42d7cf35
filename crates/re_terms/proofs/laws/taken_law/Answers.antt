use Rattle.re_terms.proofs.TakenIns.{taken_devices, taken_fault, taken_made, taken_start, taken_state}
use Rattle.re_terms.proofs.laws.taken_law.Goals as goal

pub returns : goal.returns
returns c = record { start = taken_start; made = taken_made; state = taken_state; fault = taken_fault; devices = taken_devices }
