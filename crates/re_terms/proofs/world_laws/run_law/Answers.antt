use Rattle.re_terms.proofs.WorldEffects.{settled-taken, device-taken}
use Rattle.re_terms.proofs.world_laws.run_law.Goals as goal

pub returns : goal.returns
returns c = record { settled = settled-taken; all = device-taken }
