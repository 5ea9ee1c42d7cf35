use Rattle.re_terms.proofs.WorldEffects.{turn_fails, merge_fails, settling_fails, restart_fails}
use Rattle.re_terms.proofs.world_laws.failure_law.Goals as goal

pub returns : goal.returns
returns c = record { turn = turn_fails; merge = merge_fails; settle = settling_fails; restart = restart_fails }
