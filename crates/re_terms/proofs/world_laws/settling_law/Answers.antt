use Rattle.re_terms.proofs.WorldEffects.{turn_settles, merge_settles, settling_settles, restart_settles, lazy_keeps, lazy_adds}
use Rattle.re_terms.proofs.world_laws.settling_law.Goals as goal

pub returns : goal.returns
returns c = record { turn = turn_settles; merge = merge_settles; settle = settling_settles; restart = restart_settles; lazy_settled = lazy_keeps; lazy_unsettled = lazy_adds }
