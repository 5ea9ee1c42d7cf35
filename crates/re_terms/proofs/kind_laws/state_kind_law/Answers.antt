use Rattle.re_terms.proofs.StatesKept.{after_is, start_is, step_is}
use Rattle.re_terms.proofs.kind_laws.state_kind_law.Goals as goal

pub returns : goal.returns
returns c = record { start = start_is; step = step_is; after = after_is }
