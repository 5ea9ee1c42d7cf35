use Rattle.re_prop.proofs.Consequences.{kept_fold, still_folds}
use Rattle.re_prop.proofs.laws.keep_law.Goals as goal

pub returns-clause-kept : goal.returns-clause-kept
returns-clause-kept c = kept_fold

pub returns-clause-still : goal.returns-clause-still
returns-clause-still c = still_folds
