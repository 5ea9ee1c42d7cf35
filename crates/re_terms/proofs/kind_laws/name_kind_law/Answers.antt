use Rattle.re_terms.proofs.KindsKept.{signal_kept}
use Rattle.re_terms.proofs.StatesKept.{updates_kept}
use Rattle.re_terms.proofs.ViewsKept.{starts_kept, view_kept}
use Rattle.re_terms.proofs.kind_laws.name_kind_law.Goals as goal

pub returns : goal.returns
returns c = record { start = starts_kept; view = view_kept; updates = updates_kept; names = λ p words view id k program are shown. signal_kept p program words view are shown id k }
