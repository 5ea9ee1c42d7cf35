use Rattle.std.proofs.Common.{[], ap, subst, sym}
use Rattle.std.specs.List.Sorted.{IsStrictlySortedBy}
use Rattle.re_terms.specs.WordOrder.{pair_cmp}
use Rattle.re_print.proofs.tests.set.Goals as goal

none : IsStrictlySortedBy pair_cmp []
unfolding IsStrictlySortedBy
none = tt

pub returns-in-0 : goal.returns-in-0
returns-in-0 c = subst (IsStrictlySortedBy pair_cmp) (sym (ap (λ l. l.items) c.new.ensures)) none
