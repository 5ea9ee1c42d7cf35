-- The values depend on which updates there are, and not on their order.
use Rattle.std.proofs.Common.{◌≡◌, List, sym, ap, ◌∙◌}
use Rattle.re_terms.specs.UpdateSets.{SameUpdates}
use Rattle.re_terms.specs.Updates.{Update, IsIn, IsCausalLog}
use Rattle.re_terms.specs.Values.{view_of_updates}
use Rattle.re_terms.specs.Views.{view_of}
use Rattle.re_terms.specs.declared.replicated.Shape.{Shape}
use Rattle.re_terms.proofs.Logs.{numbered_of}
use Rattle.re_terms.proofs.Members.{state_same}
use Rattle.re_terms.proofs.Values.{view_is}

pub values_same : (shape : Shape) (log us vs : List Update) → IsCausalLog log → SameUpdates us vs → ((u : Update) → IsIn u vs → IsIn u log) → view_of_updates shape us ≡ view_of_updates shape vs
values_same shape log us vs causal same within =
    let numbered = numbered_of log causal in
    sym (view_is shape us (λ u h. numbered.device u (within u (same.to u h))))
    ∙ ap view_of (state_same shape log us vs causal same within)
    ∙ view_is shape vs (λ u h. numbered.device u (within u h))
