use Rattle.std.proofs.Common.{rules, ◌≡◌, Some, ap, ◌∙◌, sym, arith}
use Rattle.std.specs.Prelude.{slice_get}
use Rattle.re_terms.specs.Views.{cell_size}
use Rattle.re_terms.specs.declared.replicated.RCell.TheVariants.{Set}
use Rattle.re_replica.specs.Replica.{ReplicaState}
use Rattle.re_replica.proofs.Acts.{pairs_within}
use Rattle.re_replica.proofs.ReplicaOf.{size_shown}
use Rattle.re_replica.proofs.Shaped.{ordered_at}
use Rattle.re_replica.proofs.replica.Replica.size.Goals as goal

pub size-requires : goal.size-requires
size-requires c =
    let r = c.self.inside.state in
    let at : slice_get r.cells.items c.from.result ≡ Some (Set c.in-Some-Set.pairs) = sym c.in-Some-Set.ensures ∙ ap Some c.in-Some-Set.field-0-is in
    (ordered_at c.self.inside.shape r c.self.invariant.limits.devices c.self.invariant.fits c.from.result (Set c.in-Some-Set.pairs) at).0

pub returns-in-Some-Set-clause-view : goal.returns-in-Some-Set-clause-view
returns-in-Some-Set-clause-view c =
    let r = c.self.inside.state in
    let at : slice_get r.cells.items c.from.result ≡ Some (Set c.in-Some-Set.pairs) = sym c.in-Some-Set.ensures ∙ ap Some c.in-Some-Set.field-0-is in
    let within = pairs_within c.from.result r.cells.items (Set c.in-Some-Set.pairs) at in
    let few = c.self.invariant.fits.pairs in
    c.size.ensures.few (omega arith)
    ∙ ap cell_size (sym at)
    ∙ ap (λ p. cell_size (slice_get r.cells.items p)) c.from.ensures
    ∙ ap (λ (v : ReplicaState). cell_size (slice_get v.state.cells.items c.args.cell)) c.self.view_is

pub returns-in-Some-Set-clause-value : goal.returns-in-Some-Set-clause-value
returns-in-Some-Set-clause-value c = λ us small is. returns-in-Some-Set-clause-view c ∙ size_shown c.args.self.now us small is c.args.cell

pub returns-in_default-clause-value : goal.returns-in_default-clause-value
returns-in_default-clause-value c = λ us small is. (search rules) ∙ size_shown c.args.self.now us small is c.args.cell

pub returns-in_default-2-clause-value : goal.returns-in_default-2-clause-value
returns-in_default-2-clause-value c = λ us small is. (search rules) ∙ size_shown c.args.self.now us small is c.args.cell
