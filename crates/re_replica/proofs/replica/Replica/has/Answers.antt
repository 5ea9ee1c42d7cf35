use Rattle.std.proofs.Common.{rules, ◌≡◌, Some, ap, ◌∙◌, sym}
use Rattle.std.specs.Prelude.{slice_get}
use Rattle.re_terms.specs.declared.replicated.RCell.TheVariants.{Set}
use Rattle.re_replica.proofs.ReplicaOf.{has_shown}
use Rattle.re_replica.proofs.Shaped.{ordered_at}
use Rattle.re_replica.proofs.replica.Replica.has.Goals as goal

pub has-requires : goal.has-requires
has-requires c =
    let r = c.self.inside.state in
    let at : slice_get r.cells.items c.from.result ≡ Some (Set c.in-Some-Set.pairs) = sym c.in-Some-Set.ensures ∙ ap Some c.in-Some-Set.field-0-is in
    (ordered_at c.self.inside.shape r c.self.invariant.limits.devices c.self.invariant.fits c.from.result (Set c.in-Some-Set.pairs) at).0

pub returns-in-Some-Set-clause-value : goal.returns-in-Some-Set-clause-value
returns-in-Some-Set-clause-value c = λ us small is. (search rules) ∙ has_shown c.args.self.now us small is c.args.cell c.args.word

pub returns-in_default-clause-value : goal.returns-in_default-clause-value
returns-in_default-clause-value c = λ us small is. (search rules) ∙ has_shown c.args.self.now us small is c.args.cell c.args.word

pub returns-in_default-2-clause-value : goal.returns-in_default-2-clause-value
returns-in_default-2-clause-value c = λ us small is. (search rules) ∙ has_shown c.args.self.now us small is c.args.cell c.args.word
