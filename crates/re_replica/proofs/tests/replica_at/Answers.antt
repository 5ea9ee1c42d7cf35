use Rattle.std.proofs.Common.{sym, subst}
use Rattle.re_terms.specs.Shapes.{FitsShape}
use Rattle.re_replica.specs.Sample.{sample, sample_state}
use Rattle.re_replica.proofs.Samples.{sample_fits}
use Rattle.re_replica.proofs.tests.replica_at.Goals as goal

pub new-requires-clause-fits : goal.new-requires-clause-fits
new-requires-clause-fits c =
    let own = subst (FitsShape sample) (sym c.in_ok-state.ensures) (sample_fits c.args.count c.args.stamp c.requires.count c.requires.stamp) in
    subst (λ s. FitsShape s c.in_ok-state.state) (sym c.in_ok-shape.ensures) own
