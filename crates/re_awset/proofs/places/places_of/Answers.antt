use Rattle.std.proofs.Common.{arith, rules, sym}
use Rattle.std.proofs.lemmas.Fn.{always_returns_same}
use Rattle.re_awset.proofs.Fronts.{count-point, falls_partitioned}
use Rattle.re_awset.proofs.Splits.{below-le-up_to, below_falls, up_to_falls}
use Rattle.re_awset.specs.Places.{is_below, is_up_to}
use Rattle.re_awset.proofs.places.places_of.Goals as goal

pub returns-clause-from : goal.returns-clause-from
returns-clause-from c =
    let p = is_below c.args.element in
    let point = c.partition_point-from.ensures.partitioned p (always_returns_same _ _ _ (λ a r f k. search rules)) (falls_partitioned p _ (below_falls c.args.element _ c.requires)) in
    sym (count-point p _ _ c.partition_point-from.ensures.bound point.0 point.1)

pub returns-clause-to : goal.returns-clause-to
returns-clause-to c =
    let p = is_up_to c.args.element in
    let point = c.partition_point-to.ensures.partitioned p (always_returns_same _ _ _ (λ a r f k. search rules)) (falls_partitioned p _ (up_to_falls c.args.element _ c.requires)) in
    sym (count-point p _ _ c.partition_point-to.ensures.bound point.0 point.1)

pub returns-clause-order : goal.returns-clause-order
returns-clause-order c = omega (arith, returns-clause-from c, returns-clause-to c, below-le-up_to c.args.element c.args.pairs.now)
