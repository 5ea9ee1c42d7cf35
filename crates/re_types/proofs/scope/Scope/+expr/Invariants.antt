use Rattle.std.proofs.Common.{◌+◌, ◌*◌}
use Rattle.re_terms.specs.Trees.{raw_depth}
use Rattle.re_types.proofs.scope.Scope.+expr.Given as goal

abbrev pub decreases-expr : goal.decreases-expr
decreases-expr l = 2 * raw_depth l.raw.now

abbrev pub decreases-boxed : goal.decreases-boxed
decreases-boxed l = 2 * raw_depth l.raw.now + 1
