use Rattle.std.proofs.Common.{◌+◌, ◌*◌}
use Rattle.re_types.proofs.tests.+expr.Given as goal

abbrev pub decreases-expr : goal.decreases-expr
decreases-expr l = 2 * l.depth + 1

abbrev pub decreases-operand : goal.decreases-operand
decreases-operand l = 2 * l.depth
