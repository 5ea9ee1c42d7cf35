use Rattle.std.proofs.Common.{◌+◌, ◌-◌, ◌*◌, ◌<◌, ◌≤◌, length}
use Rattle.re_terms.specs.declared.raw_expr.RawExpr.{RawExpr}
use Rattle.re_syntax.specs.Grammar.{Level, Further}
use Rattle.re_syntax.specs.Steps.{Stands, APhrase, joins}
use Rattle.re_syntax.proofs.Tokens.{Stage}
use Rattle.re_syntax.proofs.expression.+expressions.Given as goal

abbrev pub decreases-inner : goal.decreases-inner
decreases-inner l = (129 - l.opened) * 16

abbrev pub decreases-expression : goal.decreases-expression
decreases-expression l = (129 - l.opened) * 16 + 15

abbrev pub decreases-condition : goal.decreases-condition
decreases-condition l = (129 - l.opened) * 16 + 14

abbrev pub decreases-operands : goal.decreases-operands
decreases-operands l = (129 - l.opened) * 16 + (13 - (l.level + l.level))

abbrev pub decreases-comparison : goal.decreases-comparison
decreases-comparison l = (129 - l.opened) * 16 + 8

abbrev pub decreases-chain : goal.decreases-chain
decreases-chain l = (129 - l.opened) * 16 + (12 - (l.level + l.level))

abbrev pub decreases-primary : goal.decreases-primary
decreases-primary l = (129 - l.opened) * 16 + 2

abbrev pub decreases-brackets : goal.decreases-brackets
decreases-brackets l = (129 - l.opened) * 16 + 1

abbrev pub decreases-read_negation : goal.decreases-read_negation
decreases-read_negation l = (129 - l.opened) * 16 + 1

abbrev pub decreases-read_recovery : goal.decreases-read_recovery
decreases-read_recovery l = (129 - l.opened) * 16 + 1

abbrev pub decreases-read_membership : goal.decreases-read_membership
decreases-read_membership l = (129 - l.opened) * 16 + 1

abbrev pub invariant-chain-operators : goal.invariant-chain-operators
invariant-chain-operators l = record {
  inside : l.at < length l.tokens;
  before : l.i ≤ l.at;
  read : (e : RawExpr) × (Stands l.left e × Stage (APhrase (Level l.level) l.opened) (joins l.level) l.tokens 1 l.i l.at (APhrase (Further l.level e) l.opened));
}

abbrev pub decreases-chain-operators : goal.decreases-chain-operators
decreases-chain-operators l = length l.tokens - l.at
