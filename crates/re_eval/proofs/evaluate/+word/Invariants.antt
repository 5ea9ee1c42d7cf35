-- An operator's operands and the branches of an `if` are smaller than the expression that they stand in.
use Rattle.std.proofs.Common.{◌+◌, ◌*◌, max}
use Rattle.re_terms.proofs.expr.Expr.TheLaws.{the_size}
use Rattle.re_eval.proofs.evaluate.+word.Given as goal

abbrev pub decreases-word_of : goal.decreases-word_of
decreases-word_of g l = 2 * the_size l.e.now

abbrev pub decreases-operator_word_of : goal.decreases-operator_word_of
decreases-operator_word_of g l = 2 * max (the_size l.left.now) (the_size l.right.now) + 1

abbrev pub decreases-branch_word_of : goal.decreases-branch_word_of
decreases-branch_word_of g l = 2 * max (the_size l.cond.now) (max (the_size l.yes.now) (the_size l.no.now)) + 1
