use Rattle.re_syntax.proofs.OneAnswer.{no_other_tree, no_other_refusal, not_both}
use Rattle.re_syntax.proofs.laws.syntax_law.Goals as goal

pub returns-clause-once : goal.returns-clause-once
returns-clause-once c = no_other_tree

pub returns-clause-one_place : goal.returns-clause-one_place
returns-clause-one_place c = no_other_refusal

pub returns-clause-no_tree : goal.returns-clause-no_tree
returns-clause-no_tree c = not_both
