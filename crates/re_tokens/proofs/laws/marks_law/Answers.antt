use Rattle.re_tokens.proofs.WholeLists.{list, no_list, tokens, place}
use Rattle.re_tokens.proofs.laws.marks_law.Goals as goal

pub returns-clause-list : goal.returns-clause-list
returns-clause-list c = list

pub returns-clause-no_list : goal.returns-clause-no_list
returns-clause-no_list c = no_list

pub returns-clause-tokens : goal.returns-clause-tokens
returns-clause-tokens c = tokens

pub returns-clause-place : goal.returns-clause-place
returns-clause-place c = place
