use Rattle.re_tokens.proofs.Sameness.{one_list, one_place, never_both}
use Rattle.re_tokens.proofs.laws.tokens_law.Goals as goal

pub returns-clause-one_list : goal.returns-clause-one_list
returns-clause-one_list c = one_list

pub returns-clause-one_place : goal.returns-clause-one_place
returns-clause-one_place c = one_place

pub returns-clause-never_both : goal.returns-clause-never_both
returns-clause-never_both c = never_both
