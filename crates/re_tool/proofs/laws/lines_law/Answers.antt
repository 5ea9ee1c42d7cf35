use Rattle.re_tool.proofs.Splits.{split_whole, split_are_plain, divided_first, divided_nowhere}
use Rattle.re_tool.proofs.laws.lines_law.Goals as goal

pub returns-clause-whole : goal.returns-clause-whole
returns-clause-whole c = split_whole

pub returns-clause-plain : goal.returns-clause-plain
returns-clause-plain c = split_are_plain

pub returns-clause-separator : goal.returns-clause-separator
returns-clause-separator c = divided_first

pub returns-clause-no_separator : goal.returns-clause-no_separator
returns-clause-no_separator c = divided_nowhere
