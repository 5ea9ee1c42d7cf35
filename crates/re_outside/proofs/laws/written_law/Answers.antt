use Rattle.re_outside.proofs.Written.{long, inside, gap_filled, around, all_left}
use Rattle.re_outside.proofs.laws.written_law.Goals as goal

pub returns-clause-length : goal.returns-clause-length
returns-clause-length c = long

pub returns-clause-bytes : goal.returns-clause-bytes
returns-clause-bytes c = inside

pub returns-clause-gap : goal.returns-clause-gap
returns-clause-gap c = gap_filled

pub returns-clause-others : goal.returns-clause-others
returns-clause-others c = around

pub returns-clause-cut : goal.returns-clause-cut
returns-clause-cut c = all_left
