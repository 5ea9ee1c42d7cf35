use Rattle.re_record.proofs.Written.{record_written}
use Rattle.re_record.proofs.laws.record_law.Goals as goal

pub returns : goal.returns
returns c = record_written
