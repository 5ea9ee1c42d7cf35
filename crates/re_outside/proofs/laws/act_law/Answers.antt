use Rattle.re_outside.proofs.Images.{wrote, write_failed, cut_done, cut_failed, sync_failed}
use Rattle.re_outside.proofs.laws.act_law.Goals as goal

pub returns-clause-write : goal.returns-clause-write
returns-clause-write c = λ now bytes was file at. wrote now at bytes was file

pub returns-clause-failed_write : goal.returns-clause-failed_write
returns-clause-failed_write c = λ now bytes left was file at. write_failed now at bytes left was file

pub returns-clause-cut : goal.returns-clause-cut
returns-clause-cut c = λ now was file n. cut_done now n was file

pub returns-clause-failed_cut : goal.returns-clause-failed_cut
returns-clause-failed_cut c = λ now left was file n. cut_failed now n left was file

pub returns-clause-failed_sync : goal.returns-clause-failed_sync
returns-clause-failed_sync c = sync_failed
