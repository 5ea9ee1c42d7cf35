use Rattle.std.proofs.Common.{refl}
use Rattle.re_outside.specs.FileAct.{CutTo}
use Rattle.re_fakes.proofs.Follow.{follow_act}
use Rattle.re_fakes.proofs.replay.Replay.cut.Goals as goal

pub returns-clause-ok : goal.returns-clause-ok
returns-clause-ok c = follow_act c.args.self.now.fill c.args.device c.args.file (CutTo c.args.length) _ _ _ _ c.requires c.cut.ensures refl (λ other apart. refl)
