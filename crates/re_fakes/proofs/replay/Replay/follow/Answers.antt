use Rattle.std.proofs.Common.{◌<◌, subst}
use Rattle.re_fakes.proofs.Follow.{follow_nothing, no_act_beyond}
use Rattle.re_fakes.proofs.replay.Replay.follow.Goals as goal

pub returns-then-file_of-gt1-clause-ok : goal.returns-then-file_of-gt1-clause-ok
returns-then-file_of-gt1-clause-ok c = follow_nothing c.args.self.now.fill c.args.step.now _ _ (no_act_beyond c.args.step.now (subst (λ n. 1 < n) c.file_of.ensures c.if-file_of-gt1.true))
