use Rattle.re_fakes.proofs.Follow.{follow_write}
use Rattle.re_fakes.proofs.replay.Replay.write.Goals as goal

pub returns-clause-ok : goal.returns-clause-ok
returns-clause-ok c =
    follow_write c.args.self.now.fill c.args.device c.args.file c.args.at c.in_ok-at.at c.len-2.result c.args.bytes.now.items _ _ _ _ _ _ c.requires c.mark.ensures.now (c.in_ok-at.ensures.0) c.as_slice.ensures c.len-2.ensures (c.in_ok-write.ensures.ok) (c.in_ok-mark.ensures.ok)
