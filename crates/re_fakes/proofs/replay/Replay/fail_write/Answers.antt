use Rattle.std.proofs.Common.{◌∙◌, ap, ℕ}
use Rattle.re_outside.specs.Listed.{Listed}
use Rattle.re_fakes.proofs.Follow.{follow_fail_write}
use Rattle.re_fakes.proofs.replay.Replay.fail_write.Goals as goal

pub returns-clause-ok : goal.returns-clause-ok
returns-clause-ok c =
    follow_fail_write c.args.self.now.fill c.args.device c.args.file c.args.at c.in_ok-at.at c.len-2.result c.len-3.result c.args.bytes.now.items c.args.content.now.items _ _ _ _ _ _ c.requires c.mark.ensures.now (c.in_ok-at.ensures.0)
    (ap (λ (l : Listed ℕ). l.items) (c.in_ok-bytes.ensures) ∙ c.as_slice.ensures) c.len-2.ensures c.len-3.ensures (c.in_ok-put.ensures.ok) (c.in_ok-mark.ensures.ok)
