use Rattle.std.proofs.Common.{◌∙◌, ap, ℕ}
use Rattle.re_outside.specs.Listed.{Listed}
use Rattle.re_fakes.proofs.Follow.{follow_fail_cut}
use Rattle.re_fakes.proofs.replay.Replay.fail_cut.Goals as goal

pub returns-clause-ok : goal.returns-clause-ok
returns-clause-ok c =
    follow_fail_cut c.args.self.now.fill c.args.device c.args.file c.args.length c.len.result c.args.content.now.items _ _ _ _ _ _ c.requires c.mark.ensures.now
    (ap (λ (l : Listed ℕ). l.items) (c.in_ok-bytes.ensures) ∙ c.as_slice.ensures) c.len.ensures (c.in_ok-put.ensures.ok) (c.in_ok-mark.ensures.ok)
