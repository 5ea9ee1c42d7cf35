use Rattle.std.proofs.Common.{◌∙◌, ap, ℕ}
use Rattle.re_outside.specs.Listed.{Listed}
use Rattle.re_fakes.proofs.Follow.{follow_sync}
use Rattle.re_fakes.proofs.replay.Replay.sync.Goals as goal

pub returns-clause-ok : goal.returns-clause-ok
returns-clause-ok c = follow_sync c.args.self.now.fill c.args.device c.args.file _ _ _ _ c.requires (ap (λ (l : Listed ℕ). l.items) (c.in_ok-bytes.ensures) ∙ c.bytes.ensures) (c.in_ok-put.ensures.ok)
