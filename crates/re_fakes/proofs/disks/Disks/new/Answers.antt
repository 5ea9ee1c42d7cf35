use Rattle.std.proofs.Common.{ap}
use Rattle.re_fakes.proofs.Made.{past_start}
use Rattle.re_fakes.proofs.disks.Disks.new.Goals as goal

pub invariant_of-result : goal.invariant_of-result
invariant_of-result c = record { past = past_start c.args.start c.in_ok-files.files c.new.result.items (c.in_ok-files.ensures) (ap (λ l. l.items) c.new.ensures) }
