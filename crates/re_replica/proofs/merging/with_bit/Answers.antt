use Rattle.std.proofs.Common.{◌+◌, ap, ◌∙◌, sym}
use Rattle.re_replica.specs.Changed.{has_bit}
use Rattle.re_replica.proofs.Bits.{bit_added, bit_kept, bit_past, one_shifted}
use Rattle.re_replica.proofs.merging.with_bit.Goals as goal

pub returns-then-is_set-clause-kept : goal.returns-then-is_set-clause-kept
returns-then-is_set-clause-kept c = λ k h. ap (λ m. has_bit (c.args.bits + m) k) (one_shifted c.args.place c.requires.place) ∙ bit_kept c.args.bits c.args.place k h

pub returns-then-is_set-clause-here : goal.returns-then-is_set-clause-here
returns-then-is_set-clause-here c = ap (λ m. has_bit (c.args.bits + m) c.args.place) (one_shifted c.args.place c.requires.place) ∙ bit_added c.args.bits c.args.place c.requires.below ∙ sym c.if-is_set.true

pub returns-clause-here : goal.returns-clause-here
returns-clause-here c = bit_past c.args.bits c.args.place c.requires.below ∙ sym c.if-is_set.false
