use Rattle.std.proofs.Common.{◌≡◌, ◌+◌, ◌-◌, length}
use Rattle.re_fakes.specs.Files.{all_bytes, SameFiles}
use Rattle.re_fakes.proofs.files.Files.reach.Given as goal

abbrev pub invariant-loop-alloc : goal.invariant-loop-alloc
invariant-loop-alloc l = SameFiles l.fn.self (all_bytes l.self-inside.list.items)

abbrev pub decreases-loop-alloc : goal.decreases-loop-alloc
decreases-loop-alloc l = (l.place + 1) - length l.self-inside.list.items
