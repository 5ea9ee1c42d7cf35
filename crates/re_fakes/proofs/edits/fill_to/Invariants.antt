use Rattle.std.proofs.Common.{◌≡◌, ◌+◌, ◌-◌, ◌≤◌, ◌++◌, length, replicate, max}
use Rattle.re_fakes.proofs.edits.fill_to.Given as goal

abbrev pub invariant-loop-file : goal.invariant-loop-file
invariant-loop-file l = let old = l.fn.file in record {
  room : length l.file.items + l.file.spare ≡ length old.items + old.spare;
  long : length old.items ≤ length l.file.items;
  short : length l.file.items ≤ max (length old.items) l.size;
  items : l.file.items ≡ old.items ++ replicate (length l.file.items - length old.items) l.byte;
}

abbrev pub decreases-loop-file : goal.decreases-loop-file
decreases-loop-file l = l.size - length l.file.items
