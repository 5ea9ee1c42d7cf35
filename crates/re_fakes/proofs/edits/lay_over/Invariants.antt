use Rattle.std.proofs.Common.{◌≡◌, ◌+◌, ◌-◌, ◌≤◌, ◌++◌, length, take, drop}
use Rattle.re_fakes.proofs.edits.lay_over.Given as goal

abbrev pub invariant-loop-i : goal.invariant-loop-i
invariant-loop-i l = let old = l.fn.file in record {
  room : length l.file.items + l.file.spare ≡ length old.items + old.spare;
  items : l.file.items ≡ take l.at old.items ++ take l.i l.bytes ++ drop (l.at + l.i) old.items;
}
