-- The first words are the new ones.
use Rattle.std.proofs.Common.{◌≡◌, length, take}
use Rattle.re_device.proofs.store.put_all_words.Given as goal

abbrev pub invariant-loop-i : goal.invariant-loop-i
invariant-loop-i l = record {
  count : length l.words.items ≡ length l.new;
  spare : l.words.spare ≡ l.fn.words.spare;
  so_far : take l.i l.words.items ≡ take l.i l.new;
}
