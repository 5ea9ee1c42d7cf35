use Rattle.std.proofs.Common.{◌≡◌, ◌+◌, take, vec_len, vec_capacity}
use Rattle.re_terms.proofs.seq.SeqTryCopy.copy.Given as goal

abbrev pub invariant-loop-item : goal.invariant-loop-item
invariant-loop-item g l = record {
  copied : l.items.items ≡ take l.item-index l.item-items;
  count : vec_len l.items ≡ l.item-index;
  room : vec_capacity l.items ≡ vec_len l.self-inside.items + l.self-inside.spare;
}
