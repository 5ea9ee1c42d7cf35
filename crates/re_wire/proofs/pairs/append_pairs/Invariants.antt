use Rattle.std.proofs.Common.{◌≡◌, ◌++◌, take, length}
use Rattle.std.specs.Int.{w16, to_be_bytes}
use Rattle.std.specs.List.{flat_map}
use Rattle.re_terms.specs.Spellings.{pair_bytes}
use Rattle.re_wire.specs.Appended.{appended}
use Rattle.re_wire.proofs.pairs.append_pairs.Given as goal

abbrev pub invariant-loop-pair : goal.invariant-loop-pair
invariant-loop-pair l = l.out ≡ appended l.fn.out (to_be_bytes w16 (length l.pairs) ++ flat_map pair_bytes (take l.pair-index l.pairs))
