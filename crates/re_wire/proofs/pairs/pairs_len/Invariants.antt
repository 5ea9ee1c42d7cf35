use Rattle.std.proofs.Common.{◌≡◌, ◌+◌, ◌*◌, ◌≤◌, take, length}
use Rattle.std.specs.List.{flat_map}
use Rattle.re_terms.specs.Spellings.{pair_bytes}
use Rattle.re_wire.proofs.pairs.pairs_len.Given as goal

abbrev pub invariant-loop-pair : goal.invariant-loop-pair
invariant-loop-pair l =
    record {
      len : l.len ≡ 2 + length (flat_map pair_bytes (take l.pair-index l.pairs));
      bound : l.len ≤ 2 + 18 * l.pair-index;
    }
