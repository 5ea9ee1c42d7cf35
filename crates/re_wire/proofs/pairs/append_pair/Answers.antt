use Rattle.std.proofs.Common.{ap, arith}
use Rattle.re_terms.specs.Spellings.{pair_bytes}
use Rattle.re_wire.proofs.Appending.{appended_next}
use Rattle.re_wire.proofs.Lengths.{length-pair_bytes}
use Rattle.re_wire.proofs.pairs.append_pair.Goals as goal

pub append_word-requires : goal.append_word-requires
append_word-requires c = omega (arith, c.requires, length-pair_bytes c.args.pair.now)

pub append-requires : goal.append-requires
append-requires c = omega (arith, c.requires, length-pair_bytes c.args.pair.now, ap (λ m. m.spare) c.append_word.ensures)

pub returns : goal.returns
unfolding pair_bytes
returns c = let dot = rw c.to_be_bytes-b.ensures at c.append.ensures in appended_next _ _ _ _ _ c.append_word.ensures dot
