use Rattle.std.proofs.Common.{◌<◌, length, get_or, pos, arith}
use Rattle.std.proofs.lemmas.List.{get_or_default}
use Rattle.re_terms.specs.Spellings.{pair_bytes}
use Rattle.re_terms.specs.declared.replicated.Pair.{Pair}
use Rattle.re_terms.specs.declared.word.Word.TheVariants as word
use Rattle.re_wire.proofs.Lengths.{length-pair_bytes, length-pairs_bytes, length_next, length_all}
use Rattle.re_wire.proofs.pairs.pairs_len.Goals as goal

pub loop-pair-preserved : goal.loop-pair-preserved
loop-pair-preserved c =
    let lt : c.loop-pair.pair-index < length c.args.pairs.now = c.loop-pair-test.true in
    let none : Pair = record { element = word.Int (pos 0); dot = record { device = 0; number = 0 } } in
    let p : Pair = get_or c.args.pairs.now c.loop-pair.pair-index none in
    let next = length_next pair_bytes c.args.pairs.now c.loop-pair.pair-index p lt (get_or_default c.args.pairs.now c.loop-pair.pair-index none p lt) in
    record {
      len = omega (arith, next, length-pair_bytes p, c.word_len.ensures.len, c.loop-pair.invariant.len);
      bound = omega (arith, c.word_len.ensures.bound, c.loop-pair.invariant.bound);
    }

pub returns-clause-len : goal.returns-clause-len
returns-clause-len c = omega (arith, c.loop-pair.invariant.len, length-pairs_bytes c.args.pairs.now, length_all pair_bytes c.args.pairs.now c.loop-pair.pair-index c.loop-pair-test.false)
