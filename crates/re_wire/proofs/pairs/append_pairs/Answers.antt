use Rattle.std.proofs.Common.{◌<◌, ◌++◌, ◌∙◌, length, ap, arith}
use Rattle.std.specs.Int.{w16, to_be_bytes}
use Rattle.std.specs.List.{flat_map}
use Rattle.std.proofs.lemmas.List.{get_or_default, take_all}
use Rattle.re_terms.specs.Spellings.{pair_bytes, pairs_bytes}
use Rattle.re_wire.specs.Appended.{appended}
use Rattle.re_wire.proofs.Appending.{room_for_next}
use Rattle.re_wire.proofs.Lengths.{length-pairs_bytes}
use Rattle.re_wire.proofs.pairs.append_pairs.Goals as goal

pub append-requires : goal.append-requires
append-requires c = omega (arith, c.requires.room, length-pairs_bytes c.args.pairs.now, ap length c.to_be_bytes.ensures)

pub append_pair-requires : goal.append_pair-requires
unfolding pairs_bytes
append_pair-requires c =
    let lt : c.loop-pair.pair-index < length c.args.pairs.now = omega (arith, c.loop-pair-test.true) in
    room_for_next pair_bytes c.args.pairs.now c.loop-pair.pair-index _ (to_be_bytes w16 (length c.args.pairs.now)) c.args.out.now c.loop-pair.out lt (get_or_default _ _ _ _ lt) c.loop-pair.invariant c.requires.room

pub returns : goal.returns
unfolding pairs_bytes
returns c =
    let all = take_all c.loop-pair.pair-index c.args.pairs.now (omega (arith, c.loop-pair-test.false)) in
    c.loop-pair.invariant ∙ ap (λ ps. appended c.args.out.now (to_be_bytes w16 (length c.args.pairs.now) ++ flat_map pair_bytes ps)) all
