use Rattle.std.proofs.Common.{◌≤◌, length, arith}
use Rattle.re_print.proofs.Elements.{all-written, none-written}
use Rattle.re_print.proofs.sets.write_elements.Goals as goal

pub returns-in_default : goal.returns-in_default
returns-in_default c = none-written c.args.p.now c.args.pairs.now c.args.text.now.items c.in_default.ensures.cases

pub returns : goal.returns
returns c =
    let ended : length c.in-Some.others.now ≤ c.loop-pair.pair-index = omega arith in
    all-written c.args.p.now c.args.pairs.now c.in-Some.first.now c.in-Some.others.now c.loop-pair.before c.loop-pair.pair-index c.args.text.now.items c.write_word.new.text.items c.loop-pair.text.items c.requires c.in-Some.ensures.cases.0 ended c.in_ok-write_word.ensures c.loop-pair.invariant
