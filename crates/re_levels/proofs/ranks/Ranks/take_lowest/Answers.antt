use Rattle.std.proofs.Common.{◌≡◌, ◌<◌, ◌^◌, length, get_or, refl, sym, ap, arith}
use Rattle.re_levels.proofs.RankBits.{takes_lowest}
use Rattle.re_levels.proofs.ranks.Ranks.take_lowest.Goals as goal

pub returns-then-word-ne0-clause-taken : goal.returns-then-word-ne0-clause-taken
returns-then-word-ne0-clause-taken c =
    let same = c.loop-place.invariant.same in
    let count : length c.loop-place.self.bits ≡ 8 = omega (arith, ap length same) in
    let fits : get_or c.loop-place.self.bits c.loop-place.place 0 < 2 ^ 64 = omega arith in
    takes_lowest c.loop-place.self.bits c.loop-place.place (omega arith) count c.if-word-ne0.true fits c.loop-place.invariant.none _ _ (sym same) refl
