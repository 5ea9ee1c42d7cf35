use Rattle.std.proofs.Common.{◌≡◌, ◌++◌, ◌∷◌, [], length, ap, ◌∙◌, sym, arith}
use Rattle.std.specs.Prelude.{slice_get}
use Rattle.std.specs.List.{sum_by}
use Rattle.std.proofs.lemmas.Result.{err_from_is_err_and}
use Rattle.re_terms.specs.Shapes.{pair_count}
use Rattle.re_terms.specs.UpdateStates.{join_cell, join_cells}
use Rattle.re_replica.proofs.Merged.{bits_more, joined_at, length-join_cells, read_at, sum_take, sum_whole, take_all, take_at}
use Rattle.re_replica.proofs.merging.merge_cells.Goals as goal

pub merge_cell-requires : goal.merge_cell-requires
merge_cell-requires c =
    let within = c.loop-place-test.true in
    let count = ap length c.as_slice-own.ensures in
    let own = read_at c.as_slice-own.result.now c.args.a.now.cells.items c.loop-place.place c.index-own-place.result c.as_slice-own.ensures (omega arith) c.index-own-place.is in
    let other = read_at c.as_slice-other.result.now c.args.b.now.cells.items c.loop-place.place c.index-other-place.result c.as_slice-other.ensures (omega arith) c.index-other-place.is in
    c.requires.alike c.loop-place.place c.index-own-place.result c.index-other-place.result own other

pub returns-in_err-merged-clause-full : goal.returns-in_err-merged-clause-full
returns-in_err-merged-clause-full c = λ e.
    let av = c.args.a.now.vector.counts in
    let bv = c.args.b.now.vector.counts in
    let within = c.loop-place-test.true in
    let count = ap length c.as_slice-own.ensures in
    let own = read_at c.as_slice-own.result.now c.args.a.now.cells.items c.loop-place.place c.index-own-place.result c.as_slice-own.ensures (omega arith) c.index-own-place.is in
    let other = read_at c.as_slice-other.result.now c.args.b.now.cells.items c.loop-place.place c.index-other-place.result c.as_slice-other.ensures (omega arith) c.index-other-place.is in
    let at = joined_at av bv c.args.a.now.cells.items c.args.b.now.cells.items c.loop-place.place c.index-own-place.result c.index-other-place.result own other in
    let whole = sum_whole (join_cells av bv c.args.a.now.cells.items c.args.b.now.cells.items) c.loop-place.place (join_cell av bv c.index-own-place.result c.index-other-place.result) at in
    let over = c.merge_cell.ensures.full (let a = c.in_err-merged.was in let p = err_from_is_err_and c.from_residual.result c.from_residual.ensures.1 in cc (p.1, p.2)) in
    let room = c.loop-place.invariant.room in
    omega arith

pub loop-place-preserved : goal.loop-place-preserved
loop-place-preserved c =
    let av = c.args.a.now.vector.counts in
    let bv = c.args.b.now.vector.counts in
    let x = c.index-own-place.result in
    let y = c.index-other-place.result in
    let cell = join_cell av bv x y in
    let joined = join_cells av bv c.args.a.now.cells.items c.args.b.now.cells.items in
    let place = c.loop-place.place in
    let within = c.loop-place-test.true in
    let count = ap length c.as_slice-own.ensures in
    let own = read_at c.as_slice-own.result.now c.args.a.now.cells.items place x c.as_slice-own.ensures (omega arith) c.index-own-place.is in
    let other = read_at c.as_slice-other.result.now c.args.b.now.cells.items place y c.as_slice-other.ensures (omega arith) c.index-other-place.is in
    let at = joined_at av bv c.args.a.now.cells.items c.args.b.now.cells.items place x y own other in
    let merged = c.in_ok-merged.merged in
    let is : merged.cell ≡ cell = c.in_ok-merged.ensures.joined in
    let pushed = c.in_default.ensures.ok in
    let before = c.loop-place.invariant in
    record {
      cells = ap (λ l. l.items) pushed ∙ (λ i. before.cells i ++ is i ∷ []) ∙ sym (take_at joined place cell at);
      spare = let e = ap (λ l. l.spare) pushed in let s = before.spare in omega arith;
      room =
          let pairs : c.pair_count.result ≡ pair_count cell = c.pair_count.ensures ∙ ap pair_count is in
          let fits = c.in_ok-merged.ensures.room in
          let more = sum_take joined place cell at in
          let left = before.room in
          omega arith;
      below = c.with_bit-changed.ensures.below;
      bits = bits_more c.loop-place.changed c.with_bit-changed.result place merged.changed joined c.args.a.now.cells.items cell x at own c.with_bit-changed.ensures.kept c.with_bit-changed.ensures.here (let ch = c.in_ok-merged.ensures.changed in (λ e. sym is ∙ ch.0 e, λ e. ch.1 (is ∙ e))) before.bits;
    }

pub returns-clause-joined : goal.returns-clause-joined
returns-clause-joined c =
    let av = c.args.a.now.vector.counts in
    let bv = c.args.b.now.vector.counts in
    let joined = join_cells av bv c.args.a.now.cells.items c.args.b.now.cells.items in
    let count = ap length c.as_slice-own.ensures in
    let cells = length-join_cells av bv c.args.a.now.cells.items c.args.b.now.cells.items in
    let all = take_all joined c.loop-place.place (omega (arith, c.loop-place-test.false)) in
    λ i. record { items = (c.loop-place.invariant.cells ∙ all) i; spare = c.loop-place.invariant.spare i }

pub returns-clause-changed : goal.returns-clause-changed
returns-clause-changed c = λ k h.
    let av = c.args.a.now.vector.counts in
    let bv = c.args.b.now.vector.counts in
    let joined = join_cells av bv c.args.a.now.cells.items c.args.b.now.cells.items in
    let count = ap length c.as_slice-own.ensures in
    let cells = length-join_cells av bv c.args.a.now.cells.items c.args.b.now.cells.items in
    let all = c.loop-place.invariant.cells ∙ take_all joined c.loop-place.place (omega (arith, c.loop-place-test.false)) in
    let bit = c.loop-place.invariant.bits k (omega (arith, c.loop-place-test.false)) in
    (λ e. ap (λ l. slice_get l k) all ∙ bit.0 e, λ s. bit.1 (ap (λ l. slice_get l k) (sym all) ∙ s))

pub returns-clause-room : goal.returns-clause-room
returns-clause-room c =
    let av = c.args.a.now.vector.counts in
    let bv = c.args.b.now.vector.counts in
    let joined = join_cells av bv c.args.a.now.cells.items c.args.b.now.cells.items in
    let count = ap length c.as_slice-own.ensures in
    let cells = length-join_cells av bv c.args.a.now.cells.items c.args.b.now.cells.items in
    let all = ap (sum_by pair_count) (take_all joined c.loop-place.place (omega (arith, c.loop-place-test.false))) in
    let room = c.loop-place.invariant.room in
    omega arith
