use Rattle.std.proofs.Common.{◌≡◌, ◌<◌, ◌≤◌, ◌++◌, ◌∷◌, [], Ok, sym, ap, ◌∙◌, length, get_or, arith}
use Rattle.std.proofs.lemmas.List.{get_or_default}
use Rattle.std.proofs.lemmas.Result.{err_from_is_err_and}
use Rattle.re_terms.specs.Listed.{plain}
use Rattle.re_terms.specs.declared.replicated.RKind.{RKind}
use Rattle.re_terms.specs.declared.replicated.RKind.TheVariants.{Counter}
use Rattle.re_wire.specs.Reading.{listed, cells_at}
use Rattle.re_wire.proofs.Several.{fails_then}
use Rattle.re_wire.proofs.CellLists.{goes_on, ends, is_done}
use Rattle.re_wire.proofs.states.get_cells.Goals as goal

pub returns-in_err-cell : goal.returns-in_err-cell
returns-in_err-cell c =
    let p = err_from_is_err_and c.from_residual.result c.from_residual.ensures.1 in
    let kinds = c.args.shape.now.cells.items in
    let total = cells_at c.args.shape.now c.args.vector.now.counts 1024 kinds c.args.bytes.now c.args.at in
    let lt : c.loop-kind.kind-index < length kinds = omega (arith, c.loop-kind-test.true, ap length c.as_slice-kind-items.ensures) in
    let kind : RKind = get_or kinds c.loop-kind.kind-index Counter in
    rw (p.1, p.2) (fails_then c.in_err-cell.field-0.0 total (λ x. Ok (plain x.0, x.1)) (ends c.args.shape.now c.args.vector.now.counts c.args.bytes.now c.in_err-cell.field-0.0 c.loop-kind.cells.items kinds c.loop-kind.kind-index c.loop-kind.room c.loop-kind.behind kind total lt (get_or_default kinds c.loop-kind.kind-index Counter kind lt) (rw c.as_slice-kind-items.ensures at c.in_err-cell.ensures.exact) c.loop-kind.invariant.so_far))

pub loop-kind-preserved : goal.loop-kind-preserved
loop-kind-preserved c =
    let pushed = c.in_ok-push.ensures.ok in
    let items : c.push.new.self.items ≡ c.loop-kind.cells.items ++ c.in_ok-cell.cell ∷ [] = ap (λ m. m.items) pushed in
    let kinds = c.args.shape.now.cells.items in
    let lt : c.loop-kind.kind-index < length kinds = omega (arith, c.loop-kind-test.true, ap length c.as_slice-kind-items.ensures) in
    let kind : RKind = get_or kinds c.loop-kind.kind-index Counter in
    let next = goes_on c.args.shape.now c.args.vector.now.counts c.args.bytes.now c.loop-kind.cells.items kinds c.loop-kind.kind-index c.loop-kind.room c.loop-kind.behind kind c.in_ok-cell.cell c.in_ok-cell.next _ lt (get_or_default kinds c.loop-kind.kind-index Counter kind lt) (rw c.as_slice-kind-items.ensures at c.in_ok-cell.ensures.exact) c.loop-kind.invariant.so_far in
    record {
      so_far = rw (items, c.pair_count.ensures) next;
      spare = omega (arith, ap (λ m. m.spare) pushed, c.loop-kind.invariant.spare);
      room = omega (arith, c.loop-kind.invariant.room);
    }

pub returns : goal.returns
returns c =
    let all : length c.args.shape.now.cells.items ≤ c.loop-kind.kind-index = omega (arith, c.loop-kind-test.false, ap length c.as_slice-kind-items.ensures) in
    let read = is_done _ _ _ c.loop-kind.cells.items c.args.shape.now.cells.items c.loop-kind.kind-index c.loop-kind.room c.loop-kind.behind _ all c.loop-kind.invariant.so_far in
    let spare : 0 ≡ c.loop-kind.cells.spare = sym c.loop-kind.invariant.spare in
    ap (λ r. listed r) read ∙ (λ i. Ok (record { items = c.loop-kind.cells.items; spare = spare i }, c.loop-kind.behind))
