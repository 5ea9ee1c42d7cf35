use Rattle.std.proofs.Common.{◌≡◌, ◌<◌, ◌++◌, ◌∙◌, length, get_or, ap, arith}
use Rattle.std.specs.List.{flat_map}
use Rattle.std.proofs.lemmas.List.{take_all}
use Rattle.re_terms.specs.Spellings.{cell_bytes, vector_bytes, state_bytes}
use Rattle.re_wire.specs.Appended.{appended}
use Rattle.re_wire.proofs.Appending.{room_for_next}
use Rattle.re_wire.proofs.Lengths.{length-state_bytes}
use Rattle.re_wire.proofs.states.append_state.Goals as goal

pub append_vector-requires-clause-room : goal.append_vector-requires-clause-room
append_vector-requires-clause-room c = omega (arith, c.requires.room, length-state_bytes c.args.devices c.args.state.now)

pub append_cell-requires-clause-room : goal.append_cell-requires-clause-room
unfolding state_bytes
append_cell-requires-clause-room c =
    let cells = c.args.state.now.cells.items in
    let lt : c.loop-cell.cell-index < length cells = omega (arith, c.loop-cell-test.true, ap length c.as_slice-cell-items.ensures) in
    let is : c.cell-item.result ≡ get_or cells c.loop-cell.cell-index c.cell-item.result = c.cell-item.is ∙ ap (λ cs. get_or cs c.loop-cell.cell-index c.cell-item.result) c.as_slice-cell-items.ensures in
    room_for_next (cell_bytes c.args.devices) cells c.loop-cell.cell-index c.cell-item.result (vector_bytes c.args.devices c.args.state.now.vector.counts) c.args.out.now c.loop-cell.out lt is c.loop-cell.invariant c.requires.room

pub returns : goal.returns
unfolding state_bytes
returns c =
    let cells = c.args.state.now.cells.items in
    let all = take_all c.loop-cell.cell-index cells (omega (arith, c.loop-cell-test.false, ap length c.as_slice-cell-items.ensures)) in
    c.loop-cell.invariant ∙ ap (λ cs. appended c.args.out.now (vector_bytes c.args.devices c.args.state.now.vector.counts ++ flat_map (cell_bytes c.args.devices) cs)) all
