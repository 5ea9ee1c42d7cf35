use Rattle.std.proofs.Common.{◌≤◌, length, ap, arith}
use Rattle.re_terms.specs.Spellings.{cell_bytes}
use Rattle.re_wire.proofs.Lengths.{length-state_bytes, length_all}
use Rattle.re_wire.proofs.states.state_len.Goals as goal

pub returns-clause-len : goal.returns-clause-len
returns-clause-len c =
    let all : length c.args.state.now.cells.items ≤ c.loop-cell.cell-index = omega (arith, c.loop-cell-test.false, ap length c.as_slice-cell-items.ensures) in
    omega (arith, c.loop-cell.invariant.len, length-state_bytes c.args.devices c.args.state.now, length_all (cell_bytes c.args.devices) c.args.state.now.cells.items c.loop-cell.cell-index all)
