use Rattle.std.proofs.Common.{◌≡◌, ◌+◌, ◌*◌, ◌≤◌, take, length}
use Rattle.std.specs.List.{flat_map}
use Rattle.re_terms.specs.Spellings.{cell_bytes}
use Rattle.re_wire.proofs.states.state_len.Given as goal

abbrev pub invariant-loop-cell : goal.invariant-loop-cell
invariant-loop-cell l =
    record {
      len : l.len ≡ 8 * l.devices + length (flat_map (cell_bytes l.devices) (take l.cell-index l.state.cells.items));
      bound : l.len ≤ 128 + 20000 * l.cell-index;
    }
