use Rattle.std.proofs.Common.{◌≡◌, ◌++◌, take}
use Rattle.std.specs.List.{flat_map}
use Rattle.re_terms.specs.Spellings.{cell_bytes, vector_bytes}
use Rattle.re_wire.specs.Appended.{appended}
use Rattle.re_wire.proofs.states.append_state.Given as goal

abbrev pub invariant-loop-cell : goal.invariant-loop-cell
invariant-loop-cell l = l.out ≡ appended l.fn.out (vector_bytes l.devices l.state.vector.counts ++ flat_map (cell_bytes l.devices) (take l.cell-index l.state.cells.items))
