use Rattle.std.proofs.Common.{◌≡◌, ◌≤◌, drop}
use Rattle.re_wire.specs.Reading.{cells_at}
use Rattle.re_wire.proofs.Several.{with_front}
use Rattle.re_wire.proofs.states.get_cells.Given as goal

abbrev pub invariant-loop-kind : goal.invariant-loop-kind
invariant-loop-kind l =
    record {
      so_far : with_front l.cells.items (cells_at l.shape l.vector.counts l.room (drop l.kind-index l.shape.cells.items) l.bytes l.behind) ≡ cells_at l.shape l.vector.counts 1024 l.shape.cells.items l.bytes l.at;
      spare : l.cells.spare ≡ 0;
      room : l.room ≤ 1024;
    }
