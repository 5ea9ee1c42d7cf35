use Rattle.std.proofs.Common.{◌≡◌, ◌<◌, ◌+◌, ◌^◌, ◌↔◌, ℕ, false, take}
use Rattle.std.specs.Prelude.{slice_get}
use Rattle.std.specs.List.{sum_by}
use Rattle.re_terms.specs.Shapes.{pair_count}
use Rattle.re_terms.specs.UpdateStates.{join_cells}
use Rattle.re_replica.specs.Changed.{has_bit}
use Rattle.re_replica.proofs.merging.merge_cells.Given as goal

-- the cells up to a place are those of the whole merge, with their bits, and the room is what their pairs leave
abbrev pub invariant-loop-place : goal.invariant-loop-place
invariant-loop-place l =
    let joined = join_cells l.a.vector.counts l.b.vector.counts l.a.cells.items l.b.cells.items in
    record {
      cells : l.cells.items ≡ take l.place joined;
      spare : l.cells.spare ≡ 0;
      room : l.room + sum_by pair_count (take l.place joined) ≡ 1024;
      below : l.changed < 2 ^ l.place;
      bits : (k : ℕ) → k < l.place → (has_bit l.changed k ≡ false) ↔ (slice_get joined k ≡ slice_get l.a.cells.items k);
    }
