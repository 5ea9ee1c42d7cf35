-- The limit of a merge, over updates and over states.
use Rattle.std.proofs.Common.{◌≡◌, ℕ, List, ◌∙◌, ap}
use Rattle.std.specs.Prelude.{if◌then◌else◌, nat_lt, None, Some}
use Rattle.std.specs.List.{sum_by}
use Rattle.re_terms.specs.declared.program.Program.{Program}
use Rattle.re_terms.specs.DeviceWorlds.{merge_fault}
use Rattle.re_terms.specs.Limits.{SetFull}
use Rattle.re_terms.specs.Parts.{IsPart}
use Rattle.re_terms.specs.Shapes.{pair_count, shape_of}
use Rattle.re_terms.specs.TakenIn.{IsTakenIn}
use Rattle.re_terms.specs.UpdateSets.{union}
use Rattle.re_terms.specs.UpdateStates.{join_states, state_of_updates}
use Rattle.re_terms.specs.Updates.{Update}
use Rattle.re_terms.proofs.Growing.{merged_state}
use Rattle.re_terms.proofs.TakenIns.{live_is}

pub merge_fault-is : (p : Program) (log us packet : List Update) (device : ℕ) → IsTakenIn log device us → IsPart log packet
    → merge_fault p us packet ≡ (if nat_lt 1024 (sum_by pair_count (join_states (state_of_updates (shape_of p) us) (state_of_updates (shape_of p) packet)).cells.items) then Some SetFull else None)
merge_fault-is p log us packet device taken part =
    ap (λ n. if nat_lt 1024 n then Some SetFull else None)
    (live_is (shape_of p).cells.items 0 (union us packet) ∙ ap (λ r. sum_by pair_count r.cells.items) (merged_state log us packet device taken part (shape_of p)))
