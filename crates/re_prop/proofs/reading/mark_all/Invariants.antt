-- The places of the ids that were passed are marked.
use Rattle.std.proofs.Common.{◌≡◌, ◌<◌, ◌||◌, ◌==◌, ℕ, false, length, take, get_or}
use Rattle.std.specs.List.{list_any}
use Rattle.re_prop.proofs.reading.mark_all.Given as goal

abbrev pub invariant-loop-id : goal.invariant-loop-id
invariant-loop-id l = (id : ℕ) → id < length l.fn.marks → get_or l.marks id false ≡ (get_or l.fn.marks id false || list_any (λ other. other == id) (take l.id-index l.ids))
