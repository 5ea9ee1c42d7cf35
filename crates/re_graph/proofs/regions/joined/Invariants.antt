-- What a loop over ids has joined is what some of those that it has passed have.
use Rattle.std.proofs.Common.{◌≡◌, ℕ, take, get_or}
use Rattle.std.specs.List.{list_any}
use Rattle.re_graph.specs.Kept.{has_bit}
use Rattle.re_graph.proofs.regions.joined.Given as goal

abbrev pub invariant-loop-id : goal.invariant-loop-id
invariant-loop-id l = (region : ℕ) → has_bit l.bits region ≡ list_any (λ id. has_bit (get_or l.regions id 0) region) (take l.id-index l.ids)
