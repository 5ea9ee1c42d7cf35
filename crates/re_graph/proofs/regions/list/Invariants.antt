-- The regions found so far are those of the set below the one that is tried.
use Rattle.std.proofs.Common.{◌≡◌}
use Rattle.std.specs.Prelude.{filter}
use Rattle.std.specs.List.{range_with_len}
use Rattle.re_terms.specs.Listed.{plain}
use Rattle.re_graph.specs.Kept.{has_bit}
use Rattle.re_graph.proofs.regions.list.Given as goal

abbrev pub invariant-loop-region : goal.invariant-loop-region
invariant-loop-region l = l.regions ≡ plain (filter (has_bit l.bits) (range_with_len 0 l.region))
