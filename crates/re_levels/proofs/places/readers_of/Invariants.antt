-- The declarations that were passed stand among the readers of their inputs.
use Rattle.std.proofs.Common.{◌≡◌, ◌&&◌, ℕ, false, length}
use Rattle.std.specs.Prelude.{nat_lt}
use Rattle.re_terms.specs.Dependencies.{inputs_at}
use Rattle.re_graph.specs.Kept.{is_among, list_at}
use Rattle.re_levels.proofs.places.readers_of.Given as goal

abbrev pub invariant-making : goal.invariant-making
invariant-making l = record {
  count : length l.readers.items ≡ l._id;
  empty : (id other : ℕ) → is_among (list_at l.readers.items id) other ≡ false;
}

abbrev pub invariant-linking : goal.invariant-linking
invariant-linking l = record {
  count : length l.readers.items ≡ l.count;
  links : (id other : ℕ) → is_among (list_at l.readers.items id) other ≡ (nat_lt other l.id && is_among (inputs_at l.g other) id);
}
