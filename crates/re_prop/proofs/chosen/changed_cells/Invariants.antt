-- The marks of the declarations that were passed.
use Rattle.std.proofs.Common.{◌≡◌, map}
use Rattle.std.specs.List.{range_with_len}
use Rattle.re_terms.specs.Propagation.{is_cell_at}
use Rattle.re_prop.proofs.Choosing.{differs_at}
use Rattle.re_prop.proofs.chosen.changed_cells.Given as goal

abbrev pub invariant-marking : goal.invariant-marking
invariant-marking l = l.marks.items ≡ map (differs_at (is_cell_at l.decls) l.old l.new) (range_with_len 0 l.id)
