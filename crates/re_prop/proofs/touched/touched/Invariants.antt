-- The touched declarations among those that were passed.
use Rattle.std.proofs.Common.{◌≡◌}
use Rattle.std.specs.Prelude.{filter}
use Rattle.std.specs.List.{range_with_len}
use Rattle.re_terms.specs.Listed.{plain}
use Rattle.re_prop.specs.Touched.{touches}
use Rattle.re_prop.proofs.touched.touched.Given as goal

abbrev pub invariant-touching : goal.invariant-touching
invariant-touching l = l.ids ≡ plain (filter (touches l.p l.s l.entry l.after) (range_with_len 0 l.id))
