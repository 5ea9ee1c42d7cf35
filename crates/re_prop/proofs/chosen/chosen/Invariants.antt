-- The words of the marked places that were passed.
use Rattle.std.proofs.Common.{◌≡◌}
use Rattle.re_terms.specs.Listed.{plain}
use Rattle.re_prop.proofs.Choosing.{chosen_below}
use Rattle.re_prop.proofs.chosen.chosen.Given as goal

abbrev pub invariant-choosing : goal.invariant-choosing
invariant-choosing l = l.puts ≡ plain (chosen_below l.marks l.words l.id)
