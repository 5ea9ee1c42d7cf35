-- It is found in what is left to look at.
use Rattle.std.proofs.Common.{◌≡◌, ◌==◌, drop}
use Rattle.std.specs.Prelude.{find}
use Rattle.re_levels.proofs.found.found_of.Given as goal

abbrev pub invariant-loop-one : goal.invariant-loop-one
invariant-loop-one l = find (λ f. f.id == l.id) l.found ≡ find (λ f. f.id == l.id) (drop l.one-index l.found)
