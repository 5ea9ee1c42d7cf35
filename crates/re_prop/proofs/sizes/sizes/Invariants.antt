use Rattle.std.proofs.Common.{◌≡◌, map, take}
use Rattle.std.specs.Prelude.{Some}
use Rattle.re_terms.specs.Views.{cell_size}
use Rattle.re_prop.proofs.sizes.sizes.Given as goal

abbrev pub invariant-sizing : goal.invariant-sizing
invariant-sizing l = l.sizes.items ≡ map (λ c. cell_size (Some c)) (take l.place l.cells)
