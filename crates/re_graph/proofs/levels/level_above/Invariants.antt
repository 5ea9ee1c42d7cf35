-- What a loop over inputs has found is the level above those that it has passed.
use Rattle.std.proofs.Common.{◌≡◌, ◌≤◌, map, take, get_or}
use Rattle.re_terms.specs.Dependencies.{level_above}
use Rattle.re_graph.proofs.levels.level_above.Given as goal

abbrev pub invariant-loop-input : goal.invariant-loop-input
invariant-loop-input l = (l.above ≡ level_above (map (λ input. get_or l.levels input 0) (take l.input-index l.inputs))) × (l.above ≤ 511)
