-- The effects of the declarations that were passed.
use Rattle.std.proofs.Common.{◌≡◌, ◌≤◌, ◌+◌, ◌*◌, length}
use Rattle.re_terms.specs.Dependencies.{below}
use Rattle.re_terms.specs.Propagation.{no_effect, place_effect, step_in}
use Rattle.re_prop.specs.Effects.{effects_at}
use Rattle.re_prop.proofs.walking.walk_all.Given as goal

abbrev pub invariant-walking : goal.invariant-walking
invariant-walking g l = record {
  words : length l.effects.words.items ≡ l.id;
  values : length l.effects.values.items ≡ l.id;
  effects : effects_at l.effects.words.items l.effects.values.items ≡ below no_effect (place_effect l.walk.program.now (step_in l.walk.state.now l.walk.entry.now l.walk.after.now)) l.id;
  steps : l.steps ≡ l.fn.steps + l.evaluated;
  few : l.evaluated ≤ 2 * l.id;
}
