-- What is reached is marked, and the inputs of what was passed are.
use Rattle.std.proofs.Common.{◌≡◌, ◌<◌, ◌||◌, ◌==◌, ℕ, false, length, take, get_or}
use Rattle.std.specs.List.{list_any}
use Rattle.re_terms.specs.Dependencies.{inputs_at}
use Rattle.re_prop.proofs.reading.used.Given as goal

abbrev pub invariant-marking : goal.invariant-marking
invariant-marking l = record {
  count : length l.marks.items ≡ l.count;
  marked : (id : ℕ) → id < l.count → get_or l.marks.items id false ≡ (list_any (λ other. other == id) l.reached || list_any (λ other. list_any (λ input. input == id) (inputs_at l.g other)) (take l.id-index l.reached));
}
