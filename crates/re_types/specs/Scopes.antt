-- What is declared so far, as the code keeps it.
-- Read against: behind `symbol red; var x: int = 0;` the names are red and x, which stand for symbol 0 and a value of kind int, and there is one symbol.
use Rattle.std.specs.Prelude.{ℕ, ◌≡◌, ◌<◌, ◌≤◌, length, Some, slice_get, count_by}
use Rattle.re_terms.specs.Kinds.{Sort, Device, Symbol, Value, Set, Event, is_symbol_sort}
use Rattle.re_types.specs.Resolving.{Scope}
use Rattle.re_types.specs.declared.sort.Sort.TheVariants as kept

-- what a kept sort says
abbrev pub plain_sort : Rattle.re_types.specs.declared.sort.Sort.Sort → Sort
plain_sort kept.Device = Device
plain_sort (kept.Symbol number) = Symbol number
plain_sort (kept.Value kind) = Value kind
plain_sort (kept.Set kind) = Set kind
plain_sort (kept.Event kind) = Event kind

-- at most 512 names, and each symbol's number is below the count of symbols
pub record IsScope (scope : Scope) : Type 0 where
  pub few : length scope.names ≤ 512
  pub below : (id number : ℕ) → slice_get scope.sorts id ≡ Some (Symbol number) → number < count_by is_symbol_sort scope.sorts
