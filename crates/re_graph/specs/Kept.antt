-- What a graph keeps beside its nodes, so that its calls are fast.
-- Read against: `var x: int = 1 in 2; signal p = x + 1; signal q = p + x;` as declarations 0 to 2 has the levels 0, 1, 2; the dependents of 0 are 1 and 2, that of 1 is 2; each has bit 2 of the regions alone; the order is 0, 1, 2.
use Rattle.std.specs.Prelude.{ℕ, ◌≡◌, ◌<◌, ◌≤◌, ◌==◌, ◌||◌, ◌&&◌, Bool, true, List, [], map, filter, length, nat_lt, slice_index, slice_index_or}
use Rattle.std.specs.Int.{bit_at}
use Rattle.std.specs.List.{AllPairs, list_any, range_with_len}
use Rattle.re_terms.specs.Listed.{Listed, plain}
use Rattle.re_terms.specs.Dependencies.{PlainNode, inputs_at, ids, IsOrdered, level}
use Rattle.re_graph.specs.declared.node.Node.{Node}
use Rattle.re_graph.specs.Footprint.{is_supported}

abbrev pub plain_node : Node → PlainNode
plain_node node = record { inputs = node.inputs.items; region = node.region }

-- a set of regions, as bits, has this one
abbrev pub has_bit : ℕ → ℕ → Bool
has_bit bits region = bit_at bits region == 1

-- an id is among these
abbrev pub is_among : List ℕ → ℕ → Bool
is_among found id = list_any (λ other. other == id) found

-- the list at a place
abbrev pub list_at : List (Listed ℕ) → ℕ → List ℕ
list_at lists id = (slice_index_or lists id (plain [])).items

-- the ids below n with this level, ascending
abbrev pub ids_at_level : (ℕ → ℕ) → ℕ → ℕ → List ℕ
ids_at_level level n wanted = filter (λ id. level id == wanted) (range_with_len 0 n)

-- a declaration comes before another: its level is lower, or equal and its id is lower
abbrev pub comes_before : (ℕ → ℕ) → ℕ → ℕ → Bool
comes_before level a b = nat_lt (level a) (level b) || ((level a == level b) && nat_lt a b)

-- each id below n stands in the list and nothing else does, and each stands behind those that come before it
pub record IsOrderBy (level : ℕ → ℕ) (n : ℕ) (order : List ℕ) : Type 0 where
  pub each : (id : ℕ) → is_among order id ≡ nat_lt id n
  pub ascending : AllPairs (λ a b. comes_before level a b ≡ true) order

pub record IsKept (graph : List PlainNode) (levels regions : List ℕ) (dependents : List (Listed ℕ)) (order : List ℕ) : Type 0 where
  pub ordered : IsOrdered graph
  pub few : length graph ≤ 512
  pub level_list : levels ≡ map (level graph) (ids graph)
  pub region_count : length regions ≡ length graph
  pub region_sets : (id region : ℕ) → id < length graph → has_bit (slice_index regions id) region ≡ is_supported graph region id
  pub dependent_count : length dependents ≡ length graph
  pub links : (id other : ℕ) → is_among (list_at dependents id) other ≡ is_among (inputs_at graph other) id
  pub by_level : IsOrderBy (level graph) (length graph) order
