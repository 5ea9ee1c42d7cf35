-- Places of declarations in the order by level, both ways, and who names whom.
-- Read against: `var x: int = 1; signal p = x + 1; signal q = p + x; signal r = x;` as declarations 0 to 3 has the order 0, 1, 3, 2 and the ranks 0, 1, 3, 2; the readers of 0 are 1, 2 and 3, that of 1 is 2.
use Rattle.std.specs.Prelude.{ℕ, ◌≡◌, ◌<◌, true, List, length, slice_index}
use Rattle.re_terms.specs.Dependencies.{PlainNode, inputs_at}
use Rattle.re_terms.specs.Listed.{Listed}
use Rattle.re_graph.specs.Kept.{is_among, list_at}

-- each declaration has one rank, and stands at it in the order; what it names has a lower one
pub record IsRanking (graph : List PlainNode) (order ranks : List ℕ) : Type 0 where
  pub order_count : length order ≡ length graph
  pub rank_count : length ranks ≡ length graph
  pub low : (id : ℕ) → id < length graph → slice_index ranks id < length graph
  pub back : (id : ℕ) → id < length graph → slice_index order (slice_index ranks id) ≡ id
  pub there : (rank : ℕ) → rank < length graph → slice_index order rank < length graph
  pub again : (rank : ℕ) → rank < length graph → slice_index ranks (slice_index order rank) ≡ rank
  pub later : (id input : ℕ) → is_among (inputs_at graph id) input ≡ true → slice_index ranks input < slice_index ranks id

-- for each declaration those that name it
pub record AreReaders (graph : List PlainNode) (readers : List (Listed ℕ)) : Type 0 where
  pub count : length readers ≡ length graph
  pub links : (id other : ℕ) → is_among (list_at readers id) other ≡ is_among (inputs_at graph other) id
