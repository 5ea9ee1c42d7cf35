-- The regions that touched declarations can change.
-- Read against: `var x: int = 1 in 1; var y: int = 1 in 2; signal s = x + 1; signal t = x + y;` as declarations 0 to 3: the footprint of 0 is 1 and 2, that of 1 is 1 and 2, that of 2 is 1.
use Rattle.std.specs.Prelude.{ℕ, ◌==◌, Bool, false, List, Option, None, Some, filter}
use Rattle.std.specs.List.{list_any, range_with_len}
use Rattle.re_terms.specs.Dependencies.{PlainNode, region_at, support, reach}

-- a cell's region is this one
abbrev pub is_region : Option ℕ → ℕ → Bool
is_region None region = false
is_region (Some own) region = own == region

-- a cell in the declaration's support has this region
abbrev pub is_supported : List PlainNode → ℕ → ℕ → Bool
is_supported graph region id = list_any (λ cell. is_region (region_at graph cell) region) (support graph id)

-- the regions of all cells in the supports of what is reached, ascending; there are the regions 0 to 4
abbrev pub footprint : List PlainNode → List ℕ → List ℕ
footprint graph touched = filter (λ region. list_any (is_supported graph region) (reach graph touched)) (range_with_len 0 5)
