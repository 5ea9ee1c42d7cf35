-- Where the words of vars and folds and the replicated cells stand in a state.
-- Read against: `device a; var x: int = 1; counter c; signal s = x + c; var y: int = 2; counter d;` has the places 0, 0, 1, 1, 1, 2 of words,
-- and 0, 0, 0, 1, 1, 1 of replicated cells: y's word stands after x's, and d's cell after c's.
use Rattle.std.specs.Prelude.{ℕ, List, length, map, count_by}
use Rattle.std.specs.List.{range_with_len}
use Rattle.re_terms.specs.Listed.{plain}
use Rattle.re_terms.specs.Programs.{is_replicated}
use Rattle.re_terms.specs.Cells.{cell_place}
use Rattle.re_terms.specs.SignalWords.{replicated_place}
use Rattle.re_terms.specs.declared.program.Decl.{Decl}
use Rattle.re_terms.specs.declared.places.Places.{Places}

-- a count for each declaration
abbrev pub at_each : (List Decl → ℕ → ℕ) → List Decl → List ℕ
at_each count decls = map (count decls) (range_with_len 0 (length decls))

-- for each declaration the place that its word has, and that its replicated cell has, and the count of replicated cells
abbrev pub places_of : List Decl → Places
places_of decls = record { words = plain (at_each cell_place decls); replicated = plain (at_each replicated_place decls); replicated_count = count_by is_replicated decls }
