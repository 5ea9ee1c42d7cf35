-- What an entry touches.
-- Read against: on `device a; var x: int = 1; event e: int; counter c; set s: int;` the turn `x = 1, fire e 2, add c 0` touches 1, 2 and 3,
-- whether or not a word changes, and a merge that brings a pair to s and nothing else touches 4 alone.
use Rattle.std.specs.Prelude.{ℕ, nat_eq, ◌==◌, ◌&&◌, ◌||◌, Bool, true, false, not, List, Option, None, Some, filter, length, slice_get}
use Rattle.std.specs.Option.{option_map_or}
use Rattle.std.specs.List.{list_any, range_with_len}
use Rattle.std.specs.Cmp.Lexicographic.{pointwise}
use Rattle.re_terms.specs.declared.entry.Put.{Put}
use Rattle.re_terms.specs.declared.entry.Entry.{Entry}
use Rattle.re_terms.specs.declared.entry.Entry.TheVariants as entry
use Rattle.re_terms.specs.declared.entry.State.{State}
use Rattle.re_terms.specs.declared.replicated.Pair.{Pair}
use Rattle.re_terms.specs.declared.replicated.RCell.{RCell}
use Rattle.re_terms.specs.declared.replicated.RCell.TheVariants as cell
use Rattle.re_terms.specs.declared.replicated.RState.{RState}
use Rattle.re_terms.specs.declared.program.Decl.{Decl}
use Rattle.re_terms.specs.declared.program.Program.{Program}
use Rattle.re_terms.specs.Programs.{is_replicated}
use Rattle.re_terms.specs.SignalWords.{replicated_place}
use Rattle.re_terms.specs.WordOrder.{same_word}

-- the declaration with this id is a replicated cell
abbrev pub is_replicated_at : List Decl → ℕ → Bool
is_replicated_at decls id = option_map_or is_replicated (slice_get decls id) false

-- two pairs are equal
abbrev pub is_same_pair : Pair → Pair → Bool
is_same_pair a b = same_word a.element b.element && (a.dot.device == b.dot.device) && (a.dot.number == b.dot.number)

-- two replicated cells have the same content
abbrev pub is_same_cell : RCell → RCell → Bool
is_same_cell (cell.Counter a) (cell.Counter b) = pointwise nat_eq a.plus b.plus && pointwise nat_eq a.minus b.minus
is_same_cell (cell.Set a) (cell.Set b) = pointwise is_same_pair a.items b.items
is_same_cell (cell.Register a) (cell.Register b) = (a.stamp == b.stamp) && (a.device == b.device) && same_word a.word b.word
is_same_cell a b = false

-- the same of cells that may be absent
abbrev pub is_same_content : Option RCell → Option RCell → Bool
is_same_content None None = true
is_same_content (Some a) (Some b) = is_same_cell a b
is_same_content a b = false

-- a word is put for the id
abbrev pub is_put : List Put → ℕ → Bool
is_put puts id = list_any (λ put. put.id == id) puts

-- an entry touches a declaration: a turn what it sets, fires or operates on, and a merge the replicated cells whose content changes
abbrev pub touches : Program → State → Entry → RState → ℕ → Bool
touches p s (entry.Turn t) behind id = is_put t.sets.items id || is_put t.fires.items id || (is_replicated_at p.decls.items id && list_any (λ op. op.cell == replicated_place p.decls.items id) t.ops.items)
touches p s (entry.Merge r) behind id = is_replicated_at p.decls.items id && not (is_same_content (slice_get s.rep.cells.items (replicated_place p.decls.items id)) (slice_get behind.cells.items (replicated_place p.decls.items id)))

-- the declarations that an entry touches, ascending
abbrev pub touched : Program → State → Entry → RState → List ℕ
touched p s e behind = filter (touches p s e behind) (range_with_len 0 (length p.decls.items))
