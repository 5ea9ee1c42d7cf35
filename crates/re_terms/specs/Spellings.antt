-- The bytes of words, replicated states and packets. Numbers are unsigned and big-endian, an int is 8 bytes in two's complement.
-- Read against: with two devices and `set s: int;` the packet of the pair of 4 by dot (0, 1) is 01, the vector 0000000000000001 0000000000000000, the count 0001, the element 00 0000000000000004, the device 00 and the number 0000000000000001.
-- The word -1 is 00 ffffffffffffffff, `true` is 01 01, the symbol 2 is 02 0002, and the fault 100 is 03 00000064.
use Rattle.std.specs.Prelude.{ℕ, zero, suc, Bool, true, false, List, [], ◌∷◌, ◌++◌, length, slice_index}
use Rattle.std.specs.Int.{w16, w32, w64, to_be_bytes, cast_unsigned}
use Rattle.std.specs.List.{flat_map, range_with_len}
use Rattle.re_terms.specs.declared.word.Word.{Word}
use Rattle.re_terms.specs.declared.word.Word.TheVariants as word
use Rattle.re_terms.specs.declared.replicated.Pair.{Pair}
use Rattle.re_terms.specs.declared.replicated.RCell.{RCell}
use Rattle.re_terms.specs.declared.replicated.RCell.TheVariants as cell
use Rattle.re_terms.specs.declared.replicated.RState.{RState}
use Rattle.re_terms.specs.declared.replicated.Rows.{Rows}
use Rattle.re_terms.specs.declared.replicated.Written.{Written}

abbrev pub bool_byte : Bool → ℕ
bool_byte true = 1
bool_byte false = 0

-- a tag, and then the value
unfoldable pub word_bytes : Word → List ℕ
word_bytes (word.Int z) = 0 ∷ to_be_bytes w64 (cast_unsigned w64 z)
word_bytes (word.Bool b) = 1 ∷ bool_byte b ∷ []
word_bytes (word.Sym n) = 2 ∷ to_be_bytes w16 n
word_bytes (word.Fault code) = 3 ∷ to_be_bytes w32 code

-- a number for each of so many devices
unfoldable pub vector_bytes : ℕ → List ℕ → List ℕ
vector_bytes devices counts = flat_map (λ device. to_be_bytes w64 (slice_index counts device)) (range_with_len 0 devices)

-- for each of so many devices its increments and its decrements
unfoldable pub rows_bytes : ℕ → Rows → List ℕ
rows_bytes devices rows = flat_map (λ device. to_be_bytes w64 (slice_index rows.plus device) ++ to_be_bytes w64 (slice_index rows.minus device)) (range_with_len 0 devices)

-- the element, and the dot
unfoldable pub pair_bytes : Pair → List ℕ
pair_bytes p = word_bytes p.element ++ p.dot.device ∷ to_be_bytes w64 p.dot.number

-- how many pairs, and each of them
unfoldable pub pairs_bytes : List Pair → List ℕ
pairs_bytes pairs = to_be_bytes w16 (length pairs) ++ flat_map pair_bytes pairs

-- who wrote what; nothing at stamp 0
abbrev pub writer_bytes : ℕ → Written → List ℕ
writer_bytes zero w = []
writer_bytes (suc stamp) w = w.device ∷ word_bytes w.word

unfoldable pub register_bytes : Written → List ℕ
register_bytes w = to_be_bytes w64 w.stamp ++ writer_bytes w.stamp w

abbrev pub cell_bytes : ℕ → RCell → List ℕ
cell_bytes devices (cell.Counter rows) = rows_bytes devices rows
cell_bytes devices (cell.Set pairs) = pairs_bytes pairs.items
cell_bytes devices (cell.Register w) = register_bytes w

-- the vector, and the cells in order
unfoldable pub state_bytes : ℕ → RState → List ℕ
state_bytes devices r = vector_bytes devices r.vector.counts ++ flat_map (cell_bytes devices) r.cells.items

-- a format byte, and the state
unfoldable pub packet_bytes : ℕ → RState → List ℕ
packet_bytes devices r = 1 ∷ state_bytes devices r
