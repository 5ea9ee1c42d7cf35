-- Reading words, replicated states and packets from left to right: a value and the place behind it, or the place of the first field that is cut off or holds a value that isn't allowed.
-- Read against: with one device and no replicated cell the byte 02 is refused at 0 and the byte 01 at 1; 01 and eight zero bytes are the state without updates, and with one more byte they are refused at 9.
-- With two devices and `set s: int;`, in the packet 01, 0000000000000001 0000000000000000, 0001, 00 0000000000000004, 00, 0000000000000001 the tag of the element stands at 19, the device at 28 and the number at 29:
-- a tag of 1 is refused at 19, a device of 2 at 28, a number of 0 or 2 at 29, and the count 0401 at 17. Of two such pairs the second is refused at its tag.
use Rattle.std.specs.Prelude.{◌≡◌, ℕ, ◌+◌, ◌-◌, ◌^◌, zero, suc, Bool, false, ◌&&◌, ◌||◌, ◌==◌, nat_eq, nat_lt, nat_le, List, [], ◌∷◌, ◌++◌, length, map, take, drop, replicate, Option, Some, None, Result, Ok, Err, if◌then◌else◌}
use Rattle.std.specs.Int.{Width, w8, w16, w32, w64, byte_len, from_be_bytes, cast_signed}
use Rattle.std.specs.Ordering.{is_lt, is_eq}
use Rattle.re_terms.specs.CellStates.{unwritten}
use Rattle.re_terms.specs.Layouts.{layout_of}
use Rattle.re_terms.specs.Listed.{Listed, plain}
use Rattle.re_terms.specs.Shapes.{is_word_of, pair_count}
use Rattle.re_terms.specs.Trees.{is_fault_code}
use Rattle.re_terms.specs.Vectors.{covers}
use Rattle.re_terms.specs.WordOrder.{word_cmp}
use Rattle.re_terms.specs.declared.word.Word.{Word}
use Rattle.re_terms.specs.declared.word.Word.TheVariants as word
use Rattle.re_terms.specs.declared.word.Kind.{Kind}
use Rattle.re_terms.specs.declared.word.Kind.TheVariants as kind
use Rattle.re_terms.specs.declared.replicated.Layout.{Layout}
use Rattle.re_terms.specs.declared.replicated.Layout.TheVariants as layout
use Rattle.re_terms.specs.declared.replicated.Pair.{Pair}
use Rattle.re_terms.specs.declared.replicated.RCell.{RCell}
use Rattle.re_terms.specs.declared.replicated.RCell.TheVariants as cell
use Rattle.re_terms.specs.declared.replicated.RKind.{RKind}
use Rattle.re_terms.specs.declared.replicated.RState.{RState}
use Rattle.re_terms.specs.declared.replicated.Rows.{Rows}
use Rattle.re_terms.specs.declared.replicated.Shape.{Shape}
use Rattle.re_terms.specs.declared.replicated.Vector.{Vector}
use Rattle.re_terms.specs.declared.replicated.Written.{Written}
use Rattle.re_wire.specs.declared.fault.WireFault.{WireFault}
use Rattle.re_wire.specs.declared.fault.WireFault.TheVariants as faults

infixl 10 ◌>>=◌
abbrev pub ◌>>=◌ : {A B : Type 0} → Result A ℕ → (A → Result B ℕ) → Result B ℕ
(Ok x) >>= f = f x
(Err at) >>= f = Err at

-- ---- what a function returned is what reading gives

abbrev pub Refuses : {X : Type 0} → WireFault → Result X ℕ → Type 0
Refuses faults.Memory read = ⊥
Refuses (faults.At place) read = read ≡ Err place

abbrev pub Reads : {X : Type 0} → Result X WireFault → Result X ℕ → Type 0
Reads (Ok x) read = read ≡ Ok x
Reads (Err e) read = Refuses e read

-- the same, unless memory ran out

abbrev pub Fails : {X : Type 0} → WireFault → Result X ℕ → Type 0
Fails faults.Memory read = Unit {0}
Fails (faults.At place) read = read ≡ Err place

abbrev pub Gives : {X : Type 0} → Result X WireFault → Result X ℕ → Type 0
Gives (Ok x) read = read ≡ Ok x
Gives (Err e) read = Fails e read

-- ---- numbers

-- a big-endian number of this width
abbrev pub number_at : Width → List ℕ → ℕ → Result (ℕ × ℕ) ℕ
number_at w bytes at = if nat_lt (length bytes) (at + byte_len w) then Err at else Ok (from_be_bytes w (take (byte_len w) (drop at bytes)), at + byte_len w)

-- such a number, below a bound
unfoldable pub below_at : Width → ℕ → List ℕ → ℕ → Result (ℕ × ℕ) ℕ
below_at w bound bytes at = do
  number ← number_at w bytes at
  if nat_lt number.0 bound then Ok number else Err at

-- so many values, one behind the other
unfoldable pub several_at : {X : Type 0} → (ℕ → Result (X × ℕ) ℕ) → ℕ → ℕ → Result (List X × ℕ) ℕ
several_at read zero at = Ok ([], at)
several_at read (suc count) at = do
  first ← read at
  others ← several_at read count first.1
  Ok (first.0 ∷ others.0, others.1)

-- a list of what was read, with nothing reserved
abbrev pub listed : {X : Type 0} → Result (List X × ℕ) ℕ → Result (Listed X × ℕ) ℕ
listed read = do
  items ← read
  Ok (plain items.0, items.1)

-- ---- words

unfoldable pub int_at : List ℕ → ℕ → Result (Word × ℕ) ℕ
int_at bytes at = do
  number ← number_at w64 bytes at
  Ok (word.Int (cast_signed w64 number.0), number.1)

-- 0 is `false`, and 1 `true`
unfoldable pub bool_at : List ℕ → ℕ → Result (Word × ℕ) ℕ
bool_at bytes at = do
  number ← below_at w8 2 bytes at
  Ok (word.Bool (number.0 == 1), number.1)

unfoldable pub symbol_at : ℕ → List ℕ → ℕ → Result (Word × ℕ) ℕ
symbol_at symbols bytes at = do
  number ← below_at w16 symbols bytes at
  Ok (word.Sym number.0, number.1)

-- the codes of faults: overflow, division by zero, and those of `fault(n)`
abbrev pub is_code : ℕ → Bool
is_code code = code == 1 || code == 2 || is_fault_code code

unfoldable pub fault_at : List ℕ → ℕ → Result (Word × ℕ) ℕ
fault_at bytes at = do
  number ← number_at w32 bytes at
  if is_code number.0 then Ok (word.Fault number.0, number.1) else Err at

-- the tag of a kind's words
abbrev pub tag_of : Kind → ℕ
tag_of kind.Int = 0
tag_of kind.Bool = 1
tag_of kind.Sym = 2

-- the value of a word of a kind, behind its tag
abbrev pub value_at : Kind → ℕ → List ℕ → ℕ → Result (Word × ℕ) ℕ
value_at kind.Int symbols bytes at = int_at bytes at
value_at kind.Bool symbols bytes at = bool_at bytes at
value_at kind.Sym symbols bytes at = symbol_at symbols bytes at

-- a tag, and then the value: of the kind, or a fault where faults are allowed
unfoldable pub word_at : Kind → Bool → ℕ → List ℕ → ℕ → Result (Word × ℕ) ℕ
word_at k fold symbols bytes at = do
  tag ← number_at w8 bytes at
  if fold && tag.0 == 3 then fault_at bytes tag.1 else if tag.0 == tag_of k then value_at k symbols bytes tag.1 else Err at

-- a word that may stand there: of the kind, or a fault where faults are allowed
abbrev pub is_allowed_word : Kind → Bool → ℕ → Word → Bool
is_allowed_word k fold symbols (word.Fault code) = fold && is_code code
is_allowed_word k fold symbols w = is_word_of symbols k w

-- ---- vectors and counters

-- 16 places, 0 past the numbers that were read
abbrev pub padded : List ℕ → List ℕ
padded numbers = numbers ++ replicate (16 - length numbers) 0

unfoldable pub vector_at : ℕ → List ℕ → ℕ → Result (Vector × ℕ) ℕ
vector_at devices bytes at = do
  numbers ← several_at (below_at w64 (2 ^ 48) bytes) devices at
  Ok (record { counts = padded numbers.0 }, numbers.1)

-- a device's increments, and then its decrements
unfoldable pub row_at : List ℕ → ℕ → Result ((ℕ × ℕ) × ℕ) ℕ
row_at bytes at = do
  plus ← below_at w64 (2 ^ 63) bytes at
  minus ← below_at w64 (2 ^ 63) bytes plus.1
  Ok ((plus.0, minus.0), minus.1)

unfoldable pub rows_at : ℕ → List ℕ → ℕ → Result (Rows × ℕ) ℕ
rows_at devices bytes at = do
  rows ← several_at (row_at bytes) devices at
  Ok (record { plus = padded (map (λ row. row.0) rows.0); minus = padded (map (λ row. row.1) rows.0) }, rows.1)

-- ---- pairs

-- by its element alone a pair stands before the one that was read before it
abbrev pub element_descends : Option Pair → Word → Bool
element_descends None element = false
element_descends (Some p) element = is_lt (word_cmp element p.element)

-- it does so by its device, the elements being equal
abbrev pub device_descends : Option Pair → Word → ℕ → Bool
device_descends None element device = false
device_descends (Some p) element device = is_eq (word_cmp element p.element) && nat_lt device p.dot.device

-- it does so by its number, or both are equal, the elements and devices being equal
abbrev pub number_descends : Option Pair → Word → ℕ → ℕ → Bool
number_descends None element device number = false
number_descends (Some p) element device number = is_eq (word_cmp element p.element) && nat_eq device p.dot.device && nat_le number p.dot.number

-- a pair's element; one that is out of order is refused at its tag
unfoldable pub element_at : Kind → ℕ → Option Pair → List ℕ → ℕ → Result (Word × ℕ) ℕ
element_at k symbols before bytes at = do
  element ← word_at k false symbols bytes at
  if element_descends before element.0 then Err at else Ok element

-- a pair's device; the pair begins at start, and one that is out of order is refused there
unfoldable pub device_at : ℕ → Option Pair → Word → ℕ → List ℕ → ℕ → Result (ℕ × ℕ) ℕ
device_at devices before element start bytes at = do
  device ← number_at w8 bytes at
  if device_descends before element device.0 then Err start else if nat_lt device.0 devices then Ok device else Err at

-- a pair's number, which the vector covers; the pair begins at start, and one that is out of order is refused there
unfoldable pub covered_at : List ℕ → Option Pair → Word → ℕ → ℕ → List ℕ → ℕ → Result (ℕ × ℕ) ℕ
covered_at counts before element device start bytes at = do
  number ← number_at w64 bytes at
  if number_descends before element device number.0 then Err start else if covers counts (record { device = device; number = number.0 }) then Ok number else Err at

-- a pair, behind the one before it
unfoldable pub pair_at : Shape → Kind → List ℕ → Option Pair → List ℕ → ℕ → Result (Pair × ℕ) ℕ
pair_at shape k counts before bytes at = do
  element ← element_at k shape.symbols before bytes at
  device ← device_at shape.devices before element.0 at bytes element.1
  number ← covered_at counts before element.0 device.0 at bytes device.1
  Ok (record { element = element.0; dot = record { device = device.0; number = number.0 } }, number.1)

-- so many pairs, behind the one before them
unfoldable pub ascending_at : Shape → Kind → List ℕ → ℕ → Option Pair → List ℕ → ℕ → Result (List Pair × ℕ) ℕ
ascending_at shape k counts zero before bytes at = Ok ([], at)
ascending_at shape k counts (suc count) before bytes at = do
  first ← pair_at shape k counts before bytes at
  others ← ascending_at shape k counts count (Some first.0) bytes first.1
  Ok (first.0 ∷ others.0, others.1)

-- how many pairs, at most as many as there is room for, and each of them
unfoldable pub pairs_at : Shape → Kind → List ℕ → ℕ → List ℕ → ℕ → Result (Listed Pair × ℕ) ℕ
pairs_at shape k counts room bytes at = do
  count ← below_at w16 (room + 1) bytes at
  listed (ascending_at shape k counts count.0 None bytes count.1)

-- ---- registers

-- who wrote what, with this stamp
unfoldable pub writer_at : Shape → Kind → ℕ → List ℕ → ℕ → Result (Written × ℕ) ℕ
writer_at shape k stamp bytes at = do
  device ← below_at w8 shape.devices bytes at
  written ← word_at k false shape.symbols bytes device.1
  Ok (record { stamp = stamp; device = device.0; word = written.0 }, written.1)

-- a stamp, and the write; stamp 0 is the start word, with nothing behind it
unfoldable pub register_at : Shape → Kind → Word → List ℕ → ℕ → Result (Written × ℕ) ℕ
register_at shape k start bytes at = do
  stamp ← below_at w64 (2 ^ 52) bytes at
  if stamp.0 == 0 then Ok (unwritten start, stamp.1) else writer_at shape k stamp.0 bytes stamp.1

-- ---- states and packets

-- what a cell of this layout consists of, where there is room for so many pairs
unfoldable pub content_at : Shape → List ℕ → ℕ → Layout → List ℕ → ℕ → Result (RCell × ℕ) ℕ
content_at shape counts room layout.Rows bytes at = do
  rows ← rows_at shape.devices bytes at
  Ok (cell.Counter rows.0, rows.1)
content_at shape counts room (layout.Pairs k) bytes at = do
  pairs ← pairs_at shape k counts room bytes at
  Ok (cell.Set pairs.0, pairs.1)
content_at shape counts room (layout.Written k start) bytes at = do
  written ← register_at shape k start bytes at
  Ok (cell.Register written.0, written.1)

-- a cell of this kind, where there is room for so many pairs
abbrev pub cell_at : Shape → List ℕ → ℕ → RKind → List ℕ → ℕ → Result (RCell × ℕ) ℕ
cell_at shape counts room k bytes at = content_at shape counts room (layout_of k) bytes at

-- cells of these kinds, where there is room for so many pairs in all of them
unfoldable pub cells_at : Shape → List ℕ → ℕ → List RKind → List ℕ → ℕ → Result (List RCell × ℕ) ℕ
cells_at shape counts room [] bytes at = Ok ([], at)
cells_at shape counts room (k ∷ ks) bytes at = do
  first ← cell_at shape counts room k bytes at
  others ← cells_at shape counts (room - pair_count first.0) ks bytes first.1
  Ok (first.0 ∷ others.0, others.1)

unfoldable pub state_at : Shape → List ℕ → ℕ → Result (RState × ℕ) ℕ
state_at shape bytes at = do
  vector ← vector_at shape.devices bytes at
  cells ← listed (cells_at shape vector.0.counts 1024 shape.cells.items bytes vector.1)
  Ok (record { vector = vector.0; cells = cells.0 }, cells.1)

-- the byte 1
unfoldable pub format_at : List ℕ → ℕ → Result (ℕ × ℕ) ℕ
format_at bytes at = do
  format ← number_at w8 bytes at
  if format.0 == 1 then Ok format else Err at

-- the format, and a state up to the end of the bytes
unfoldable pub packet_at : Shape → List ℕ → Result RState ℕ
packet_at shape bytes = do
  format ← format_at bytes 0
  state ← state_at shape bytes format.1
  if nat_lt state.1 (length bytes) then Err state.1 else Ok state.0
