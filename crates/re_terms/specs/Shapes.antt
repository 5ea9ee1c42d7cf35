-- The shape of a program's replicated states, the states that fit it, and the start states.
-- Read against: `device a; device b; symbol red; counter c; set s: sym;` has 2 devices, 1 symbol and the kinds counter and set of symbols;
-- its start state has zeros for both devices and for c, and no pair; a pair of s fits where its element is the symbol 0 and the vector covers its dot.
use Rattle.std.specs.Prelude.{ℕ, ◌^◌, ◌<◌, ◌≤◌, ◌≡◌, ◌&&◌, Bool, true, false, List, [], length, map, nat_lt, nat_le, Option, None, Some, slice_get, slice_index, count_by, replicate}
use Rattle.std.specs.List.{All, filter_map, list_all, sum_by}
use Rattle.std.specs.List.Sorted.{IsStrictlySortedBy}
use Rattle.re_terms.specs.Arithmetic.{is_word_number}
use Rattle.re_terms.specs.Listed.{plain}
use Rattle.re_terms.specs.Programs.{is_device, is_symbol}
use Rattle.re_terms.specs.WordOrder.{pair_cmp}
use Rattle.re_terms.specs.declared.limits.TheConstants.{PAIRS}
use Rattle.re_terms.specs.declared.word.Word.{Word}
use Rattle.re_terms.specs.declared.word.Word.TheVariants as word
use Rattle.re_terms.specs.declared.word.Kind.{Kind}
use Rattle.re_terms.specs.declared.word.Kind.TheVariants as kind
use Rattle.re_terms.specs.declared.program.Body.{Body}
use Rattle.re_terms.specs.declared.program.Body.TheVariants as body
use Rattle.re_terms.specs.declared.program.Decl.{Decl}
use Rattle.re_terms.specs.declared.program.Program.{Program}
use Rattle.re_terms.specs.declared.entry.State.{State}
use Rattle.re_terms.specs.declared.replicated.Pair.{Pair}
use Rattle.re_terms.specs.declared.replicated.RCell.{RCell}
use Rattle.re_terms.specs.declared.replicated.RCell.TheVariants as cell
use Rattle.re_terms.specs.declared.replicated.RKind.{RKind}
use Rattle.re_terms.specs.declared.replicated.RKind.TheVariants as replicated
use Rattle.re_terms.specs.declared.replicated.RState.{RState}
use Rattle.re_terms.specs.declared.replicated.Shape.{Shape}
use Rattle.re_terms.specs.declared.replicated.Written.{Written}

-- what a declaration is as a replicated cell, where it is one
abbrev pub replicated_kind : Body → Option RKind
replicated_kind body.Counter = Some replicated.Counter
replicated_kind (body.Set k) = Some (replicated.Set k)
replicated_kind (body.Register k start) = Some (replicated.Register k start)
replicated_kind b = None

-- the kinds of the replicated cells, in order of declaration
abbrev pub replicated_kinds : List Decl → List RKind
replicated_kinds decls = filter_map (λ d. replicated_kind d.body) decls

abbrev pub shape_of : Program → Shape
shape_of p = record { devices = count_by is_device p.decls.items; symbols = count_by is_symbol p.decls.items; cells = plain (replicated_kinds p.decls.items) }

-- a shape that a program can have: at most 16 devices, 512 symbols and 32 replicated cells
pub record IsShape (shape : Shape) : Type 0 where
  pub devices : shape.devices ≤ 16
  pub symbols : shape.symbols ≤ 512
  pub cells : length shape.cells.items ≤ 32

-- one 0 for each of 16 devices
abbrev pub zeros : List ℕ
zeros = replicate 16 0

-- a replicated cell before any update
abbrev pub start_cell : RKind → RCell
start_cell replicated.Counter = cell.Counter (record { plus = zeros; minus = zeros })
start_cell (replicated.Set k) = cell.Set (plain [])
start_cell (replicated.Register k start) = cell.Register (record { stamp = 0; device = 0; word = start })

-- the replicated state before any update
abbrev pub start_replicated : Shape → RState
start_replicated shape = record { vector = record { counts = zeros }; cells = plain (map start_cell shape.cells.items) }

-- a var's or a fold's start word
abbrev pub start_word : Body → Option Word
start_word (body.Var k start region) = Some start
start_word (body.Fold k start source expr region) = Some start
start_word b = None

-- the start words of vars and folds, in order of declaration
abbrev pub start_words : List Decl → List Word
start_words decls = filter_map (λ d. start_word d.body) decls

-- the state before any entry
abbrev pub start_state : Program → State
start_state p = record { words = plain (start_words p.decls.items); rep = start_replicated (shape_of p) }

-- a word of this kind, and no fault; a symbol is below their count
abbrev pub is_word_of : ℕ → Kind → Word → Bool
is_word_of symbols kind.Int (word.Int z) = is_word_number z
is_word_of symbols kind.Bool (word.Bool b) = true
is_word_of symbols kind.Sym (word.Sym number) = nat_lt number symbols
is_word_of symbols k w = false

-- one number per device, for 16 of them: each is below the bound, and there is none but 0 past the count of devices
pub record AreOfDevices (devices bound : ℕ) (numbers : List ℕ) : Type 0 where
  pub places : length numbers ≡ 16
  pub bounded : All (λ n. n < bound) numbers
  pub none : (device : ℕ) → devices ≤ device → slice_index numbers device ≡ 0

-- a pair's element is of the set's kind, and the vector covers its dot
abbrev pub is_pair_of : Shape → Kind → List ℕ → Pair → Bool
is_pair_of shape k counts p = is_word_of shape.symbols k p.element && nat_lt p.dot.device shape.devices && nat_lt 0 p.dot.number && nat_le p.dot.number (slice_index counts p.dot.device)

-- a register's stamp is below 2^52; at stamp 0 it has device 0 and its start word, and else a word of its kind that a device wrote
pub record FitsRegister (shape : Shape) (k : Kind) (start : Word) (w : Written) : Type 0 where
  pub bounded : w.stamp < 2 ^ 52
  pub unwritten : w.stamp ≡ 0 → (w.device ≡ 0) × (w.word ≡ start)
  pub written : 0 < w.stamp → (w.device < shape.devices) × (is_word_of shape.symbols k w.word ≡ true)

-- a cell is of this kind, its numbers are in their ranges, and nothing is reserved in its list
abbrev pub FitsKind : Shape → List ℕ → RKind → RCell → Type 0
FitsKind shape counts replicated.Counter (cell.Counter rows) = AreOfDevices shape.devices (2 ^ 63) rows.plus × AreOfDevices shape.devices (2 ^ 63) rows.minus
FitsKind shape counts (replicated.Set k) (cell.Set pairs) = IsStrictlySortedBy pair_cmp pairs.items × (list_all (is_pair_of shape k counts) pairs.items ≡ true) × (pairs.spare ≡ 0)
FitsKind shape counts (replicated.Register k start) (cell.Register w) = FitsRegister shape k start w
FitsKind shape counts k c = ⊥

-- how many pairs a cell has
abbrev pub pair_count : RCell → ℕ
pair_count (cell.Set pairs) = length pairs.items
pair_count c = 0

-- a replicated state of this shape, with nothing reserved in its list of cells
pub record FitsShape (shape : Shape) (r : RState) : Type 0 where
  pub plain : r.cells.spare ≡ 0
  pub counts : AreOfDevices shape.devices (2 ^ 48) r.vector.counts
  pub count : length r.cells.items ≡ length shape.cells.items
  pub cells : (place : ℕ) (k : RKind) (c : RCell) → slice_get shape.cells.items place ≡ Some k → slice_get r.cells.items place ≡ Some c → FitsKind shape r.vector.counts k c
  -- all sets together have at most 1,024 pairs
  pub pairs : sum_by pair_count r.cells.items ≤ PAIRS
