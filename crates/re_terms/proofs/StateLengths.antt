-- How long the spelling of a replicated state is at most.
use Rattle.std.proofs.Common.{◌≡◌, ◌≤◌, ◌+◌, ◌*◌, ◌⊎◌, inl, inr, ℕ, zero, suc, List, [], ◌∷◌, ◌++◌, length, refl, arith, length-append}
use Rattle.std.specs.Prelude.{slice_index}
use Rattle.std.specs.Int.{w16, w32, w64, to_be_bytes, cast_unsigned}
use Rattle.std.specs.List.{flat_map, range_with_len, sum_by}
use Rattle.std.proofs.lemmas.List.Concat.{length-flat_map}
use Rattle.std.proofs.lemmas.List.FromFn.{length-range_with_len}
use Rattle.std.proofs.lemmas.List.Sums.{sum_by-cons}
use Rattle.re_terms.specs.declared.limits.TheConstants.{PACKET_BYTES, STATE_BYTES}
use Rattle.re_terms.specs.Shapes.{FitsShape, IsShape, pair_count}
use Rattle.re_terms.specs.Spellings.{word_bytes, vector_bytes, rows_bytes, pair_bytes, pairs_bytes, writer_bytes, register_bytes, cell_bytes, state_bytes, packet_bytes}
use Rattle.re_terms.specs.declared.word.Word.{Word}
use Rattle.re_terms.specs.declared.word.Word.TheVariants as word
use Rattle.re_terms.specs.declared.replicated.Pair.{Pair}
use Rattle.re_terms.specs.declared.replicated.RCell.{RCell}
use Rattle.re_terms.specs.declared.replicated.RCell.TheVariants as cell
use Rattle.re_terms.specs.declared.replicated.RState.{RState}
use Rattle.re_terms.specs.declared.replicated.Rows.{Rows}
use Rattle.re_terms.specs.declared.replicated.Shape.{Shape}
use Rattle.re_terms.specs.declared.replicated.Written.{Written}

long_8 : (n : ℕ) → length (to_be_bytes w64 n) ≡ 8
long_8 n = refl

long_4 : (n : ℕ) → length (to_be_bytes w32 n) ≡ 4
long_4 n = refl

long_2 : (n : ℕ) → length (to_be_bytes w16 n) ≡ 2
long_2 n = refl

word_long : (w : Word) → length (word_bytes w) ≤ 9
unfolding word_bytes
word_long (word.Int z) = omega (arith, long_8 (cast_unsigned w64 z))
word_long (word.Bool b) = omega arith
word_long (word.Sym n) = omega (arith, long_2 n)
word_long (word.Fault code) = omega (arith, long_4 code)

-- each of some pieces is of at most so many bytes
pieces_long : {X : Type 0} (f : X → List ℕ) (m : ℕ) (xs : List X) → ((x : X) → length (f x) ≤ m) → length (flat_map f xs) ≤ length xs * m
pieces_long f m [] each = omega arith
pieces_long f m (x ∷ xs) each =
    let rest = pieces_long f m xs each in
    let first = each x in
    let a = length-flat_map f (x ∷ xs) in
    let b = length-flat_map f xs in
    let c = sum_by-cons (λ y. length (f y)) x xs in
    omega arith

vector_long : (devices : ℕ) (counts : List ℕ) → devices ≤ 16 → length (vector_bytes devices counts) ≤ 128
unfolding vector_bytes
vector_long devices counts few =
    let e = pieces_long (λ device. to_be_bytes w64 (slice_index counts device)) 8 (range_with_len 0 devices) (λ device. omega (arith, long_8 (slice_index counts device))) in
    let n = length-range_with_len 0 devices in
    omega arith

rows_long : (devices : ℕ) (rows : Rows) → devices ≤ 16 → length (rows_bytes devices rows) ≤ 256
unfolding rows_bytes
rows_long devices rows few =
    let e = pieces_long (λ device. to_be_bytes w64 (slice_index rows.plus device) ++ to_be_bytes w64 (slice_index rows.minus device)) 16 (range_with_len 0 devices)
    (λ device. omega (arith, length-append (to_be_bytes w64 (slice_index rows.plus device)) (to_be_bytes w64 (slice_index rows.minus device)), long_8 (slice_index rows.plus device), long_8 (slice_index rows.minus device))) in
    let n = length-range_with_len 0 devices in
    omega arith

pair_long : (p : Pair) → length (pair_bytes p) ≤ 18
unfolding pair_bytes
pair_long p = omega (arith, length-append (word_bytes p.element) (p.dot.device ∷ to_be_bytes w64 p.dot.number), word_long p.element, long_8 p.dot.number)

pairs_long : (pairs : List Pair) → length (pairs_bytes pairs) ≤ 2 + length pairs * 18
unfolding pairs_bytes
pairs_long pairs = omega (arith, length-append (to_be_bytes w16 (length pairs)) (flat_map pair_bytes pairs), long_2 (length pairs), pieces_long pair_bytes 18 pairs pair_long)

writer_long : (stamp : ℕ) (w : Written) → length (writer_bytes stamp w) ≤ 10
writer_long zero w = omega arith
writer_long (suc stamp) w = omega (arith, word_long w.word)

register_long : (w : Written) → length (register_bytes w) ≤ 18
unfolding register_bytes
register_long w = omega (arith, length-append (to_be_bytes w64 w.stamp) (writer_bytes w.stamp w), long_8 w.stamp, writer_long w.stamp w)

-- a cell without pairs takes at most 256 bytes, and one with pairs 2 and 18 for each
cell_long : (devices : ℕ) (c : RCell) → devices ≤ 16 → ((pair_count c ≡ 0) × (length (cell_bytes devices c) ≤ 256)) ⊎ (length (cell_bytes devices c) ≤ 2 + pair_count c * 18)
cell_long devices (cell.Counter rows) few = inl (refl, rows_long devices rows few)
cell_long devices (cell.Set pairs) few = inr (pairs_long pairs.items)
cell_long devices (cell.Register w) few = let h = register_long w in inl (refl, omega arith)

-- cells: where none is a set, 256 bytes for each; else one of them takes 2 in place of them, and the pairs 18 each
cells_long : (devices : ℕ) (cells : List RCell) → devices ≤ 16 → ((sum_by pair_count cells ≡ 0) × (length (flat_map (cell_bytes devices) cells) ≤ length cells * 256)) ⊎ (length (flat_map (cell_bytes devices) cells) + 254 ≤ length cells * 256 + sum_by pair_count cells * 18)
cells_long devices [] few = inl (refl, omega arith)
cells_long devices (c ∷ cells) few =
    let a = length-flat_map (cell_bytes devices) (c ∷ cells) in
    let b = length-flat_map (cell_bytes devices) cells in
    let l = sum_by-cons (λ y. length (cell_bytes devices y)) c cells in
    let n = sum_by-cons pair_count c cells in
    elim (cell_long devices c few) [
      | inl one ↦ elim (cells_long devices cells few) [
        | inl rest ↦ let h = one.0 in let i = one.1 in let j = rest.0 in let k = rest.1 in inl (omega arith, omega arith)
        | inr rest ↦ let h = one.0 in let i = one.1 in inr (omega arith)
      ]
      | inr one ↦ elim (cells_long devices cells few) [
        | inl rest ↦ let j = rest.0 in let k = rest.1 in inr (omega arith)
        | inr rest ↦ inr (omega arith)
      ]
    ]

pub state_long : (shape : Shape) (r : RState) → IsShape shape → FitsShape shape r → length (state_bytes shape.devices r) ≤ STATE_BYTES
unfolding state_bytes
state_long shape r is fits =
    let few = is.devices in
    let count = fits.count in
    let cells = is.cells in
    let pairs = fits.pairs in
    let a = length-append (vector_bytes shape.devices r.vector.counts) (flat_map (cell_bytes shape.devices) r.cells.items) in
    let v = vector_long shape.devices r.vector.counts few in
    elim (cells_long shape.devices r.cells.items few) [
      | inl one ↦ let h = one.1 in omega arith
      | inr one ↦ omega arith
    ]

pub packet_long : (shape : Shape) (r : RState) → IsShape shape → FitsShape shape r → length (packet_bytes shape.devices r) ≤ PACKET_BYTES
unfolding packet_bytes
packet_long shape r is fits = let h = state_long shape r is fits in omega arith
