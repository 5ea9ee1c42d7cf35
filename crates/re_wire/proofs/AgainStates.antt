-- A state or a packet that fits the shape is read again from its bytes.
use Rattle.std.proofs.Common.{◌≡◌, ℕ, zero, suc, ◌+◌, ◌-◌, ◌^◌, ◌<◌, ◌≤◌, true, false, cond, ltb, eqb, List, [], ◌∷◌, ◌++◌, length, drop, Some, Ok, refl, sym, ap, subst, ◌∙◌, arith, inl}
use Rattle.std.specs.Prelude.{slice_get}
use Rattle.std.specs.Int.{w8, w64, to_be_bytes}
use Rattle.std.specs.List.{flat_map, sum_by}
use Rattle.std.proofs.lemmas.Bool.{le-ltb, ne_eqb}
use Rattle.std.proofs.lemmas.List.{append-nil, drop_all}
use Rattle.std.proofs.lemmas.List.Concat.{flat_map-cons}
use Rattle.std.proofs.lemmas.List.Sums.{sum_by-cons}
use Rattle.re_terms.specs.CellStates.{unwritten}
use Rattle.re_terms.specs.Layouts.{layout_of}
use Rattle.re_terms.specs.Listed.{Listed, plain}
use Rattle.re_terms.specs.Shapes.{is_word_of, FitsKind, FitsRegister, FitsShape, IsShape, pair_count}
use Rattle.re_terms.specs.Spellings.{cell_bytes, packet_bytes, register_bytes, state_bytes, vector_bytes, word_bytes, writer_bytes}
use Rattle.re_terms.specs.declared.word.Word.{Word}
use Rattle.re_terms.specs.declared.word.Kind.{Kind}
use Rattle.re_terms.specs.declared.replicated.Layout.{Layout}
use Rattle.re_terms.specs.declared.replicated.Layout.TheVariants as layout
use Rattle.re_terms.specs.declared.replicated.Pair.{Pair}
use Rattle.re_terms.specs.declared.replicated.RCell.{RCell}
use Rattle.re_terms.specs.declared.replicated.RCell.TheVariants as cell
use Rattle.re_terms.specs.declared.replicated.RKind.{RKind}
use Rattle.re_terms.specs.declared.replicated.RKind.TheVariants as kind
use Rattle.re_terms.specs.declared.replicated.RState.{RState}
use Rattle.re_terms.specs.declared.replicated.Shape.{Shape}
use Rattle.re_terms.specs.declared.replicated.Written.{Written}
use Rattle.re_wire.specs.Reading.{number_at, writer_at, register_at, content_at, cells_at, state_at, format_at, packet_at}
use Rattle.re_wire.proofs.Takes.{Takes, Takes-first, Takes-second, Takes-between, Takes-from, byte_is, wide8, wide64, number_again, below_again}
use Rattle.re_wire.proofs.AgainWords.{word_read}
use Rattle.re_wire.proofs.AgainRows.{below_bound, rows_again, vector_again}
use Rattle.re_wire.proofs.AgainPairs.{AreCounts, pairs_again}
use Rattle.re_wire.proofs.TakesStates.{AllFit, FitsLayout}

-- ---- registers

writer_again : (shape : Shape) (k : Kind) (bytes : List ℕ) (at : ℕ) (w : Written) (place : ℕ) → IsShape shape → w.device < shape.devices → is_word_of shape.symbols k w.word ≡ true → Takes bytes at (w.device ∷ word_bytes w.word) place
    → writer_at shape k w.stamp bytes at ≡ Ok (w, place)
unfolding writer_at
writer_again shape k bytes at w place is lt word t =
    let few = is.devices in
    let symbols = is.symbols in
    let byte : w.device ∷ [] ≡ to_be_bytes w8 w.device = sym (byte_is w.device (omega arith)) in
    let device : Takes bytes at (to_be_bytes w8 w.device) (at + 1) = subst (λ (l : List ℕ). Takes bytes at l (at + 1)) byte (Takes-first bytes at (w.device ∷ []) (word_bytes w.word) place t) in
    let written = Takes-second bytes at (w.device ∷ []) (word_bytes w.word) place t in
    rw (
      below_again w8 (2 ^ 8) wide8 shape.devices bytes at w.device (at + 1) (omega arith) lt device,
      word_read k false shape.symbols bytes (at + 1) w.word place (omega arith) (inl word) written,
    ) refl

-- a register by its stamp
by_stamp : (shape : Shape) (k : Kind) (start : Word) (bytes : List ℕ) (at : ℕ) (stamp : ℕ) (w : Written) (place : ℕ) → IsShape shape → FitsRegister shape k start w → w.stamp ≡ stamp → Takes bytes at (writer_bytes stamp w) place
    → cond (eqb stamp 0) (Ok (unwritten start, at)) (writer_at shape k stamp bytes at) ≡ Ok (w, place)
by_stamp shape k start bytes at zero w place is fits same t =
    let none = fits.unwritten same in
    let end : place ≡ at = omega (arith, t.place_is) in
    λ i. Ok (record { stamp = sym same i; device = sym none.0 i; word = sym none.1 i }, sym end i)
by_stamp shape k start bytes at (suc stamp) w place is fits same t =
    let some = fits.written (omega arith) in
    let positive : eqb (suc stamp) 0 ≡ false = ne_eqb (suc stamp) 0 (λ e. omega arith) in
    rw positive (subst (λ (n : ℕ). writer_at shape k n bytes at ≡ Ok (w, place)) same (writer_again shape k bytes at w place is some.0 some.1 t))

register_again : (shape : Shape) (k : Kind) (start : Word) (bytes : List ℕ) (at : ℕ) (w : Written) (place : ℕ) → IsShape shape → FitsRegister shape k start w → Takes bytes at (register_bytes w) place → register_at shape k start bytes at ≡ Ok (w, place)
unfolding register_at register_bytes
register_again shape k start bytes at w place is fits t =
    let mid = at + length (to_be_bytes w64 w.stamp) in
    let bounded = fits.bounded in
    rw (below_again w64 (2 ^ 64) wide64 (2 ^ 52) bytes at w.stamp mid (omega arith) bounded (Takes-first bytes at (to_be_bytes w64 w.stamp) (writer_bytes w.stamp w) place t))
    (by_stamp shape k start bytes mid w.stamp w place is fits refl (Takes-second bytes at (to_be_bytes w64 w.stamp) (writer_bytes w.stamp w) place t))

-- ---- cells

layout_fits : (shape : Shape) (counts : List ℕ) (k : RKind) (c : RCell) → FitsKind shape counts k c → FitsLayout shape counts (layout_of k) c
layout_fits shape counts kind.Counter (cell.Counter rows) h = h
layout_fits shape counts (kind.Set k) (cell.Set pairs) h = h
layout_fits shape counts (kind.Register k start) (cell.Register w) h = h
layout_fits shape counts kind.Counter (cell.Set pairs) h = absurd h
layout_fits shape counts kind.Counter (cell.Register w) h = absurd h
layout_fits shape counts (kind.Set k) (cell.Counter rows) h = absurd h
layout_fits shape counts (kind.Set k) (cell.Register w) h = absurd h
layout_fits shape counts (kind.Register k start) (cell.Counter rows) h = absurd h
layout_fits shape counts (kind.Register k start) (cell.Set pairs) h = absurd h

content_again : (shape : Shape) (counts : List ℕ) (room : ℕ) (l : Layout) (bytes : List ℕ) (at : ℕ) (c : RCell) (place : ℕ) → IsShape shape → AreCounts counts → room ≤ 1024 → FitsLayout shape counts l c → pair_count c ≤ room → Takes bytes at (cell_bytes shape.devices c) place
    → content_at shape counts room l bytes at ≡ Ok (c, place)
unfolding content_at
content_again shape counts room layout.Rows bytes at (cell.Counter rows) place is wide most fits within t = rw (rows_again shape.devices bytes at rows place is.devices fits.0 fits.1 t) refl
content_again shape counts room (layout.Pairs k) bytes at (cell.Set pairs) place is wide most fits within t =
    let alone : plain pairs.items ≡ pairs = (λ i. record { items = pairs.items; spare = sym fits.2 i }) in
    rw (pairs_again shape k counts room bytes at pairs.items place is wide most within fits.0 fits.1 t) (ap (λ (ps : Listed Pair). Ok (cell.Set ps, place)) alone)
content_again shape counts room (layout.Written k start) bytes at (cell.Register w) place is wide most fits within t = rw (register_again shape k start bytes at w place is fits t) refl
content_again shape counts room layout.Rows bytes at (cell.Set pairs) place is wide most fits within t = absurd fits
content_again shape counts room layout.Rows bytes at (cell.Register w) place is wide most fits within t = absurd fits
content_again shape counts room (layout.Pairs k) bytes at (cell.Counter rows) place is wide most fits within t = absurd fits
content_again shape counts room (layout.Pairs k) bytes at (cell.Register w) place is wide most fits within t = absurd fits
content_again shape counts room (layout.Written k start) bytes at (cell.Counter rows) place is wide most fits within t = absurd fits
content_again shape counts room (layout.Written k start) bytes at (cell.Set pairs) place is wide most fits within t = absurd fits

cells_again : (shape : Shape) (counts : List ℕ) (room : ℕ) (ks : List RKind) (bytes : List ℕ) (at : ℕ) (cs : List RCell) (place : ℕ) → IsShape shape → AreCounts counts → room ≤ 1024 → AllFit shape counts ks cs → sum_by pair_count cs ≤ room → Takes bytes at (flat_map (cell_bytes shape.devices) cs) place
    → cells_at shape counts room ks bytes at ≡ Ok (cs, place)
unfolding cells_at
cells_again shape counts room [] bytes at [] place is wide most fit within t = let end : place ≡ at = omega (arith, t.place_is) in ap (λ (n : ℕ). Ok ([], n)) (sym end)
cells_again shape counts room [] bytes at (c ∷ cs) place is wide most fit within t = absurd fit
cells_again shape counts room (k ∷ ks) bytes at [] place is wide most fit within t = absurd fit
cells_again shape counts room (k ∷ ks) bytes at (c ∷ cs) place is wide most fit within t =
    let parted : Takes bytes at (cell_bytes shape.devices c ++ flat_map (cell_bytes shape.devices) cs) place = subst (λ (l : List ℕ). Takes bytes at l place) (flat_map-cons (cell_bytes shape.devices) c cs) t in
    let mid = at + length (cell_bytes shape.devices c) in
    let sum = sum_by-cons pair_count c cs in
    rw (
      content_again shape counts room (layout_of k) bytes at c mid is wide most (layout_fits shape counts k c fit.0) (omega (arith, sum)) (Takes-first bytes at (cell_bytes shape.devices c) (flat_map (cell_bytes shape.devices) cs) place parted),
      cells_again shape counts (room - pair_count c) ks bytes mid cs place is wide (omega arith) fit.1 (omega (arith, sum)) (Takes-second bytes at (cell_bytes shape.devices c) (flat_map (cell_bytes shape.devices) cs) place parted),
    ) refl

all_fit : (shape : Shape) (counts : List ℕ) (ks : List RKind) (cs : List RCell) → length cs ≡ length ks → ((place : ℕ) (k : RKind) (c : RCell) → slice_get ks place ≡ Some k → slice_get cs place ≡ Some c → FitsKind shape counts k c) → AllFit shape counts ks cs
all_fit shape counts [] [] len fits = tt
all_fit shape counts [] (c ∷ cs) len fits = absurd (omega arith)
all_fit shape counts (k ∷ ks) [] len fits = absurd (omega arith)
all_fit shape counts (k ∷ ks) (c ∷ cs) len fits = (fits 0 k c refl refl, all_fit shape counts ks cs (omega arith) (λ place l d p q. fits (suc place) l d p q))

-- ---- states and packets

pub state_read : (shape : Shape) (bytes : List ℕ) (at : ℕ) (s : RState) (place : ℕ) → IsShape shape → FitsShape shape s → Takes bytes at (state_bytes shape.devices s) place → state_at shape bytes at ≡ Ok (s, place)
unfolding state_at state_bytes
state_read shape bytes at s place is fits t =
    let counts = s.vector.counts in
    let mid = at + length (vector_bytes shape.devices counts) in
    let wide : AreCounts counts = λ device. (let lt = below_bound shape.devices (2 ^ 48) counts (omega arith) fits.counts device in omega arith) in
    let alone : plain s.cells.items ≡ s.cells = (λ i. record { items = s.cells.items; spare = sym fits.plain i }) in
    rw (
      vector_again shape.devices bytes at counts mid is.devices fits.counts (Takes-first bytes at (vector_bytes shape.devices counts) (flat_map (cell_bytes shape.devices) s.cells.items) place t),
      cells_again shape counts 1024 shape.cells.items bytes mid s.cells.items place is wide (omega arith) (all_fit shape counts shape.cells.items s.cells.items fits.count fits.cells) fits.pairs (Takes-second bytes at (vector_bytes shape.devices counts) (flat_map (cell_bytes shape.devices) s.cells.items) place t),
    )
    (ap (λ (cells : Listed RCell). Ok (record { vector = s.vector; cells = cells }, place)) alone)

pub state_again : (shape : Shape) (front rest : List ℕ) (s : RState) → IsShape shape → FitsShape shape s → state_at shape (front ++ state_bytes shape.devices s ++ rest) (length front) ≡ Ok (s, length front + length (state_bytes shape.devices s))
state_again shape front rest s is_shape fits =
    state_read shape (front ++ state_bytes shape.devices s ++ rest) (length front) s (length front + length (state_bytes shape.devices s)) is_shape fits (Takes-between front (state_bytes shape.devices s) rest)

-- what stands at a place is read there
pub state_from : (shape : Shape) (bytes : List ℕ) (at : ℕ) (s : RState) (rest : List ℕ) → IsShape shape → at ≤ length bytes → FitsShape shape s → drop at bytes ≡ state_bytes shape.devices s ++ rest → state_at shape bytes at ≡ Ok (s, at + length (state_bytes shape.devices s))
state_from shape bytes at s rest is_shape within fits e = state_read shape bytes at s (at + length (state_bytes shape.devices s)) is_shape fits (Takes-from bytes at (state_bytes shape.devices s) rest within e)

pub packet_again : (shape : Shape) (s : RState) → IsShape shape → FitsShape shape s → packet_at shape (packet_bytes shape.devices s) ≡ Ok s
unfolding packet_at packet_bytes format_at
packet_again shape s is_shape fits =
    let text = state_bytes shape.devices s in
    let bytes = 1 ∷ text in
    let nothing : drop (length bytes) bytes ≡ [] = drop_all (length bytes) bytes (omega arith) in
    let whole : Takes bytes 0 ((1 ∷ []) ++ text) (length bytes) = record { parts = sym (append-nil bytes) ∙ ap (λ (r : List ℕ). bytes ++ r) (sym nothing); place_is = omega arith; bounded = omega arith } in
    let first : Takes bytes 0 (to_be_bytes w8 1) 1 = Takes-first bytes 0 (1 ∷ []) text (length bytes) whole in
    let format : number_at w8 bytes 0 ≡ Ok (1, 1) = number_again w8 (2 ^ 8) wide8 bytes 0 1 1 (omega arith) first in
    let state : state_at shape bytes 1 ≡ Ok (s, length bytes) = state_read shape bytes 1 s (length bytes) is_shape fits (Takes-second bytes 0 (1 ∷ []) text (length bytes) whole) in
    let end : ltb (length bytes) (length bytes) ≡ false = le-ltb _ _ (omega arith) in
    rw (format, state, end) refl
