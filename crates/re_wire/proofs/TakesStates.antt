-- A state or a packet that is read is spelled so, and fits the shape.
use Rattle.std.proofs.Common.{◌≡◌, ℕ, zero, suc, ◌-◌, ◌^◌, ◌<◌, ◌≤◌, Bool, true, false, cond, ltb, eqb, List, [], ◌∷◌, ◌++◌, length, drop, Some, Ok, Err, refl, sym, ap, subst, ◌∙◌, arith}
use Rattle.std.specs.Prelude.{slice_get}
use Rattle.std.specs.Int.{w8, w64, to_be_bytes}
use Rattle.std.specs.List.{flat_map, list_all, sum_by}
use Rattle.std.specs.List.Sorted.{IsStrictlySortedBy}
use Rattle.std.proofs.lemmas.Bool.{eqb-true, eqb-false, ltb-false}
use Rattle.std.proofs.lemmas.List.{append-nil, drop_all}
use Rattle.std.proofs.lemmas.List.Concat.{flat_map-cons}
use Rattle.std.proofs.lemmas.List.Sums.{sum_by-cons}
use Rattle.re_terms.specs.CellStates.{unwritten}
use Rattle.re_terms.specs.Layouts.{layout_of}
use Rattle.re_terms.specs.Listed.{Listed, plain}
use Rattle.re_terms.specs.Shapes.{is_pair_of, is_word_of, AreOfDevices, FitsKind, FitsRegister, FitsShape, IsShape, pair_count}
use Rattle.re_terms.specs.Spellings.{cell_bytes, packet_bytes, register_bytes, state_bytes, vector_bytes, word_bytes, writer_bytes}
use Rattle.re_terms.specs.WordOrder.{pair_cmp}
use Rattle.re_terms.specs.declared.word.Word.{Word}
use Rattle.re_terms.specs.declared.word.Kind.{Kind}
use Rattle.re_terms.specs.declared.replicated.Layout.{Layout}
use Rattle.re_terms.specs.declared.replicated.Layout.TheVariants as layout
use Rattle.re_terms.specs.declared.replicated.RCell.{RCell}
use Rattle.re_terms.specs.declared.replicated.RCell.TheVariants as cell
use Rattle.re_terms.specs.declared.replicated.RKind.{RKind}
use Rattle.re_terms.specs.declared.replicated.RKind.TheVariants as kind
use Rattle.re_terms.specs.declared.replicated.RState.{RState}
use Rattle.re_terms.specs.declared.replicated.Shape.{Shape}
use Rattle.re_terms.specs.declared.replicated.Written.{Written}
use Rattle.re_wire.proofs.Bytes.{IsBytes}
use Rattle.re_wire.specs.Reading.{◌>>=◌, number_at, below_at, listed, word_at, vector_at, rows_at, pairs_at, writer_at, register_at, content_at, cell_at, cells_at, state_at, format_at, packet_at}
use Rattle.re_wire.proofs.Takes.{bind_ok, unless_ok, when_ok, ok_is, Takes, Takes-none, Takes-then, byte_is, wide8, wide64, number_takes, below_takes}
use Rattle.re_wire.proofs.TakesWords.{word_taken}
use Rattle.re_wire.proofs.TakesRows.{rows_take, vector_takes}
use Rattle.re_wire.proofs.TakesPairs.{of_kind, pairs_take}

-- ---- registers

pub writer_is : (stamp : ℕ) (w : Written) → 0 < stamp → writer_bytes stamp w ≡ w.device ∷ word_bytes w.word
writer_is zero w positive = absurd (omega arith)
writer_is (suc stamp) w positive = refl

record WriterTaken (shape : Shape) (k : Kind) (stamp : ℕ) (bytes : List ℕ) (at : ℕ) (w : Written) (place : ℕ) : Type 0 where
  text : Takes bytes at (w.device ∷ word_bytes w.word) place
  same : w.stamp ≡ stamp
  device : w.device < shape.devices
  word : is_word_of shape.symbols k w.word ≡ true

writer_takes : (shape : Shape) (k : Kind) (stamp : ℕ) (bytes : List ℕ) (at : ℕ) (x : Written × ℕ) → shape.devices ≤ 16 → IsBytes bytes → writer_at shape k stamp bytes at ≡ Ok x → WriterTaken shape k stamp bytes at x.0 x.1
unfolding writer_at
writer_takes shape k stamp bytes at x few fits e =
    let a = bind_ok (below_at w8 shape.devices bytes at) (λ device. word_at k false shape.symbols bytes device.1 >>= λ written. Ok (record { stamp = stamp; device = device.0; word = written.0 }, written.1)) x e in
    let b = bind_ok (word_at k false shape.symbols bytes a.0.1) (λ written. Ok (record { stamp = stamp; device = a.0.0; word = written.0 }, written.1)) x a.2 in
    let t = below_takes w8 (2 ^ 8) wide8 shape.devices bytes at a.0 fits a.1 in
    let u = word_taken k false shape.symbols bytes a.0.1 b.0 fits b.1 in
    let device : Takes bytes at (a.0.0 ∷ []) a.0.1 = subst (λ (l : List ℕ). Takes bytes at l a.0.1) (byte_is a.0.0 (omega (arith, t.1))) t.0 in
    let both = Takes-then bytes at (a.0.0 ∷ []) a.0.1 (word_bytes b.0.0) b.0.1 device u.0 in
    subst (λ (y : Written × ℕ). WriterTaken shape k stamp bytes at y.0 y.1) {x = (record { stamp = stamp; device = a.0.0; word = b.0.0 }, b.0.1)} (ok_is (record { stamp = stamp; device = a.0.0; word = b.0.0 }, b.0.1) x b.2)
    (record { text = both; same = refl; device = t.1; word = of_kind shape.symbols k b.0.0 u.1 })

pub record RegisterTaken (shape : Shape) (k : Kind) (start : Word) (bytes : List ℕ) (at : ℕ) (w : Written) (place : ℕ) : Type 0 where
  pub text : Takes bytes at (register_bytes w) place
  pub fits : FitsRegister shape k start w

behind_stamp : (shape : Shape) (k : Kind) (start : Word) (bytes : List ℕ) (at : ℕ) (stamp : ℕ × ℕ) (is_start : Bool) (x : Written × ℕ) → shape.devices ≤ 16 → IsBytes bytes → Takes bytes at (to_be_bytes w64 stamp.0) stamp.1 → stamp.0 < 2 ^ 52 → eqb stamp.0 0 ≡ is_start
    → cond is_start (Ok (unwritten start, stamp.1)) (writer_at shape k stamp.0 bytes stamp.1) ≡ Ok x → RegisterTaken shape k start bytes at x.0 x.1
unfolding register_bytes
behind_stamp shape k start bytes at stamp true x few fits t small test e =
    let none : stamp.0 ≡ 0 = eqb-true _ _ test in
    let text : Takes bytes at (to_be_bytes w64 0 ++ []) stamp.1 = subst (λ (l : List ℕ). Takes bytes at l stamp.1) (ap (λ (n : ℕ). to_be_bytes w64 n) none ∙ sym (append-nil (to_be_bytes w64 0))) t in
    subst (λ (y : Written × ℕ). RegisterTaken shape k start bytes at y.0 y.1) (ok_is (unwritten start, stamp.1) x e)
    (record { text = text; fits = record { bounded = omega arith; unwritten = λ _. (refl, refl); written = λ positive. absurd (omega arith) } })
behind_stamp shape k start bytes at stamp false x few fits t small test e =
    let some : 0 < stamp.0 = (let differs = eqb-false _ _ test in omega arith) in
    let w = writer_takes shape k stamp.0 bytes stamp.1 x few fits e in
    let positive : 0 < x.0.stamp = omega (arith, w.same) in
    let written : Takes bytes stamp.1 (writer_bytes x.0.stamp x.0) x.1 = subst (λ (l : List ℕ). Takes bytes stamp.1 l x.1) (sym (writer_is x.0.stamp x.0 positive)) w.text in
    let stamped : Takes bytes at (to_be_bytes w64 x.0.stamp) stamp.1 = subst (λ (n : ℕ). Takes bytes at (to_be_bytes w64 n) stamp.1) (sym w.same) t in
    record {
      text = Takes-then bytes at (to_be_bytes w64 x.0.stamp) stamp.1 (writer_bytes x.0.stamp x.0) x.1 stamped written;
      fits = record { bounded = omega (arith, w.same); unwritten = λ zero_is. absurd (omega arith); written = λ _. (w.device, w.word) };
    }

pub register_takes : (shape : Shape) (k : Kind) (start : Word) (bytes : List ℕ) (at : ℕ) (x : Written × ℕ) → shape.devices ≤ 16 → IsBytes bytes → register_at shape k start bytes at ≡ Ok x → RegisterTaken shape k start bytes at x.0 x.1
unfolding register_at
register_takes shape k start bytes at x few fits e =
    let b = bind_ok (below_at w64 (2 ^ 52) bytes at) (λ stamp. cond (eqb stamp.0 0) (Ok (unwritten start, stamp.1)) (writer_at shape k stamp.0 bytes stamp.1)) x e in
    let t = below_takes w64 (2 ^ 64) wide64 (2 ^ 52) bytes at b.0 fits b.1 in
    behind_stamp shape k start bytes at b.0 (eqb b.0.0 0) x few fits t.0 t.1 refl b.2

-- ---- cells

-- what fits a kind, by what its state consists of
abbrev pub FitsLayout : Shape → List ℕ → Layout → RCell → Type 0
FitsLayout shape counts layout.Rows (cell.Counter rows) = AreOfDevices shape.devices (2 ^ 63) rows.plus × AreOfDevices shape.devices (2 ^ 63) rows.minus
FitsLayout shape counts (layout.Pairs k) (cell.Set pairs) = IsStrictlySortedBy pair_cmp pairs.items × (list_all (is_pair_of shape k counts) pairs.items ≡ true) × (pairs.spare ≡ 0)
FitsLayout shape counts (layout.Written k start) (cell.Register w) = FitsRegister shape k start w
FitsLayout shape counts l c = ⊥

fits_kind : (shape : Shape) (counts : List ℕ) (k : RKind) (c : RCell) → FitsLayout shape counts (layout_of k) c → FitsKind shape counts k c
fits_kind shape counts kind.Counter (cell.Counter rows) h = h
fits_kind shape counts (kind.Set k) (cell.Set pairs) h = h
fits_kind shape counts (kind.Register k start) (cell.Register w) h = h
fits_kind shape counts kind.Counter (cell.Set pairs) h = absurd h
fits_kind shape counts kind.Counter (cell.Register w) h = absurd h
fits_kind shape counts (kind.Set k) (cell.Counter rows) h = absurd h
fits_kind shape counts (kind.Set k) (cell.Register w) h = absurd h
fits_kind shape counts (kind.Register k start) (cell.Counter rows) h = absurd h
fits_kind shape counts (kind.Register k start) (cell.Set pairs) h = absurd h

record CellTaken (shape : Shape) (counts : List ℕ) (room : ℕ) (l : Layout) (bytes : List ℕ) (at : ℕ) (c : RCell) (place : ℕ) : Type 0 where
  text : Takes bytes at (cell_bytes shape.devices c) place
  fits : FitsLayout shape counts l c
  within : pair_count c ≤ room

content_takes : (shape : Shape) (counts : List ℕ) (room : ℕ) (l : Layout) (bytes : List ℕ) (at : ℕ) (x : RCell × ℕ) → shape.devices ≤ 16 → IsBytes bytes → at ≤ length bytes → content_at shape counts room l bytes at ≡ Ok x → CellTaken shape counts room l bytes at x.0 x.1
unfolding content_at
content_takes shape counts room layout.Rows bytes at x few fits start e =
    let b = bind_ok (rows_at shape.devices bytes at) (λ rows. Ok (cell.Counter rows.0, rows.1)) x e in
    let t = rows_take shape.devices bytes at b.0 few fits start b.1 in
    subst (λ (y : RCell × ℕ). CellTaken shape counts room layout.Rows bytes at y.0 y.1) (ok_is (cell.Counter b.0.0, b.0.1) x b.2) (record { text = t.text; fits = (t.plus, t.minus); within = omega arith })
content_takes shape counts room (layout.Pairs k) bytes at x few fits start e =
    let b = bind_ok (pairs_at shape k counts room bytes at) (λ pairs. Ok (cell.Set pairs.0, pairs.1)) x e in
    let t = pairs_take shape k counts room bytes at b.0 fits b.1 in
    subst (λ (y : RCell × ℕ). CellTaken shape counts room (layout.Pairs k) bytes at y.0 y.1) (ok_is (cell.Set b.0.0, b.0.1) x b.2) (record { text = t.text; fits = (t.sorted, t.all, t.plain); within = t.within })
content_takes shape counts room (layout.Written k first) bytes at x few fits start e =
    let b = bind_ok (register_at shape k first bytes at) (λ written. Ok (cell.Register written.0, written.1)) x e in
    let t = register_takes shape k first bytes at b.0 few fits b.1 in
    subst (λ (y : RCell × ℕ). CellTaken shape counts room (layout.Written k first) bytes at y.0 y.1) (ok_is (cell.Register b.0.0, b.0.1) x b.2) (record { text = t.text; fits = t.fits; within = omega arith })

-- each cell fits its kind
abbrev pub AllFit : Shape → List ℕ → List RKind → List RCell → Type 0
AllFit shape counts [] [] = Unit {0}
AllFit shape counts (k ∷ ks) (c ∷ cs) = FitsKind shape counts k c × AllFit shape counts ks cs
AllFit shape counts ks cs = ⊥

record CellsTaken (shape : Shape) (counts : List ℕ) (room : ℕ) (ks : List RKind) (bytes : List ℕ) (at : ℕ) (cs : List RCell) (place : ℕ) : Type 0 where
  text : Takes bytes at (flat_map (cell_bytes shape.devices) cs) place
  fit : AllFit shape counts ks cs
  within : sum_by pair_count cs ≤ room

cells_take : (shape : Shape) (counts : List ℕ) (room : ℕ) (ks : List RKind) (bytes : List ℕ) (at : ℕ) (x : List RCell × ℕ) → shape.devices ≤ 16 → IsBytes bytes → at ≤ length bytes → cells_at shape counts room ks bytes at ≡ Ok x → CellsTaken shape counts room ks bytes at x.0 x.1
unfolding cells_at
cells_take shape counts room [] bytes at x few fits start e =
    subst (λ (y : List RCell × ℕ). CellsTaken shape counts room [] bytes at y.0 y.1) {x = ([], at)} (ok_is ([], at) x e) (record { text = Takes-none bytes at start; fit = tt; within = omega arith })
cells_take shape counts room (k ∷ ks) bytes at x few fits start e =
    let a = bind_ok (cell_at shape counts room k bytes at) (λ first. cells_at shape counts (room - pair_count first.0) ks bytes first.1 >>= λ others. Ok (first.0 ∷ others.0, others.1)) x e in
    let b = bind_ok (cells_at shape counts (room - pair_count a.0.0) ks bytes a.0.1) (λ others. Ok (a.0.0 ∷ others.0, others.1)) x a.2 in
    let t = content_takes shape counts room (layout_of k) bytes at a.0 few fits start a.1 in
    let u = cells_take shape counts (room - pair_count a.0.0) ks bytes a.0.1 b.0 few fits t.text.bounded b.1 in
    let both = Takes-then bytes at (cell_bytes shape.devices a.0.0) a.0.1 (flat_map (cell_bytes shape.devices) b.0.0) b.0.1 t.text u.text in
    subst (λ (y : List RCell × ℕ). CellsTaken shape counts room (k ∷ ks) bytes at y.0 y.1) {x = (a.0.0 ∷ b.0.0, b.0.1)} (ok_is (a.0.0 ∷ b.0.0, b.0.1) x b.2)
    (record { text = rw flat_map-cons both; fit = (fits_kind shape counts k a.0.0 t.fits, u.fit); within = omega (arith, sum_by-cons pair_count a.0.0 b.0.0, t.within, u.within) })

as_many : (shape : Shape) (counts : List ℕ) (ks : List RKind) (cs : List RCell) → AllFit shape counts ks cs → length cs ≡ length ks
as_many shape counts [] [] fit = refl
as_many shape counts [] (c ∷ cs) fit = absurd fit
as_many shape counts (k ∷ ks) [] fit = absurd fit
as_many shape counts (k ∷ ks) (c ∷ cs) fit = ap suc (as_many shape counts ks cs fit.1)

fits_at : (shape : Shape) (counts : List ℕ) (ks : List RKind) (cs : List RCell) → AllFit shape counts ks cs → (place : ℕ) (k : RKind) (c : RCell) → slice_get ks place ≡ Some k → slice_get cs place ≡ Some c → FitsKind shape counts k c
fits_at shape counts [] cs fit place k c p q = absurd cc
fits_at shape counts (l ∷ ks) [] fit place k c p q = absurd fit
fits_at shape counts (l ∷ ks) (d ∷ cs) fit zero k c p q =
    let kind_is : l ≡ k = cc in
    let cell_is : d ≡ c = cc in
    subst (λ (y : RKind × RCell). FitsKind shape counts y.0 y.1) (λ i. (kind_is i, cell_is i)) fit.0
fits_at shape counts (l ∷ ks) (d ∷ cs) fit (suc place) k c p q = fits_at shape counts ks cs fit.1 place k c p q

-- ---- states and packets

pub record StateTaken (shape : Shape) (bytes : List ℕ) (at : ℕ) (s : RState) (place : ℕ) : Type 0 where
  pub text : Takes bytes at (state_bytes shape.devices s) place
  pub fits : FitsShape shape s

pub state_taken : (shape : Shape) (bytes : List ℕ) (at : ℕ) (x : RState × ℕ) → IsShape shape → IsBytes bytes → at ≤ length bytes → state_at shape bytes at ≡ Ok x → StateTaken shape bytes at x.0 x.1
unfolding state_at state_bytes
state_taken shape bytes at x is fits start e =
    let a = bind_ok (vector_at shape.devices bytes at) (λ vector. listed (cells_at shape vector.0.counts 1024 shape.cells.items bytes vector.1) >>= λ cells. Ok (record { vector = vector.0; cells = cells.0 }, cells.1)) x e in
    let b = bind_ok (listed (cells_at shape a.0.0.counts 1024 shape.cells.items bytes a.0.1)) (λ cells. Ok (record { vector = a.0.0; cells = cells.0 }, cells.1)) x a.2 in
    let c = bind_ok (cells_at shape a.0.0.counts 1024 shape.cells.items bytes a.0.1) (λ items. Ok (plain items.0, items.1)) b.0 b.1 in
    let t = vector_takes shape.devices bytes at a.0 is.devices fits start a.1 in
    let u = cells_take shape a.0.0.counts 1024 shape.cells.items bytes a.0.1 c.0 is.devices fits t.text.bounded c.1 in
    let both = Takes-then bytes at (vector_bytes shape.devices a.0.0.counts) a.0.1 (flat_map (cell_bytes shape.devices) c.0.0) c.0.1 t.text u.text in
    let s : RState = record { vector = a.0.0; cells = plain c.0.0 } in
    let made : StateTaken shape bytes at s c.0.1 = record {
      text = both;
      fits = record { plain = refl; counts = t.are; count = as_many shape a.0.0.counts shape.cells.items c.0.0 u.fit; cells = fits_at shape a.0.0.counts shape.cells.items c.0.0 u.fit; pairs = u.within };
    } in
    let gathered : StateTaken shape bytes at (record { vector = a.0.0; cells = b.0.0 }) b.0.1 = subst (λ (y : Listed RCell × ℕ). StateTaken shape bytes at (record { vector = a.0.0; cells = y.0 }) y.1) {x = (plain c.0.0, c.0.1)} (ok_is (plain c.0.0, c.0.1) b.0 c.2) made in
    subst (λ (y : RState × ℕ). StateTaken shape bytes at y.0 y.1) {x = (record { vector = a.0.0; cells = b.0.0 }, b.0.1)} (ok_is (record { vector = a.0.0; cells = b.0.0 }, b.0.1) x b.2) gathered

pub state_takes : (shape : Shape) (bytes : List ℕ) (at : ℕ) (s : RState) (behind : ℕ) → IsShape shape → IsBytes bytes → at ≤ length bytes → state_at shape bytes at ≡ Ok (s, behind)
    → FitsShape shape s × (behind ≤ length bytes) × (drop at bytes ≡ state_bytes shape.devices s ++ drop behind bytes)
state_takes shape bytes at s behind is_shape is_bytes within e =
    let t = state_taken shape bytes at (s, behind) is_shape is_bytes within e in
    (t.fits, t.text.bounded, t.text.parts)

format_takes : (bytes : List ℕ) (at : ℕ) (x : ℕ × ℕ) → IsBytes bytes → format_at bytes at ≡ Ok x → Takes bytes at (1 ∷ []) x.1
unfolding format_at
format_takes bytes at x fits e =
    let b = bind_ok (number_at w8 bytes at) (λ format. cond (eqb format.0 1) (Ok format) (Err at)) x e in
    let g = when_ok (eqb b.0.0 1) at (Ok b.0) x b.2 in
    let t = number_takes w8 (2 ^ 8) wide8 bytes at b.0 fits b.1 in
    let one : to_be_bytes w8 b.0.0 ≡ 1 ∷ [] = ap (λ (n : ℕ). to_be_bytes w8 n) (eqb-true _ _ g.0) in
    subst (λ (y : ℕ × ℕ). Takes bytes at (1 ∷ []) y.1) (ok_is b.0 x g.1) (subst (λ (l : List ℕ). Takes bytes at l b.0.1) one t.0)

pub packet_takes : (shape : Shape) (bytes : List ℕ) (s : RState) → IsShape shape → IsBytes bytes → packet_at shape bytes ≡ Ok s → FitsShape shape s × (bytes ≡ packet_bytes shape.devices s)
unfolding packet_at packet_bytes
packet_takes shape bytes s is_shape is_bytes e =
    let a = bind_ok (format_at bytes 0) (λ format. state_at shape bytes format.1 >>= λ state. cond (ltb state.1 (length bytes)) (Err state.1) (Ok state.0)) s e in
    let b = bind_ok (state_at shape bytes a.0.1) (λ state. cond (ltb state.1 (length bytes)) (Err state.1) (Ok state.0)) s a.2 in
    let g = unless_ok (ltb b.0.1 (length bytes)) b.0.1 (Ok b.0.0) s b.2 in
    let t = format_takes bytes 0 a.0 is_bytes a.1 in
    let u = state_taken shape bytes a.0.1 b.0 is_shape is_bytes t.bounded b.1 in
    let both = Takes-then bytes 0 (1 ∷ []) a.0.1 (state_bytes shape.devices b.0.0) b.0.1 t u.text in
    let nothing : drop b.0.1 bytes ≡ [] = drop_all b.0.1 bytes (ltb-false _ _ g.0) in
    let whole : bytes ≡ 1 ∷ state_bytes shape.devices b.0.0 = both.parts ∙ ap (λ (r : List ℕ). (1 ∷ state_bytes shape.devices b.0.0) ++ r) nothing ∙ append-nil (1 ∷ state_bytes shape.devices b.0.0) in
    subst (λ (r : RState). FitsShape shape r × (bytes ≡ 1 ∷ state_bytes shape.devices r)) (ok_is b.0.0 s g.1) (u.fits, whole)
