-- States that fit a shape fit it after a merge within the room for pairs, and after an operation that no limit stands against.
use Rattle.std.proofs.Common.{◌≡◌, ℕ, ℤ, pos, negsuc, zero, suc, ◌+◌, ◌<◌, ◌≤◌, ◌^◌, Bool, true, false, cond, not, List, [], ◌∷◌, ◌++◌, None, Some, refl, sym, ap, ◌∙◌, subst, arith, inl, inr, length, get_or}
use Rattle.std.specs.Prelude.{◌&&◌, ◌||◌, ◌⊎◌, nat_lt, nat_le, slice_get, slice_index, slice_set}
use Rattle.std.specs.List.{filter, list_all, list_any, sum_by}
use Rattle.std.specs.List.Sorted.{IsStrictlySortedBy}
use Rattle.std.specs.Option.{option_map_or}
use Rattle.std.proofs.lemmas.Bool.{cases_eq}
use Rattle.std.proofs.lemmas.Bool.Decides.{nat_tests}
use Rattle.std.proofs.lemmas.List.{get_or-set_same, get_or-set_other, length-set}
use Rattle.std.proofs.lemmas.List.Elements.{All-from_get_or, All-get_or, All-set}
use Rattle.std.proofs.lemmas.List.Folds.{list_all-append}
use mathlib.Core.Bool.{true≢false}
use Rattle.re_terms.specs.Admission.{is_act_of}
use Rattle.re_terms.specs.CellStates.{is_after, has_pair, join_pairs, join_written}
use Rattle.re_terms.specs.Limits.{OperationFault.DotsSpent, OperationFault.SetFull, OperationFault.CounterFull, at_cell, operation_fault, raised_total, stamp_after, total_after}
use Rattle.re_terms.specs.ShapedUpdates.{is_operation_in}
use Rattle.re_terms.specs.Shapes.{AreOfDevices, FitsKind, FitsRegister, FitsShape, is_pair_of, is_word_of, pair_count}
use Rattle.re_terms.specs.UpdateStates.{act_on, after_operation, change_at, join_cell, join_cells, join_states, pairs_after, raise, rows_after, without, written_after}
use Rattle.re_terms.specs.Vectors.{AtMost, covers, greater_each, join_vectors}
use Rattle.re_terms.specs.WordOrder.{ascending, pair_cmp}
use Rattle.re_terms.specs.declared.word.Kind.{Kind}
use Rattle.re_terms.specs.declared.word.Word.{Word}
use Rattle.re_terms.specs.declared.replicated.Act.{Act}
use Rattle.re_terms.specs.declared.replicated.Act.TheVariants.{Add, Insert, Remove, Write}
use Rattle.re_terms.specs.declared.replicated.Dot.{Dot}
use Rattle.re_terms.specs.declared.replicated.Pair.{Pair}
use Rattle.re_terms.specs.declared.replicated.RCell.{RCell}
use Rattle.re_terms.specs.declared.replicated.RCell.TheVariants as content
use Rattle.re_terms.specs.declared.replicated.RepOp.{RepOp}
use Rattle.re_terms.specs.declared.replicated.RKind.{RKind}
use Rattle.re_terms.specs.declared.replicated.RKind.TheVariants as kind
use Rattle.re_terms.specs.declared.replicated.RState.{RState}
use Rattle.re_terms.specs.declared.replicated.Rows.{Rows}
use Rattle.re_terms.specs.declared.replicated.Shape.{Shape}
use Rattle.re_terms.specs.declared.replicated.Written.{Written}
use Rattle.re_terms.proofs.Arrays.{length-greater_each}
use Rattle.re_terms.proofs.Fitting.{left, right, both, in_range}
use Rattle.re_terms.proofs.Logs.{at-greater_each}
use Rattle.re_terms.proofs.OneMore.{sorted_without}
use Rattle.re_terms.proofs.Values.{any-pairs}
use Rattle.re_terms.proofs.WordOrders.{ascending_sorted}

-- ---- pairs that pass a test

all-not_any : (f : Pair → Bool) (ps : List Pair) → list_all f ps ≡ not (list_any (λ p. not (f p)) ps)
all-not_any f [] = refl
all-not_any f (p ∷ ps) = ap (λ b. f p && b) (all-not_any f ps) ∙ each (f p) (list_any (λ p. not (f p)) ps)
  where
    each : (a b : Bool) → (a && not b) ≡ not (not a || b)
    each true b = refl
    each false b = refl

-- all pairs in order pass where all of the list do
all-ascending : (f : Pair → Bool) (ps : List Pair) → list_all f (ascending ps) ≡ list_all f ps
all-ascending f ps = all-not_any f (ascending ps) ∙ ap not (any-pairs (λ p. not (f p)) ps) ∙ sym (all-not_any f ps)

all_kept : (f test : Pair → Bool) (ps : List Pair) → list_all f ps ≡ true → list_all f (filter test ps) ≡ true
all_kept f test [] h = refl
all_kept f test (p ∷ ps) h =
    let rest = all_kept f test ps (right (f p) (list_all f ps) h) in
    elim (test p) as (λ b. list_all f (cond b (p ∷ filter test ps) (filter test ps)) ≡ true) [ true ↦ both (f p) (list_all f (filter test ps)) (left (f p) (list_all f ps) h) rest | false ↦ rest ]

all_up : (f g : Pair → Bool) → ((p : Pair) → f p ≡ true → g p ≡ true) → (ps : List Pair) → list_all f ps ≡ true → list_all g ps ≡ true
all_up f g up [] h = refl
all_up f g up (p ∷ ps) h = both (g p) (list_all g ps) (up p (left (f p) (list_all f ps) h)) (all_up f g up ps (right (f p) (list_all f ps) h))

-- ---- a vector that grows

AtMost-left : (v w : List ℕ) → AtMost v (greater_each v w)
AtMost-left v w device = omega (arith, at-greater_each v w device)

AtMost-right : (v w : List ℕ) → AtMost w (greater_each v w)
AtMost-right v w device = omega (arith, at-greater_each v w device)

covered_up : (word : Bool) (device devices number most more : ℕ) → most ≤ more → (word && nat_lt device devices && nat_lt 0 number && nat_le number most) ≡ true → (word && nat_lt device devices && nat_lt 0 number && nat_le number more) ≡ true
covered_up word device devices number most more h e = grind (arith, nat_tests)

module _ (shape : Shape) (v w : List ℕ) (up : AtMost v w) where
  pairs_up : (k : Kind) (ps : List Pair) → list_all (is_pair_of shape k v) ps ≡ true → list_all (is_pair_of shape k w) ps ≡ true
  pairs_up k ps h = all_up (is_pair_of shape k v) (is_pair_of shape k w) (λ p e. covered_up (is_word_of shape.symbols k p.element) p.dot.device shape.devices p.dot.number (slice_index v p.dot.device) (slice_index w p.dot.device) (up p.dot.device) e) ps h

  -- what fits with a vector fits with one that covers more
  kind_up : (k : RKind) (c : RCell) → FitsKind shape v k c → FitsKind shape w k c
  kind_up kind.Counter (content.Counter rows) h = h
  kind_up kind.Counter (content.Set pairs) h = absurd h
  kind_up kind.Counter (content.Register r) h = absurd h
  kind_up (kind.Set k) (content.Counter rows) h = absurd h
  kind_up (kind.Set k) (content.Set pairs) h = (h.0, pairs_up k pairs.items h.1, h.2)
  kind_up (kind.Set k) (content.Register r) h = absurd h
  kind_up (kind.Register k start) (content.Counter rows) h = absurd h
  kind_up (kind.Register k start) (content.Set pairs) h = absurd h
  kind_up (kind.Register k start) (content.Register r) h = h

-- ---- numbers of devices

row_join : (devices bound : ℕ) (x y : List ℕ) → AreOfDevices devices bound x → AreOfDevices devices bound y → AreOfDevices devices bound (greater_each x y)
row_join devices bound x y a b =
    let places : length x ≡ length y = a.places ∙ sym b.places in
    let long : length (greater_each x y) ≡ length x = length-greater_each x y places in
    record {
      places = long ∙ a.places;
      bounded = All-from_get_or (λ n. n < bound) (greater_each x y) 0 (λ i lt.
          let p : get_or x i 0 < bound = All-get_or (λ n. n < bound) x i 0 (omega arith) a.bounded in
          let q : get_or y i 0 < bound = All-get_or (λ n. n < bound) y i 0 (omega arith) b.bounded in
          omega (arith, at-greater_each x y i));
      none = λ device h. let p = a.none device h in let q = b.none device h in omega (arith, at-greater_each x y device);
    }

-- one device's number is set
row_set : (devices bound device n : ℕ) (row : List ℕ) → device < devices → n < bound → AreOfDevices devices bound row → AreOfDevices devices bound (slice_set row device n)
row_set devices bound device n row known small h =
    record {
      places = length-set row device n ∙ h.places;
      bounded = All-set (λ n. n < bound) row device n small h.bounded;
      none = λ other past. get_or-set_other row device other n 0 (λ same. omega arith) ∙ h.none other past;
    }

row_raise : (devices bound device n : ℕ) (row : List ℕ) → device < devices → slice_index row device + n < bound → AreOfDevices devices bound row → AreOfDevices devices bound (raise device n row)
unfolding raise
row_raise devices bound device n row known small h = row_set devices bound device (slice_index row device + n) row known small h

-- a row that is raised by nothing
row_same : (devices bound device : ℕ) (row : List ℕ) → devices ≤ 16 → device < devices → AreOfDevices devices bound row → AreOfDevices devices bound (raise device 0 row)
row_same devices bound device row few known h =
    let p = h.places in
    let small : get_or row device 0 < bound = All-get_or (λ n. n < bound) row device 0 (omega arith) h.bounded in
    row_raise devices bound device 0 row known (omega arith) h

-- ---- a merge

pairs_join : (shape : Shape) (k : Kind) (v w : List ℕ) (a b : List Pair) → list_all (is_pair_of shape k v) a ≡ true → list_all (is_pair_of shape k w) b ≡ true → list_all (is_pair_of shape k (join_vectors v w)) (join_pairs v w a b) ≡ true
unfolding join_pairs
pairs_join shape k v w a b h g =
    let f = is_pair_of shape k (join_vectors v w) in
    let own : List Pair = filter (λ p. has_pair b p || not (covers w p.dot)) a in
    let other : List Pair = filter (λ p. not (covers v p.dot)) b in
    all-ascending f (own ++ other) ∙ list_all-append f own other
    ∙ both (list_all f own) (list_all f other)
    (all_kept f (λ p. has_pair b p || not (covers w p.dot)) a (pairs_up shape v (greater_each v w) (AtMost-left v w) k a h))
    (all_kept f (λ p. not (covers v p.dot)) b (pairs_up shape w (greater_each v w) (AtMost-right v w) k b g))

pairs_join-sorted : (v w : List ℕ) (a b : List Pair) → IsStrictlySortedBy pair_cmp (join_pairs v w a b)
unfolding join_pairs
pairs_join-sorted v w a b = ascending_sorted _

written_join : (shape : Shape) (k : Kind) (start : Word) (a b : Written) → FitsRegister shape k start a → FitsRegister shape k start b → FitsRegister shape k start (join_written a b)
unfolding join_written
written_join shape k start a b h g = elim (is_after a b) as (λ x. FitsRegister shape k start (cond x b a)) [ true ↦ g | false ↦ h ]

cell_join : (shape : Shape) (v w : List ℕ) (k : RKind) (x y : RCell) → FitsKind shape v k x → FitsKind shape w k y → FitsKind shape (join_vectors v w) k (join_cell v w x y)
cell_join shape v w kind.Counter (content.Counter x) (content.Counter y) h g = (row_join shape.devices (2 ^ 63) x.plus y.plus h.0 g.0, row_join shape.devices (2 ^ 63) x.minus y.minus h.1 g.1)
cell_join shape v w kind.Counter (content.Counter x) (content.Set y) h g = absurd g
cell_join shape v w kind.Counter (content.Counter x) (content.Register y) h g = absurd g
cell_join shape v w kind.Counter (content.Set x) y h g = absurd h
cell_join shape v w kind.Counter (content.Register x) y h g = absurd h
cell_join shape v w (kind.Set k) (content.Counter x) y h g = absurd h
cell_join shape v w (kind.Set k) (content.Set x) (content.Counter y) h g = absurd g
cell_join shape v w (kind.Set k) (content.Set x) (content.Set y) h g = (pairs_join-sorted v w x.items y.items, pairs_join shape k v w x.items y.items h.1 g.1, refl)
cell_join shape v w (kind.Set k) (content.Set x) (content.Register y) h g = absurd g
cell_join shape v w (kind.Set k) (content.Register x) y h g = absurd h
cell_join shape v w (kind.Register k start) (content.Counter x) y h g = absurd h
cell_join shape v w (kind.Register k start) (content.Set x) y h g = absurd h
cell_join shape v w (kind.Register k start) (content.Register x) (content.Counter y) h g = absurd g
cell_join shape v w (kind.Register k start) (content.Register x) (content.Set y) h g = absurd g
cell_join shape v w (kind.Register k start) (content.Register x) (content.Register y) h g = written_join shape k start x y h g

join_cells-length : (v w : List ℕ) (xs ys : List RCell) → length xs ≡ length ys → length (join_cells v w xs ys) ≡ length xs
join_cells-length v w [] ys e = refl
join_cells-length v w (x ∷ xs) [] e = refl
join_cells-length v w (x ∷ xs) (y ∷ ys) e = ap suc (join_cells-length v w xs ys (omega arith))

-- a cell of a merge is that of one of each
join_cells-at : (v w : List ℕ) (xs ys : List RCell) (place : ℕ) (c : RCell) → length xs ≡ length ys → slice_get (join_cells v w xs ys) place ≡ Some c
    → (x : RCell) × (y : RCell) × (slice_get xs place ≡ Some x) × (slice_get ys place ≡ Some y) × (join_cell v w x y ≡ c)
join_cells-at v w [] ys place c e is = absurd (cc)
join_cells-at v w (x ∷ xs) [] place c e is = absurd (omega arith)
join_cells-at v w (x ∷ xs) (y ∷ ys) zero c e is = (x, y, refl, refl, cc)
join_cells-at v w (x ∷ xs) (y ∷ ys) (suc place) c e is = join_cells-at v w xs ys place c (omega arith) is

-- two states that fit a shape fit it merged, where their sets then have room
pub join_fits : (shape : Shape) (a b : RState) → FitsShape shape a → FitsShape shape b → sum_by pair_count (join_states a b).cells.items ≤ 1024 → FitsShape shape (join_states a b)
join_fits shape a b h g room =
    let same : length a.cells.items ≡ length b.cells.items = h.count ∙ sym g.count in
    record {
      plain = refl;
      counts = row_join shape.devices (2 ^ 48) a.vector.counts b.vector.counts h.counts g.counts;
      count = join_cells-length a.vector.counts b.vector.counts a.cells.items b.cells.items same ∙ h.count;
      cells = λ place k c found is.
          let m = join_cells-at a.vector.counts b.vector.counts a.cells.items b.cells.items place c same is in
          subst (FitsKind shape (join_vectors a.vector.counts b.vector.counts) k) m.4 (cell_join shape a.vector.counts b.vector.counts k m.0 m.1 (h.cells place k m.0 found m.2) (g.cells place k m.1 found m.3));
      pairs = room;
    }

-- ---- an operation

-- what an operation's dot and act are, and how the vector grows
record IsMade (shape : Shape) (dot : Dot) (v w : List ℕ) : Type 0 where
  few : shape.devices ≤ 16
  known : dot.device < shape.devices
  low : 0 < dot.number
  covered : dot.number ≤ slice_index w dot.device
  up : AtMost v w

module _ (shape : Shape) (dot : Dot) (v w : List ℕ) (made : IsMade shape dot v w) where
  rows_fit : (rows : Rows) (amount : ℤ) → raised_total rows dot.device amount < 2 ^ 63 → AreOfDevices shape.devices (2 ^ 63) rows.plus → AreOfDevices shape.devices (2 ^ 63) rows.minus → FitsKind shape w kind.Counter (content.Counter (rows_after dot.device amount rows))
  rows_fit rows (pos n) total p m = (row_raise shape.devices (2 ^ 63) dot.device n rows.plus made.known total p, row_same shape.devices (2 ^ 63) dot.device rows.minus made.few made.known m)
  rows_fit rows (negsuc n) total p m = (row_same shape.devices (2 ^ 63) dot.device rows.plus made.few made.known p, row_raise shape.devices (2 ^ 63) dot.device (suc n) rows.minus made.known total m)

  without_fit : (k : Kind) (e : Word) (ps : List Pair) → list_all (is_pair_of shape k v) ps ≡ true → list_all (is_pair_of shape k w) (without e ps) ≡ true
  unfolding without
  without_fit k e ps h = all_kept (is_pair_of shape k w) _ ps (pairs_up shape v w made.up k ps h)

  insert_fit : (k : Kind) (e : Word) (ps : List Pair) → is_word_of shape.symbols k e ≡ true → list_all (is_pair_of shape k v) ps ≡ true → list_all (is_pair_of shape k w) (pairs_after dot e ps) ≡ true
  insert_fit k e ps word h =
      let f = is_pair_of shape k w in
      all-ascending f (record { element = e; dot = dot } ∷ without e ps)
      ∙ both (f (record { element = e; dot = dot })) (list_all f (without e ps)) (in_range (is_word_of shape.symbols k e) dot.device shape.devices dot.number (slice_index w dot.device) word made.known made.low made.covered) (without_fit k e ps h)

  write_fits : (k : Kind) (start e : Word) (r : Written) → is_word_of shape.symbols k e ≡ true → r.stamp + 1 < 2 ^ 52 → FitsRegister shape k start (written_after dot.device e r)
  write_fits k start e r word small =
      record {
        bounded = small;
        unwritten = λ none. absurd (omega arith);
        written = λ _. (made.known, word);
      }

  -- what a cell that takes the act is after it
  act_fits : (k : RKind) (act : Act) (c : RCell) → is_act_of shape.symbols k act ≡ true → stamp_after act c < 2 ^ 52 → total_after act dot.device c < 2 ^ 63 → FitsKind shape v k c → FitsKind shape w k (act_on k dot act c)
  act_fits kind.Counter (Add amount) (content.Counter rows) taken stamp total h = rows_fit rows amount total h.0 h.1
  act_fits kind.Counter (Add amount) (content.Set pairs) taken stamp total h = absurd h
  act_fits kind.Counter (Add amount) (content.Register r) taken stamp total h = absurd h
  act_fits kind.Counter (Insert e) c taken stamp total h = absurd (true≢false (sym taken))
  act_fits kind.Counter (Remove e) c taken stamp total h = absurd (true≢false (sym taken))
  act_fits kind.Counter (Write e) c taken stamp total h = absurd (true≢false (sym taken))
  act_fits (kind.Set k) (Insert e) (content.Set pairs) taken stamp total h = (ascending_sorted _, insert_fit k e pairs.items taken h.1, refl)
  act_fits (kind.Set k) (Insert e) (content.Counter rows) taken stamp total h = absurd h
  act_fits (kind.Set k) (Insert e) (content.Register r) taken stamp total h = absurd h
  act_fits (kind.Set k) (Remove e) (content.Set pairs) taken stamp total h = (sorted_without e pairs.items h.0, without_fit k e pairs.items h.1, refl)
  act_fits (kind.Set k) (Remove e) (content.Counter rows) taken stamp total h = absurd h
  act_fits (kind.Set k) (Remove e) (content.Register r) taken stamp total h = absurd h
  act_fits (kind.Set k) (Add amount) c taken stamp total h = absurd (true≢false (sym taken))
  act_fits (kind.Set k) (Write e) c taken stamp total h = absurd (true≢false (sym taken))
  act_fits (kind.Register k start) (Write e) (content.Register r) taken stamp total h = write_fits k start e r taken stamp
  act_fits (kind.Register k start) (Write e) (content.Counter rows) taken stamp total h = absurd h
  act_fits (kind.Register k start) (Write e) (content.Set pairs) taken stamp total h = absurd h
  act_fits (kind.Register k start) (Add amount) c taken stamp total h = absurd (true≢false (sym taken))
  act_fits (kind.Register k start) (Insert e) c taken stamp total h = absurd (true≢false (sym taken))
  act_fits (kind.Register k start) (Remove e) c taken stamp total h = absurd (true≢false (sym taken))

change_at-length : (place : ℕ) (f : RKind → RCell → RCell) (ks : List RKind) (cs : List RCell) → length cs ≡ length ks → length (change_at place f ks cs) ≡ length ks
change_at-length place f [] cs e = e
change_at-length place f (k ∷ ks) [] e = absurd (omega arith)
change_at-length zero f (k ∷ ks) (c ∷ cs) e = e
change_at-length (suc place) f (k ∷ ks) (c ∷ cs) e = ap suc (change_at-length place f ks cs (omega arith))

-- a cell after a change is the changed one or as it was
change_at-at : (place : ℕ) (f : RKind → RCell → RCell) (ks : List RKind) (cs : List RCell) (at : ℕ) (k : RKind) (c : RCell) → slice_get ks at ≡ Some k → slice_get (change_at place f ks cs) at ≡ Some c
    → (x : RCell) × (slice_get cs at ≡ Some x) × (((at ≡ place) × (f k x ≡ c)) ⊎ (x ≡ c))
change_at-at place f [] cs at k c found is = absurd (cc)
change_at-at place f (l ∷ ks) [] at k c found is = absurd (cc)
change_at-at zero f (l ∷ ks) (x ∷ cs) zero k c found is = (x, refl, inl (refl, let same : l ≡ k = cc in let made : f l x ≡ c = cc in ap (λ k. f k x) (sym same) ∙ made))
change_at-at zero f (l ∷ ks) (x ∷ cs) (suc at) k c found is = (c, is, inr refl)
change_at-at (suc place) f (l ∷ ks) (x ∷ cs) zero k c found is = (x, refl, inr (cc))
change_at-at (suc place) f (l ∷ ks) (x ∷ cs) (suc at) k c found is =
    let m = change_at-at place f ks cs at k c found is in
    (m.0, m.1, elim m.2 [ inl e ↦ inl (ap suc e.0, e.1) | inr e ↦ inr e ])

-- no limit stands against an operation
no_limit : (a b c : Bool) → cond a (Some DotsSpent) (cond b (Some SetFull) (cond c (Some CounterFull) None)) ≡ None → (a ≡ false) × (b ≡ false) × (c ≡ false)
no_limit true b c e = absurd (cc)
no_limit false true c e = absurd (cc)
no_limit false false true e = absurd (cc)
no_limit false false false e = (refl, refl, refl)

-- what an operation changes stays below its limits
record IsWithinRoom (shape : Shape) (device : ℕ) (op : RepOp) (r : RState) : Type 0 where
  number : slice_index r.vector.counts device + 1 < 2 ^ 48
  stamp : at_cell (stamp_after op.act) (slice_get r.cells.items op.cell) < 2 ^ 52
  pairs : sum_by pair_count (after_operation shape device op r).cells.items ≤ 1024
  total : at_cell (total_after op.act device) (slice_get r.cells.items op.cell) < 2 ^ 63

below_limits : (number most stamp top : ℕ) → (nat_le most number || nat_le top stamp) ≡ false → (number < most) × (stamp < top)
below_limits number most stamp top e = (grind (arith, nat_tests), grind (arith, nat_tests))

at_most : (most n : ℕ) → nat_lt most n ≡ false → n ≤ most
at_most most n e = grind (arith, nat_tests)

below : (most n : ℕ) → nat_le most n ≡ false → n < most
below most n e = grind (arith, nat_tests)

within_room : (shape : Shape) (device : ℕ) (op : RepOp) (r : RState) → operation_fault shape device op r ≡ None → IsWithinRoom shape device op r
within_room shape device op r e =
    let n = no_limit _ _ _ e in
    let dots = below_limits (slice_index r.vector.counts device + 1) (2 ^ 48) (at_cell (stamp_after op.act) (slice_get r.cells.items op.cell)) (2 ^ 52) n.0 in
    record {
      number = dots.0;
      stamp = dots.1;
      pairs = at_most 1024 _ n.1;
      total = below (2 ^ 63) _ n.2;
    }

-- a vector with a greater number for a device covers more
AtMost-set : (v : List ℕ) (device n : ℕ) → device < length v → slice_index v device ≤ n → AtMost v (slice_set v device n)
AtMost-set v device n within h other =
    elim (cases_eq other device) [
      | inl same ↦ subst (λ d. slice_index v d ≤ slice_index (slice_set v device n) d) (sym same) (let s = get_or-set_same v device n 0 within in omega arith)
      | inr unlike ↦ let s = get_or-set_other v device other n 0 unlike in omega arith
    ]

-- the dot and the vector of an operation
made_by : (shape : Shape) (device : ℕ) (v : List ℕ) → shape.devices ≤ 16 → device < shape.devices → length v ≡ 16 → IsMade shape (record { device = device; number = slice_index v device + 1 }) v (slice_set v device (slice_index v device + 1))
made_by shape device v few known places =
    let n : ℕ = slice_index v device + 1 in
    let within : device < length v = omega arith in
    record {
      few = few;
      known = known;
      low = omega arith;
      covered = let s = get_or-set_same v device n 0 within in omega arith;
      up = AtMost-set v device n within (omega arith);
    }

-- the cell that an operation changes
changed_fits : (shape : Shape) (device : ℕ) (op : RepOp) (r : RState) (dot : Dot) (w : List ℕ) → IsMade shape dot r.vector.counts w → dot.device ≡ device → is_operation_in shape op ≡ true → IsWithinRoom shape device op r
    → (k : RKind) (c : RCell) → slice_get shape.cells.items op.cell ≡ Some k → slice_get r.cells.items op.cell ≡ Some c → FitsKind shape r.vector.counts k c → FitsKind shape w k (act_on k dot op.act c)
changed_fits shape device op r dot w made same taken room k c found at h =
    act_fits shape dot r.vector.counts w made k op.act c
    (sym (ap (λ o. option_map_or (λ k. is_act_of shape.symbols k op.act) o false) found) ∙ taken)
    (subst (λ o. at_cell (stamp_after op.act) o < 2 ^ 52) at room.stamp)
    (subst (λ d. total_after op.act d c < 2 ^ 63) (sym same) (subst (λ o. at_cell (total_after op.act device) o < 2 ^ 63) at room.total))
    h

-- a state that fits a shape fits it after an operation that its cell takes, and that no limit stands against
pub operation_fits : (shape : Shape) (device : ℕ) (op : RepOp) (r : RState) → shape.devices ≤ 16 → device < shape.devices → is_operation_in shape op ≡ true → operation_fault shape device op r ≡ None → FitsShape shape r → FitsShape shape (after_operation shape device op r)
operation_fits shape device op r few known taken unfaulted h =
    let room = within_room shape device op r unfaulted in
    let v = r.vector.counts in
    let n : ℕ = slice_index v device + 1 in
    let w : List ℕ = slice_set v device n in
    let dot : Dot = record { device = device; number = n } in
    let made : IsMade shape dot v w = made_by shape device v few known h.counts.places in
    record {
      plain = refl;
      counts = row_set shape.devices (2 ^ 48) device n v known room.number h.counts;
      count = change_at-length op.cell (λ k. act_on k dot op.act) shape.cells.items r.cells.items h.count;
      cells = λ place k c found is.
          let m = change_at-at op.cell (λ k. act_on k dot op.act) shape.cells.items r.cells.items place k c found is in
          elim m.2 [
            | inl e ↦ subst (FitsKind shape w k) e.1 (changed_fits shape device op r dot w made refl taken room k m.0 (ap (slice_get shape.cells.items) (sym e.0) ∙ found) (ap (slice_get r.cells.items) (sym e.0) ∙ m.1) (h.cells place k m.0 found m.1))
            | inr e ↦ subst (FitsKind shape w k) e (kind_up shape v w made.up k m.0 (h.cells place k m.0 found m.1))
          ];
      pairs = room.pairs;
    }
