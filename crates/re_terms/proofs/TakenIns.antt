-- A device's own operations: the updates that they make of what it has taken in.
use Rattle.std.proofs.Common.{◌≡◌, ℕ, ◌+◌, ◌<◌, ◌≤◌, Bool, true, false, cond, List, [], ◌∷◌, ◌++◌, Option, None, Some, refl, sym, ap, ◌∙◌, subst, arith, inl, inr, append_assoc, length, pos, negsuc}
use Rattle.std.specs.Prelude.{◌||◌, ◌^◌, max, nat_lt, nat_le, slice_get, slice_index, option_map}
use Rattle.std.specs.List.{filter, list_all, sum_by}
use Rattle.std.specs.Option.{option_map_or, option_or}
use Rattle.std.proofs.lemmas.Bool.Decides.{nat_tests}
use Rattle.std.proofs.lemmas.Bool.{cases_lt}
use Rattle.std.proofs.lemmas.List.{append-nil, get_or_past, get_or-set_same, length-set}
use Rattle.std.proofs.lemmas.List.Sums.{sum_by-append, sum_by-cons}
use mathlib.Core.Bool.{true≢false}
use Rattle.re_terms.specs.Admission.{is_act_of}
use Rattle.re_terms.specs.CellStates.{part_of, row_of, increment, decrement, unwritten}
use Rattle.re_terms.specs.Limits.{OperationFault.DotsSpent, OperationFault.SetFull, OperationFault.CounterFull, after_operations, at_cell, live_counts, operation_fault, operations_fault, stamp_after, total_after, total_of_updates, update_fault, update_next, updates_fault, updates_made}
use Rattle.re_terms.specs.ShapedUpdates.{is_operation_in}
use Rattle.re_terms.specs.Shapes.{pair_count}
use Rattle.re_terms.specs.TakenIn.{IsTakenIn}
use Rattle.re_terms.specs.UpdateSets.{SameUpdates}
use Rattle.re_terms.specs.UpdateStates.{after_operation, content_of, contents_from, state_of_updates}
use Rattle.re_terms.specs.Updates.{Update, IsCausallyClosed, IsIn, IsNext, count_of, covered, greatest_number, greatest_stamp, next_update, stamp_in, vector_of, write_stamp}
use Rattle.re_terms.specs.Vectors.{by_device, covers, with_dot}
use Rattle.re_terms.specs.declared.replicated.Act.{Act}
use Rattle.re_terms.specs.declared.replicated.Act.TheVariants.{Add, Insert, Remove, Write}
use Rattle.re_terms.specs.declared.replicated.Dot.{Dot}
use Rattle.re_terms.specs.declared.replicated.RepOp.{RepOp}
use Rattle.re_terms.specs.declared.replicated.RKind.{RKind}
use Rattle.re_terms.specs.declared.replicated.RKind.TheVariants as kind
use Rattle.re_terms.specs.declared.replicated.Shape.{Shape}
use Rattle.re_terms.proofs.Dots.{vector_back}
use Rattle.re_terms.proofs.Fitting.{left, right}
use Rattle.re_terms.proofs.Logs.{IsIn-cases, IsIn-from_filter, IsIn-left, IsIn-right, at-by_device, count-push, covers-gives, length-by_device, numbered_of}
use Rattle.re_terms.proofs.Members.{state_same, vector_alike}
use Rattle.re_terms.proofs.OneMore.{same_number, stamp-write}
use Rattle.re_terms.proofs.Operations.{causal_push, closed_push, covered_push, next_update_is_next, state_taken}
use Rattle.re_terms.proofs.Unions.{once_push}
use Rattle.re_terms.proofs.Values.{content_at}

-- ---- the greatest stamp of the same updates

greatest_stamp-le : (cell m : ℕ) (us : List Update) → ((u : Update) → IsIn u us → stamp_in cell u ≤ m) → greatest_stamp cell us ≤ m
unfolding greatest_stamp
greatest_stamp-le cell m [] h = omega arith
greatest_stamp-le cell m (u ∷ us) h = let a = greatest_stamp-le cell m us (λ x k. h x (inr k)) in let b = h u (inl refl) in omega arith

greatest_stamp-has : (cell : ℕ) (us : List Update) (u : Update) → IsIn u us → stamp_in cell u ≤ greatest_stamp cell us
unfolding greatest_stamp
greatest_stamp-has cell [] u h = absurd h
greatest_stamp-has cell (x ∷ us) u (inl e) = subst (λ y. stamp_in cell y ≤ max (stamp_in cell x) (greatest_stamp cell us)) e (omega arith)
greatest_stamp-has cell (x ∷ us) u (inr h) = let k = greatest_stamp-has cell us u h in omega arith

greatest_stamp-alike : (cell : ℕ) (us vs : List Update) → ((u : Update) → IsIn u us → IsIn u vs) → ((u : Update) → IsIn u vs → IsIn u us) → greatest_stamp cell us ≡ greatest_stamp cell vs
greatest_stamp-alike cell us vs to back =
    let a = greatest_stamp-le cell (greatest_stamp cell vs) us (λ u h. greatest_stamp-has cell vs u (to u h)) in
    let b = greatest_stamp-le cell (greatest_stamp cell us) vs (λ u h. greatest_stamp-has cell us u (back u h)) in
    omega arith

-- a test that all pass keeps them all
filter_all : (p : Update → Bool) (us : List Update) → ((u : Update) → IsIn u us → p u ≡ true) → filter p us ≡ us
filter_all p [] h = refl
filter_all p (u ∷ us) h = λ i. cond (h u (inl refl) i) (u ∷ filter_all p us (λ x k. h x (inr k)) i) (filter_all p us (λ x k. h x (inr k)) i)

-- ---- one operation

module _ (log us : List Update) (device : ℕ) (taken : IsTakenIn log device us) where
  in_log : (u : Update) → IsIn u us → IsIn u log
  in_log u h = (IsIn-from_filter (λ x. covers (vector_of us) x.dot) u log (taken.same.to u h)).0

  known : (u : Update) → IsIn u us → covers (vector_of us) u.dot ≡ true
  known u h = (IsIn-from_filter (λ x. covers (vector_of us) x.dot) u log (taken.same.to u h)).1

  all_covered : covered us (vector_of us) ≡ us
  all_covered = filter_all (λ x. covers (vector_of us) x.dot) us known

  places : length (vector_of us) ≡ 16
  unfolding vector_of
  places = length-by_device (λ d. greatest_number d us)

  -- the update that the device makes of what it has taken in is the one that it makes of the log, with the vector of what it has taken in
  update_is : (op : RepOp) → update_next us device op ≡ next_update log (vector_of us) device op
  update_is op =
      let stamps = ap (greatest_stamp op.cell) all_covered ∙ greatest_stamp-alike op.cell us (covered log (vector_of us)) taken.same.to taken.same.back in
      λ i. record {
        dot = record { device = device; number = slice_index (vector_of us) device + 1 };
        cell = op.cell;
        act = op.act;
        stamp = write_stamp op.act (stamps i + 1);
        seen = vector_of us;
      }

  next_follows : (op : RepOp) → IsNext log (update_next us device op)
  next_follows op = subst (IsNext log) (sym (update_is op)) (next_update_is_next log (vector_of us) device op taken.closed taken.numbered places taken.own)

  next_new : (op : RepOp) → IsIn (update_next us device op) us → ⊥
  next_new op h = let c = covers-gives (vector_of us) (record { device = device; number = slice_index (vector_of us) device + 1 }) (known (update_next us device op) h) in absurd (omega arith)

  -- what the vector covers of the log, with the new update behind it: the same updates again as those taken in with it
  abbrev more_covered : RepOp → List Update
  more_covered op = covered log (vector_of us) ++ update_next us device op ∷ []

  to_more : (op : RepOp) (x : Update) → IsIn x (us ++ update_next us device op ∷ []) → IsIn x (more_covered op)
  to_more op x h = elim (IsIn-cases x us _ h) [ inl a ↦ IsIn-left x (covered log (vector_of us)) _ (taken.same.to x a) | inr b ↦ IsIn-right x (covered log (vector_of us)) _ b ]

  from_more : (op : RepOp) (x : Update) → IsIn x (more_covered op) → IsIn x (us ++ update_next us device op ∷ [])
  from_more op x h = elim (IsIn-cases x (covered log (vector_of us)) _ h) [ inl a ↦ IsIn-left x us _ (taken.same.back x a) | inr b ↦ IsIn-right x us _ b ]

  same_more : (op : RepOp) → SameUpdates (us ++ update_next us device op ∷ []) (more_covered op)
  same_more op =
      record {
        once = once_push us (update_next us device op) taken.same.once (next_new op);
        other_once = once_push (covered log (vector_of us)) (update_next us device op) taken.same.other_once (λ h. next_new op (taken.same.back _ h));
        to = to_more op;
        back = from_more op;
      }

  own_more : (op : RepOp) → slice_index (with_dot (vector_of us) (update_next us device op).dot) device ≡ count_of device (log ++ update_next us device op ∷ [])
  own_more op =
      let small = taken.numbered in
      let wide = places in
      let own = taken.own in
      get_or-set_same (vector_of us) device (slice_index (vector_of us) device + 1) 0 (omega arith)
      ∙ ap (λ n. n + 1) own
      ∙ sym (count-push device log (update_next us device op) ∙ ap (λ b. count_of device log + cond b 1 0) (same_number device device refl))

  pub one_taken : (op : RepOp) → IsTakenIn (log ++ update_next us device op ∷ []) device (us ++ update_next us device op ∷ [])
  one_taken op =
      let u = update_next us device op in
      let w = with_dot (vector_of us) u.dot in
      let causal = causal_push log u taken.causal (next_follows op) in
      let closed = closed_push log u taken.causal (next_follows op) in
      let same = subst (SameUpdates (us ++ u ∷ [])) (sym (covered_push log u taken.causal (next_follows op))) (same_more op) in
      let wide = length-set (vector_of us) device (slice_index (vector_of us) device + 1) ∙ places in
      let vector : w ≡ vector_of (us ++ u ∷ []) = sym (vector_alike (us ++ u ∷ []) (covered (log ++ u ∷ []) w) same.to same.back ∙ vector_back (log ++ u ∷ []) w causal closed wide) in
      record {
        numbered = taken.numbered;
        causal = causal;
        closed = subst (IsCausallyClosed (log ++ u ∷ [])) vector closed;
        same = subst (λ l. SameUpdates (us ++ u ∷ []) (covered (log ++ u ∷ []) l)) vector same;
        own = subst (λ l. slice_index l device ≡ count_of device (log ++ u ∷ [])) vector (own_more op);
      }

  pub one_state : (op : RepOp) (shape : Shape) → state_of_updates shape (us ++ update_next us device op ∷ []) ≡ after_operation shape device op (state_of_updates shape us)
  one_state op shape =
      let u = update_next us device op in
      let old = λ (x : Update) (h : IsIn x (covered log (vector_of us))). (IsIn-from_filter (λ x. covers (vector_of us) x.dot) x log h).0 in
      let inside = λ (x : Update) (h : IsIn x (more_covered op)). elim (IsIn-cases x (covered log (vector_of us)) _ h) as (λ _. IsIn x (log ++ u ∷ [])) [ inl a ↦ IsIn-left x log _ (old x a) | inr b ↦ IsIn-right x log _ b ] in
      state_same shape (log ++ u ∷ []) (us ++ u ∷ []) (more_covered op) (causal_push log u taken.causal (next_follows op)) (same_more op) inside
      ∙ ap (λ x. state_of_updates shape (covered log (vector_of us) ++ x ∷ [])) (update_is op)
      ∙ state_taken log (vector_of us) device op taken.causal taken.closed taken.numbered shape
      ∙ ap (after_operation shape device op) (sym (state_same shape log us (covered log (vector_of us)) taken.causal taken.same old))

-- ---- the limits

pub live_is : (ks : List RKind) (place : ℕ) (us : List Update) → live_counts place ks us ≡ sum_by pair_count (contents_from place ks us)
live_is [] place us = refl
live_is (kind.Counter ∷ ks) place us = let e = live_is ks (place + 1) us in omega (arith, sum_by-cons pair_count (content_of kind.Counter place us) (contents_from (place + 1) ks us))
live_is (kind.Set k ∷ ks) place us = let e = live_is ks (place + 1) us in omega (arith, sum_by-cons pair_count (content_of (kind.Set k) place us) (contents_from (place + 1) ks us))
live_is (kind.Register k start ∷ ks) place us = let e = live_is ks (place + 1) us in omega (arith, sum_by-cons pair_count (content_of (kind.Register k start) place us) (contents_from (place + 1) ks us))

-- the stamp of a register is one above the greatest before
stamp_is : (symbols : ℕ) (k : RKind) (act : Act) (cell : ℕ) (us : List Update) → is_act_of symbols k act ≡ true → write_stamp act (greatest_stamp cell us + 1) ≡ stamp_after act (content_of k cell us)
stamp_is symbols kind.Counter (Add n) cell us e = refl
stamp_is symbols kind.Counter (Insert w) cell us e = refl
stamp_is symbols kind.Counter (Remove w) cell us e = refl
stamp_is symbols kind.Counter (Write w) cell us e = absurd (true≢false (sym e))
stamp_is symbols (kind.Set k) (Add n) cell us e = refl
stamp_is symbols (kind.Set k) (Insert w) cell us e = refl
stamp_is symbols (kind.Set k) (Remove w) cell us e = refl
stamp_is symbols (kind.Set k) (Write w) cell us e = absurd (true≢false (sym e))
stamp_is symbols (kind.Register k start) (Add n) cell us e = refl
stamp_is symbols (kind.Register k start) (Insert w) cell us e = refl
stamp_is symbols (kind.Register k start) (Remove w) cell us e = refl
stamp_is symbols (kind.Register k start) (Write w) cell us e = let s = stamp-write cell (unwritten start) us in omega arith

-- a device's total with an amount of its own behind the others
part_raised : (f : Act → ℕ) (us : List Update) (u : Update) → u.dot.device < 16 → sum_by (part_of f u.cell u.dot.device) (us ++ u ∷ []) ≡ slice_index (row_of f u.cell us) u.dot.device + f u.act
unfolding row_of
part_raised f us u small =
    let a = sum_by-append (part_of f u.cell u.dot.device) us (u ∷ []) in
    let b = at-by_device (λ d. sum_by (part_of f u.cell d) us) u.dot.device small in
    let c : part_of f u.cell u.dot.device u ≡ f u.act = grind (arith, nat_tests) in
    omega (arith, sum_by-cons (part_of f u.cell u.dot.device) u [])

total_is : (symbols : ℕ) (k : RKind) (act : Act) (us : List Update) (u : Update) → u.dot.device < 16 → u.act ≡ act → is_act_of symbols k act ≡ true → total_of_updates act u.cell u.dot.device (us ++ u ∷ []) ≡ total_after act u.dot.device (content_of k u.cell us)
total_is symbols kind.Counter (Add (pos n)) us u small is e = part_raised increment us u small ∙ ap (λ a. slice_index (row_of increment u.cell us) u.dot.device + increment a) is
total_is symbols kind.Counter (Add (negsuc n)) us u small is e = part_raised decrement us u small ∙ ap (λ a. slice_index (row_of decrement u.cell us) u.dot.device + decrement a) is
total_is symbols (kind.Set k) (Add n) us u small is e = absurd (true≢false (sym e))
total_is symbols (kind.Register k start) (Add n) us u small is e = absurd (true≢false (sym e))
total_is symbols k (Insert w) us u small is e = refl
total_is symbols k (Remove w) us u small is e = refl
total_is symbols k (Write w) us u small is e = refl

-- the kind of an operation's cell
record Taker (shape : Shape) (op : RepOp) : Type 0 where
  kind : RKind
  found : slice_get shape.cells.items op.cell ≡ Some kind
  takes : is_act_of shape.symbols kind op.act ≡ true

taker : (shape : Shape) (op : RepOp) → is_operation_in shape op ≡ true → Taker shape op
taker shape op e = go (slice_get shape.cells.items op.cell) refl e
  where
    go : (o : Option RKind) → slice_get shape.cells.items op.cell ≡ o → option_map_or (λ k. is_act_of shape.symbols k op.act) o false ≡ true → Taker shape op
    go None found h = absurd (true≢false (sym h))
    go (Some k) found h = record { kind = k; found = found; takes = h }

pub one_fault : (log us : List Update) (device : ℕ) → IsTakenIn log device us → (op : RepOp) (shape : Shape) → is_operation_in shape op ≡ true → update_fault shape us (update_next us device op) ≡ operation_fault shape device op (state_of_updates shape us)
one_fault log us device taken op shape takes =
    let u = update_next us device op in
    let k = taker shape op takes in
    let kinds = shape.cells.items in
    let content : slice_get (contents_from 0 kinds us) op.cell ≡ Some (content_of k.kind op.cell us) =
    content_at kinds 0 op.cell us ∙ ap (option_map (λ x. content_of x (0 + op.cell) us)) k.found ∙ ap (λ n. Some (content_of k.kind n us)) (omega arith)
    in
    let stamp =
    ap (λ l. write_stamp op.act (greatest_stamp op.cell l + 1)) (all_covered log us device taken)
    ∙ stamp_is shape.symbols k.kind op.act op.cell us k.takes
    ∙ ap (at_cell (stamp_after op.act)) (sym content)
    in
    let pairs = live_is kinds 0 (us ++ u ∷ []) ∙ ap (λ r. sum_by pair_count r.cells.items) (one_state log us device taken op shape) in
    let total = total_is shape.symbols k.kind op.act us u taken.numbered refl k.takes ∙ ap (at_cell (total_after op.act device)) (sym content) in
    λ i. cond (nat_le (2 ^ 48) (slice_index (vector_of us) device + 1) || nat_le (2 ^ 52) (stamp i)) (Some DotsSpent)
    (cond (nat_lt 1024 (pairs i)) (Some SetFull) (cond (nat_le (2 ^ 63) (total i)) (Some CounterFull) None))

-- ---- several operations

none_seen : (device : ℕ) → slice_index (vector_of []) device ≡ 0
unfolding vector_of greatest_number
none_seen device =
    elim (cases_lt device 16) [
      | inl small ↦ at-by_device (λ d. 0) device small
      | inr large ↦ get_or_past (by_device (λ d. 0)) device 0 (let l = length-by_device (λ d. 0) in omega arith)
    ]

none_counted : (device : ℕ) → count_of device [] ≡ 0
unfolding count_of
none_counted device = refl

none_covered : (dot : Dot) → covers (vector_of []) dot ≡ true → ⊥
none_covered dot e = let c = covers-gives (vector_of []) dot e in let none = none_seen dot.device in absurd (omega arith)

pub taken_start : (device : ℕ) → device < 16 → IsTakenIn [] device []
taken_start device small =
    record {
      numbered = small;
      causal = tt;
      closed = λ dot e. absurd (none_covered dot e);
      same = record { once = tt; other_once = tt; to = λ u h. h; back = λ u h. h };
      own = none_seen device ∙ sym (none_counted device);
    }

pub taken_made : (log us : List Update) (device : ℕ) (ops : List RepOp) → IsTakenIn log device us → IsTakenIn (log ++ updates_made device ops us) device (us ++ updates_made device ops us)
taken_made log us device [] taken = rw (append-nil log, append-nil us) taken
taken_made log us device (op ∷ ops) taken =
    let u = update_next us device op in
    let rest = updates_made device ops (us ++ u ∷ []) in
    subst (λ l. IsTakenIn l device (us ++ u ∷ rest)) (append_assoc log (u ∷ []) rest)
    (subst (IsTakenIn ((log ++ u ∷ []) ++ rest) device) (append_assoc us (u ∷ []) rest)
    (taken_made (log ++ u ∷ []) (us ++ u ∷ []) device ops (one_taken log us device taken op)))

pub taken_state : (shape : Shape) (log us : List Update) (device : ℕ) (ops : List RepOp) → IsTakenIn log device us → state_of_updates shape (us ++ updates_made device ops us) ≡ after_operations shape device ops (state_of_updates shape us)
taken_state shape log us device [] taken = ap (state_of_updates shape) (append-nil us)
taken_state shape log us device (op ∷ ops) taken =
    let u = update_next us device op in
    ap (state_of_updates shape) (sym (append_assoc us (u ∷ []) (updates_made device ops (us ++ u ∷ []))))
    ∙ taken_state shape (log ++ u ∷ []) (us ++ u ∷ []) device ops (one_taken log us device taken op)
    ∙ ap (after_operations shape device ops) (one_state log us device taken op shape)

pub taken_fault : (shape : Shape) (log us : List Update) (device : ℕ) (ops : List RepOp) → IsTakenIn log device us → list_all (is_operation_in shape) ops ≡ true → updates_fault shape device ops us ≡ operations_fault shape device ops (state_of_updates shape us)
taken_fault shape log us device [] taken takes = refl
taken_fault shape log us device (op ∷ ops) taken takes =
    let u = update_next us device op in
    let first = one_fault log us device taken op shape (left _ _ takes) in
    let rest =
    taken_fault shape (log ++ u ∷ []) (us ++ u ∷ []) device ops (one_taken log us device taken op) (right _ _ takes)
    ∙ ap (operations_fault shape device ops) (one_state log us device taken op shape)
    in
    λ i. option_or (first i) (rest i)

pub taken_devices : (log us : List Update) (device : ℕ) → IsTakenIn log device us → (u : Update) → IsIn u us → u.dot.device < 16
taken_devices log us device taken u h = (numbered_of log taken.causal).device u (in_log log us device taken u h)

-- what a device makes is its own
pub own_device : (us : List Update) (device : ℕ) (ops : List RepOp) (u : Update) → IsIn u (updates_made device ops us) → u.dot.device ≡ device
own_device us device [] u h = absurd h
own_device us device (op ∷ ops) u (inl e) = sym (ap (λ x. x.dot.device) e)
own_device us device (op ∷ ops) u (inr h) = own_device (us ++ update_next us device op ∷ []) device ops u h
