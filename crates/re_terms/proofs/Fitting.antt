-- The state of updates of a shape, where it is within the limits, fits the shape.
use Rattle.std.proofs.Common.{◌≡◌, ℕ, suc, ◌+◌, ◌<◌, ◌≤◌, ◌^◌, Bool, true, false, cond, List, [], ◌∷◌, None, Some, refl, sym, ap, ◌∙◌, subst, arith, inl, inr, length, not}
use Rattle.std.specs.Prelude.{◌&&◌, ◌||◌, nat_eq, nat_lt, nat_le, slice_get, slice_index, option_map}
use Rattle.std.specs.List.{list_all, list_any, sum_by}
use Rattle.std.specs.Option.{option_map_or}
use Rattle.std.specs.Ordering.{eq_by_cmp}
use Rattle.std.proofs.lemmas.Bool.{cases_lt}
use Rattle.std.proofs.lemmas.Bool.Decides.{nat_tests}
use Rattle.std.proofs.lemmas.List.{get_or_past}
use Rattle.std.proofs.lemmas.List.Sums.{sum_by-cons}
use Rattle.re_terms.specs.Admission.{is_act_of}
use Rattle.re_terms.specs.CellStates.{Pairing.AddWins, part_of, row_of, increment, decrement, inserted, inserted_by, pairs_of, takes, unwritten, written, written_by, written_of}
use Rattle.re_terms.specs.ShapedUpdates.{is_update_of, IsWithin, IsWithinLimits}
use Rattle.re_terms.specs.Shapes.{FitsKind, FitsRegister, FitsShape, is_pair_of, is_word_of}
use Rattle.re_terms.specs.UpdateStates.{content_of, contents_from, state_of_updates}
use Rattle.re_terms.specs.Updates.{Update, IsIn, IsCausalLog, greatest_number, vector_of}
use Rattle.re_terms.specs.Vectors.{by_device}
use Rattle.re_terms.specs.WordOrder.{pair_cmp}
use Rattle.re_terms.specs.declared.word.Kind.{Kind}
use Rattle.re_terms.specs.declared.word.Word.{Word}
use Rattle.re_terms.specs.declared.replicated.Act.{Act}
use Rattle.re_terms.specs.declared.replicated.Act.TheVariants.{Add, Insert, Remove, Write}
use Rattle.re_terms.specs.declared.replicated.Pair.{Pair}
use Rattle.re_terms.specs.declared.replicated.RKind.{RKind}
use Rattle.re_terms.specs.declared.replicated.RKind.TheVariants as kind
use Rattle.re_terms.specs.declared.replicated.Shape.{Shape}
use Rattle.re_terms.specs.declared.replicated.Written.{Written}
use Rattle.re_terms.proofs.Logs.{numbered_of, at-by_device, length-by_device, greatest_number-le, greatest_number-has, IsIn-from_any}
use mathlib.Core.Bool.{true≢false}
use Rattle.re_terms.proofs.Lists.{passes}
use Rattle.re_terms.proofs.OneMore.{pairs_ascend}
use Rattle.re_terms.proofs.Registers.{best, stamped_of, writes}
use Rattle.re_terms.proofs.Sets.{adds, adds-dot, has-pairs_of}
use Rattle.re_terms.proofs.Values.{content_at}
use Rattle.re_terms.proofs.WordOrders.{same_pair-is, same_pair-refl}

pub left : (a b : Bool) → (a && b) ≡ true → a ≡ true
left true b e = refl
left false b e = e

pub right : (a b : Bool) → (a && b) ≡ true → b ≡ true
right true b e = e
right false b e = absurd (cc)

pub both : (a b : Bool) → a ≡ true → b ≡ true → (a && b) ≡ true
both a b e h = (λ i. e i && h i)

-- a list all of whose members pass a test
all_members : (f : Pair → Bool) (ps : List Pair) → ((p : Pair) → list_any (eq_by_cmp pair_cmp p) ps ≡ true → f p ≡ true) → list_all f ps ≡ true
all_members f [] h = refl
all_members f (p ∷ ps) h = both (f p) (list_all f ps)
    (h p (ap (λ b. b || list_any (eq_by_cmp pair_cmp p) ps) (same_pair-refl p)))
    (all_members f ps (λ q e. h q (ap (λ b. eq_by_cmp pair_cmp q p || b) e ∙ elim (eq_by_cmp pair_cmp q p) as (λ b. (b || true) ≡ true) [ true ↦ refl | false ↦ refl ])))

-- a list by devices has 0 past the devices where its entries do
past_devices : (f : ℕ → ℕ) (devices device : ℕ) → ((d : ℕ) → devices ≤ d → f d ≡ 0) → devices ≤ device → slice_index (by_device f) device ≡ 0
past_devices f devices device none h =
    elim (cases_lt device 16) [
      | inl small ↦ at-by_device f device small ∙ none device h
      | inr large ↦ get_or_past (by_device f) device 0 (let l = length-by_device f in omega arith)
    ]

sum_none : (f : Update → ℕ) (us : List Update) → ((u : Update) → IsIn u us → f u ≡ 0) → sum_by f us ≡ 0
sum_none f [] h = refl
sum_none f (u ∷ us) h = let a = h u (inl refl) in let b = sum_none f us (λ x k. h x (inr k)) in omega (arith, sum_by-cons f u us)

-- what an update of the shape says of its device, and of a cell that takes its act
device_of_shape : (shape : Shape) (u : Update) → is_update_of shape u ≡ true → u.dot.device < shape.devices
device_of_shape shape u e =
    let h : nat_lt u.dot.device shape.devices ≡ true = left (nat_lt u.dot.device shape.devices) (option_map_or (λ k. is_act_of shape.symbols k u.act) (slice_get shape.cells.items u.cell) false) e in
    grind (arith, nat_tests)

act_of_shape : (shape : Shape) (u : Update) (place : ℕ) (k : RKind) → is_update_of shape u ≡ true → u.cell ≡ place → slice_get shape.cells.items place ≡ Some k → is_act_of shape.symbols k u.act ≡ true
act_of_shape shape u place k e same found = sym (ap (λ o. option_map_or (λ k. is_act_of shape.symbols k u.act) o false) (ap (slice_get shape.cells.items) same ∙ found)) ∙ right (nat_lt u.dot.device shape.devices) _ e

pub in_range : (word : Bool) (device devices number most : ℕ) → word ≡ true → device < devices → 0 < number → number ≤ most → (word && nat_lt device devices && nat_lt 0 number && nat_le number most) ≡ true
in_range word device devices number most w d n m = grind (arith, nat_tests)

-- what an insert and a write are
insert_of : (cell : ℕ) (p : Pair) (u : Update) → adds AddWins cell p u ≡ true → (u.cell ≡ cell) × (u.act ≡ Insert p.element)
unfolding inserted
insert_of cell p u e =
    elim (nat_eq u.cell cell) as (λ b. nat_eq u.cell cell ≡ b → passes (eq_by_cmp pair_cmp p) (cond b (inserted_by AddWins u.act u.dot) None) ≡ true → (u.cell ≡ cell) × (u.act ≡ Insert p.element)) [
      | true ↦ λ same h. (grind (arith, nat_tests), by_act u.act h)
      | false ↦ λ _ h. absurd (true≢false (sym h))
    ] refl e
  where
    by_act : (a : Act) → passes (eq_by_cmp pair_cmp p) (inserted_by AddWins a u.dot) ≡ true → a ≡ Insert p.element
    by_act (Insert w) h = ap Insert (sym (ap (λ q. q.element) (same_pair-is p _ h)))
    by_act (Add n) h = absurd (true≢false (sym h))
    by_act (Remove w) h = absurd (true≢false (sym h))
    by_act (Write w) h = absurd (true≢false (sym h))

write_of : (cell : ℕ) (u : Update) (r : Written) → written cell u ≡ Some r → u.act ≡ Write r.word
unfolding written
write_of cell u r e = elim (nat_eq u.cell cell) as (λ b. cond b (written_by u.act u.stamp u.dot.device) None ≡ Some r → u.act ≡ Write r.word) [ true ↦ by_act u.act | false ↦ λ h. absurd (cc) ] e
  where
    by_act : (a : Act) → written_by a u.stamp u.dot.device ≡ Some r → a ≡ Write r.word
    by_act (Write w) h = let k : record { stamp = u.stamp; device = u.dot.device; word = w } ≡ r = cc in ap Write (ap (λ x. x.word) k)
    by_act (Add n) h = absurd (cc)
    by_act (Insert w) h = absurd (cc)
    by_act (Remove w) h = absurd (cc)

contents-length : (ks : List RKind) (place : ℕ) (us : List Update) → length (contents_from place ks us) ≡ length ks
contents-length [] place us = refl
contents-length (k ∷ ks) place us = ap suc (contents-length ks (place + 1) us)

module _ (shape : Shape) (log us : List Update) (causal : IsCausalLog log) (within : (u : Update) → IsIn u us → IsIn u log) (shaped : (u : Update) → IsIn u us → is_update_of shape u ≡ true) where
  no_number : (device : ℕ) → shape.devices ≤ device → greatest_number device us ≡ 0
  no_number device h = let k = greatest_number-le device 0 us (λ u m e. let d = device_of_shape shape u (shaped u m) in absurd (omega arith)) in omega arith

  no_counts : (device : ℕ) → shape.devices ≤ device → slice_index (vector_of us) device ≡ 0
  unfolding vector_of
  no_counts device h = past_devices (λ d. greatest_number d us) shape.devices device no_number h

  no_part : (f : Act → ℕ) (cell device : ℕ) → shape.devices ≤ device → (u : Update) → IsIn u us → part_of f cell device u ≡ 0
  no_part f cell device h u m = let d = device_of_shape shape u (shaped u m) in grind (arith, nat_tests)

  no_row : (f : Act → ℕ) (cell device : ℕ) → shape.devices ≤ device → slice_index (row_of f cell us) device ≡ 0
  unfolding row_of
  no_row f cell device h = past_devices (λ d. sum_by (part_of f cell d) us) shape.devices device (λ d k. sum_none (part_of f cell d) us (no_part f cell d k)) h

  -- the pair of an insert is one of the set's
  pair_of_insert : (place : ℕ) (k : Kind) → slice_get shape.cells.items place ≡ Some (kind.Set k) → (p : Pair) → list_any (eq_by_cmp pair_cmp p) (pairs_of AddWins place us) ≡ true → is_pair_of shape k (vector_of us) p ≡ true
  unfolding vector_of inserted
  pair_of_insert place k found p e =
      let r = IsIn-from_any (adds AddWins place p) us (left (list_any (adds AddWins place p) us) (not (list_any (takes AddWins place p) us)) (sym (has-pairs_of AddWins place us p) ∙ e)) in
      let u = r.0 in
      let i = insert_of place p u r.2 in
      let same : u.dot ≡ p.dot = adds-dot AddWins place p u r.2 in
      let numbered = numbered_of log causal in
      let word : is_word_of shape.symbols k p.element ≡ true = sym (ap (is_act_of shape.symbols (kind.Set k)) i.1) ∙ act_of_shape shape u place (kind.Set k) (shaped u r.1) i.0 found in
      let device : p.dot.device < shape.devices = subst (λ d. d.device < shape.devices) same (device_of_shape shape u (shaped u r.1)) in
      let small : p.dot.device < 16 = subst (λ d. d.device < 16) same (numbered.device u (within u r.1)) in
      let low : 0 < p.dot.number = subst (λ d. 0 < d.number) same (numbered.low u (within u r.1)) in
      let high : p.dot.number ≤ greatest_number p.dot.device us = subst (λ d. d.number ≤ greatest_number d.device us) same (greatest_number-has u.dot.device us u r.1 refl) in
      in_range (is_word_of shape.symbols k p.element) p.dot.device shape.devices p.dot.number (slice_index (by_device (λ d. greatest_number d us)) p.dot.device) word device low (let a = at-by_device (λ d. greatest_number d us) p.dot.device small in omega arith)

  set_fits : (place : ℕ) (k : Kind) → slice_get shape.cells.items place ≡ Some (kind.Set k) → list_all (is_pair_of shape k (vector_of us)) (pairs_of AddWins place us) ≡ true
  set_fits place k found = all_members _ _ (pair_of_insert place k found)

  register_fits : (place : ℕ) (k : Kind) (start : Word) → slice_get shape.cells.items place ≡ Some (kind.Register k start) → (written_of start place us).stamp < 2 ^ 52 → FitsRegister shape k start (written_of start place us)
  register_fits place k start found bounded =
      let r = written_of start place us in
      elim (best place (unwritten start) us).from [
        | inl e ↦ record {
          bounded = bounded;
          unwritten = λ _. (ap (λ w. w.device) e, ap (λ w. w.word) e);
          written = λ h. let z : r.stamp ≡ 0 = ap (λ w. w.stamp) e in absurd (omega arith);
        }
        | inr b ↦
            let u = b.0 in
            let w = writes place u r b.2 in
            let low = (stamped_of log causal).low place u r (within u b.1) b.2 in
            let device = device_of_shape shape u (shaped u b.1) in
            let same = w.device in
            record {
              bounded = bounded;
              unwritten = λ h. absurd (omega arith);
              written = λ _. (omega arith, sym (ap (is_act_of shape.symbols (kind.Register k start)) (write_of place u r b.2)) ∙ act_of_shape shape u place (kind.Register k start) (shaped u b.1) w.in_cell found);
            }
      ]

  row_places : (f : Act → ℕ) (place : ℕ) → length (row_of f place us) ≡ 16
  unfolding row_of
  row_places f place = length-by_device (λ device. sum_by (part_of f place device) us)

  count_places : length (vector_of us) ≡ 16
  unfolding vector_of
  count_places = length-by_device (λ device. greatest_number device us)

  kind_fits : (place : ℕ) (k : RKind) → slice_get shape.cells.items place ≡ Some k → IsWithin (content_of k place us) → FitsKind shape (vector_of us) k (content_of k place us)
  kind_fits place kind.Counter found h = (record { places = row_places increment place; bounded = h.0; none = no_row increment place }, record { places = row_places decrement place; bounded = h.1; none = no_row decrement place })
  kind_fits place (kind.Set k) found h = (pairs_ascend AddWins place us, set_fits place k found, refl)
  kind_fits place (kind.Register k start) found h = register_fits place k start found h

  pub state_fits : IsWithinLimits (state_of_updates shape us) → FitsShape shape (state_of_updates shape us)
  state_fits limits =
      record {
        plain = refl;
        counts = record { places = count_places; bounded = limits.counts; none = no_counts };
        count = contents-length shape.cells.items 0 us;
        cells = λ place k c found is.
            let here : slice_get (contents_from 0 shape.cells.items us) place ≡ Some (content_of k place us) = content_at shape.cells.items 0 place us ∙ ap (option_map (λ k. content_of k (0 + place) us)) found ∙ ap (λ n. Some (content_of k n us)) (omega arith) in
            let same : content_of k place us ≡ c = cc in
            subst (FitsKind shape (vector_of us) k) same (kind_fits place k found (limits.cells place (content_of k place us) here));
        pairs = limits.pairs;
      }
