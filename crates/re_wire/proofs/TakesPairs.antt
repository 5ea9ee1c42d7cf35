-- Pairs that are read are spelled so, ascend, and are pairs of the set.
use Rattle.std.proofs.Common.{◌≡◌, ℕ, zero, suc, ◌+◌, ◌^◌, ◌<◌, ◌≤◌, Bool, true, false, cond, ltb, leb, eqb, List, [], ◌∷◌, ◌++◌, length, Option, Some, None, Ok, Err, refl, sym, ap, subst, ◌∙◌, arith, inl, inr}
use Rattle.std.specs.Prelude.{◌&&◌, slice_index}
use Rattle.std.specs.declared.cmp.Ordering.{Ordering}
use Rattle.std.specs.declared.cmp.Ordering.TheVariants.{Less, Equal, Greater}
use Rattle.std.specs.Int.{w8, w16, w64, to_be_bytes}
use Rattle.std.specs.List.{AllByRecursion, flat_map, list_all}
use Rattle.std.specs.List.Sorted.{IsStrictlySortedBy}
use Rattle.std.specs.Ordering.{nat_cmp, ordering_then, ordering_reverse, is_lt, is_eq}
use Rattle.std.proofs.lemmas.Bool.{cases_lt, le-ltb, ltb-false, leb-false, eq-eqb, lt-ltb, and_parts, and_from}
use Rattle.std.proofs.lemmas.List.Concat.{flat_map-cons}
use Rattle.re_terms.specs.Listed.{Listed, plain}
use Rattle.re_terms.specs.Shapes.{is_word_of, is_pair_of}
use Rattle.re_terms.specs.Spellings.{word_bytes, pair_bytes, pairs_bytes}
use Rattle.re_terms.specs.Vectors.{covers}
use Rattle.re_terms.specs.WordOrder.{word_cmp, pair_cmp}
use Rattle.re_terms.specs.declared.word.Word.{Word}
use Rattle.re_terms.specs.declared.word.Kind.{Kind}
use Rattle.re_terms.specs.declared.replicated.Pair.{Pair}
use Rattle.re_terms.specs.declared.replicated.Shape.{Shape}
use Rattle.re_terms.proofs.WordOrders.{word_cmp_total, pair_cmp_total}
use Rattle.re_wire.specs.Reading.{◌>>=◌, number_at, below_at, listed, word_at, element_descends, device_descends, number_descends, element_at, device_at, covered_at, pair_at, ascending_at, pairs_at}
use Rattle.re_wire.proofs.Bytes.{IsBytes}
use Rattle.re_wire.proofs.Takes.{bind_ok, unless_ok, when_ok, ok_is, Takes, Takes-none, Takes-then, byte_is, wide8, wide16, wide64, number_takes, below_takes}
use Rattle.re_wire.proofs.TakesWords.{IsAllowed, word_taken}

-- ---- what doesn't descend stands behind

and_second : (a b : Bool) → a ≡ true → (a && b) ≡ false → b ≡ false
and_second true b h e = e
and_second false b h e = absurd cc

-- of two pairs with this order of their elements, devices and numbers the second stands behind the first
ascends : (o : Ordering) (device before_unstored number before_number : ℕ) → is_lt o ≡ false → (is_eq o && ltb device before_unstored) ≡ false → (is_eq o && eqb device before_unstored && leb number before_number) ≡ false
    → ordering_then (ordering_reverse o) (ordering_then (nat_cmp before_unstored device) (nat_cmp before_number number)) ≡ Less
ascends Less device before_unstored number before_number e d n = absurd cc
ascends Equal device before_unstored number before_number e d n =
    elim (cases_lt before_unstored device) [
      | inl lt ↦ rw (lt-ltb before_unstored device lt) refl
      | inr le ↦
          let same : device ≡ before_unstored = (let back = ltb-false device before_unstored d in omega arith) in
          let later : before_number < number = leb-false number before_number (and_second _ _ (eq-eqb device before_unstored same) n) in
          rw (le-ltb before_unstored device le, eq-eqb before_unstored device (sym same), lt-ltb before_number number later) refl
    ]
ascends Greater device before_unstored number before_number e d n = refl

-- a pair stands behind the one before it
abbrev pub IsBehind : Option Pair → Pair → Type 0
IsBehind None p = Unit {0}
IsBehind (Some q) p = pair_cmp q p ≡ Less

is_behind : (before : Option Pair) (p : Pair) → element_descends before p.element ≡ false → device_descends before p.element p.dot.device ≡ false → number_descends before p.element p.dot.device p.dot.number ≡ false → IsBehind before p
unfolding pair_cmp
is_behind None p e d n = tt
is_behind (Some q) p e d n =
    ap (λ (o : Ordering). ordering_then o (ordering_then (nat_cmp q.dot.device p.dot.device) (nat_cmp q.dot.number p.dot.number))) (word_cmp_total.antisymm q.element p.element)
    ∙ ascends (word_cmp p.element q.element) p.dot.device q.dot.device p.dot.number q.dot.number e d n

-- each stands behind the one before it
abbrev pub Ascend : Option Pair → List Pair → Type 0
Ascend before [] = Unit {0}
Ascend before (p ∷ ps) = IsBehind before p × Ascend (Some p) ps

behind_too : (q p : Pair) (ps : List Pair) → pair_cmp q p ≡ Less → AllByRecursion (λ r. pair_cmp p r ≡ Less) ps → AllByRecursion (λ r. pair_cmp q r ≡ Less) ps
behind_too q p [] e h = tt
behind_too q p (r ∷ rs) e h = (pair_cmp_total.trans q p r e h.0, behind_too q p rs e h.1)

all_behind : (q : Pair) (ps : List Pair) → Ascend (Some q) ps → AllByRecursion (λ r. pair_cmp q r ≡ Less) ps × IsStrictlySortedBy pair_cmp ps
unfolding IsStrictlySortedBy
all_behind q [] h = (tt, tt)
all_behind q (p ∷ ps) h =
    let rest = all_behind p ps h.1 in
    ((h.0, behind_too q p ps h.0 rest.0), (rest.0, rest.1))

pub sorted : (ps : List Pair) → Ascend None ps → IsStrictlySortedBy pair_cmp ps
unfolding IsStrictlySortedBy
sorted [] h = tt
sorted (p ∷ ps) h = let rest = all_behind p ps h.1 in (rest.0, rest.1)

-- ---- a pair

pub of_kind : (symbols : ℕ) (k : Kind) (w : Word) → IsAllowed symbols k false w → is_word_of symbols k w ≡ true
of_kind symbols k w (inl is) = is
of_kind symbols k w (inr f) = absurd (cc (f.0))

ElementTaken : ℕ → Kind → Option Pair → List ℕ → ℕ → Word × ℕ → Type 0
ElementTaken symbols k before bytes at x = Takes bytes at (word_bytes x.0) x.1 × (is_word_of symbols k x.0 ≡ true) × (element_descends before x.0 ≡ false)

element_takes : (k : Kind) (symbols : ℕ) (before : Option Pair) (bytes : List ℕ) (at : ℕ) (x : Word × ℕ) → IsBytes bytes → element_at k symbols before bytes at ≡ Ok x → ElementTaken symbols k before bytes at x
unfolding element_at ElementTaken
element_takes k symbols before bytes at x fits e =
    let b = bind_ok (word_at k false symbols bytes at) (λ element. cond (element_descends before element.0) (Err at) (Ok element)) x e in
    let g = unless_ok (element_descends before b.0.0) at (Ok b.0) x b.2 in
    let t = word_taken k false symbols bytes at b.0 fits b.1 in
    subst (λ (y : Word × ℕ). ElementTaken symbols k before bytes at y) (ok_is b.0 x g.1) (t.0, of_kind symbols k b.0.0 t.1, g.0)

DeviceTaken : ℕ → Option Pair → Word → List ℕ → ℕ → ℕ × ℕ → Type 0
DeviceTaken devices before element bytes at x = Takes bytes at (x.0 ∷ []) x.1 × (ltb x.0 devices ≡ true) × (device_descends before element x.0 ≡ false)

device_takes : (devices : ℕ) (before : Option Pair) (element : Word) (start : ℕ) (bytes : List ℕ) (at : ℕ) (x : ℕ × ℕ) → IsBytes bytes → device_at devices before element start bytes at ≡ Ok x → DeviceTaken devices before element bytes at x
unfolding device_at DeviceTaken
device_takes devices before element start bytes at x fits e =
    let b = bind_ok (number_at w8 bytes at) (λ device. cond (device_descends before element device.0) (Err start) (cond (ltb device.0 devices) (Ok device) (Err at))) x e in
    let g = unless_ok (device_descends before element b.0.0) start (cond (ltb b.0.0 devices) (Ok b.0) (Err at)) x b.2 in
    let h = when_ok (ltb b.0.0 devices) at (Ok b.0) x g.1 in
    let t = number_takes w8 (2 ^ 8) wide8 bytes at b.0 fits b.1 in
    let text : Takes bytes at (b.0.0 ∷ []) b.0.1 = subst (λ (l : List ℕ). Takes bytes at l b.0.1) (byte_is b.0.0 t.1) t.0 in
    subst (λ (y : ℕ × ℕ). DeviceTaken devices before element bytes at y) (ok_is b.0 x h.1) (text, h.0, g.0)

NumberTaken : List ℕ → Option Pair → Word → ℕ → List ℕ → ℕ → ℕ × ℕ → Type 0
NumberTaken counts before element device bytes at x = Takes bytes at (to_be_bytes w64 x.0) x.1 × (covers counts (record { device = device; number = x.0 }) ≡ true) × (number_descends before element device x.0 ≡ false)

covered_takes : (counts : List ℕ) (before : Option Pair) (element : Word) (device start : ℕ) (bytes : List ℕ) (at : ℕ) (x : ℕ × ℕ) → IsBytes bytes → covered_at counts before element device start bytes at ≡ Ok x → NumberTaken counts before element device bytes at x
unfolding covered_at NumberTaken
covered_takes counts before element device start bytes at x fits e =
    let b = bind_ok (number_at w64 bytes at) (λ number. cond (number_descends before element device number.0) (Err start) (cond (covers counts (record { device = device; number = number.0 })) (Ok number) (Err at))) x e in
    let g = unless_ok (number_descends before element device b.0.0) start (cond (covers counts (record { device = device; number = b.0.0 })) (Ok b.0) (Err at)) x b.2 in
    let h = when_ok (covers counts (record { device = device; number = b.0.0 })) at (Ok b.0) x g.1 in
    let t = number_takes w64 (2 ^ 64) wide64 bytes at b.0 fits b.1 in
    subst (λ (y : ℕ × ℕ). NumberTaken counts before element device bytes at y) (ok_is b.0 x h.1) (t.0, h.0, g.0)

-- the tests of a pair of a set, taken together
pub pair_is : (shape : Shape) (k : Kind) (counts : List ℕ) (p : Pair) → is_word_of shape.symbols k p.element ≡ true → ltb p.dot.device shape.devices ≡ true → covers counts p.dot ≡ true → is_pair_of shape k counts p ≡ true
unfolding covers
pair_is shape k counts p element device covered =
    let both = and_parts (ltb 0 p.dot.number) (leb p.dot.number (slice_index counts p.dot.device)) covered in
    rw (element, device, both.0, both.1) refl

pub record PairTaken (shape : Shape) (k : Kind) (counts : List ℕ) (before : Option Pair) (bytes : List ℕ) (at : ℕ) (p : Pair) (place : ℕ) : Type 0 where
  pub text : Takes bytes at (pair_bytes p) place
  pub is : is_pair_of shape k counts p ≡ true
  pub behind : IsBehind before p

pair_takes : (shape : Shape) (k : Kind) (counts : List ℕ) (before : Option Pair) (bytes : List ℕ) (at : ℕ) (x : Pair × ℕ) → IsBytes bytes → pair_at shape k counts before bytes at ≡ Ok x → PairTaken shape k counts before bytes at x.0 x.1
unfolding pair_at ElementTaken DeviceTaken NumberTaken pair_bytes
pair_takes shape k counts before bytes at x fits e =
    let a = bind_ok (element_at k shape.symbols before bytes at) (λ element. device_at shape.devices before element.0 at bytes element.1 >>= λ device. covered_at counts before element.0 device.0 at bytes device.1 >>= λ number. Ok (record { element = element.0; dot = record { device = device.0; number = number.0 } }, number.1)) x e in
    let b = bind_ok (device_at shape.devices before a.0.0 at bytes a.0.1) (λ device. covered_at counts before a.0.0 device.0 at bytes device.1 >>= λ number. Ok (record { element = a.0.0; dot = record { device = device.0; number = number.0 } }, number.1)) x a.2 in
    let c = bind_ok (covered_at counts before a.0.0 b.0.0 at bytes b.0.1) (λ number. Ok (record { element = a.0.0; dot = record { device = b.0.0; number = number.0 } }, number.1)) x b.2 in
    let p : Pair = record { element = a.0.0; dot = record { device = b.0.0; number = c.0.0 } } in
    let t = element_takes k shape.symbols before bytes at a.0 fits a.1 in
    let u = device_takes shape.devices before a.0.0 at bytes a.0.1 b.0 fits b.1 in
    let v = covered_takes counts before a.0.0 b.0.0 at bytes b.0.1 c.0 fits c.1 in
    let dot = Takes-then bytes a.0.1 (b.0.0 ∷ []) b.0.1 (to_be_bytes w64 c.0.0) c.0.1 u.0 v.0 in
    let whole = Takes-then bytes at (word_bytes a.0.0) a.0.1 (b.0.0 ∷ to_be_bytes w64 c.0.0) c.0.1 t.0 dot in
    subst (λ (y : Pair × ℕ). PairTaken shape k counts before bytes at y.0 y.1) {x = (p, c.0.1)} (ok_is (p, c.0.1) x c.2)
    (record { text = whole; is = pair_is shape k counts p t.1 u.1 v.1; behind = is_behind before p t.2 u.2 v.2 })

-- ---- pairs

pub record PairsTaken (shape : Shape) (k : Kind) (counts : List ℕ) (before : Option Pair) (bytes : List ℕ) (at : ℕ) (ps : List Pair) (place : ℕ) : Type 0 where
  pub text : Takes bytes at (flat_map pair_bytes ps) place
  pub all : list_all (is_pair_of shape k counts) ps ≡ true
  pub ascend : Ascend before ps

ascending_takes : (shape : Shape) (k : Kind) (counts : List ℕ) (count : ℕ) (before : Option Pair) (bytes : List ℕ) (at : ℕ) (x : List Pair × ℕ) → IsBytes bytes → at ≤ length bytes → ascending_at shape k counts count before bytes at ≡ Ok x
    → PairsTaken shape k counts before bytes at x.0 x.1 × (length x.0 ≡ count)
unfolding ascending_at
ascending_takes shape k counts zero before bytes at x fits within e =
    subst (λ (y : List Pair × ℕ). PairsTaken shape k counts before bytes at y.0 y.1 × (length y.0 ≡ 0)) {x = ([], at)} (ok_is ([], at) x e) (record { text = Takes-none bytes at within; all = refl; ascend = tt }, refl)
ascending_takes shape k counts (suc count) before bytes at x fits within e =
    let a = bind_ok (pair_at shape k counts before bytes at) (λ first. ascending_at shape k counts count (Some first.0) bytes first.1 >>= λ others. Ok (first.0 ∷ others.0, others.1)) x e in
    let b = bind_ok (ascending_at shape k counts count (Some a.0.0) bytes a.0.1) (λ others. Ok (a.0.0 ∷ others.0, others.1)) x a.2 in
    let t = pair_takes shape k counts before bytes at a.0 fits a.1 in
    let u = ascending_takes shape k counts count (Some a.0.0) bytes a.0.1 b.0 fits t.text.bounded b.1 in
    let both = Takes-then bytes at (pair_bytes a.0.0) a.0.1 (flat_map pair_bytes b.0.0) b.0.1 t.text u.0.text in
    subst (λ (y : List Pair × ℕ). PairsTaken shape k counts before bytes at y.0 y.1 × (length y.0 ≡ suc count)) {x = (a.0.0 ∷ b.0.0, b.0.1)} (ok_is (a.0.0 ∷ b.0.0, b.0.1) x b.2)
    (record { text = rw flat_map-cons both; all = and_from _ _ t.is u.0.all; ascend = (t.behind, u.0.ascend) }, ap suc u.1)

pub record SetTaken (shape : Shape) (k : Kind) (counts : List ℕ) (room : ℕ) (bytes : List ℕ) (at : ℕ) (pairs : Listed Pair) (place : ℕ) : Type 0 where
  pub text : Takes bytes at (pairs_bytes pairs.items) place
  pub sorted : IsStrictlySortedBy pair_cmp pairs.items
  pub all : list_all (is_pair_of shape k counts) pairs.items ≡ true
  pub plain : pairs.spare ≡ 0
  pub within : length pairs.items ≤ room

pub pairs_take : (shape : Shape) (k : Kind) (counts : List ℕ) (room : ℕ) (bytes : List ℕ) (at : ℕ) (x : Listed Pair × ℕ) → IsBytes bytes → pairs_at shape k counts room bytes at ≡ Ok x → SetTaken shape k counts room bytes at x.0 x.1
unfolding pairs_at pairs_bytes
pairs_take shape k counts room bytes at x fits e =
    let a = bind_ok (below_at w16 (room + 1) bytes at) (λ count. listed (ascending_at shape k counts count.0 None bytes count.1)) x e in
    let b = bind_ok (ascending_at shape k counts a.0.0 None bytes a.0.1) (λ items. Ok (plain items.0, items.1)) x a.2 in
    let t = below_takes w16 (2 ^ 16) wide16 (room + 1) bytes at a.0 fits a.1 in
    let u = ascending_takes shape k counts a.0.0 None bytes a.0.1 b.0 fits t.0.bounded b.1 in
    let both = Takes-then bytes at (to_be_bytes w16 a.0.0) a.0.1 (flat_map pair_bytes b.0.0) b.0.1 t.0 u.0.text in
    let whole : Takes bytes at (to_be_bytes w16 (length b.0.0) ++ flat_map pair_bytes b.0.0) b.0.1 = subst (λ (n : ℕ). Takes bytes at (to_be_bytes w16 n ++ flat_map pair_bytes b.0.0) b.0.1) (sym u.1) both in
    subst (λ (y : Listed Pair × ℕ). SetTaken shape k counts room bytes at y.0 y.1) {x = (plain b.0.0, b.0.1)} (ok_is (plain b.0.0, b.0.1) x b.2)
    (record { text = whole; sorted = sorted b.0.0 u.0.ascend; all = u.0.all; plain = refl; within = omega (arith, t.1, u.1) })
