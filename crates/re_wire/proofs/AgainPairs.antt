-- Pairs of a set that ascend are read again.
use Rattle.std.proofs.Common.{◌≡◌, ℕ, ◌+◌, ◌^◌, ◌<◌, ◌≤◌, Bool, true, false, ltb, leb, eqb, List, [], ◌∷◌, ◌++◌, length, Option, Some, None, Ok, refl, sym, ap, subst, ◌∙◌, arith, inl}
use Rattle.std.specs.Prelude.{◌&&◌, slice_index}
use Rattle.std.specs.declared.cmp.Ordering.{Ordering}
use Rattle.std.specs.declared.cmp.Ordering.TheVariants.{Less, Equal, Greater}
use Rattle.std.specs.Int.{w8, w16, w64, to_be_bytes}
use Rattle.std.specs.List.{flat_map, list_all}
use Rattle.std.specs.List.Sorted.{IsStrictlySortedBy}
use Rattle.std.specs.Ordering.{MatchOrdering, nat_cmp, ordering_then, ordering_reverse, is_lt, is_eq}
use Rattle.std.proofs.lemmas.Bool.{ltb-true, leb-true, eq-eqb, ne_eqb, le-ltb, lt-leb, and_parts, and_from}
use Rattle.std.proofs.lemmas.Cmp.{ranked}
use Rattle.std.proofs.lemmas.List.Concat.{flat_map-cons}
use Rattle.re_terms.specs.Listed.{plain}
use Rattle.re_terms.specs.Shapes.{is_word_of, is_pair_of, IsShape}
use Rattle.re_terms.specs.Spellings.{word_bytes, pair_bytes, pairs_bytes}
use Rattle.re_terms.specs.Vectors.{covers}
use Rattle.re_terms.specs.WordOrder.{word_cmp, pair_cmp}
use Rattle.re_terms.specs.declared.word.Word.{Word}
use Rattle.re_terms.specs.declared.word.Kind.{Kind}
use Rattle.re_terms.specs.declared.replicated.Pair.{Pair}
use Rattle.re_terms.specs.declared.replicated.Shape.{Shape}
use Rattle.re_terms.proofs.WordOrders.{word_cmp_total}
use Rattle.re_wire.specs.Reading.{element_descends, device_descends, number_descends, element_at, device_at, covered_at, pair_at, ascending_at, pairs_at}
use Rattle.re_wire.proofs.Takes.{Takes, Takes-first, Takes-second, byte_is, wide8, wide16, wide64, number_again, below_again}
use Rattle.re_wire.proofs.AgainWords.{word_read}
use Rattle.re_wire.proofs.TakesPairs.{IsBehind, Ascend}

-- ---- what stands behind doesn't descend

record InOrder (o : Ordering) (d before_d n before_n : ℕ) : Type 0 where
  element : is_lt o ≡ false
  device : (is_eq o && ltb d before_d) ≡ false
  number : (is_eq o && eqb d before_d && leb n before_n) ≡ false

-- the devices and numbers of two pairs with one element, the second behind the first
abbrev DotsInOrder : ℕ → ℕ → ℕ → ℕ → Type 0
DotsInOrder device before_unstored number before_number = (ltb device before_unstored ≡ false) × ((eqb device before_unstored && leb number before_number) ≡ false)

less_is : (a b : ℕ) → nat_cmp a b ≡ Less → a < b
less_is a b e = subst (λ (o : Ordering). MatchOrdering o (a < b) (a ≡ b) (b < a)) e (ranked a b (nat_cmp a b) refl)

dots_by : (o : Ordering) (device before_unstored number before_number : ℕ) → MatchOrdering o (before_unstored < device) (before_unstored ≡ device) (device < before_unstored) → ordering_then o (nat_cmp before_number number) ≡ Less → DotsInOrder device before_unstored number before_number
dots_by Less device before_unstored number before_number ranks e =
    (le-ltb device before_unstored (omega arith), ap (λ (b : Bool). b && leb number before_number) (ne_eqb device before_unstored (λ same. omega arith)))
dots_by Equal device before_unstored number before_number ranks e =
    let lt = less_is before_number number e in
    (le-ltb device before_unstored (omega arith), rw (eq-eqb device before_unstored (sym ranks)) (lt-leb number before_number lt))
dots_by Greater device before_unstored number before_number ranks e = absurd cc

behind : (o : Ordering) (device before_unstored number before_number : ℕ) → ordering_then (ordering_reverse o) (ordering_then (nat_cmp before_unstored device) (nat_cmp before_number number)) ≡ Less → InOrder o device before_unstored number before_number
behind Less device before_unstored number before_number e = absurd cc
behind Equal device before_unstored number before_number e =
    let d = dots_by (nat_cmp before_unstored device) device before_unstored number before_number (ranked before_unstored device (nat_cmp before_unstored device) refl) e in
    record { element = refl; device = d.0; number = d.1 }
behind Greater device before_unstored number before_number e = record { element = refl; device = refl; number = refl }

record Follows (before : Option Pair) (p : Pair) : Type 0 where
  element : element_descends before p.element ≡ false
  device : device_descends before p.element p.dot.device ≡ false
  number : number_descends before p.element p.dot.device p.dot.number ≡ false

follows : (before : Option Pair) (p : Pair) → IsBehind before p → Follows before p
unfolding pair_cmp
follows None p h = record { element = refl; device = refl; number = refl }
follows (Some q) p h =
    let turned = ap (λ (o : Ordering). ordering_then o (ordering_then (nat_cmp q.dot.device p.dot.device) (nat_cmp q.dot.number p.dot.number))) (sym (word_cmp_total.antisymm q.element p.element)) in
    let o = behind (word_cmp p.element q.element) p.dot.device q.dot.device p.dot.number q.dot.number (turned ∙ h) in
    record { element = o.element; device = o.device; number = o.number }

ascend_from : (p : Pair) (ps : List Pair) → IsStrictlySortedBy pair_cmp (p ∷ ps) → Ascend (Some p) ps
unfolding IsStrictlySortedBy
ascend_from p [] s = tt
ascend_from p (q ∷ qs) s = (s.0.0, ascend_from q qs s.1)

pub ascends_from : (ps : List Pair) → IsStrictlySortedBy pair_cmp ps → Ascend None ps
unfolding IsStrictlySortedBy
ascends_from [] s = tt
ascends_from (p ∷ ps) s = (tt, ascend_from p ps s)

-- ---- a pair

-- the tests of a pair of a set, one by one
record PairTests (shape : Shape) (k : Kind) (counts : List ℕ) (p : Pair) : Type 0 where
  element : is_word_of shape.symbols k p.element ≡ true
  device : ltb p.dot.device shape.devices ≡ true
  covered : covers counts p.dot ≡ true

pair_tests : (shape : Shape) (k : Kind) (counts : List ℕ) (p : Pair) → is_pair_of shape k counts p ≡ true → PairTests shape k counts p
unfolding covers
pair_tests shape k counts p is =
    let element = is_word_of shape.symbols k p.element in
    let device = ltb p.dot.device shape.devices in
    let numbered = ltb 0 p.dot.number in
    let seen = leb p.dot.number (slice_index counts p.dot.device) in
    let d = and_parts (element && device && numbered) seen is in
    let c = and_parts (element && device) numbered d.0 in
    let b = and_parts element device c.0 in
    record { element = b.0; device = b.1; covered = and_from numbered seen c.1 d.1 }

-- the numbers of a vector are of 64 bits
abbrev pub AreCounts : List ℕ → Type 0
AreCounts counts = (device : ℕ) → slice_index counts device < 2 ^ 64

number_below : (counts : List ℕ) (p : Pair) → AreCounts counts → covers counts p.dot ≡ true → p.dot.number < 2 ^ 64
unfolding covers
number_below counts p wide covered =
    let both = and_parts (ltb 0 p.dot.number) (leb p.dot.number (slice_index counts p.dot.device)) covered in
    let le = leb-true _ _ both.1 in
    let lt = wide p.dot.device in
    omega arith

element_again : (k : Kind) (symbols : ℕ) (before : Option Pair) (bytes : List ℕ) (at : ℕ) (w : Word) (place : ℕ) → symbols ≤ 2 ^ 16 → is_word_of symbols k w ≡ true → element_descends before w ≡ false → Takes bytes at (word_bytes w) place → element_at k symbols before bytes at ≡ Ok (w, place)
unfolding element_at
element_again k symbols before bytes at w place few is order t = rw (word_read k false symbols bytes at w place few (inl is) t, order) refl

device_again : (devices : ℕ) (before : Option Pair) (element : Word) (start : ℕ) (bytes : List ℕ) (at device place : ℕ) → devices ≤ 16 → ltb device devices ≡ true → device_descends before element device ≡ false → Takes bytes at (device ∷ []) place
    → device_at devices before element start bytes at ≡ Ok (device, place)
unfolding device_at
device_again devices before element start bytes at device place few small order t =
    let lt : device < devices = ltb-true _ _ small in
    let spelled : Takes bytes at (to_be_bytes w8 device) place = subst (λ (l : List ℕ). Takes bytes at l place) (sym (byte_is device (omega arith))) t in
    rw (number_again w8 (2 ^ 8) wide8 bytes at device place (omega arith) spelled, order, small) refl

covered_again : (counts : List ℕ) (before : Option Pair) (element : Word) (device start : ℕ) (bytes : List ℕ) (at number place : ℕ) → number < 2 ^ 64 → covers counts (record { device = device; number = number }) ≡ true → number_descends before element device number ≡ false → Takes bytes at (to_be_bytes w64 number) place
    → covered_at counts before element device start bytes at ≡ Ok (number, place)
unfolding covered_at
covered_again counts before element device start bytes at number place wide covered order t =
    rw (number_again w64 (2 ^ 64) wide64 bytes at number place wide t, order, covered) refl

pair_again : (shape : Shape) (k : Kind) (counts : List ℕ) (before : Option Pair) (bytes : List ℕ) (at : ℕ) (p : Pair) (place : ℕ) → IsShape shape → AreCounts counts → is_pair_of shape k counts p ≡ true → IsBehind before p → Takes bytes at (pair_bytes p) place → pair_at shape k counts before bytes at ≡ Ok (p, place)
unfolding pair_at pair_bytes
pair_again shape k counts before bytes at p place fits wide is after t =
    let tests = pair_tests shape k counts p is in
    let f = follows before p after in
    let mid = at + length (word_bytes p.element) in
    let first = Takes-first bytes at (word_bytes p.element) (p.dot.device ∷ to_be_bytes w64 p.dot.number) place t in
    let rest = Takes-second bytes at (word_bytes p.element) (p.dot.device ∷ to_be_bytes w64 p.dot.number) place t in
    let device = Takes-first bytes mid (p.dot.device ∷ []) (to_be_bytes w64 p.dot.number) place rest in
    let number = Takes-second bytes mid (p.dot.device ∷ []) (to_be_bytes w64 p.dot.number) place rest in
    rw (
      element_again k shape.symbols before bytes at p.element mid (omega (arith, fits.symbols)) tests.element f.element first,
      device_again shape.devices before p.element at bytes mid p.dot.device (mid + 1) fits.devices tests.device f.device device,
      covered_again counts before p.element p.dot.device at bytes (mid + 1) p.dot.number place (number_below counts p wide tests.covered) tests.covered f.number number,
    ) refl

-- ---- pairs

ascending_again : (shape : Shape) (k : Kind) (counts : List ℕ) (before : Option Pair) (bytes : List ℕ) (at : ℕ) (ps : List Pair) (place : ℕ) → IsShape shape → AreCounts counts → list_all (is_pair_of shape k counts) ps ≡ true → Ascend before ps → Takes bytes at (flat_map pair_bytes ps) place
    → ascending_at shape k counts (length ps) before bytes at ≡ Ok (ps, place)
unfolding ascending_at
ascending_again shape k counts before bytes at [] place fits wide all ascend t =
    let end : place ≡ at = omega (arith, t.place_is) in
    ap (λ (n : ℕ). Ok ([], n)) (sym end)
ascending_again shape k counts before bytes at (p ∷ ps) place fits wide all ascend t =
    let parted : Takes bytes at (pair_bytes p ++ flat_map pair_bytes ps) place = subst (λ (l : List ℕ). Takes bytes at l place) (flat_map-cons pair_bytes p ps) t in
    let mid = at + length (pair_bytes p) in
    let tests = and_parts (is_pair_of shape k counts p) (list_all (is_pair_of shape k counts) ps) all in
    rw (
      pair_again shape k counts before bytes at p mid fits wide tests.0 ascend.0 (Takes-first bytes at (pair_bytes p) (flat_map pair_bytes ps) place parted),
      ascending_again shape k counts (Some p) bytes mid ps place fits wide tests.1 ascend.1 (Takes-second bytes at (pair_bytes p) (flat_map pair_bytes ps) place parted),
    ) refl

pub pairs_again : (shape : Shape) (k : Kind) (counts : List ℕ) (room : ℕ) (bytes : List ℕ) (at : ℕ) (ps : List Pair) (place : ℕ) → IsShape shape → AreCounts counts → room ≤ 1024 → length ps ≤ room → IsStrictlySortedBy pair_cmp ps → list_all (is_pair_of shape k counts) ps ≡ true → Takes bytes at (pairs_bytes ps) place
    → pairs_at shape k counts room bytes at ≡ Ok (plain ps, place)
unfolding pairs_at pairs_bytes
pairs_again shape k counts room bytes at ps place fits wide most within sorted all t =
    let mid = at + length (to_be_bytes w16 (length ps)) in
    let count = Takes-first bytes at (to_be_bytes w16 (length ps)) (flat_map pair_bytes ps) place t in
    let rest = Takes-second bytes at (to_be_bytes w16 (length ps)) (flat_map pair_bytes ps) place t in
    rw (
      below_again w16 (2 ^ 16) wide16 (room + 1) bytes at (length ps) mid (omega arith) (omega arith) count,
      ascending_again shape k counts None bytes mid ps place fits wide all (ascends_from ps sorted) rest,
    ) refl
