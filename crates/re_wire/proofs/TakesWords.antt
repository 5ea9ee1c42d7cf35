-- A word that is read is spelled so, and is one that the place allows.
use Rattle.std.proofs.Common.{◌≡◌, ℕ, zero, suc, ◌-◌, ◌^◌, ◌<◌, ◌≤◌, Bool, true, false, cond, eqb, List, [], ◌∷◌, ◌++◌, length, drop, Ok, Err, refl, sym, ap, subst, ◌∙◌, arith, inl, inr}
use Rattle.std.specs.Prelude.{◌&&◌, ◌⊎◌}
use Rattle.std.specs.Int.{w8, w16, w32, w64, to_be_bytes, cast_signed, cast_unsigned}
use Rattle.std.proofs.lemmas.Bool.{cases_lt, eqb-true, lt-ltb, le-ltb, le-leb, and_parts, and_from}
use Rattle.std.proofs.lemmas.Int.{of_z-to_z}
use Rattle.re_terms.specs.Arithmetic.{is_word_number}
use Rattle.re_terms.specs.Shapes.{is_word_of}
use Rattle.re_terms.specs.Spellings.{bool_byte, word_bytes}
use Rattle.re_terms.specs.declared.word.Word.{Word}
use Rattle.re_terms.specs.declared.word.Word.TheVariants as word
use Rattle.re_terms.specs.declared.word.Kind.{Kind}
use Rattle.re_terms.specs.declared.word.Kind.TheVariants as kind
use Rattle.re_wire.specs.Reading.{number_at, below_at, int_at, bool_at, symbol_at, is_code, fault_at, is_allowed_word, tag_of, value_at, word_at}
use Rattle.re_wire.proofs.Bytes.{IsBytes}
use Rattle.re_wire.proofs.Takes.{bind_ok, when_ok, ok_is, Takes, Takes-then, byte_is, wide8, wide16, wide32, wide64, number_takes, below_takes}

-- a word of the kind, or a fault where faults are allowed
abbrev pub IsAllowed : ℕ → Kind → Bool → Word → Type 0
IsAllowed symbols k fold w = (is_word_of symbols k w ≡ true) ⊎ ((fold ≡ true) × ((code : ℕ) × (w ≡ word.Fault code) × (is_code code ≡ true)))

-- the tag of a word
abbrev pub word_tag : Word → ℕ
word_tag (word.Int z) = 0
word_tag (word.Bool b) = 1
word_tag (word.Sym n) = 2
word_tag (word.Fault code) = 3

-- what is behind it
abbrev pub behind_tag : Word → List ℕ
behind_tag (word.Int z) = to_be_bytes w64 (cast_unsigned w64 z)
behind_tag (word.Bool b) = bool_byte b ∷ []
behind_tag (word.Sym n) = to_be_bytes w16 n
behind_tag (word.Fault code) = to_be_bytes w32 code

pub word_is : (w : Word) → word_bytes w ≡ word_tag w ∷ behind_tag w
unfolding word_bytes
word_is (word.Int z) = refl
word_is (word.Bool b) = refl
word_is (word.Sym n) = refl
word_is (word.Fault code) = refl

pub tag_below : (w : Word) → word_tag w < 256
tag_below (word.Int z) = omega arith
tag_below (word.Bool b) = omega arith
tag_below (word.Sym n) = omega arith
tag_below (word.Fault code) = omega arith

-- 64 bits in two's complement are a number of an int
is_word : (n : ℕ) → n < 2 ^ 64 → is_word_number (cast_signed w64 n) ≡ true
is_word n lt = elim (cases_lt n (2 ^ 63)) [
  | inl small ↦ rw (lt-ltb n (2 ^ 63) small) (let e : n ≤ 9223372036854775807 = omega arith in le-leb n 9223372036854775807 e)
  | inr large ↦ rw (le-ltb n (2 ^ 63) large) (let e : 2 ^ 64 - suc n ≤ 9223372036854775807 = omega arith in rw (le-leb _ _ e) refl)
]

-- a byte that is 0 or 1 is that of a truth value
byte_back : (n : ℕ) → n < 2 → to_be_bytes w8 n ≡ bool_byte (eqb n 1) ∷ []
byte_back zero lt = refl
byte_back (suc zero) lt = refl
byte_back (suc (suc n)) lt = absurd (omega arith)

-- what a value is: spelled so, and of the kind
abbrev ValueTaken : List ℕ → ℕ → Kind → ℕ → Word × ℕ → Type 0
ValueTaken bytes at k symbols x = Takes bytes at (behind_tag x.0) x.1 × (is_word_of symbols k x.0 ≡ true) × (word_tag x.0 ≡ tag_of k)

int_takes : (symbols : ℕ) (bytes : List ℕ) (at : ℕ) (x : Word × ℕ) → IsBytes bytes → int_at bytes at ≡ Ok x → ValueTaken bytes at kind.Int symbols x
unfolding int_at
int_takes symbols bytes at x fits e =
    let b = bind_ok (number_at w64 bytes at) (λ number. Ok (word.Int (cast_signed w64 number.0), number.1)) x e in
    let t = number_takes w64 (2 ^ 64) wide64 bytes at b.0 fits b.1 in
    let same : cast_unsigned w64 (cast_signed w64 b.0.0) ≡ b.0.0 = of_z-to_z w64 b.0.0 t.1 in
    let text : Takes bytes at (to_be_bytes w64 (cast_unsigned w64 (cast_signed w64 b.0.0))) b.0.1 = subst (λ (n : ℕ). Takes bytes at (to_be_bytes w64 n) b.0.1) (sym same) t.0 in
    subst (λ (y : Word × ℕ). ValueTaken bytes at kind.Int symbols y) (ok_is (word.Int (cast_signed w64 b.0.0), b.0.1) x b.2) (text, is_word b.0.0 t.1, refl)

bool_takes : (symbols : ℕ) (bytes : List ℕ) (at : ℕ) (x : Word × ℕ) → IsBytes bytes → bool_at bytes at ≡ Ok x → ValueTaken bytes at kind.Bool symbols x
unfolding bool_at
bool_takes symbols bytes at x fits e =
    let b = bind_ok (below_at w8 2 bytes at) (λ number. Ok (word.Bool (eqb number.0 1), number.1)) x e in
    let t = below_takes w8 (2 ^ 8) wide8 2 bytes at b.0 fits b.1 in
    let text : Takes bytes at (bool_byte (eqb b.0.0 1) ∷ []) b.0.1 = subst (λ (l : List ℕ). Takes bytes at l b.0.1) (byte_back b.0.0 t.1) t.0 in
    subst (λ (y : Word × ℕ). ValueTaken bytes at kind.Bool symbols y) (ok_is (word.Bool (eqb b.0.0 1), b.0.1) x b.2) (text, refl, refl)

symbol_takes : (symbols : ℕ) (bytes : List ℕ) (at : ℕ) (x : Word × ℕ) → IsBytes bytes → symbol_at symbols bytes at ≡ Ok x → ValueTaken bytes at kind.Sym symbols x
unfolding symbol_at
symbol_takes symbols bytes at x fits e =
    let b = bind_ok (below_at w16 symbols bytes at) (λ number. Ok (word.Sym number.0, number.1)) x e in
    let t = below_takes w16 (2 ^ 16) wide16 symbols bytes at b.0 fits b.1 in
    subst (λ (y : Word × ℕ). ValueTaken bytes at kind.Sym symbols y) (ok_is (word.Sym b.0.0, b.0.1) x b.2) (t.0, lt-ltb _ _ t.1, refl)

value_takes : (k : Kind) (symbols : ℕ) (bytes : List ℕ) (at : ℕ) (x : Word × ℕ) → IsBytes bytes → value_at k symbols bytes at ≡ Ok x → ValueTaken bytes at k symbols x
value_takes kind.Int symbols bytes at x fits e = int_takes symbols bytes at x fits e
value_takes kind.Bool symbols bytes at x fits e = bool_takes symbols bytes at x fits e
value_takes kind.Sym symbols bytes at x fits e = symbol_takes symbols bytes at x fits e

abbrev FaultTaken : List ℕ → ℕ → Word × ℕ → Type 0
FaultTaken bytes at x = Takes bytes at (behind_tag x.0) x.1 × (word_tag x.0 ≡ 3) × ((code : ℕ) × (x.0 ≡ word.Fault code) × (is_code code ≡ true))

fault_takes : (bytes : List ℕ) (at : ℕ) (x : Word × ℕ) → IsBytes bytes → fault_at bytes at ≡ Ok x → FaultTaken bytes at x
unfolding fault_at
fault_takes bytes at x fits e =
    let b = bind_ok (number_at w32 bytes at) (λ number. cond (is_code number.0) (Ok (word.Fault number.0, number.1)) (Err at)) x e in
    let g = when_ok (is_code b.0.0) at (Ok (word.Fault b.0.0, b.0.1)) x b.2 in
    let t = number_takes w32 (2 ^ 32) wide32 bytes at b.0 fits b.1 in
    subst (λ (y : Word × ℕ). FaultTaken bytes at y) (ok_is (word.Fault b.0.0, b.0.1) x g.1) (t.0, refl, (b.0.0, refl, g.0))

-- a value behind its tag is a word
tagged : (bytes : List ℕ) (at : ℕ) (tag : ℕ × ℕ) (x : Word × ℕ) → Takes bytes at (to_be_bytes w8 tag.0) tag.1 → tag.0 ≡ word_tag x.0 → Takes bytes tag.1 (behind_tag x.0) x.1 → Takes bytes at (word_bytes x.0) x.1
tagged bytes at tag x first is second =
    let byte : to_be_bytes w8 tag.0 ≡ word_tag x.0 ∷ [] = ap (λ (n : ℕ). to_be_bytes w8 n) is ∙ byte_is (word_tag x.0) (tag_below x.0) in
    let front : Takes bytes at (word_tag x.0 ∷ []) tag.1 = subst (λ (l : List ℕ). Takes bytes at l tag.1) byte first in
    subst (λ (l : List ℕ). Takes bytes at l x.1) (sym (word_is x.0)) (Takes-then bytes at (word_tag x.0 ∷ []) tag.1 (behind_tag x.0) x.1 front second)

by_kind : (k : Kind) (fold : Bool) (symbols : ℕ) (bytes : List ℕ) (at : ℕ) (tag : ℕ × ℕ) (x : Word × ℕ) → IsBytes bytes → Takes bytes at (to_be_bytes w8 tag.0) tag.1 → cond (eqb tag.0 (tag_of k)) (value_at k symbols bytes tag.1) (Err at) ≡ Ok x → Takes bytes at (word_bytes x.0) x.1 × IsAllowed symbols k fold x.0
by_kind k fold symbols bytes at tag x fits t e =
    let g = when_ok (eqb tag.0 (tag_of k)) at (value_at k symbols bytes tag.1) x e in
    let v = value_takes k symbols bytes tag.1 x fits g.1 in
    (tagged bytes at tag x t (eqb-true _ _ g.0 ∙ sym v.2) v.0, inl v.1)

by_tag : (k : Kind) (fold : Bool) (symbols : ℕ) (bytes : List ℕ) (at : ℕ) (tag : ℕ × ℕ) (x : Word × ℕ) (is_fault : Bool) → IsBytes bytes → Takes bytes at (to_be_bytes w8 tag.0) tag.1 → (fold && eqb tag.0 3) ≡ is_fault
    → cond is_fault (fault_at bytes tag.1) (cond (eqb tag.0 (tag_of k)) (value_at k symbols bytes tag.1) (Err at)) ≡ Ok x → Takes bytes at (word_bytes x.0) x.1 × IsAllowed symbols k fold x.0
by_tag k fold symbols bytes at tag x true fits t test e =
    let both = and_parts fold (eqb tag.0 3) test in
    let f = fault_takes bytes tag.1 x fits e in
    (tagged bytes at tag x t (eqb-true _ _ both.1 ∙ sym f.1) f.0, inr (both.0, f.2))
by_tag k fold symbols bytes at tag x false fits t test e = by_kind k fold symbols bytes at tag x fits t e

pub word_taken : (k : Kind) (fold : Bool) (symbols : ℕ) (bytes : List ℕ) (at : ℕ) (x : Word × ℕ) → IsBytes bytes → word_at k fold symbols bytes at ≡ Ok x → Takes bytes at (word_bytes x.0) x.1 × IsAllowed symbols k fold x.0
unfolding word_at
word_taken k fold symbols bytes at x fits e =
    let b = bind_ok (number_at w8 bytes at) (λ tag. cond (fold && eqb tag.0 3) (fault_at bytes tag.1) (cond (eqb tag.0 (tag_of k)) (value_at k symbols bytes tag.1) (Err at))) x e in
    let t = number_takes w8 (2 ^ 8) wide8 bytes at b.0 fits b.1 in
    by_tag k fold symbols bytes at b.0 x (fold && eqb b.0.0 3) fits t.0 refl b.2

pub allowed : (symbols : ℕ) (k : Kind) (fold : Bool) (w : Word) → IsAllowed symbols k fold w → is_allowed_word k fold symbols w ≡ true
allowed symbols k fold (word.Int z) (inl is) = is
allowed symbols k fold (word.Bool b) (inl is) = is
allowed symbols k fold (word.Sym n) (inl is) = is
allowed symbols kind.Int fold (word.Fault code) (inl is) = absurd cc
allowed symbols kind.Bool fold (word.Fault code) (inl is) = absurd cc
allowed symbols kind.Sym fold (word.Fault code) (inl is) = absurd cc
allowed symbols k fold w (inr f) = subst (λ (v : Word). is_allowed_word k fold symbols v ≡ true) (sym f.1.1) (and_from _ _ f.0 f.1.2)

pub word_takes : (k : Kind) (fold : Bool) (symbols : ℕ) (bytes : List ℕ) (at : ℕ) (w : Word) (behind : ℕ) → IsBytes bytes → word_at k fold symbols bytes at ≡ Ok (w, behind)
    → (is_allowed_word k fold symbols w ≡ true) × (behind ≤ length bytes) × (drop at bytes ≡ word_bytes w ++ drop behind bytes)
word_takes k fold symbols bytes at w behind is_bytes e =
    let t = word_taken k fold symbols bytes at (w, behind) is_bytes e in
    (allowed symbols k fold w t.1, t.0.bounded, t.0.parts)
