-- A word that is written is read again, where the place allows it.
use Rattle.std.proofs.Common.{◌≡◌, ℕ, ℤ, pos, negsuc, ◌+◌, ◌^◌, ◌<◌, ◌≤◌, Bool, true, false, ltb, leb, eqb, List, [], ◌∷◌, ◌++◌, length, drop, Ok, refl, sym, ap, subst, ◌∙◌, arith, inl, inr}
use Rattle.std.specs.Prelude.{◌&&◌}
use Rattle.std.specs.Int.{w8, w16, w32, w64, to_be_bytes, cast_signed, cast_unsigned}
use Rattle.std.specs.Int.RustNames.{FitsSigned}
use Rattle.std.proofs.lemmas.Bool.{ltb-true, leb-true, eq-eqb, and_parts}
use Rattle.std.proofs.lemmas.Bool.Decides.{nat_tests}
use Rattle.std.proofs.lemmas.Int.{to_z-of_z}
use Rattle.re_terms.specs.Arithmetic.{is_word_number}
use Rattle.re_terms.specs.Shapes.{is_word_of}
use Rattle.re_terms.specs.Spellings.{bool_byte, word_bytes}
use Rattle.re_terms.specs.declared.word.Word.{Word}
use Rattle.re_terms.specs.declared.word.Word.TheVariants as word
use Rattle.re_terms.specs.declared.word.Kind.{Kind}
use Rattle.re_terms.specs.declared.word.Kind.TheVariants as kind
use Rattle.re_wire.specs.Reading.{int_at, bool_at, symbol_at, is_code, fault_at, is_allowed_word, tag_of, value_at, word_at}
use Rattle.re_wire.proofs.Takes.{Takes, Takes-first, Takes-second, Takes-between, Takes-from, byte_is, wide8, wide16, wide32, wide64, number_again, below_again}
use Rattle.re_wire.proofs.TakesWords.{IsAllowed, word_tag, behind_tag, word_is, tag_below}

signed_fits : (z : ℤ) → is_word_number z ≡ true → FitsSigned w64 z
signed_fits (pos n) h = let small : n ≤ 9223372036854775807 = leb-true _ _ h in record { sfits = omega arith }
signed_fits (negsuc n) h = let both = and_parts (leb n 9223372036854775807) true h in let small : n ≤ 9223372036854775807 = leb-true _ _ both.0 in record { sfits = omega arith }

bits_below : (z : ℤ) → FitsSigned w64 z → cast_unsigned w64 z < 2 ^ 64
bits_below (pos n) h = omega (arith, h.sfits)
bits_below (negsuc n) h = omega arith

byte_of_bool : (b : Bool) → to_be_bytes w8 (bool_byte b) ≡ bool_byte b ∷ []
byte_of_bool true = refl
byte_of_bool false = refl

bool_below : (b : Bool) → bool_byte b < 2
bool_below true = omega arith
bool_below false = omega arith

bool_back : (b : Bool) → eqb (bool_byte b) 1 ≡ b
bool_back true = refl
bool_back false = refl

int_again : (bytes : List ℕ) (at : ℕ) (z : ℤ) (place : ℕ) → is_word_number z ≡ true → Takes bytes at (to_be_bytes w64 (cast_unsigned w64 z)) place → int_at bytes at ≡ Ok (word.Int z, place)
unfolding int_at
int_again bytes at z place is t =
    let fits = signed_fits z is in
    let back : cast_signed w64 (cast_unsigned w64 z) ≡ z = to_z-of_z w64 z fits in
    rw (number_again w64 (2 ^ 64) wide64 bytes at (cast_unsigned w64 z) place (bits_below z fits) t) (ap (λ (n : ℤ). Ok (word.Int n, place)) back)

bool_again : (bytes : List ℕ) (at : ℕ) (b : Bool) (place : ℕ) → Takes bytes at (bool_byte b ∷ []) place → bool_at bytes at ≡ Ok (word.Bool b, place)
unfolding bool_at
bool_again bytes at b place t =
    let spelled : Takes bytes at (to_be_bytes w8 (bool_byte b)) place = subst (λ (l : List ℕ). Takes bytes at l place) (sym (byte_of_bool b)) t in
    let lt = bool_below b in
    rw (below_again w8 (2 ^ 8) wide8 2 bytes at (bool_byte b) place (omega arith) lt spelled) (ap (λ (c : Bool). Ok (word.Bool c, place)) (bool_back b))

symbol_again : (symbols : ℕ) (bytes : List ℕ) (at : ℕ) (n : ℕ) (place : ℕ) → symbols ≤ 2 ^ 16 → ltb n symbols ≡ true → Takes bytes at (to_be_bytes w16 n) place → symbol_at symbols bytes at ≡ Ok (word.Sym n, place)
unfolding symbol_at
symbol_again symbols bytes at n place few is t =
    let lt : n < symbols = ltb-true _ _ is in
    rw (below_again w16 (2 ^ 16) wide16 symbols bytes at n place (omega arith) lt t) refl

value_again : (k : Kind) (symbols : ℕ) (bytes : List ℕ) (at : ℕ) (w : Word) (place : ℕ) → symbols ≤ 2 ^ 16 → is_word_of symbols k w ≡ true → Takes bytes at (behind_tag w) place → (value_at k symbols bytes at ≡ Ok (w, place)) × (word_tag w ≡ tag_of k)
value_again kind.Int symbols bytes at (word.Int z) place few is t = (int_again bytes at z place is t, refl)
value_again kind.Bool symbols bytes at (word.Bool b) place few is t = (bool_again bytes at b place t, refl)
value_again kind.Sym symbols bytes at (word.Sym n) place few is t = (symbol_again symbols bytes at n place few is t, refl)
value_again kind.Int symbols bytes at w place few is t = absurd cc
value_again kind.Bool symbols bytes at w place few is t = absurd cc
value_again kind.Sym symbols bytes at w place few is t = absurd cc

code_below : (code : ℕ) → is_code code ≡ true → code < 2 ^ 32
code_below code is = grind (arith, nat_tests)

fault_again : (bytes : List ℕ) (at : ℕ) (code place : ℕ) → is_code code ≡ true → Takes bytes at (to_be_bytes w32 code) place → fault_at bytes at ≡ Ok (word.Fault code, place)
unfolding fault_at
fault_again bytes at code place is t =
    rw (number_again w32 (2 ^ 32) wide32 bytes at code place (code_below code is) t, is) refl

-- no kind's tag is that of faults
tag_is_not : (k : Kind) → eqb (tag_of k) 3 ≡ false
tag_is_not kind.Int = refl
tag_is_not kind.Bool = refl
tag_is_not kind.Sym = refl

never : (b : Bool) → (b && false) ≡ false
never true = refl
never false = refl

-- the tag, and what is behind it
parts_of : (bytes : List ℕ) (at : ℕ) (w : Word) (place : ℕ) → Takes bytes at (word_bytes w) place → Takes bytes at (to_be_bytes w8 (word_tag w)) (at + 1) × Takes bytes (at + 1) (behind_tag w) place
parts_of bytes at w place t =
    let both : Takes bytes at ((word_tag w ∷ []) ++ behind_tag w) place = subst (λ (l : List ℕ). Takes bytes at l place) (word_is w) t in
    (subst (λ (l : List ℕ). Takes bytes at l (at + 1)) (sym (byte_is (word_tag w) (tag_below w))) (Takes-first bytes at (word_tag w ∷ []) (behind_tag w) place both), Takes-second bytes at (word_tag w ∷ []) (behind_tag w) place both)

-- a word of the kind is read, whether or not faults are allowed
kind_again : (k : Kind) (fold : Bool) (symbols : ℕ) (bytes : List ℕ) (at : ℕ) (w : Word) (place : ℕ) → symbols ≤ 2 ^ 16 → is_word_of symbols k w ≡ true → Takes bytes at (word_bytes w) place → word_at k fold symbols bytes at ≡ Ok (w, place)
unfolding word_at
kind_again k fold symbols bytes at w place few is t =
    let p = parts_of bytes at w place t in
    let v = value_again k symbols bytes (at + 1) w place few is p.1 in
    let tag : Takes bytes at (to_be_bytes w8 (tag_of k)) (at + 1) = subst (λ (n : ℕ). Takes bytes at (to_be_bytes w8 n) (at + 1)) v.1 p.0 in
    let small : tag_of k < 2 ^ 8 = subst (λ (n : ℕ). n < 2 ^ 8) v.1 (tag_below w) in
    let itself : eqb (tag_of k) (tag_of k) ≡ true = eq-eqb _ _ refl in
    rw (number_again w8 (2 ^ 8) wide8 bytes at (tag_of k) (at + 1) small tag, tag_is_not k, never fold, itself) v.0

-- a fault is read where faults are allowed
fold_again : (k : Kind) (symbols : ℕ) (bytes : List ℕ) (at : ℕ) (code place : ℕ) → is_code code ≡ true → Takes bytes at (word_bytes (word.Fault code)) place → word_at k true symbols bytes at ≡ Ok (word.Fault code, place)
unfolding word_at
fold_again k symbols bytes at code place is t =
    let p = parts_of bytes at (word.Fault code) place t in
    let f = fault_again bytes (at + 1) code place is p.1 in
    rw (number_again w8 (2 ^ 8) wide8 bytes at 3 (at + 1) (omega arith) p.0) f

pub word_read : (k : Kind) (fold : Bool) (symbols : ℕ) (bytes : List ℕ) (at : ℕ) (w : Word) (place : ℕ) → symbols ≤ 2 ^ 16 → IsAllowed symbols k fold w → Takes bytes at (word_bytes w) place → word_at k fold symbols bytes at ≡ Ok (w, place)
word_read k fold symbols bytes at w place few (inl is) t = kind_again k fold symbols bytes at w place few is t
word_read k fold symbols bytes at w place few (inr f) t =
    let read : word_at k true symbols bytes at ≡ Ok (word.Fault f.1.0, place) = fold_again k symbols bytes at f.1.0 place f.1.2 (subst (λ (v : Word). Takes bytes at (word_bytes v) place) f.1.1 t) in
    ap (λ (b : Bool). word_at k b symbols bytes at) f.0 ∙ read ∙ ap (λ (v : Word). Ok (v, place)) (sym f.1.1)

pub is_allowed : (symbols : ℕ) (k : Kind) (fold : Bool) (w : Word) → is_allowed_word k fold symbols w ≡ true → IsAllowed symbols k fold w
is_allowed symbols k fold (word.Int z) is = inl is
is_allowed symbols k fold (word.Bool b) is = inl is
is_allowed symbols k fold (word.Sym n) is = inl is
is_allowed symbols k fold (word.Fault code) is = let both = and_parts fold (is_code code) is in inr (both.0, (code, refl, both.1))

pub word_again : (k : Kind) (fold : Bool) (symbols : ℕ) (front rest : List ℕ) (w : Word) → symbols ≤ 2 ^ 16 → is_allowed_word k fold symbols w ≡ true → word_at k fold symbols (front ++ word_bytes w ++ rest) (length front) ≡ Ok (w, length front + length (word_bytes w))
word_again k fold symbols front rest w few is = word_read k fold symbols (front ++ word_bytes w ++ rest) (length front) w (length front + length (word_bytes w)) few (is_allowed symbols k fold w is) (Takes-between front (word_bytes w) rest)

pub word_from : (k : Kind) (fold : Bool) (symbols : ℕ) (bytes : List ℕ) (at : ℕ) (w : Word) (rest : List ℕ) → symbols ≤ 2 ^ 16 → at ≤ length bytes → is_allowed_word k fold symbols w ≡ true → drop at bytes ≡ word_bytes w ++ rest → word_at k fold symbols bytes at ≡ Ok (w, at + length (word_bytes w))
word_from k fold symbols bytes at w rest few within is e = word_read k fold symbols bytes at w (at + length (word_bytes w)) few (is_allowed symbols k fold w is) (Takes-from bytes at (word_bytes w) rest within e)
