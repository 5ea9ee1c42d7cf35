-- Capitals are names, since each reserved word begins with a small letter.
use Rattle.std.proofs.Common.{ℕ, ◌≡◌, ◌<◌, ◌==◌, Bool, true, false, not, ◌&&◌, List, [], ◌∷◌, length, nat_le, refl, ap, arith}
use Rattle.std.specs.Prelude.{slice_index_or}
use Rattle.std.specs.List.{list_all, list_any}
use Rattle.std.specs.Str.{bytes_eq}
use Rattle.std.proofs.lemmas.Bool.{ne_eqb, leb-true}
use Rattle.re_terms.specs.Listed.{plain}
use Rattle.re_terms.specs.Tokens.{is_letter, is_word_byte, is_name, reserved_words}
use Rattle.re_terms.specs.Trees.{is_name_text}
use Rattle.re_types.specs.Capitals.{is_capitals}
use Rattle.re_types.proofs.Conjunctions.{both, all_three}

abbrev begins_small : List ℕ → Bool
begins_small word = nat_le 97 (slice_index_or word 0 0)

abbrev is_capital : ℕ → Bool
is_capital b = nat_le 65 b && nat_le b 90

differs : (x y : ℕ) (xs ys : List ℕ) → x < 97 → nat_le 97 y ≡ true → bytes_eq (x ∷ xs) (y ∷ ys) ≡ false
differs x y xs ys below small =
    let above = leb-true 97 y small in
    let other : (x == y) ≡ false = ne_eqb x y (λ e. omega arith) in
    ap (λ b. b && bytes_eq xs ys) other

none_of : (x : ℕ) (xs : List ℕ) (words : List (List ℕ)) → x < 97 → list_all begins_small words ≡ true → list_any (bytes_eq (x ∷ xs)) words ≡ false
none_of x xs [] below small = refl
none_of x xs ([] ∷ words) below small = none_of x xs words below (both {a = begins_small []} {b = list_all begins_small words} small).1
none_of x xs ((y ∷ ys) ∷ words) below small =
    let parts = both {a = begins_small (y ∷ ys)} {b = list_all begins_small words} small in
    rw (differs x y xs ys below parts.0) (none_of x xs words below parts.1)

letter : (b : ℕ) → is_capital b ≡ true → is_letter b ≡ true
letter b h = rw h refl

word_bytes : (bytes : List ℕ) → list_all is_capital bytes ≡ true → list_all is_word_byte bytes ≡ true
word_bytes [] h = refl
word_bytes (b ∷ bytes) h =
    let parts = both {a = is_capital b} {b = list_all is_capital bytes} h in
    rw (letter b parts.0, word_bytes bytes parts.1) refl

together : (a b c d : Bool) → a ≡ true → b ≡ true → c ≡ true → d ≡ false → (a && b && c && not d) ≡ true
together a b c d e f g h = rw (e, f, g, h) refl

pub capitals_name : (word : List ℕ) → is_capitals word ≡ true → is_name_text (plain word) ≡ true
capitals_name [] h = absurd (cc)
capitals_name (x ∷ xs) h =
    let parts = all_three (not (length (x ∷ xs) == 0)) (nat_le (length (x ∷ xs)) 32) (list_all is_capital (x ∷ xs)) h in
    let first = both {a = is_capital x} {b = list_all is_capital xs} parts.2 in
    let below = leb-true x 90 (both {a = nat_le 65 x} {b = nat_le x 90} first.0).1 in
    let other = none_of x xs reserved_words (omega arith) refl in
    let bytes = word_bytes (x ∷ xs) parts.2 in
    let whole : is_name (x ∷ xs) ≡ true = together (is_letter x) (nat_le (length (x ∷ xs)) 32) (list_all is_word_byte (x ∷ xs)) (list_any (bytes_eq (x ∷ xs)) reserved_words) (letter x first.0) parts.1 bytes other in
    ap (λ b. b && (plain (x ∷ xs)).spare == 0) whole
