-- What the parts of the scanner answer, each of the text that is left.
-- Read against: behind ` # x` and LF stands nothing; `007` is no number; `<=1` begins with the sign of place 15, and 1 stands behind it.
use Rattle.std.specs.Prelude.{ℕ, ◌+◌, ◌-◌, ◌*◌, ◌^◌, ◌==◌, ◌&&◌, not, Bool, true, false, if◌then◌else◌, List, [], ◌∷◌, length, drop, nat_lt, nat_le, slice_index_or, take, position, Option, Some, None, option_map}
use Rattle.std.specs.Borrow.{Bor}
use Rattle.std.specs.List.{prefix_len}
use Rattle.std.specs.Str.{bytes_eq}
use Rattle.re_terms.specs.Listed.{plain}
use Rattle.re_terms.specs.Tokens.{reserved_words, signs, is_digit, is_letter, is_word_byte}
use Rattle.re_terms.specs.declared.token.Mark.{Mark}
use Rattle.re_terms.specs.declared.token.Mark.TheVariants as mark
use Rattle.re_tokens.specs.TokenGrammar.{is_blank}

-- what stands behind separators, from inside a comment or outside of one
abbrev pub behind_gap : Bool → List ℕ → List ℕ
behind_gap comment [] = []
behind_gap true (b ∷ text) = behind_gap (not (b == 10)) text
behind_gap false (b ∷ text) = if b == 35 then behind_gap true text else if is_blank b then behind_gap false text else b ∷ text

-- what these digits stand for behind the number n, where it is at most 2^63
abbrev pub number_from : ℕ → List ℕ → Option ℕ
number_from n [] = Some n
number_from n (b ∷ word) = if is_digit b && nat_le (n * 10 + (b - 48)) (2 ^ 63) then number_from (n * 10 + (b - 48)) word else None

-- the value of a word that is a number: no leading zero but `0` itself
abbrev pub number_of : List ℕ → Option ℕ
number_of word = if (slice_index_or word 0 0 == 48) && nat_lt 1 (length word) then None else number_from 0 word

-- a reserved word, else a name
abbrev pub reserved_or_name : List ℕ → Option ℕ → Mark
reserved_or_name word (Some place) = mark.Reserved place
reserved_or_name word None = mark.Name (plain word)

-- the mark that a whole word is; a word of letters has at most 32 bytes
abbrev pub word_mark : List ℕ → Option Mark
word_mark word = if is_digit (slice_index_or word 0 0) then option_map mark.Number (number_of word)
    else if is_letter (slice_index_or word 0 0) && nat_le (length word) 32 then Some (reserved_or_name word (position (bytes_eq word) reserved_words))
    else None

-- a sign of n bytes, and what stands behind it
abbrev pub sign_then : ℕ → List ℕ → ℕ → Mark × List ℕ
sign_then n text place = (mark.Sign place, drop n text)

-- the sign of two bytes where there is one, else that of one byte
abbrev pub sign_or_short : List ℕ → Option ℕ → Option (Mark × List ℕ)
sign_or_short text (Some place) = Some (sign_then 2 text place)
sign_or_short text None = option_map (sign_then 1 text) (position (bytes_eq (take 1 text)) signs)

-- the mark that the first n bytes of a text are, and the text behind them
abbrev pub word_then : ℕ → List ℕ → Option (Mark × List ℕ)
word_then n text = option_map (λ m. (m, drop n text)) (word_mark (take n text))

-- the mark that a text begins with, and the text behind it; a word is as long as it can be
abbrev pub first_mark : List ℕ → Option (Mark × List ℕ)
first_mark text = if is_word_byte (slice_index_or text 0 0)
    then word_then (prefix_len is_word_byte text) text
    else sign_or_short text (position (bytes_eq (take 2 text)) signs)

-- a mark and the text behind it, as the code keeps them
abbrev pub plain_first : Mark × Bor (List ℕ) → Mark × List ℕ
plain_first p = (p.0, p.1.now)
