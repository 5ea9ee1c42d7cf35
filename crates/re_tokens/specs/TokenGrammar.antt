-- The tokens of a text, as a relation over the whole text.
-- Read against: `a<=1 # x` gives the name a at 0, `<=` at 1, 1 at 3 and the end at 8; `1x` and `007` have no token at 0, `a ! b` has none at 2.
use Rattle.std.specs.Prelude.{ℕ, ◌+◌, ◌^◌, ◌==◌, ◌≡◌, ◌≤◌, ◌&&◌, ◌||◌, not, Bool, true, false, List, [], ◌∷◌, ◌++◌, length, slice_index_or, position, Some}
use Rattle.std.specs.List.{list_all, list_any, flat_map}
use Rattle.std.specs.Str.{bytes_eq}
use Rattle.std.specs.Str.Parse.{digits_value}
use Rattle.re_terms.specs.Listed.{plain}
use Rattle.re_terms.specs.Tokens.{reserved_words, signs, is_digit, is_word_byte, is_name}
use Rattle.re_terms.specs.declared.token.Mark.{Mark}
use Rattle.re_terms.specs.declared.token.Mark.TheVariants as mark
use Rattle.re_terms.specs.declared.token.Token.{Token}

-- what separates tokens: a blank, or a comment, given by the bytes between its `#` and its LF
pub data Separator : Type 0 where
  Blank : (byte : ℕ) → Separator
  Comment : (bytes : List ℕ) → Separator

-- space, tab, CR and LF
abbrev pub is_blank : ℕ → Bool
is_blank b = (b == 32) || (b == 9) || (b == 13) || (b == 10)

-- bytes of one line, without the LF
abbrev pub is_one_line : List ℕ → Bool
is_one_line bytes = not (list_any (λ b. b == 10) bytes)

-- its byte is a blank, or its comment is of one line
abbrev pub is_separator : Separator → Bool
is_separator (Blank b) = is_blank b
is_separator (Comment bytes) = is_one_line bytes

-- the bytes of a separator; a comment has its `#` and its LF
abbrev pub separator_bytes : Separator → List ℕ
separator_bytes (Blank b) = b ∷ []
separator_bytes (Comment bytes) = 35 ∷ bytes ++ 10 ∷ []

-- the bytes of separators in a row
abbrev pub gap_bytes : List Separator → List ℕ
gap_bytes gap = flat_map separator_bytes gap

-- nothing, or a comment that the end of the text ends
abbrev pub is_last_comment : List ℕ → Bool
is_last_comment [] = true
is_last_comment (b ∷ bytes) = (b == 35) && is_one_line bytes

-- all of it is separators, and there may be a comment behind them that the end of the text ends
pub record IsLastGap (text : List ℕ) : Type 0 where
  pub gap : List Separator
  pub comment : List ℕ
  pub whole : text ≡ gap_bytes gap ++ comment
  pub separators : list_all is_separator gap ≡ true
  pub last : is_last_comment comment ≡ true

-- digits without a leading zero, but for `0` itself
abbrev pub is_numeral : List ℕ → Bool
is_numeral word = list_all is_digit word && not (length word == 0) && (not (slice_index_or word 0 0 == 48) || (length word == 1))

-- what spells a mark: a number up to 2^63, a name, or a reserved word or sign at its place in their list
abbrev pub Spells : Mark → List ℕ → Type 0
Spells (mark.Number n) word = (is_numeral word ≡ true) × (digits_value 10 word ≡ n) × (n ≤ 2 ^ 63)
Spells (mark.Name name) word = (is_name word ≡ true) × (name ≡ plain word)
Spells (mark.Reserved place) word = position (bytes_eq word) reserved_words ≡ Some place
Spells (mark.Sign place) word = position (bytes_eq word) signs ≡ Some place
Spells mark.End word = ⊥

-- the byte behind a token would make it longer: a sign by a sign, and all else by a letter, a digit or `_`
abbrev pub goes_on : Mark → List ℕ → List ℕ → Bool
goes_on m word [] = false
goes_on (mark.Sign place) word (b ∷ behind) = list_any (bytes_eq (word ++ b ∷ [])) signs
goes_on m word (b ∷ behind) = is_word_byte b

-- a text begins with this mark, as long as it can be
pub record IsMarkAt (text : List ℕ) (m : Mark) (word behind : List ℕ) : Type 0 where
  pub whole : text ≡ word ++ behind
  pub spelled : Spells m word
  pub longest : goes_on m word behind ≡ false

-- the text from place `at` on begins with separators and then this token
pub record IsTokenAt (at : ℕ) (text : List ℕ) (token : Token) (word behind : List ℕ) : Type 0 where
  pub gap : List Separator
  pub here : List ℕ
  pub whole : text ≡ gap_bytes gap ++ here
  pub separators : list_all is_separator gap ≡ true
  pub place : token.at ≡ at + length (gap_bytes gap)
  pub begins : IsMarkAt here token.mark word behind

-- the text from place `at` on begins with these tokens; `rest` stands behind the last of them, from place `after` on
abbrev pub Begins : ℕ → List ℕ → List Token → ℕ → List ℕ → Type 0
Begins at text [] after rest = (at ≡ after) × (text ≡ rest)
Begins at text (token ∷ tokens) after rest = (word : List ℕ) × (behind : List ℕ) × IsTokenAt at text token word behind × Begins (token.at + length word) behind tokens after rest

-- the end of a text, at its length
abbrev pub end_of : List ℕ → Token
end_of text = record { at = length text; mark = mark.End }

-- these are the tokens of a text: all that stands in it but separators, and then its end
pub record IsTokens (text : List ℕ) (tokens : List Token) : Type 0 where
  pub found : List Token
  pub after : ℕ
  pub rest : List ℕ
  pub begins : Begins 0 text found after rest
  pub blank : IsLastGap rest
  pub ended : tokens ≡ found ++ end_of text ∷ []

-- a text begins with a byte that is no blank and begins no comment
abbrev pub is_in_token : List ℕ → Bool
is_in_token [] = false
is_in_token (b ∷ text) = not (is_blank b || (b == 35))

-- tokens and separators stand before place `at`, and the byte there belongs to a token, but none begins there
pub record NoTokenAt (text : List ℕ) (at : ℕ) : Type 0 where
  pub found : List Token
  pub after : ℕ
  pub rest : List ℕ
  pub begins : Begins 0 text found after rest
  pub gap : List Separator
  pub here : List ℕ
  pub whole : rest ≡ gap_bytes gap ++ here
  pub separators : list_all is_separator gap ≡ true
  pub place : at ≡ after + length (gap_bytes gap)
  pub in_token : is_in_token here ≡ true
  pub none : (m : Mark) (word behind : List ℕ) → IsMarkAt here m word behind → ⊥
