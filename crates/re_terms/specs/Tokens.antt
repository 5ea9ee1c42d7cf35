-- Lists of tokens: the reserved words, the signs, and what each list of tokens is.
-- Read against: `device a;` gives device at 0, the name a at 7, `;` at 8 and the end at 9; there are 33 reserved words and 17 signs.
use Rattle.std.specs.Prelude.{ℕ, suc, ◌^◌, ◌==◌, ◌≡◌, ◌&&◌, ◌||◌, not, Bool, true, false, List, [], ◌∷◌, nat_lt, nat_le, length, codes, slice_index_or}
use Rattle.std.specs.List.{list_all, list_any}
use Rattle.std.specs.Str.{bytes_eq}
use Rattle.re_terms.specs.declared.token.Mark.{Mark}
use Rattle.re_terms.specs.declared.token.Mark.TheVariants as mark
use Rattle.re_terms.specs.declared.token.Token.{Token}

-- the reserved words, by place
abbrev pub reserved_words : List (List ℕ)
reserved_words = codes "device" ∷ codes "symbol" ∷ codes "var" ∷ codes "event" ∷ codes "signal" ∷ codes "fold"
    ∷ codes "counter" ∷ codes "set" ∷ codes "register" ∷ codes "changed" ∷ codes "map" ∷ codes "filter"
    ∷ codes "either" ∷ codes "on" ∷ codes "do" ∷ codes "in" ∷ codes "arg" ∷ codes "self" ∷ codes "if" ∷ codes "then"
    ∷ codes "else" ∷ codes "and" ∷ codes "or" ∷ codes "not" ∷ codes "recover" ∷ codes "fault" ∷ codes "size"
    ∷ codes "has" ∷ codes "true" ∷ codes "false" ∷ codes "int" ∷ codes "bool" ∷ codes "sym" ∷ []

-- the signs, by place
abbrev pub signs : List (List ℕ)
signs = codes ";" ∷ codes ":" ∷ codes "=" ∷ codes "," ∷ codes "(" ∷ codes ")" ∷ codes "+" ∷ codes "-" ∷ codes "*"
    ∷ codes "/" ∷ codes "%" ∷ codes "<" ∷ codes ">" ∷ codes "==" ∷ codes "!=" ∷ codes "<=" ∷ codes ">=" ∷ []

abbrev pub is_digit : ℕ → Bool
is_digit b = nat_le 48 b && nat_le b 57

abbrev pub is_letter : ℕ → Bool
is_letter b = (nat_le 65 b && nat_le b 90) || (nat_le 97 b && nat_le b 122)

-- a letter, a digit or `_`
abbrev pub is_word_byte : ℕ → Bool
is_word_byte b = is_letter b || is_digit b || (b == 95)

-- a name: 1 to 32 letters, digits and `_`, of which the first is a letter, and no reserved word
abbrev pub is_name : List ℕ → Bool
is_name bytes = is_letter (slice_index_or bytes 0 0) && nat_le (length bytes) 32 && list_all is_word_byte bytes && not (list_any (bytes_eq bytes) reserved_words)

-- a mark of a token that stands before the end; nothing is reserved in a name's list
abbrev pub is_mark : Mark → Bool
is_mark (mark.Number n) = nat_le n (2 ^ 63)
is_mark (mark.Name t) = is_name t.items && (t.spare == 0)
is_mark (mark.Reserved place) = nat_lt place 33
is_mark (mark.Sign place) = nat_lt place 17
is_mark mark.End = false

-- the end of the text stands alone, and any other mark before what passes the test
abbrev pub ends_well : Mark → List Token → Bool → Bool
ends_well mark.End [] rest = true
ends_well m tokens rest = is_mark m && rest

-- tokens from this place on: each stands behind the one before it, and the list ends with the end of the text, its only one
abbrev pub ends_from : ℕ → List Token → Bool
ends_from least [] = false
ends_from least (t ∷ tokens) = nat_le least t.at && ends_well t.mark tokens (ends_from (suc t.at) tokens)

-- what each list of tokens of a text is
abbrev pub IsTokenList : List Token → Type 0
IsTokenList tokens = ends_from 0 tokens ≡ true
