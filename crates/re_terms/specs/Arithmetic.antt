-- What an operator gives, over exact whole numbers.
-- Read against: 10 / 0 is fault 2; -9223372036854775808 / -1 is fault 1, and -9223372036854775808 % -1 is 0.
use Rattle.std.specs.Prelude.{ℤ, pos, negsuc, ◌+ℤ◌, ◌-ℤ◌, ◌*ℤ◌, int_le, int_lt, int_div, Bool, true, false, not, ◌&&◌, ◌==◌, if◌then◌else◌}
use Rattle.std.specs.Ordering.{int_eq}
use Rattle.re_terms.specs.declared.word.Word.{Word}
use Rattle.re_terms.specs.declared.word.Word.TheVariants as word
use Rattle.re_terms.specs.declared.expr.Op.{Op}
use Rattle.re_terms.specs.declared.expr.Op.TheVariants as op

-- fault 1: the exact number isn't one of 64 bits
abbrev pub overflow : Word
overflow = word.Fault 1

-- fault 2: the divisor is 0
abbrev pub division_by_zero : Word
division_by_zero = word.Fault 2

-- it is from -2^63 to 2^63 - 1
abbrev pub is_word_number : ℤ → Bool
is_word_number z = int_le (negsuc 9223372036854775807) z && int_le z (pos 9223372036854775807)

-- an exact whole number as a word
abbrev pub whole : ℤ → Word
whole z = if is_word_number z then word.Int z else overflow

-- one of two truth values equals the other
abbrev pub bool_eq : Bool → Bool → Bool
bool_eq true b = b
bool_eq false b = not b

-- two words of one kind are equal
abbrev pub word_eq : Word → Word → Bool
word_eq (word.Int a) (word.Int b) = int_eq a b
word_eq (word.Bool a) (word.Bool b) = bool_eq a b
word_eq (word.Sym a) (word.Sym b) = a == b
word_eq a b = false

-- what an operator gives of two ints; division truncates towards zero; `and` and `or` take none
abbrev pub number_word : Op → ℤ → ℤ → Word
number_word op.Add a b = whole (a +ℤ b)
number_word op.Sub a b = whole (a -ℤ b)
number_word op.Mul a b = whole (a *ℤ b)
number_word op.Div a b = if int_eq b (pos 0) then division_by_zero else whole (int_div a b)
number_word op.Rem a b = if int_eq b (pos 0) then division_by_zero else whole (a -ℤ (b *ℤ (int_div a b)))
number_word op.Lt a b = word.Bool (int_lt a b)
number_word op.Le a b = word.Bool (int_le a b)
number_word op.Gt a b = word.Bool (int_lt b a)
number_word op.Ge a b = word.Bool (int_le b a)
number_word op.Eq a b = word.Bool (int_eq a b)
number_word op.Ne a b = word.Bool (not (int_eq a b))
number_word op.And a b = word.Int b
number_word op.Or a b = word.Int b

-- whether two words that aren't both ints are equal or differ
abbrev pub comparison_word : Op → Bool → Word
comparison_word op.Ne same = word.Bool (not same)
comparison_word o same = word.Bool same

-- an operator that takes both words: the leftmost fault, else what it gives of them
abbrev pub strict_word : Op → Word → Word → Word
strict_word o (word.Fault c) b = word.Fault c
strict_word o (word.Int a) (word.Fault c) = word.Fault c
strict_word o (word.Bool a) (word.Fault c) = word.Fault c
strict_word o (word.Sym a) (word.Fault c) = word.Fault c
strict_word o (word.Int a) (word.Int b) = number_word o a b
strict_word o a b = comparison_word o (word_eq a b)

-- `a and b`: a's fault; else false where a is false; else b
abbrev pub and_word : Word → Word → Word
and_word (word.Fault c) b = word.Fault c
and_word (word.Bool false) b = word.Bool false
and_word a b = b

-- `a or b`: a's fault; else true where a is true; else b
abbrev pub or_word : Word → Word → Word
or_word (word.Fault c) b = word.Fault c
or_word (word.Bool true) b = word.Bool true
or_word a b = b

-- what an operator gives of two words
abbrev pub operator_word : Op → Word → Word → Word
operator_word op.And a b = and_word a b
operator_word op.Or a b = or_word a b
operator_word o a b = strict_word o a b

-- `not(a)`: a's fault, else the other truth value
abbrev pub not_word : Word → Word
not_word (word.Bool a) = word.Bool (not a)
not_word a = a

-- `if c then a else b`: c's fault, else one of the two
abbrev pub if_word : Word → Word → Word → Word
if_word (word.Fault c) a b = word.Fault c
if_word (word.Bool false) a b = b
if_word c a b = a

-- `recover(e, f)`: e unless e is a fault, else f
abbrev pub recover_word : Word → Word → Word
recover_word (word.Fault c) other = other
recover_word tried other = tried
