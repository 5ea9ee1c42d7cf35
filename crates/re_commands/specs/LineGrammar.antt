-- The grammar of a session's lines, over the marks of a line.
-- Read against: `turn a x = 5, fire e - 3` is a turn of a with the parts that set x to 5 and fire e with -3, `turn a fire = 1` sets fire, and `turn a` has no parts;
-- `turn a x = 1 y = 2`, `turn a x = 1,`, `turn a x = 9223372036854775808`, `deliver a a`, `get a` and `jump a` are no lines.
use Rattle.std.specs.Prelude.{ℕ, ℤ, pos, ◌-ℤ◌, ◌==◌, Bool, true, false, if◌then◌else◌, List, [], ◌∷◌, codes, Option, None, Some, option_map}
use Rattle.std.specs.List.{slice_split}
use Rattle.std.specs.Str.{bytes_eq}
use Rattle.re_terms.specs.Arithmetic.{is_word_number}
use Rattle.re_terms.specs.Kinds.{◌>>=◌, only_if}
use Rattle.re_terms.specs.Listed.{Listed, plain}
use Rattle.re_terms.specs.declared.reserved.TheConstants.{TRUE, FALSE}
use Rattle.re_terms.specs.declared.signs.TheConstants.{EQUALS, COMMA, MINUS}
use Rattle.re_terms.specs.declared.token.Mark.{Mark}
use Rattle.re_terms.specs.declared.token.Mark.TheVariants as mark
use Rattle.re_terms.specs.declared.raw_expr.RawLit.{RawLit}
use Rattle.re_terms.specs.declared.raw_expr.RawLit.TheVariants as literal
use Rattle.re_terms.specs.declared.raw.RawPart.{RawPart}
use Rattle.re_terms.specs.declared.raw.RawPart.TheVariants as part
use Rattle.re_terms.specs.declared.raw.RawTurn.{RawTurn}
use Rattle.re_commands.specs.declared.words.LineWord.{LineWord}
use Rattle.re_commands.specs.declared.words.LineWord.TheVariants as line
use Rattle.re_commands.specs.declared.words.PartWord.{PartWord}
use Rattle.re_commands.specs.declared.words.PartWord.TheVariants as act

-- a line as it is read, before its names are looked up
pub data Line : Type 0 where
  Turn : (device : Listed ℕ) → (turn : RawTurn) → Line
  Lazy : (device : Listed ℕ) → (turn : RawTurn) → Line
  Settle : (device : Listed ℕ) → Line
  Get : (device name : Listed ℕ) → Line
  Send : (device : Listed ℕ) → Line
  Deliver : (packet : ℕ) → (device : Listed ℕ) → Line
  Hex : (packet : ℕ) → Line
  Crash : (device : Listed ℕ) → Line
  Restart : (device : Listed ℕ) → Line

-- the word that a line begins with
abbrev pub line_word : List ℕ → Option LineWord
line_word word = if bytes_eq word (codes "turn") then Some line.Turn
    else if bytes_eq word (codes "lazy") then Some line.Lazy
    else if bytes_eq word (codes "settle") then Some line.Settle
    else if bytes_eq word (codes "get") then Some line.Get
    else if bytes_eq word (codes "send") then Some line.Send
    else if bytes_eq word (codes "deliver") then Some line.Deliver
    else if bytes_eq word (codes "hex") then Some line.Hex
    else if bytes_eq word (codes "crash") then Some line.Crash
    else if bytes_eq word (codes "restart") then Some line.Restart
    else None

-- the word that a part begins with, where its second token isn't `=`
abbrev pub part_word : List ℕ → Option PartWord
part_word word = if bytes_eq word (codes "fire") then Some act.Fire
    else if bytes_eq word (codes "add") then Some act.Add
    else if bytes_eq word (codes "insert") then Some act.Insert
    else if bytes_eq word (codes "remove") then Some act.Remove
    else if bytes_eq word (codes "write") then Some act.Write
    else None

-- a NAME, and what stands behind it
abbrev pub name_first : List Mark → Option (Listed ℕ × List Mark)
name_first (mark.Name t ∷ marks) = Some (t, marks)
name_first marks = None

-- a NUMBER, and what stands behind it
abbrev pub number_first : List Mark → Option (ℕ × List Mark)
number_first (mark.Number n ∷ marks) = Some (n, marks)
number_first marks = None

-- NAME, alone
abbrev pub only_name : List Mark → Option (Listed ℕ)
only_name (mark.Name t ∷ []) = Some t
only_name marks = None

-- NUMBER, alone
abbrev pub only_number : List Mark → Option ℕ
only_number (mark.Number n ∷ []) = Some n
only_number marks = None

-- a number that an int of 64 bits is
abbrev pub fitting : ℤ → Option ℤ
fitting z = only_if (is_word_number z) z

-- Int = NUMBER | "-" NUMBER, where the number fits 64 bits with its sign
abbrev pub int_of : List Mark → Option ℤ
int_of (mark.Number n ∷ []) = fitting (pos n)
int_of (mark.Sign sign ∷ mark.Number n ∷ []) = if sign == MINUS then fitting (pos 0 -ℤ pos n) else None
int_of marks = None

-- "true" | "false"
abbrev pub truth_of : ℕ → Option RawLit
truth_of word = if word == TRUE then Some (literal.Bool true) else if word == FALSE then Some (literal.Bool false) else None

-- Lit = NUMBER | "-" NUMBER | "true" | "false" | NAME
abbrev pub literal_of : List Mark → Option RawLit
literal_of (mark.Name t ∷ []) = Some (literal.Name t)
literal_of (mark.Reserved word ∷ []) = truth_of word
literal_of marks = option_map literal.Int (int_of marks)

-- what stands behind the word of a part and its name: "add" NAME Int, and else a Lit
abbrev pub act_of : PartWord → Listed ℕ → List Mark → Option RawPart
act_of act.Fire name marks = option_map (part.Fire name) (literal_of marks)
act_of act.Add name marks = option_map (part.Add name) (int_of marks)
act_of act.Insert name marks = option_map (part.Insert name) (literal_of marks)
act_of act.Remove name marks = option_map (part.Remove name) (literal_of marks)
act_of act.Write name marks = option_map (part.Write name) (literal_of marks)

-- Part = NAME "=" Lit | "fire" NAME Lit | "add" NAME Int | "insert" NAME Lit | "remove" NAME Lit | "write" NAME Lit
abbrev pub part_of : List Mark → Option RawPart
part_of (mark.Name name ∷ mark.Sign sign ∷ marks) = if sign == EQUALS then option_map (part.Put name) (literal_of marks) else None
part_of (mark.Name word ∷ mark.Name name ∷ marks) = do
  w ← part_word word.items
  act_of w name marks
part_of marks = None

-- what is made of each item, where something is made of all of them
abbrev pub all_of : {A B : Type 0} → (A → Option B) → List A → Option (List B)
all_of f [] = Some []
all_of f (x ∷ xs) = do
  y ← f x
  ys ← all_of f xs
  Some (y ∷ ys)

abbrev pub is_comma : Mark → Bool
is_comma (mark.Sign sign) = sign == COMMA
is_comma m = false

-- Parts = [ Part { "," Part } ]: nothing, or parts between commas
abbrev pub parts_of : List Mark → Option (List RawPart)
parts_of [] = Some []
parts_of (m ∷ marks) = all_of part_of (slice_split is_comma (m ∷ marks))

-- the parts as a turn
abbrev pub turn_of : List Mark → Option RawTurn
turn_of marks = option_map (λ parts. record { parts = plain parts }) (parts_of marks)

-- NAME Parts
abbrev pub device_and_turn : List Mark → Option (Listed ℕ × RawTurn)
device_and_turn marks = do
  device ← name_first marks
  turn ← turn_of device.1
  Some (device.0, turn)

-- what stands behind the word of a line: a device and parts, a device, a device and a name, a packet and a device, or a packet
abbrev pub line_behind : LineWord → List Mark → Option Line
line_behind line.Turn marks = option_map (λ t. Turn t.0 t.1) (device_and_turn marks)
line_behind line.Lazy marks = option_map (λ t. Lazy t.0 t.1) (device_and_turn marks)
line_behind line.Settle marks = option_map Settle (only_name marks)
line_behind line.Get marks = do
  device ← name_first marks
  name ← only_name device.1
  Some (Get device.0 name)
line_behind line.Send marks = option_map Send (only_name marks)
line_behind line.Deliver marks = do
  packet ← number_first marks
  device ← only_name packet.1
  Some (Deliver packet.0 device)
line_behind line.Hex marks = option_map Hex (only_number marks)
line_behind line.Crash marks = option_map Crash (only_name marks)
line_behind line.Restart marks = option_map Restart (only_name marks)

-- Line = "turn" NAME Parts | "lazy" NAME Parts | "settle" NAME | "get" NAME NAME
--      | "send" NAME | "deliver" NUMBER NAME | "hex" NUMBER | "crash" NAME | "restart" NAME
abbrev pub read_line : List Mark → Option Line
read_line marks = do
  first ← name_first marks
  word ← line_word first.0.items
  line_behind word first.1
