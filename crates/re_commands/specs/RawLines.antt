-- Lines as the reader keeps them, which lends names from the tokens.
-- Read against: the marks of the tokens of `get a x` are the names get, a and x, and the line asks the device a for x.
use Rattle.std.specs.Prelude.{ℕ, List, map}
use Rattle.std.specs.Borrow.{Bor}
use Rattle.re_terms.specs.Listed.{Listed}
use Rattle.re_terms.specs.declared.token.Mark.{Mark}
use Rattle.re_terms.specs.declared.token.Token.{Token}
use Rattle.re_terms.specs.declared.raw.RawTurn.{RawTurn}
use Rattle.re_commands.specs.declared.raw_line.RawLine.{RawLine}
use Rattle.re_commands.specs.declared.raw_line.RawLine.TheVariants as raw
use Rattle.re_commands.specs.LineGrammar.{Line, Turn, Lazy, Settle, Get, Send, Deliver, Hex, Crash, Restart}

-- the marks of tokens
abbrev pub marks_of : List Token → List Mark
marks_of tokens = map (λ t. t.mark) tokens

-- a name and the marks behind it
abbrev pub plain_name : Bor (Listed ℕ) × Bor (List Token) → Listed ℕ × List Mark
plain_name p = (p.0.now, marks_of p.1.now)

-- a number and the marks behind it
abbrev pub plain_number : ℕ × Bor (List Token) → ℕ × List Mark
plain_number p = (p.0, marks_of p.1.now)

-- a device and the turn for it
abbrev pub plain_turn : Bor (Listed ℕ) × RawTurn → Listed ℕ × RawTurn
plain_turn p = (p.0.now, p.1)

abbrev pub plain_line : RawLine → Line
plain_line (raw.Turn device turn) = Turn device.now turn
plain_line (raw.Lazy device turn) = Lazy device.now turn
plain_line (raw.Settle device) = Settle device.now
plain_line (raw.Get device name) = Get device.now name.now
plain_line (raw.Send device) = Send device.now
plain_line (raw.Deliver packet device) = Deliver packet device.now
plain_line (raw.Hex packet) = Hex packet
plain_line (raw.Crash device) = Crash device.now
plain_line (raw.Restart device) = Restart device.now
