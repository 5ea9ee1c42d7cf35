-- The lines of a sample's session: each by its draws, which stand behind those of the lines before it.
-- Read against: of the number 7 the first line is `turn b write r 68`, and a line with 9 drawn before any line sends is `settle` of its device.
use Rattle.std.specs.Prelude.{ℕ, zero, suc, ℤ, ◌+◌, ◌==◌, pos, ◌-ℤ◌, Bool, true, false, if◌then◌else◌, List, [], ◌∷◌, ◌++◌, codes, count_by, sum_by}
use Rattle.std.specs.Fmt.{decimal, signed_decimal}
use Rattle.re_gen.specs.declared.line.Action.{Action}
use Rattle.re_gen.specs.declared.line.Action.TheVariants.{SetX, SetY, Fire, Add, Insert, Remove, Write, LazyAdd, Send, Deliver, Settle}
use Rattle.re_gen.specs.declared.line.Line.{Line}
use Rattle.re_gen.specs.Draws.{draw}

-- an amount from -10 to 10, from a value drawn below a bound
abbrev pub drawn_amount : (ℕ → ℕ) → ℤ
drawn_amount value = pos (value 21) -ℤ pos 10

-- what a line does: by the number drawn for it, by its value, drawn below a bound, and by how many lines before it send
abbrev pub action_of : ℕ → (ℕ → ℕ) → ℕ → Action
action_of drawn value sending =
    if drawn == 0 then SetX (value 1000) else
    if drawn == 1 then SetY (value 10) else
    if drawn == 2 then Fire (value 100) else
    if drawn == 3 then Add (drawn_amount value) else
    if drawn == 4 then Insert (value 50) else
    if drawn == 5 then Remove (value 50) else
    if drawn == 6 then Write (value 100) else
    if drawn == 7 then LazyAdd (drawn_amount value) else
    if drawn == 8 then Send else
    if sending == 0 then Settle else Deliver (value sending)

-- how many draws that takes, with the one for the action itself
abbrev pub draws_of : Action → ℕ
draws_of Send = 1
draws_of Settle = 1
draws_of action = 2

-- the line whose draws come after so many: its device, what it does there, and the value of that where it has one
abbrev pub line_at : ℕ → ℕ → ℕ → Line
line_at number taken sending = record { letter = 97 + draw number (taken + 1) 3; action = action_of (draw number (taken + 2) 10) (draw number (taken + 3)) sending }

-- how many draws a line takes, with the one for its device
abbrev pub drawn_by : Line → ℕ
drawn_by line = 1 + draws_of line.action

abbrev pub is_sending : Action → Bool
is_sending Send = true
is_sending action = false

abbrev pub sends : Line → Bool
sends line = is_sending line.action

-- the line after these
abbrev pub line_after : ℕ → List Line → Line
line_after number before = line_at number (sum_by drawn_by before) (count_by sends before)

-- the lines of a session of a size, in order
unfoldable pub sample_lines : ℕ → ℕ → List Line
sample_lines number zero = []
sample_lines number (suc size) = let before = sample_lines number size in before ++ line_after number before ∷ []

-- what a line says, with the name of its device
abbrev pub action_text : List ℕ → Action → List ℕ
action_text device (SetX v) = codes "turn " ++ device ++ codes " x = " ++ decimal v
action_text device (SetY v) = codes "turn " ++ device ++ codes " y = " ++ decimal v
action_text device (Fire v) = codes "turn " ++ device ++ codes " fire e " ++ decimal v
action_text device (Add v) = codes "turn " ++ device ++ codes " add k " ++ signed_decimal v
action_text device (Insert v) = codes "turn " ++ device ++ codes " insert s " ++ decimal v
action_text device (Remove v) = codes "turn " ++ device ++ codes " remove s " ++ decimal v
action_text device (Write v) = codes "turn " ++ device ++ codes " write r " ++ decimal v
action_text device (LazyAdd v) = codes "lazy " ++ device ++ codes " add k " ++ signed_decimal v
action_text device Send = codes "send " ++ device
action_text device (Deliver v) = codes "deliver " ++ decimal v ++ codes " " ++ device
action_text device Settle = codes "settle " ++ device

-- a line as it is written, without its end
abbrev pub line_text : Line → List ℕ
line_text line = action_text (line.letter ∷ []) line.action
