-- The two texts of a sample: a program, and a session of a number and a size.
-- Read against: of the number 7 the session of size 0 is empty, and that of size 1 is the line `turn b write r 68`.
use Rattle.std.specs.Prelude.{ℕ, List, [], ◌∷◌, ◌++◌, codes}
use Rattle.std.specs.List.{flat_map}
use Rattle.re_gen.specs.SampleLines.{line_text, sample_lines}

-- a line with its end
abbrev pub ended : List ℕ → List ℕ
ended line = line ++ codes "\n"

-- the program's declarations, one a line
abbrev pub declarations : List (List ℕ)
declarations =
    codes "device a;" ∷
    codes "device b;" ∷
    codes "device c;" ∷
    codes "var x: int = 0 in 1;" ∷
    codes "var y: int = 1 in 2;" ∷
    codes "event e: int;" ∷
    codes "signal p = (x + y);" ∷
    codes "signal q = (p / y);" ∷
    codes "event d = changed(q);" ∷
    codes "fold n: int = 0 on d do (self + 1) in 3;" ∷
    codes "fold m: int = 0 on e do recover((self + arg), 0) in 3;" ∷
    codes "counter k;" ∷
    codes "set s: int;" ∷
    codes "register r: int = 0;" ∷ []

-- the text of the program
abbrev pub sample_program : List ℕ
sample_program = flat_map ended declarations

-- the text of the session
abbrev pub sample_session : ℕ → ℕ → List ℕ
sample_session number size = flat_map (λ line. ended (line_text line)) (sample_lines number size)
