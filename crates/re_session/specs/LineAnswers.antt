-- What the lines of a session are answered, as a function of the world before them and of how their commands fared.
-- Read against: on `device a; var x: int = 2; signal s = x + 3;` over blank files the lines get a s, turn a x = 5, get a s, get a y and an empty one say 5, ok 1, 8, no 21 and nothing;
-- where the third call of the turn fails, get a s, turn a x = 5, get a s, crash a, restart a say 5, no 33, no 34 at 3, down, up 0, or up 1 where the record reads as whole.
use Rattle.std.specs.Prelude.{ℕ, List, [], ◌∷◌, ◌++◌, Option, Some, None, Result, Ok, Err}
use Rattle.re_commands.specs.Commanding.{commanded}
use Rattle.re_commands.specs.declared.fault.CommandFault.{CommandFault}
use Rattle.re_commands.specs.declared.fault.CommandFault.TheVariants as fault
use Rattle.re_print.specs.AnswerTexts.{answer_text}
use Rattle.re_terms.specs.DeviceWorlds.{World, Outcome, Fine, Memory, reply, world_after}
use Rattle.re_terms.specs.Worlds.{PlainAnswer, Refused}
use Rattle.re_terms.specs.declared.command.Command.{Command}
use Rattle.re_terms.specs.declared.program.Program.{Program}

-- what a line is: a command, nothing, or a fault
abbrev pub Reading : Type 0
Reading = Result (Option Command) CommandFault

-- the code of a fault of the line itself
abbrev pub fault_code : CommandFault → ℕ
fault_code fault.Memory = 36
fault_code fault.Syntax = 20
fault_code fault.Unknown = 21
fault_code fault.Kind = 22
fault_code fault.Twice = 23
fault_code fault.Empty = 24
fault_code fault.TooMany = 25

-- the answer to a line: none where it holds no command, and else its command's or a refusal
abbrev pub line_answer : Program → World → Reading → Outcome → Option PlainAnswer
line_answer p w (Ok None) o = None
line_answer p w (Ok (Some c)) o = Some (reply p w c o)
line_answer p w (Err f) Memory = Some (Refused 36)
line_answer p w (Err f) o = Some (Refused (fault_code f))

-- an answer is a line
abbrev pub said_answer : Program → Option PlainAnswer → List ℕ
said_answer p None = []
said_answer p (Some answer) = answer_text p answer ++ 10 ∷ []

-- what a line says
abbrev pub line_text : Program → World → Reading → Outcome → List ℕ
line_text p w l o = said_answer p (line_answer p w l o)

-- the world after a line
abbrev pub line_after : Program → World → Reading → Outcome → World
line_after p w (Ok None) o = w
line_after p w (Ok (Some c)) o = world_after p w c o
line_after p w (Err f) o = w

-- how the first of some lines fared, and the others; lines for which nothing is told fared well
abbrev pub first : List Outcome → Outcome
first [] = Fine
first (o ∷ os) = o

abbrev pub others : List Outcome → List Outcome
others [] = []
others (o ∷ os) = os

-- what the lines say, one behind the other
abbrev pub texts : Program → World → List (List ℕ) → List Outcome → List ℕ
texts p w [] os = []
texts p w (l ∷ lines) os = line_text p w (commanded p l) (first os) ++ texts p (line_after p w (commanded p l) (first os)) lines (others os)

-- the world after the lines
abbrev pub lines_after : Program → World → List (List ℕ) → List Outcome → World
lines_after p w [] os = w
lines_after p w (l ∷ lines) os = lines_after p (line_after p w (commanded p l) (first os)) lines (others os)
