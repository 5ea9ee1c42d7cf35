-- What a line is to a program: nothing, a command, or the first fault in the order of the faults that holds of it anywhere.
-- Read against: on `device a; device b; symbol red; var x: int = 0; event e: int; signal s = x;` the line `get b x` asks device 1 for 3, ` # get b x` is nothing,
-- `jump a` and 1,025 blanks have the fault of syntax, `get x y` and `turn x y = 1` an unknown name, `get x x`, `get a e` and `turn a s = 1, x = 1, x = 2` a wrong kind.
use Rattle.std.specs.Prelude.{ℕ, Bool, false, if◌then◌else◌, List, [], ◌∷◌, length, take, nat_lt, Option, None, Some, slice_get, count_by, Result, Ok, Err}
use Rattle.std.specs.Option.{option_map_or}
use Rattle.re_terms.specs.Listed.{Listed}
use Rattle.re_terms.specs.Programs.{names_of, is_device}
use Rattle.re_terms.specs.Admission.{is_shown_at}
use Rattle.re_terms.specs.declared.token.Mark.{Mark}
use Rattle.re_terms.specs.declared.raw.RawTurn.{RawTurn}
use Rattle.re_terms.specs.declared.entry.Admitted.{Admitted}
use Rattle.re_terms.specs.declared.command.Command.{Command}
use Rattle.re_terms.specs.declared.command.Command.TheVariants as command
use Rattle.re_terms.specs.declared.program.Decl.{Decl}
use Rattle.re_terms.specs.declared.program.Program.{Program}
use Rattle.re_tokens.specs.WholeLists.{tokens_of}
use Rattle.re_types.specs.Resolving.{place_of}
use Rattle.re_types.specs.Admitting.{admitted}
use Rattle.re_types.specs.declared.fault.AdmitFault.{AdmitFault}
use Rattle.re_commands.specs.declared.fault.CommandFault.{CommandFault}
use Rattle.re_commands.specs.declared.fault.CommandFault.TheVariants as fault
use Rattle.re_commands.specs.Faults.{of_parts, first_fault}
use Rattle.re_commands.specs.LineGrammar.{Line, Turn, Lazy, Settle, Get, Send, Deliver, Hex, Crash, Restart, read_line}

-- the declaration with this id is a device
abbrev pub is_device_at : List Decl → ℕ → Bool
is_device_at decls id = option_map_or is_device (slice_get decls id) false

-- the number of the device with this id, counted from 0
abbrev pub device_number : List Decl → ℕ → ℕ
device_number decls id = count_by is_device (take id decls)

-- the device with this name
abbrev pub device_at : List Decl → Option ℕ → Result ℕ CommandFault
device_at decls None = Err fault.Unknown
device_at decls (Some id) = if is_device_at decls id then Ok (device_number decls id) else Err fault.Kind

abbrev pub device_of : List Decl → Listed ℕ → Result ℕ CommandFault
device_of decls name = device_at decls (place_of (names_of decls) name.items)

-- the id of what can be shown and has this name
abbrev pub shown_at : List Decl → Option ℕ → Result ℕ CommandFault
shown_at decls None = Err fault.Unknown
shown_at decls (Some id) = if is_shown_at decls id then Ok id else Err fault.Kind

abbrev pub shown_of : List Decl → Listed ℕ → Result ℕ CommandFault
shown_of decls name = shown_at decls (place_of (names_of decls) name.items)

-- what is made of a value, where there is no fault
abbrev pub made : {A B : Type 0} → (A → B) → Result A CommandFault → Result B CommandFault
made f (Ok x) = Ok (f x)
made f (Err e) = Err e

-- the turn of the parts
abbrev pub turn_as : Result Admitted AdmitFault → Result Admitted CommandFault
turn_as (Ok turn) = Ok turn
turn_as (Err e) = Err (of_parts e)

-- both values, or the first fault of the two
abbrev pub both : {A B : Type 0} → Result A CommandFault → Result B CommandFault → Result (A × B) CommandFault
both (Ok x) (Ok y) = Ok (x, y)
both (Ok x) (Err f) = Err f
both (Err e) (Ok y) = Err e
both (Err e) (Err f) = Err (first_fault e f)

-- a device, and the turn of the parts for it
abbrev pub device_turn : Program → Listed ℕ → RawTurn → Result (ℕ × Admitted) CommandFault
device_turn p device turn = both (device_of p.decls.items device) (turn_as (admitted p turn))

-- the command that a line is, or its first fault
abbrev pub meant : Program → Line → Result Command CommandFault
meant p (Turn device turn) = made (λ t. command.Turn t.0 t.1) (device_turn p device turn)
meant p (Lazy device turn) = made (λ t. command.Lazy t.0 t.1) (device_turn p device turn)
meant p (Settle device) = made command.Settle (device_of p.decls.items device)
meant p (Get device name) = made (λ t. command.Get t.0 t.1) (both (device_of p.decls.items device) (shown_of p.decls.items name))
meant p (Send device) = made command.Send (device_of p.decls.items device)
meant p (Deliver packet device) = made (command.Deliver packet) (device_of p.decls.items device)
meant p (Hex packet) = Ok (command.Hex packet)
meant p (Crash device) = made command.Crash (device_of p.decls.items device)
meant p (Restart device) = made command.Restart (device_of p.decls.items device)

-- a line that the grammar has, or the fault of syntax
abbrev pub line_meant : Program → Option Line → Result Command CommandFault
line_meant p None = Err fault.Syntax
line_meant p (Some line) = meant p line

-- a line without tokens is nothing, and one where at some place no token begins has the fault of syntax
abbrev pub marks_meant : Program → Option (List Mark) → Result (Option Command) CommandFault
marks_meant p None = Err fault.Syntax
marks_meant p (Some []) = Ok None
marks_meant p (Some (m ∷ marks)) = made Some (line_meant p (read_line (m ∷ marks)))

-- what a line is, without its end; one of over 1,024 bytes has the fault of syntax, whatever is in it
abbrev pub commanded : Program → List ℕ → Result (Option Command) CommandFault
commanded p line = if nat_lt 1024 (length line) then Err fault.Syntax else marks_meant p (tokens_of line)
