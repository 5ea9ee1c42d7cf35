use Rattle.std.proofs.Common.{[]}
use Rattle.re_history.specs.Names.{no_program, no_state, no_rest}
use Rattle.re_history.proofs.tests.entries_are_shown.Given as goal

-- the board that was just made, and of all else what nothing has
abbrev pub ghosts-show_entry : goal.ghosts-show_entry
ghosts-show_entry a = record { board = a.table.now.board; device = 0; program = no_program; state = no_state; number = 0; taken = 0; faults = 0; disk_device = 0; rest = no_rest; trace = [] }
