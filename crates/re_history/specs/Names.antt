-- What the name of nothing has for its members.
use Rattle.std.specs.Prelude.{false, []}
use Rattle.re_terms.specs.Listed.{plain}
use Rattle.re_terms.specs.Shapes.{zeros}
use Rattle.re_terms.specs.declared.program.Program.{Program}
use Rattle.re_terms.specs.declared.entry.State.{State}
use Rattle.re_outside.specs.Outside.{none}
use Rattle.re_outside.specs.Port.{Rest}

-- a program with no declaration
abbrev pub no_program : Program
no_program = record { decls = plain [] }

-- a state with no word and no cell
abbrev pub no_state : State
no_state = record { words = plain []; rep = record { vector = record { counts = zeros }; cells = plain [] } }

-- a disk with nothing beside it
abbrev pub no_rest : Rest
no_rest = record { name = 0; told = false; faults = none; left = []; others = λ device file. []; start = λ device file. [] }
