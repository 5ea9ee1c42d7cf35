-- Small programs, and the commands of sessions over them, for the worked rows.
use Rattle.std.proofs.Common.{ℕ, ℤ, Bool, List, [], ◌∷◌}
use Rattle.re_terms.specs.declared.command.Command.{Command}
use Rattle.re_terms.specs.declared.entry.Admitted.{Admitted}
use Rattle.re_terms.specs.declared.entry.Put.{Put}
use Rattle.re_terms.specs.declared.program.Body.{Body}
use Rattle.re_terms.specs.declared.program.Decl.{Decl}
use Rattle.re_terms.specs.declared.program.Program.{Program}
use Rattle.re_terms.specs.declared.replicated.Act.{Act}
use Rattle.re_terms.specs.declared.replicated.RepOp.{RepOp}
use Rattle.re_terms.specs.declared.word.Word.{Word}
use Rattle.re_terms.specs.declared.word.Word.TheVariants as word
use Rattle.re_terms.specs.DeviceWorlds.{Fine, Failed}
use Rattle.re_terms.specs.Lines.{Done}
use Rattle.re_terms.specs.Listed.{plain}

-- declarations, whose names are left out
abbrev pub declared : Body → Decl
declared b = record { name = plain []; body = b }

abbrev pub program : List Decl → Program
program decls = record { decls = plain decls }

abbrev pub int : ℤ → Word
int n = word.Int n

-- a turn
abbrev pub turn_of : List Put → List Put → List RepOp → Admitted
turn_of sets fires operations = record { turn = record { sets = plain sets; fires = plain fires; ops = plain operations } }

-- a turn of operations
abbrev pub operated : List RepOp → Admitted
operated operations = turn_of [] [] operations

-- an operation on the replicated cell at this place
abbrev pub on : ℕ → Act → RepOp
on cell act = record { cell = cell; act = act }

-- a turn that sets one var
abbrev pub set_to : ℕ → Word → Admitted
set_to id w = turn_of (record { id = id; word = w } ∷ []) [] []

-- a command that is done
abbrev pub fine : Command → Done
fine c = record { asked = c; outcome = Fine }

-- a command in which this file call failed
abbrev pub fails : ℕ → Bool → Command → Done
fails at gate_open c = record { asked = c; outcome = Failed at gate_open }

-- a number below 256 in eight bytes
abbrev pub eight : ℕ → List ℕ
eight n = 0 ∷ 0 ∷ 0 ∷ 0 ∷ 0 ∷ 0 ∷ 0 ∷ n ∷ []
