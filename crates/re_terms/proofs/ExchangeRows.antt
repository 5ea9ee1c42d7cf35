-- Worked sessions of two devices that exchange packets, by the definitions of worlds and lines.
use Rattle.std.proofs.Common.{◌≡◌, pos, List, [], ◌∷◌, refl}
use Rattle.re_terms.specs.declared.command.Command.TheVariants as command
use Rattle.re_terms.specs.declared.program.Body.TheVariants as body
use Rattle.re_terms.specs.declared.program.Program.{Program}
use Rattle.re_terms.specs.declared.replicated.Act.TheVariants.{Add, Write}
use Rattle.re_terms.specs.declared.word.Kind.TheVariants as kind
use Rattle.re_terms.specs.declared.word.Word.TheVariants as word
use Rattle.re_terms.specs.CellStates.{join_written, written, greatest_write}
use Rattle.re_terms.specs.DeviceWorlds.{blank_world}
use Rattle.re_terms.specs.Lines.{Done, replies}
use Rattle.re_terms.specs.Updates.{greatest_number, vector_of, greatest_stamp, stamp_in}
use Rattle.re_terms.specs.Values.{total_amount}
use Rattle.re_terms.specs.Vectors.{by_device, covers}
use Rattle.re_terms.specs.Worlds.{Entered, Value, Packet, Down, Refused}
use Rattle.re_terms.proofs.WorldPrograms.{declared, program, int, operated, on, fine}

-- ---- two writes of equal stamp: the greater device's counts at both

-- `device a; device b; register m: int = 0;`
abbrev registers : Program
registers = program (declared body.Device ∷ declared body.Device ∷ declared (body.Register kind.Int (int (pos 0))) ∷ [])

abbrev both_wrote : List Done
both_wrote =
    fine (command.Turn 0 (operated (on 0 (Write (int (pos 1))) ∷ [])))
    ∷ fine (command.Turn 1 (operated (on 0 (Write (int (pos 2))) ∷ [])))
    ∷ fine (command.Send 0)
    ∷ fine (command.Send 1)
    ∷ fine (command.Deliver 0 1)
    ∷ fine (command.Deliver 1 0)
    ∷ fine (command.Get 0 2)
    ∷ fine (command.Get 1 2)
    ∷ []

both_wrote_is : replies registers (blank_world registers) both_wrote ≡ Entered 1 ∷ Entered 1 ∷ Packet 0 ∷ Packet 1 ∷ Entered 2 ∷ Entered 2 ∷ Value (int (pos 2)) ∷ Value (int (pos 2)) ∷ []
unfolding vector_of greatest_number by_device covers greatest_stamp stamp_in join_written written greatest_write
both_wrote_is = refl

-- ---- the order of refusals

-- `device a; device b; var x: int = 0;`
abbrev two : Program
two = program (declared body.Device ∷ declared body.Device ∷ declared (body.Var kind.Int (int (pos 0)) 1) ∷ [])

abbrev refused : List Done
refused =
    fine (command.Deliver 0 1)
    ∷ fine (command.Restart 0)
    ∷ fine (command.Crash 1)
    ∷ fine (command.Crash 1)
    ∷ fine (command.Deliver 0 1)
    ∷ fine (command.Get 0 2)
    ∷ []

refused_is : replies two (blank_world two) refused ≡ Refused 28 ∷ Refused 27 ∷ Down ∷ Refused 26 ∷ Refused 28 ∷ Value (int (pos 0)) ∷ []
unfolding vector_of greatest_number by_device covers
refused_is = refl

-- ---- two totals that are each within the limits, whose sum isn't a word

-- `device a; device b; counter c;`
abbrev counters : Program
counters = program (declared body.Device ∷ declared body.Device ∷ declared body.Counter ∷ [])

abbrev both_full : List Done
both_full =
    fine (command.Turn 0 (operated (on 0 (Add (pos 9223372036854775807)) ∷ [])))
    ∷ fine (command.Turn 1 (operated (on 0 (Add (pos 9223372036854775807)) ∷ [])))
    ∷ fine (command.Send 0)
    ∷ fine (command.Deliver 0 1)
    ∷ fine (command.Get 1 2)
    ∷ []

both_full_is : replies counters (blank_world counters) both_full ≡ Entered 1 ∷ Entered 1 ∷ Packet 0 ∷ Entered 2 ∷ Value (word.Fault 1) ∷ []
unfolding vector_of greatest_number by_device covers total_amount greatest_stamp stamp_in
both_full_is = refl
