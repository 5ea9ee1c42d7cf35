-- Worked sessions of one device, by the definitions of worlds and lines.
use Rattle.std.proofs.Common.{◌≡◌, pos, Bool, true, false, List, [], ◌∷◌, refl}
use Rattle.re_terms.specs.declared.command.Command.TheVariants as command
use Rattle.re_terms.specs.declared.program.Body.TheVariants as body
use Rattle.re_terms.specs.declared.program.Program.{Program}
use Rattle.re_terms.specs.declared.replicated.Act.TheVariants.{Add}
use Rattle.re_terms.specs.declared.word.Kind.TheVariants as kind
use Rattle.re_terms.specs.CellStates.{row_of}
use Rattle.re_terms.specs.DeviceWorlds.{blank_world}
use Rattle.re_terms.specs.Entries.{turn_entry}
use Rattle.re_terms.specs.Lines.{Done, worlds_after, replies, acknowledged, line_at}
use Rattle.re_terms.specs.Spellings.{packet_bytes, state_bytes, vector_bytes, rows_bytes}
use Rattle.re_terms.specs.Updates.{greatest_number, vector_of, greatest_stamp, stamp_in}
use Rattle.re_terms.specs.Values.{total_amount}
use Rattle.re_terms.specs.Vectors.{by_device, covers}
use Rattle.re_terms.specs.WordOrder.{same_word}
use Rattle.re_terms.specs.Worlds.{Entered, Applied, Settled, Value, Packet, Hex, Down, Up, Refused, StoppedAt}
use Rattle.re_terms.proofs.WorldPrograms.{declared, program, int, operated, on, set_to, fine, fails}

-- `device a; counter c;`
abbrev counting : Program
counting = program (declared body.Device ∷ declared body.Counter ∷ [])

-- ---- an unsettled entry isn't sent, and a crash loses it; its dot is used again

abbrev unsent : List Done
unsent =
    fine (command.Lazy 0 (operated (on 0 (Add (pos 5)) ∷ [])))
    ∷ fine (command.Send 0)
    ∷ fine (command.Crash 0)
    ∷ fine (command.Restart 0)
    ∷ fine (command.Turn 0 (operated (on 0 (Add (pos 7)) ∷ [])))
    ∷ fine (command.Send 0)
    ∷ fine (command.Get 0 1)
    ∷ fine (command.Hex 1)
    ∷ []

unsent_is : replies counting (blank_world counting) unsent ≡ Applied 1 ∷ Packet 0 ∷ Down ∷ Up 0 ∷ Entered 1 ∷ Packet 1 ∷ Value (int (pos 7)) ∷ Hex (1 ∷ 0 ∷ 0 ∷ 0 ∷ 0 ∷ 0 ∷ 0 ∷ 0 ∷ 1 ∷ 0 ∷ 0 ∷ 0 ∷ 0 ∷ 0 ∷ 0 ∷ 0 ∷ 7 ∷ 0 ∷ 0 ∷ 0 ∷ 0 ∷ 0 ∷ 0 ∷ 0 ∷ 0 ∷ []) ∷ []
unfolding vector_of greatest_number by_device covers total_amount greatest_stamp stamp_in packet_bytes state_bytes vector_bytes rows_bytes row_of
unsent_is = refl

-- the first packet has no update
first_packet : (worlds_after counting (blank_world counting) unsent).packets ≡ [] ∷ (worlds_after counting (blank_world counting) unsent).log ∷ []
unfolding vector_of greatest_number by_device covers greatest_stamp stamp_in
first_packet = refl

-- ---- a commit that fails: the device is stopped, and its entry is in doubt

-- `device a; var x: int = 0;`
abbrev holding : Program
holding = program (declared body.Device ∷ declared (body.Var kind.Int (int (pos 0)) 1) ∷ [])

abbrev failed : Bool → List Done
failed gate_open =
    fails 3 gate_open (command.Turn 0 (set_to 1 (int (pos 5))))
    ∷ fine (command.Turn 0 (set_to 1 (int (pos 6))))
    ∷ fine (command.Crash 0)
    ∷ fine (command.Restart 0)
    ∷ fine (command.Get 0 1)
    ∷ []

-- where the files don't hold it as they read, it is dropped
dropped_is : replies holding (blank_world holding) (failed false) ≡ Refused 33 ∷ StoppedAt 3 ∷ Down ∷ Up 0 ∷ Value (int (pos 0)) ∷ []
unfolding vector_of greatest_number by_device covers same_word
dropped_is = refl

-- where they hold it, it is settled
recovered_is : replies holding (blank_world holding) (failed true) ≡ Refused 33 ∷ StoppedAt 3 ∷ Down ∷ Up 1 ∷ Value (int (pos 5)) ∷ []
unfolding vector_of greatest_number by_device covers same_word
recovered_is = refl

-- within the turn, and until the restart, its entry is the line
doubtful_line : line_at holding (blank_world holding) (failed false) 0 true 0 ≡ turn_entry (set_to 1 (int (pos 5))) ∷ []
doubtful_line = refl

stopped_line : line_at holding (blank_world holding) (failed false) 3 false 0 ≡ turn_entry (set_to 1 (int (pos 5))) ∷ []
stopped_line = refl

-- afterwards it is gone, or acknowledged by the answer to the restart
dropped_line : line_at holding (blank_world holding) (failed false) 4 false 0 ≡ []
dropped_line = refl

recovered_told : acknowledged holding (blank_world holding) (failed true) 4 0 ≡ 1
recovered_told = refl

-- ---- at most eight unsettled entries

abbrev one_more : Done
one_more = fine (command.Lazy 0 (operated (on 0 (Add (pos 1)) ∷ [])))

abbrev nine : List Done
nine =
    one_more
    ∷ one_more
    ∷ one_more
    ∷ one_more
    ∷ one_more
    ∷ one_more
    ∷ one_more
    ∷ one_more
    ∷ one_more
    ∷ fine (command.Settle 0)
    ∷ one_more
    ∷ []

nine_are : replies counting (blank_world counting) nine ≡ Applied 1 ∷ Applied 2 ∷ Applied 3 ∷ Applied 4 ∷ Applied 5 ∷ Applied 6 ∷ Applied 7 ∷ Applied 8 ∷ Refused 38 ∷ Settled 8 ∷ Applied 9 ∷ []
unfolding vector_of greatest_number by_device covers greatest_stamp stamp_in
nine_are = refl
