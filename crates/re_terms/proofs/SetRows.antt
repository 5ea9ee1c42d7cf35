-- Worked sessions with sets, by the definitions of worlds and lines.
use Rattle.std.proofs.Common.{ℤ, negsuc, ◌+◌, ◌≡◌, ℕ, pos, List, [], ◌∷◌, ◌++◌, Option, Some, None, cond, length, refl, ap, ◌∙◌}
use Rattle.std.specs.List.Sorted.{IsStrictlySortedBy}
use Rattle.std.specs.Option.{option_map_or, option_or}
use Rattle.std.specs.Prelude.{nat_lt, option_map, unwrap_or}
use Rattle.re_terms.specs.declared.command.Command.{Command}
use Rattle.re_terms.specs.declared.command.Command.TheVariants as command
use Rattle.re_terms.specs.declared.program.Body.TheVariants as body
use Rattle.re_terms.specs.declared.program.Program.{Program}
use Rattle.re_terms.specs.declared.replicated.Act.TheVariants.{Add, Insert, Remove}
use Rattle.re_terms.specs.declared.replicated.Pair.{Pair}
use Rattle.re_terms.specs.declared.word.Kind.TheVariants as kind
use Rattle.re_terms.specs.declared.word.Word.{Word}
use Rattle.re_terms.specs.CellStates.{inserted, takes, live, pairs_of, has_pair}
use Rattle.re_terms.specs.DeviceWorlds.{World, blank_world, done_answer, done_world, refusal}
use Rattle.re_terms.specs.Limits.{CounterFull, OperationFault, SetFull}
use Rattle.re_terms.specs.Lines.{Done, replies}
use Rattle.re_terms.specs.Spellings.{packet_bytes, state_bytes, vector_bytes, pairs_bytes, pair_bytes, word_bytes}
use Rattle.re_terms.specs.Updates.{greatest_number, vector_of, greatest_stamp, stamp_in}
use Rattle.re_terms.specs.Values.{total_amount}
use Rattle.re_terms.specs.Vectors.{by_device, covers}
use Rattle.re_terms.specs.WordOrder.{ascending, ascending_words, same_word, pair_cmp}
use Rattle.re_terms.specs.Worlds.{Value, Refused, PlainAnswer, Entered, Members, Packet, Hex, limit_code}
use Rattle.re_terms.proofs.WordOrders.{ascending_is, ascending_words_is}
use Rattle.re_terms.proofs.WorldPrograms.{declared, program, int, operated, on, fine, eight}

-- a command that isn't refused, and one that is
done_step : (p : Program) (w : World) (c : Command) (cs : List Done) (rest : List PlainAnswer) → refusal p w c ≡ None → replies p (done_world w c) cs ≡ rest → replies p w (fine c ∷ cs) ≡ done_answer p w c ∷ rest
done_step p w c cs rest none others =
    (λ i. unwrap_or (none i) (done_answer p w c) ∷ replies p (option_map_or (λ refused. w) (none i) (done_world w c)) cs)
    ∙ ap (λ l. done_answer p w c ∷ l) others

refused_step : (p : Program) (w : World) (c : Command) (cs : List Done) (a : PlainAnswer) (rest : List PlainAnswer) → refusal p w c ≡ Some a → replies p w cs ≡ rest → replies p w (fine c ∷ cs) ≡ a ∷ rest
refused_step p w c cs a rest some others =
    (λ i. unwrap_or (some i) (done_answer p w c) ∷ replies p (option_map_or (λ refused. w) (some i) (done_world w c)) cs)
    ∙ ap (λ l. a ∷ l) others

no_pair : ascending [] ≡ []
unfolding IsStrictlySortedBy
no_pair = ascending_is [] tt

one_pair : (p : Pair) → ascending (p ∷ []) ≡ p ∷ []
unfolding IsStrictlySortedBy
one_pair p = ascending_is (p ∷ []) (tt, tt)

no_element : ascending_words [] ≡ []
unfolding IsStrictlySortedBy
no_element = ascending_words_is [] tt

one_element : (w : Word) → ascending_words (w ∷ []) ≡ w ∷ []
unfolding IsStrictlySortedBy
one_element w = ascending_words_is (w ∷ []) (tt, tt)

-- the refusal by a limit, where no other row refuses
abbrev limited : Option OperationFault → Option PlainAnswer
limited f = option_map (λ x. Refused (limit_code x)) f

-- the limit of pairs, before another one
abbrev with_room : List Pair → Option OperationFault → Option OperationFault
with_room ps f = cond (nat_lt 1024 (length ps + 0)) (Some SetFull) f

-- ---- an element that is inserted and removed in one turn

-- `device a; set s: int;`
abbrev set_alone : Program
set_alone = program (declared body.Device ∷ declared (body.Set kind.Int) ∷ [])

abbrev four : ℕ → Pair
four device = record { element = int (pos 4); dot = record { device = device; number = 1 } }

abbrev both_parts : Command
both_parts = command.Turn 0 (operated (on 0 (Insert (int (pos 4))) ∷ on 0 (Remove (int (pos 4))) ∷ []))

both_fit : refusal set_alone (blank_world set_alone) both_parts ≡ None
unfolding vector_of greatest_number by_device covers greatest_stamp stamp_in pairs_of live inserted takes has_pair same_word pair_cmp
both_fit = λ i. limited (option_or (with_room (one_pair (four 0) i) None) (option_or (with_room (no_pair i) None) None))

abbrev removed : List Done
removed = fine both_parts ∷ fine (command.Get 0 1) ∷ fine (command.Send 0) ∷ fine (command.Hex 0) ∷ []

removed_is : replies set_alone (blank_world set_alone) removed ≡ Entered 1 ∷ Members [] ∷ Packet 0 ∷ Hex (1 ∷ eight 2 ++ 0 ∷ 0 ∷ []) ∷ []
unfolding vector_of greatest_number by_device covers greatest_stamp stamp_in pairs_of live inserted takes has_pair same_word pair_cmp packet_bytes state_bytes vector_bytes pairs_bytes
removed_is =
    done_step set_alone (blank_world set_alone) both_parts (fine (command.Get 0 1) ∷ fine (command.Send 0) ∷ fine (command.Hex 0) ∷ []) _ both_fit
    (λ i. Members (no_element i) ∷ Packet 0 ∷ Hex (1 ∷ eight 2 ++ pairs_bytes (no_pair i) ++ []) ∷ [])

-- ---- an insert that the remover hasn't seen stays

-- `device a; device b; set s: int;`
abbrev sets : Program
sets = program (declared body.Device ∷ declared body.Device ∷ declared (body.Set kind.Int) ∷ [])

abbrev insert_four : Command
insert_four = command.Turn 0 (operated (on 0 (Insert (int (pos 4))) ∷ []))

abbrev remove_four : Command
remove_four = command.Turn 1 (operated (on 0 (Remove (int (pos 4))) ∷ []))

-- the worlds behind the two turns, the two packets, and the two merges
abbrev inserted_world : World
inserted_world = done_world (blank_world sets) insert_four

abbrev sent_world : World
sent_world = done_world (done_world (done_world inserted_world remove_four) (command.Send 0)) (command.Send 1)

abbrev delivered_world : World
delivered_world = done_world sent_world (command.Deliver 0 1)

insert_fits : refusal sets (blank_world sets) insert_four ≡ None
unfolding vector_of greatest_number by_device covers greatest_stamp stamp_in pairs_of live inserted takes has_pair same_word pair_cmp
insert_fits = λ i. limited (option_or (with_room (one_pair (four 0) i) None) None)

remove_fits : refusal sets inserted_world remove_four ≡ None
unfolding vector_of greatest_number by_device covers greatest_stamp stamp_in pairs_of live inserted takes has_pair same_word pair_cmp
remove_fits = λ i. limited (option_or (with_room (no_pair i) None) None)

merge_fits : refusal sets sent_world (command.Deliver 0 1) ≡ None
unfolding vector_of greatest_number by_device covers greatest_stamp stamp_in pairs_of live inserted takes has_pair same_word pair_cmp
merge_fits = λ i. limited (with_room (one_pair (four 0) i) None)

back_fits : refusal sets delivered_world (command.Deliver 1 0) ≡ None
unfolding vector_of greatest_number by_device covers greatest_stamp stamp_in pairs_of live inserted takes has_pair same_word pair_cmp
back_fits = λ i. limited (with_room (one_pair (four 0) i) None)

abbrev read_both : List Done
read_both = fine (command.Get 0 2) ∷ fine (command.Get 1 2) ∷ fine (command.Hex 0) ∷ []

read_is : replies sets (done_world delivered_world (command.Deliver 1 0)) read_both ≡ Members (int (pos 4) ∷ []) ∷ Members (int (pos 4) ∷ []) ∷ Hex (1 ∷ eight 1 ++ eight 0 ++ 0 ∷ 1 ∷ 0 ∷ eight 4 ++ 0 ∷ eight 1) ∷ []
unfolding vector_of greatest_number by_device covers greatest_stamp stamp_in pairs_of live inserted takes has_pair same_word pair_cmp packet_bytes state_bytes vector_bytes pairs_bytes pair_bytes word_bytes
read_is = λ i. Members (one_element (int (pos 4)) i) ∷ Members (one_element (int (pos 4)) i) ∷ Hex (1 ∷ eight 1 ++ eight 0 ++ pairs_bytes (one_pair (four 0) i) ++ []) ∷ []

abbrev merge_both : List Done
merge_both = fine (command.Deliver 0 1) ∷ fine (command.Deliver 1 0) ∷ read_both

abbrev send_both : List Done
send_both = fine (command.Send 0) ∷ fine (command.Send 1) ∷ merge_both

abbrev both_sent : List Done
both_sent = fine insert_four ∷ fine remove_four ∷ send_both

both_sent_is :
    replies sets (blank_world sets) both_sent
    ≡ Entered 1 ∷ Entered 1 ∷ Packet 0 ∷ Packet 1 ∷ Entered 2 ∷ Entered 2 ∷ Members (int (pos 4) ∷ []) ∷ Members (int (pos 4) ∷ []) ∷ Hex (1 ∷ eight 1 ++ eight 0 ++ 0 ∷ 1 ∷ 0 ∷ eight 4 ++ 0 ∷ eight 1) ∷ []
both_sent_is =
    done_step sets (blank_world sets) insert_four (fine remove_four ∷ send_both) _ insert_fits
    (done_step sets inserted_world remove_four send_both _ remove_fits
    (done_step sets (done_world inserted_world remove_four) (command.Send 0) (fine (command.Send 1) ∷ merge_both) _ refl
    (done_step sets (done_world (done_world inserted_world remove_four) (command.Send 0)) (command.Send 1) merge_both _ refl
    (done_step sets sent_world (command.Deliver 0 1) (fine (command.Deliver 1 0) ∷ read_both) _ merge_fits
    (done_step sets delivered_world (command.Deliver 1 0) read_both _ back_fits read_is)))))

-- ---- a counter's totals, beside a set

-- `device a; counter c; set s: int;`
abbrev counting_set : Program
counting_set = program (declared body.Device ∷ declared body.Counter ∷ declared (body.Set kind.Int) ∷ [])

abbrev add : ℤ → Command
add n = command.Turn 0 (operated (on 0 (Add n) ∷ []))

abbrev full_world : World
full_world = done_world (blank_world counting_set) (add (pos 9223372036854775807))

abbrev less_world : World
less_world = done_world full_world (add (negsuc 0))

-- the limit of pairs of the set behind the counter
abbrev with_room_behind : List Pair → Option OperationFault → Option OperationFault
with_room_behind ps f = cond (nat_lt 1024 (0 + (length ps + 0))) (Some SetFull) f

most_fits : refusal counting_set (blank_world counting_set) (add (pos 9223372036854775807)) ≡ None
unfolding vector_of greatest_number by_device covers greatest_stamp stamp_in pairs_of live inserted takes has_pair
most_fits = λ i. limited (option_or (with_room_behind (no_pair i) None) None)

one_too_many : refusal counting_set full_world (add (pos 1)) ≡ Some (Refused 31)
unfolding vector_of greatest_number by_device covers greatest_stamp stamp_in pairs_of live inserted takes has_pair
one_too_many = λ i. limited (option_or (with_room_behind (no_pair i) (Some CounterFull)) None)

one_less_fits : refusal counting_set full_world (add (negsuc 0)) ≡ None
unfolding vector_of greatest_number by_device covers greatest_stamp stamp_in pairs_of live inserted takes has_pair
one_less_fits = λ i. limited (option_or (with_room_behind (no_pair i) None) None)

least_too_many : refusal counting_set less_world (add (negsuc 9223372036854775807)) ≡ Some (Refused 31)
unfolding vector_of greatest_number by_device covers greatest_stamp stamp_in pairs_of live inserted takes has_pair
least_too_many = λ i. limited (option_or (with_room_behind (no_pair i) (Some CounterFull)) None)

abbrev least_last : List Done
least_last = fine (add (negsuc 9223372036854775807)) ∷ []

abbrev totals : List Done
totals = fine (add (pos 9223372036854775807)) ∷ fine (add (pos 1)) ∷ fine (add (negsuc 0)) ∷ fine (command.Get 0 1) ∷ least_last

totals_are : replies counting_set (blank_world counting_set) totals ≡ Entered 1 ∷ Refused 31 ∷ Entered 2 ∷ Value (int (pos 9223372036854775806)) ∷ Refused 31 ∷ []
unfolding total_amount
totals_are =
    done_step counting_set (blank_world counting_set) (add (pos 9223372036854775807)) (fine (add (pos 1)) ∷ fine (add (negsuc 0)) ∷ fine (command.Get 0 1) ∷ least_last) _ most_fits
    (refused_step counting_set full_world (add (pos 1)) (fine (add (negsuc 0)) ∷ fine (command.Get 0 1) ∷ least_last) (Refused 31) _ one_too_many
    (done_step counting_set full_world (add (negsuc 0)) (fine (command.Get 0 1) ∷ least_last) _ one_less_fits
    (done_step counting_set less_world (command.Get 0 1) least_last _ refl
    (refused_step counting_set less_world (add (negsuc 9223372036854775807)) [] (Refused 31) [] least_too_many refl))))
