-- Which commands are refused with the codes that rest on packets and devices.
use Rattle.std.proofs.Common.{◌≡◌, ◌≤◌, ℕ, Bool, true, false, arith, List, length, Option, Some, None, Ok, Err, refl, sym, ap, ◌∙◌, ◌⊎◌, inl, inr}
use Rattle.std.proofs.lemmas.Bool.Decides.{nat_tests}
use Rattle.std.specs.Prelude.{if◌then◌else◌, not, nat_le, option_map, unwrap_or}
use Rattle.std.specs.Option.{option_or}
use Rattle.re_commands.specs.declared.fault.CommandFault.{CommandFault}
use Rattle.re_commands.specs.declared.fault.CommandFault.TheVariants as fault
use mathlib.Core.Bool.{true≢false}
use Rattle.re_session.specs.Histories.{Asks, IsStoppedFor, LacksDevice, LacksPacket, needed_running}
use Rattle.re_session.specs.LineAnswers.{Reading, fault_code, line_answer}
use Rattle.re_terms.specs.DeviceWorlds.{World, Outcome, Fine, Memory, Failed, BadStore, OtherProgram, device_state, done_answer, fared_answer, has_all_entries, has_all_packets, has_all_unsettled, is_down, is_up, lacks_packet, limit_fault, outcome_of, refusal, refused_where, reply, stopped_at, takes_no_more}
use Rattle.re_terms.specs.Limits.{OperationFault, DotsSpent, SetFull, CounterFull}
use Rattle.re_terms.specs.Worlds.{Members, PlainAnswer, Refused, StoppedAt, BadFile, Value, is_set_at, limit_code, shown}
use Rattle.re_terms.specs.declared.command.Command.{Command}
use Rattle.re_terms.specs.declared.command.Command.TheVariants as command
use Rattle.re_terms.specs.declared.entry.Admitted.{Admitted}
use Rattle.re_terms.specs.declared.program.Program.{Program}
use Rattle.re_terms.specs.declared.word.Word.{Word}
use Rattle.re_terms.proofs.WorldSteps.{HasBad, HasFailed, HasOther, caused_33, caused_37, caused_39}

-- a number of what an answer refuses, 0 where it refuses nothing
abbrev reason : PlainAnswer → ℕ
reason (Refused code) = code
reason (StoppedAt call) = 34
reason (BadFile file place) = 37
reason a = 0

abbrev call_in : PlainAnswer → ℕ
call_in (StoppedAt call) = call
call_in a = 0

one_answer : (a b : PlainAnswer) → Some a ≡ Some b → a ≡ b
one_answer a b h = cc

one_number : (a b : ℕ) → Some a ≡ Some b → a ≡ b
one_number a b h = cc

-- ---- lines with faults

fault_reason : (f : CommandFault) → (fault_code f ≤ 25) ⊎ (fault_code f ≡ 36)
fault_reason fault.Memory = inr refl
fault_reason fault.Syntax = inl (omega arith)
fault_reason fault.Unknown = inl (omega arith)
fault_reason fault.Kind = inl (omega arith)
fault_reason fault.Twice = inl (omega arith)
fault_reason fault.Empty = inl (omega arith)
fault_reason fault.TooMany = inl (omega arith)

no_fault : (f : CommandFault) (n : ℕ) → 26 ≤ n → (n ≡ 36 → ⊥) → fault_code f ≡ n → ⊥
no_fault f n many not e = elim (fault_reason f) [ inl low ↦ omega (arith, e, low, many) | inr is ↦ not (sym e ∙ is) ]

module _ (p : Program) (w : World) (a : PlainAnswer) (many : 26 ≤ reason a) (no_36 : reason a ≡ 36 → ⊥) where
  -- an answer of none of the faults' codes is that to a command for which memory was there
  pub to_command : (l : Reading) (o : Outcome) → line_answer p w l o ≡ Some a → (o ≡ Memory → ⊥) × Asks l (λ c. reply p w c o ≡ a)
  to_command (Ok None) o h = absurd (cc)
  to_command (Ok (Some c)) o h = (λ m. no_36 (sym (ap reason (sym (ap (reply p w c) m) ∙ one_answer _ _ h))), (c, refl, one_answer _ _ h))
  to_command (Err f) Memory h = absurd (no_36 (sym (ap reason (one_answer _ _ h))))
  to_command (Err f) Fine h = absurd (no_fault f (reason a) many no_36 (ap reason (one_answer _ _ h)))
  to_command (Err f) (Failed at gate_open) h = absurd (no_fault f (reason a) many no_36 (ap reason (one_answer _ _ h)))
  to_command (Err f) (BadStore file place) h = absurd (no_fault f (reason a) many no_36 (ap reason (one_answer _ _ h)))
  to_command (Err f) OtherProgram h = absurd (no_fault f (reason a) many no_36 (ap reason (one_answer _ _ h)))

pub of_command : (p : Program) (w : World) (l : Reading) (o : Outcome) (c : Command) (a : PlainAnswer) → l ≡ Ok (Some c) → reply p w c o ≡ a → line_answer p w l o ≡ Some a
of_command p w l o c a is h = ap (λ x. line_answer p w x o) is ∙ ap Some h

-- ---- what a command answers that isn't refused

shown_reason : (p : Program) (w : World) (d id : ℕ) → reason (shown p (device_state p w d) id) ≡ 0
shown_reason p w d id = by_set (is_set_at p.decls.items id) _ _
  where
    by_set : (b : Bool) (ws : List Word) (x : Word) → reason (if b then Members ws else Value x) ≡ 0
    by_set true ws x = refl
    by_set false ws x = refl

done_reason : (p : Program) (w : World) (c : Command) → reason (done_answer p w c) ≡ 0
done_reason p w (command.Turn d t) = refl
done_reason p w (command.Lazy d t) = refl
done_reason p w (command.Settle d) = refl
done_reason p w (command.Get d id) = shown_reason p w d id
done_reason p w (command.Send d) = refl
done_reason p w (command.Deliver k d) = refl
done_reason p w (command.Hex k) = refl
done_reason p w (command.Crash d) = refl
done_reason p w (command.Restart d) = refl

-- a refusal's number that no outcome gives
record IsEarly (n : ℕ) : Type 0 where
  some : 1 ≤ n
  no_33 : n ≡ 33 → ⊥
  no_36 : n ≡ 36 → ⊥
  no_37 : n ≡ 37 → ⊥
  no_39 : n ≡ 39 → ⊥

early_26 : IsEarly 26
early_26 = record { some = omega arith; no_33 = λ e. omega (arith, e); no_36 = λ e. omega (arith, e); no_37 = λ e. omega (arith, e); no_39 = λ e. omega (arith, e) }

early_27 : IsEarly 27
early_27 = record { some = omega arith; no_33 = λ e. omega (arith, e); no_36 = λ e. omega (arith, e); no_37 = λ e. omega (arith, e); no_39 = λ e. omega (arith, e) }

early_28 : IsEarly 28
early_28 = record { some = omega arith; no_33 = λ e. omega (arith, e); no_36 = λ e. omega (arith, e); no_37 = λ e. omega (arith, e); no_39 = λ e. omega (arith, e) }

early_34 : IsEarly 34
early_34 = record { some = omega arith; no_33 = λ e. omega (arith, e); no_36 = λ e. omega (arith, e); no_37 = λ e. omega (arith, e); no_39 = λ e. omega (arith, e) }

early_35 : IsEarly 35
early_35 = record { some = omega arith; no_33 = λ e. omega (arith, e); no_36 = λ e. omega (arith, e); no_37 = λ e. omega (arith, e); no_39 = λ e. omega (arith, e) }

early_38 : IsEarly 38
early_38 = record { some = omega arith; no_33 = λ e. omega (arith, e); no_36 = λ e. omega (arith, e); no_37 = λ e. omega (arith, e); no_39 = λ e. omega (arith, e) }

not_fared : (p : Program) (w : World) (c : Command) (o : Outcome) (n : ℕ) → IsEarly n → reason (fared_answer p w c o) ≡ n → ⊥
not_fared p w c Fine n h e = omega (arith, done_reason p w c, e, h.some)
not_fared p w c Memory n h e = h.no_36 (sym e)
not_fared p w c (Failed at gate_open) n h e = h.no_33 (sym e)
not_fared p w c (BadStore file place) n h e = h.no_37 (sym e)
not_fared p w c OtherProgram n h e = h.no_39 (sym e)

not_limit : (f : OperationFault) (n : ℕ) → (n ≤ 29) ⊎ (33 ≤ n) → limit_code f ≡ n → ⊥
not_limit SetFull n (inl low) e = omega (arith, e, low)
not_limit SetFull n (inr high) e = omega (arith, e, high)
not_limit CounterFull n (inl low) e = omega (arith, e, low)
not_limit CounterFull n (inr high) e = omega (arith, e, high)
not_limit DotsSpent n (inl low) e = omega (arith, e, low)
not_limit DotsSpent n (inr high) e = omega (arith, e, high)

reply_is : (p : Program) (w : World) (c : Command) (o : Outcome) → (o ≡ Memory → ⊥) → reply p w c o ≡ unwrap_or (refusal p w c) (fared_answer p w c (outcome_of w c o))
reply_is p w c Fine n = refl
reply_is p w c Memory n = absurd (n refl)
reply_is p w c (Failed at gate_open) n = refl
reply_is p w c (BadStore file place) n = refl
reply_is p w c OtherProgram n = refl

-- ---- the first of the refusals

-- what refuses a command, by what is asked of it
abbrev refused_by : Bool → Bool → Bool → Option ℕ → Bool → Bool → Bool → Option OperationFault → Option PlainAnswer
refused_by lacks down up stop packets full unsettled limit =
    option_or (refused_where lacks 28)
    (option_or (refused_where down 26)
    (option_or (refused_where up 27)
    (option_or (option_map StoppedAt stop)
    (option_or (refused_where packets 35)
    (option_or (refused_where full 29)
    (option_or (refused_where unsettled 38)
    (option_map (λ f. Refused (limit_code f)) limit)))))))

module _ (lacks down up : Bool) (stop : Option ℕ) (packets full unsettled : Bool) (limit : Option OperationFault) (a : PlainAnswer) where
  abbrev answer_by : PlainAnswer
  answer_by = unwrap_or (refused_by lacks down up stop packets full unsettled limit) a

from_28 : (lacks down up : Bool) (stop : Option ℕ) (packets full unsettled : Bool) (limit : Option OperationFault) (a : PlainAnswer) → (reason a ≡ 28 → ⊥) → reason (answer_by lacks down up stop packets full unsettled limit a) ≡ 28 → lacks ≡ true
from_28 true down up stop packets full unsettled limit a n h = refl
from_28 false true up stop packets full unsettled limit a n h = absurd (omega (arith, h))
from_28 false false true stop packets full unsettled limit a n h = absurd (omega (arith, h))
from_28 false false false (Some at) packets full unsettled limit a n h = absurd (omega (arith, h))
from_28 false false false None true full unsettled limit a n h = absurd (omega (arith, h))
from_28 false false false None false true unsettled limit a n h = absurd (omega (arith, h))
from_28 false false false None false false true limit a n h = absurd (omega (arith, h))
from_28 false false false None false false false (Some f) a n h = absurd (not_limit f 28 (inl (omega arith)) h)
from_28 false false false None false false false None a n h = absurd (n h)

from_26 : (lacks down up : Bool) (stop : Option ℕ) (packets full unsettled : Bool) (limit : Option OperationFault) (a : PlainAnswer) → (reason a ≡ 26 → ⊥) → reason (answer_by lacks down up stop packets full unsettled limit a) ≡ 26 → (lacks ≡ false) × (down ≡ true)
from_26 true down up stop packets full unsettled limit a n h = absurd (omega (arith, h))
from_26 false true up stop packets full unsettled limit a n h = (refl, refl)
from_26 false false true stop packets full unsettled limit a n h = absurd (omega (arith, h))
from_26 false false false (Some at) packets full unsettled limit a n h = absurd (omega (arith, h))
from_26 false false false None true full unsettled limit a n h = absurd (omega (arith, h))
from_26 false false false None false true unsettled limit a n h = absurd (omega (arith, h))
from_26 false false false None false false true limit a n h = absurd (omega (arith, h))
from_26 false false false None false false false (Some f) a n h = absurd (not_limit f 26 (inl (omega arith)) h)
from_26 false false false None false false false None a n h = absurd (n h)

from_27 : (lacks down up : Bool) (stop : Option ℕ) (packets full unsettled : Bool) (limit : Option OperationFault) (a : PlainAnswer) → (reason a ≡ 27 → ⊥) → reason (answer_by lacks down up stop packets full unsettled limit a) ≡ 27 → up ≡ true
from_27 true down up stop packets full unsettled limit a n h = absurd (omega (arith, h))
from_27 false true up stop packets full unsettled limit a n h = absurd (omega (arith, h))
from_27 false false true stop packets full unsettled limit a n h = refl
from_27 false false false (Some at) packets full unsettled limit a n h = absurd (omega (arith, h))
from_27 false false false None true full unsettled limit a n h = absurd (omega (arith, h))
from_27 false false false None false true unsettled limit a n h = absurd (omega (arith, h))
from_27 false false false None false false true limit a n h = absurd (omega (arith, h))
from_27 false false false None false false false (Some f) a n h = absurd (not_limit f 27 (inl (omega arith)) h)
from_27 false false false None false false false None a n h = absurd (n h)

from_stop : (lacks down up : Bool) (stop : Option ℕ) (packets full unsettled : Bool) (limit : Option OperationFault) (a : PlainAnswer) (call : ℕ) → (reason a ≡ 34 → ⊥) → answer_by lacks down up stop packets full unsettled limit a ≡ StoppedAt call → (lacks ≡ false) × (down ≡ false) × (up ≡ false) × (stop ≡ Some call)
from_stop true down up stop packets full unsettled limit a call n h = absurd (omega (arith, ap reason h))
from_stop false true up stop packets full unsettled limit a call n h = absurd (omega (arith, ap reason h))
from_stop false false true stop packets full unsettled limit a call n h = absurd (omega (arith, ap reason h))
from_stop false false false (Some at) packets full unsettled limit a call n h = (refl, refl, refl, ap Some (ap call_in h))
from_stop false false false None true full unsettled limit a call n h = absurd (omega (arith, ap reason h))
from_stop false false false None false true unsettled limit a call n h = absurd (omega (arith, ap reason h))
from_stop false false false None false false true limit a call n h = absurd (omega (arith, ap reason h))
from_stop false false false None false false false (Some f) a call n h = absurd (not_limit f 34 (inr (omega arith)) (ap reason h))
from_stop false false false None false false false None a call n h = absurd (n (ap reason h))

from_35 : (lacks down up : Bool) (stop : Option ℕ) (packets full unsettled : Bool) (limit : Option OperationFault) (a : PlainAnswer) → (reason a ≡ 35 → ⊥) → reason (answer_by lacks down up stop packets full unsettled limit a) ≡ 35 → (down ≡ false) × (stop ≡ None) × (packets ≡ true)
from_35 true down up stop packets full unsettled limit a n h = absurd (omega (arith, h))
from_35 false true up stop packets full unsettled limit a n h = absurd (omega (arith, h))
from_35 false false true stop packets full unsettled limit a n h = absurd (omega (arith, h))
from_35 false false false (Some at) packets full unsettled limit a n h = absurd (omega (arith, h))
from_35 false false false None true full unsettled limit a n h = (refl, refl, refl)
from_35 false false false None false true unsettled limit a n h = absurd (omega (arith, h))
from_35 false false false None false false true limit a n h = absurd (omega (arith, h))
from_35 false false false None false false false (Some f) a n h = absurd (not_limit f 35 (inr (omega arith)) h)
from_35 false false false None false false false None a n h = absurd (n h)

from_38 : (lacks down up : Bool) (stop : Option ℕ) (packets full unsettled : Bool) (limit : Option OperationFault) (a : PlainAnswer) → (reason a ≡ 38 → ⊥) → reason (answer_by lacks down up stop packets full unsettled limit a) ≡ 38 → (down ≡ false) × (stop ≡ None) × (full ≡ false) × (unsettled ≡ true)
from_38 true down up stop packets full unsettled limit a n h = absurd (omega (arith, h))
from_38 false true up stop packets full unsettled limit a n h = absurd (omega (arith, h))
from_38 false false true stop packets full unsettled limit a n h = absurd (omega (arith, h))
from_38 false false false (Some at) packets full unsettled limit a n h = absurd (omega (arith, h))
from_38 false false false None true full unsettled limit a n h = absurd (omega (arith, h))
from_38 false false false None false true unsettled limit a n h = absurd (omega (arith, h))
from_38 false false false None false false true limit a n h = (refl, refl, refl, refl)
from_38 false false false None false false false (Some f) a n h = absurd (not_limit f 38 (inr (omega arith)) h)
from_38 false false false None false false false None a n h = absurd (n h)

-- ---- what the tests of packets and devices mean

is_false : (b : Bool) → (b ≡ true → ⊥) → b ≡ false
is_false true h = absurd (h refl)
is_false false h = refl

not_true : (b : Bool) → not b ≡ true → b ≡ false
not_true true h = absurd (cc)
not_true false h = refl

not_false : (b : Bool) → not b ≡ false → b ≡ true
not_false true h = refl
not_false false h = absurd (cc)

no_packets : (w : World) (k : ℕ) → nat_le (length w.packets) k ≡ true → length w.packets ≤ k
no_packets w k h = grind (arith, nat_tests)

few_packets : (w : World) (k : ℕ) → length w.packets ≤ k → nat_le (length w.packets) k ≡ true
few_packets w k h = grind (arith, nat_tests)

none_some : {A : Type 0} (x : A) → None ≡ Some x → ⊥
none_some x e = cc

module _ (w : World) where
  lacks_from : (c : Command) → lacks_packet w c ≡ true → LacksPacket w c
  lacks_from (command.Deliver k d) h = (k, refl, no_packets w k h)
  lacks_from (command.Hex k) h = (k, refl, no_packets w k h)
  lacks_from (command.Turn d t) h = absurd (cc)
  lacks_from (command.Lazy d t) h = absurd (cc)
  lacks_from (command.Settle d) h = absurd (cc)
  lacks_from (command.Get d id) h = absurd (cc)
  lacks_from (command.Send d) h = absurd (cc)
  lacks_from (command.Crash d) h = absurd (cc)
  lacks_from (command.Restart d) h = absurd (cc)

  lacks_to : (c : Command) → LacksPacket w c → lacks_packet w c ≡ true
  lacks_to (command.Deliver k d) h = let e = one_number k h.0 h.1 in few_packets w k (omega (arith, e, h.2))
  lacks_to (command.Hex k) h = let e = one_number k h.0 h.1 in few_packets w k (omega (arith, e, h.2))
  lacks_to (command.Turn d t) h = absurd (none_some h.0 h.1)
  lacks_to (command.Lazy d t) h = absurd (none_some h.0 h.1)
  lacks_to (command.Settle d) h = absurd (none_some h.0 h.1)
  lacks_to (command.Get d id) h = absurd (none_some h.0 h.1)
  lacks_to (command.Send d) h = absurd (none_some h.0 h.1)
  lacks_to (command.Crash d) h = absurd (none_some h.0 h.1)
  lacks_to (command.Restart d) h = absurd (none_some h.0 h.1)

  down_from : (c : Command) → is_down w c ≡ true → LacksDevice w c
  down_from (command.Turn d t) h = (d, refl, not_true (w.up d) h)
  down_from (command.Lazy d t) h = (d, refl, not_true (w.up d) h)
  down_from (command.Settle d) h = (d, refl, not_true (w.up d) h)
  down_from (command.Get d id) h = (d, refl, not_true (w.up d) h)
  down_from (command.Send d) h = (d, refl, not_true (w.up d) h)
  down_from (command.Deliver k d) h = (d, refl, not_true (w.up d) h)
  down_from (command.Hex k) h = absurd (cc)
  down_from (command.Crash d) h = (d, refl, not_true (w.up d) h)
  down_from (command.Restart d) h = absurd (cc)

  at_device : (d e : ℕ) → Some d ≡ Some e → w.up e ≡ false → not (w.up d) ≡ true
  at_device d e same h = ap (λ x. not (w.up x)) (one_number d e same) ∙ ap not h

  down_to : (c : Command) → LacksDevice w c → is_down w c ≡ true
  down_to (command.Turn d t) h = at_device d h.0 h.1 h.2
  down_to (command.Lazy d t) h = at_device d h.0 h.1 h.2
  down_to (command.Settle d) h = at_device d h.0 h.1 h.2
  down_to (command.Get d id) h = at_device d h.0 h.1 h.2
  down_to (command.Send d) h = at_device d h.0 h.1 h.2
  down_to (command.Deliver k d) h = at_device d h.0 h.1 h.2
  down_to (command.Hex k) h = absurd (none_some h.0 h.1)
  down_to (command.Crash d) h = at_device d h.0 h.1 h.2
  down_to (command.Restart d) h = absurd (none_some h.0 h.1)

  stop_from : (c : Command) (call : ℕ) → stopped_at w c ≡ Some call → IsStoppedFor w call c
  stop_from (command.Turn d t) call h = (d, refl, h)
  stop_from (command.Lazy d t) call h = (d, refl, h)
  stop_from (command.Settle d) call h = (d, refl, h)
  stop_from (command.Get d id) call h = (d, refl, h)
  stop_from (command.Send d) call h = (d, refl, h)
  stop_from (command.Deliver k d) call h = (d, refl, h)
  stop_from (command.Hex k) call h = absurd (none_some call h)
  stop_from (command.Crash d) call h = absurd (none_some call h)
  stop_from (command.Restart d) call h = absurd (none_some call h)

  stop_at : (d e call : ℕ) → Some d ≡ Some e → w.stop e ≡ Some call → w.stop d ≡ Some call
  stop_at d e call same h = ap w.stop (one_number d e same) ∙ h

  stop_to : (c : Command) (call : ℕ) → IsStoppedFor w call c → (stopped_at w c ≡ Some call) × (is_up w c ≡ false)
  stop_to (command.Turn d t) call h = (stop_at d h.0 call h.1 h.2, refl)
  stop_to (command.Lazy d t) call h = (stop_at d h.0 call h.1 h.2, refl)
  stop_to (command.Settle d) call h = (stop_at d h.0 call h.1 h.2, refl)
  stop_to (command.Get d id) call h = (stop_at d h.0 call h.1 h.2, refl)
  stop_to (command.Send d) call h = (stop_at d h.0 call h.1 h.2, refl)
  stop_to (command.Deliver k d) call h = (stop_at d h.0 call h.1 h.2, refl)
  stop_to (command.Hex k) call h = absurd (none_some h.0 h.1)
  stop_to (command.Crash d) call h = absurd (none_some h.0 h.1)
  stop_to (command.Restart d) call h = absurd (none_some h.0 h.1)

  up_from : (c : Command) → is_up w c ≡ true → (d : ℕ) × (c ≡ command.Restart d) × (w.up d ≡ true)
  up_from (command.Restart d) h = (d, refl, h)
  up_from (command.Turn d t) h = absurd (cc)
  up_from (command.Lazy d t) h = absurd (cc)
  up_from (command.Settle d) h = absurd (cc)
  up_from (command.Get d id) h = absurd (cc)
  up_from (command.Send d) h = absurd (cc)
  up_from (command.Deliver k d) h = absurd (cc)
  up_from (command.Hex k) h = absurd (cc)
  up_from (command.Crash d) h = absurd (cc)

  -- a command that makes a packet, where no packet more is made
  packets_from : (c : Command) → is_down w c ≡ false → stopped_at w c ≡ None → has_all_packets w c ≡ true → (d : ℕ) × (c ≡ command.Send d) × (w.up d ≡ true) × (w.stop d ≡ None) × (10000 ≤ length w.packets)
  packets_from (command.Send d) up runs h = (d, refl, not_false (w.up d) up, runs, grind (arith, nat_tests))
  packets_from (command.Turn d t) up runs h = absurd (cc)
  packets_from (command.Lazy d t) up runs h = absurd (cc)
  packets_from (command.Settle d) up runs h = absurd (cc)
  packets_from (command.Get d id) up runs h = absurd (cc)
  packets_from (command.Deliver k d) up runs h = absurd (cc)
  packets_from (command.Hex k) up runs h = absurd (cc)
  packets_from (command.Crash d) up runs h = absurd (cc)
  packets_from (command.Restart d) up runs h = absurd (cc)

  -- a command that makes an unsettled entry, where the device may have none more
  unsettled_from : (c : Command) → is_down w c ≡ false → stopped_at w c ≡ None → has_all_entries w c ≡ false → has_all_unsettled w c ≡ true → (d : ℕ) × (t : Admitted) × (c ≡ command.Lazy d t) × (w.up d ≡ true) × (w.stop d ≡ None) × (takes_no_more w d ≡ false) × (8 ≤ length (w.unsettled d))
  unsettled_from (command.Lazy d t) up runs takes h = (d, t, refl, not_false (w.up d) up, runs, takes, grind (arith, nat_tests))
  unsettled_from (command.Turn d t) up runs takes h = absurd (cc)
  unsettled_from (command.Settle d) up runs takes h = absurd (cc)
  unsettled_from (command.Get d id) up runs takes h = absurd (cc)
  unsettled_from (command.Send d) up runs takes h = absurd (cc)
  unsettled_from (command.Deliver k d) up runs takes h = absurd (cc)
  unsettled_from (command.Hex k) up runs takes h = absurd (cc)
  unsettled_from (command.Crash d) up runs takes h = absurd (cc)
  unsettled_from (command.Restart d) up runs takes h = absurd (cc)

-- ---- lines with these codes

module _ (p : Program) (w : World) (c : Command) (o : Outcome) (there : o ≡ Memory → ⊥) where
  abbrev fares : PlainAnswer
  fares = fared_answer p w c (outcome_of w c o)

  not_early : (n : ℕ) → IsEarly n → reason fares ≡ n → ⊥
  not_early n h e = not_fared p w c (outcome_of w c o) n h e

  -- the answer, by the first of the refusals
  by_first : (a : PlainAnswer) → reply p w c o ≡ a → answer_by (lacks_packet w c) (is_down w c) (is_up w c) (stopped_at w c) (has_all_packets w c) (has_all_entries w c) (has_all_unsettled w c) (limit_fault p w c) fares ≡ a
  by_first a h = sym (reply_is p w c o there) ∙ h

  to_first : (a : PlainAnswer) → answer_by (lacks_packet w c) (is_down w c) (is_up w c) (stopped_at w c) (has_all_packets w c) (has_all_entries w c) (has_all_unsettled w c) (limit_fault p w c) fares ≡ a → reply p w c o ≡ a
  to_first a h = reply_is p w c o there ∙ h

  packet_from : reply p w c o ≡ Refused 28 → LacksPacket w c
  packet_from h = lacks_from w c (from_28 _ _ _ _ _ _ _ _ fares (not_early 28 early_28) (ap reason (by_first (Refused 28) h)))

  packet_to : LacksPacket w c → reply p w c o ≡ Refused 28
  packet_to h = to_first (Refused 28) (λ i. answer_by (lacks_to w c h i) (is_down w c) (is_up w c) (stopped_at w c) (has_all_packets w c) (has_all_entries w c) (has_all_unsettled w c) (limit_fault p w c) fares)

  device_from : reply p w c o ≡ Refused 26 → (LacksPacket w c → ⊥) × LacksDevice w c
  device_from h =
      let r = from_26 _ _ _ _ _ _ _ _ fares (not_early 26 early_26) (ap reason (by_first (Refused 26) h)) in
      (λ l. true≢false (sym (lacks_to w c l) ∙ r.0), down_from w c r.1)

  device_to : (LacksPacket w c → ⊥) × LacksDevice w c → reply p w c o ≡ Refused 26
  device_to h =
      let has = is_false (lacks_packet w c) (λ e. h.0 (lacks_from w c e)) in
      let down = down_to w c h.1 in
      to_first (Refused 26) (λ i. answer_by (has i) (down i) (is_up w c) (stopped_at w c) (has_all_packets w c) (has_all_entries w c) (has_all_unsettled w c) (limit_fault p w c) fares)

  restart_from : reply p w c o ≡ Refused 27 → (d : ℕ) × (c ≡ command.Restart d) × (w.up d ≡ true)
  restart_from h = up_from w c (from_27 _ _ _ _ _ _ _ _ fares (not_early 27 early_27) (ap reason (by_first (Refused 27) h)))

  stopped_from : (call : ℕ) → reply p w c o ≡ StoppedAt call → (LacksPacket w c → ⊥) × (LacksDevice w c → ⊥) × IsStoppedFor w call c
  stopped_from call h =
      let r = from_stop _ _ _ _ _ _ _ _ fares call (not_early 34 early_34) (by_first (StoppedAt call) h) in
      (λ l. true≢false (sym (lacks_to w c l) ∙ r.0), λ l. true≢false (sym (down_to w c l) ∙ r.1), stop_from w c call r.3)

  stopped_to : (call : ℕ) → (LacksPacket w c → ⊥) × (LacksDevice w c → ⊥) × IsStoppedFor w call c → reply p w c o ≡ StoppedAt call
  stopped_to call h =
      let has = is_false (lacks_packet w c) (λ e. h.0 (lacks_from w c e)) in
      let up = is_false (is_down w c) (λ e. h.1 (down_from w c e)) in
      let stop = stop_to w c call h.2 in
      to_first (StoppedAt call) (λ i. answer_by (has i) (up i) (stop.1 i) (stop.0 i) (has_all_packets w c) (has_all_entries w c) (has_all_unsettled w c) (limit_fault p w c) fares)

  made_from : reply p w c o ≡ Refused 35 → (d : ℕ) × (c ≡ command.Send d) × (w.up d ≡ true) × (w.stop d ≡ None) × (10000 ≤ length w.packets)
  made_from h =
      let r = from_35 _ _ _ _ _ _ _ _ fares (not_early 35 early_35) (ap reason (by_first (Refused 35) h)) in
      packets_from w c r.0 r.1 r.2

  lazy_from : reply p w c o ≡ Refused 38 → (d : ℕ) × (t : Admitted) × (c ≡ command.Lazy d t) × (w.up d ≡ true) × (w.stop d ≡ None) × (takes_no_more w d ≡ false) × (8 ≤ length (w.unsettled d))
  lazy_from h =
      let r = from_38 _ _ _ _ _ _ _ _ fares (not_early 38 early_38) (ap reason (by_first (Refused 38) h)) in
      unsettled_from w c r.0 r.1 r.2 r.3

restart_to : (p : Program) (w : World) (d : ℕ) (o : Outcome) → (o ≡ Memory → ⊥) → w.up d ≡ true → reply p w (command.Restart d) o ≡ Refused 27
restart_to p w d o there up = reply_is p w (command.Restart d) o there ∙ (λ i. answer_by false false (up i) None false false false None (fared_answer p w (command.Restart d) (outcome_of w (command.Restart d) o)))

made_to : (p : Program) (w : World) (d : ℕ) (o : Outcome) → (o ≡ Memory → ⊥) → w.up d ≡ true → w.stop d ≡ None → 10000 ≤ length w.packets → reply p w (command.Send d) o ≡ Refused 35
made_to p w d o there up runs full =
    let all : nat_le 10000 (length w.packets) ≡ true = grind (arith, nat_tests) in
    reply_is p w (command.Send d) o there
    ∙ (λ i. answer_by false (not (up i)) false (runs i) (all i) false false None (fared_answer p w (command.Send d) (outcome_of w (command.Send d) o)))

lazy_to : (p : Program) (w : World) (d : ℕ) (t : Admitted) (o : Outcome) → (o ≡ Memory → ⊥) → w.up d ≡ true → w.stop d ≡ None → takes_no_more w d ≡ false → 8 ≤ length (w.unsettled d) → reply p w (command.Lazy d t) o ≡ Refused 38
lazy_to p w d t o there up runs takes many =
    let all : nat_le 8 (length (w.unsettled d)) ≡ true = grind (arith, nat_tests) in
    reply_is p w (command.Lazy d t) o there
    ∙ (λ i. answer_by false (not (up i)) false (runs i) false (takes i) (all i) (limit_fault p w (command.Lazy d t)) (fared_answer p w (command.Lazy d t) (outcome_of w (command.Lazy d t) o)))

module _ (p : Program) (w : World) (l : Reading) (o : Outcome) where
  -- a line whose answer rests on packets and devices
  by_answer : (a : PlainAnswer) (P : Command → Type 0) → 26 ≤ reason a → (reason a ≡ 36 → ⊥) → ((c : Command) → (o ≡ Memory → ⊥) → reply p w c o ≡ a → P c) → line_answer p w l o ≡ Some a → (o ≡ Memory → ⊥) × Asks l P
  by_answer a P many no_36 from h = let r = to_command p w a many no_36 l o h in (r.0, (r.1.0, r.1.1, from r.1.0 r.0 r.1.2))

  pub packet_line : (line_answer p w l o ≡ Some (Refused 28) → (o ≡ Memory → ⊥) × Asks l (LacksPacket w)) × ((o ≡ Memory → ⊥) × Asks l (LacksPacket w) → line_answer p w l o ≡ Some (Refused 28))
  packet_line = (by_answer (Refused 28) (LacksPacket w) (omega arith) (λ e. omega (arith, e)) (λ c there h. packet_from p w c o there h), λ h. of_command p w l o h.1.0 (Refused 28) h.1.1 (packet_to p w h.1.0 o h.0 h.1.2))

  pub down_line : (line_answer p w l o ≡ Some (Refused 26) → (o ≡ Memory → ⊥) × Asks l (λ c. (LacksPacket w c → ⊥) × LacksDevice w c)) × ((o ≡ Memory → ⊥) × Asks l (λ c. (LacksPacket w c → ⊥) × LacksDevice w c) → line_answer p w l o ≡ Some (Refused 26))
  down_line = (by_answer (Refused 26) (λ c. (LacksPacket w c → ⊥) × LacksDevice w c) (omega arith) (λ e. omega (arith, e)) (λ c there h. device_from p w c o there h), λ h. of_command p w l o h.1.0 (Refused 26) h.1.1 (device_to p w h.1.0 o h.0 h.1.2))

  pub stopped_line : (call : ℕ) → (line_answer p w l o ≡ Some (StoppedAt call) → (o ≡ Memory → ⊥) × Asks l (λ c. (LacksPacket w c → ⊥) × (LacksDevice w c → ⊥) × IsStoppedFor w call c)) × ((o ≡ Memory → ⊥) × Asks l (λ c. (LacksPacket w c → ⊥) × (LacksDevice w c → ⊥) × IsStoppedFor w call c) → line_answer p w l o ≡ Some (StoppedAt call))
  stopped_line call = (by_answer (StoppedAt call) (λ c. (LacksPacket w c → ⊥) × (LacksDevice w c → ⊥) × IsStoppedFor w call c) (omega arith) (λ e. omega (arith, e)) (λ c there h. stopped_from p w c o there call h), λ h. of_command p w l o h.1.0 (StoppedAt call) h.1.1 (stopped_to p w h.1.0 o h.0 call h.1.2))

  pub up_line : (line_answer p w l o ≡ Some (Refused 27) → (o ≡ Memory → ⊥) × (d : ℕ) × (l ≡ Ok (Some (command.Restart d))) × (w.up d ≡ true)) × ((o ≡ Memory → ⊥) × (d : ℕ) × (l ≡ Ok (Some (command.Restart d))) × (w.up d ≡ true) → line_answer p w l o ≡ Some (Refused 27))
  up_line = (
    λ h.
        let r = to_command p w (Refused 27) (omega arith) (λ e. omega (arith, e)) l o h in
        let u = restart_from p w r.1.0 o r.0 r.1.2 in
        (r.0, u.0, r.1.1 ∙ ap (λ c. Ok (Some c)) u.1, u.2),
    λ h. of_command p w l o (command.Restart h.1) (Refused 27) h.2 (restart_to p w h.1 o h.0 h.3),
  )

  pub packets_line : (line_answer p w l o ≡ Some (Refused 35) → (o ≡ Memory → ⊥) × (d : ℕ) × (l ≡ Ok (Some (command.Send d))) × (w.up d ≡ true) × (w.stop d ≡ None) × (10000 ≤ length w.packets))
      × ((o ≡ Memory → ⊥) × (d : ℕ) × (l ≡ Ok (Some (command.Send d))) × (w.up d ≡ true) × (w.stop d ≡ None) × (10000 ≤ length w.packets) → line_answer p w l o ≡ Some (Refused 35))
  packets_line = (
    λ h.
        let r = to_command p w (Refused 35) (omega arith) (λ e. omega (arith, e)) l o h in
        let u = made_from p w r.1.0 o r.0 r.1.2 in
        (r.0, u.0, r.1.1 ∙ ap (λ c. Ok (Some c)) u.1, u.2, u.3, u.4),
    λ h. of_command p w l o (command.Send h.1) (Refused 35) h.2 (made_to p w h.1 o h.0 h.3 h.4 h.5),
  )

  pub unsettled_line : (line_answer p w l o ≡ Some (Refused 38) → (o ≡ Memory → ⊥) × (d : ℕ) × (t : Admitted) × (l ≡ Ok (Some (command.Lazy d t))) × (w.up d ≡ true) × (w.stop d ≡ None) × (takes_no_more w d ≡ false) × (8 ≤ length (w.unsettled d)))
      × ((o ≡ Memory → ⊥) × (d : ℕ) × (t : Admitted) × (l ≡ Ok (Some (command.Lazy d t))) × (w.up d ≡ true) × (w.stop d ≡ None) × (takes_no_more w d ≡ false) × (8 ≤ length (w.unsettled d)) → line_answer p w l o ≡ Some (Refused 38))
  unsettled_line = (
    λ h.
        let r = to_command p w (Refused 38) (omega arith) (λ e. omega (arith, e)) l o h in
        let u = lazy_from p w r.1.0 o r.0 r.1.2 in
        (r.0, u.0, u.1, r.1.1 ∙ ap (λ c. Ok (Some c)) u.2, u.3, u.4, u.5, u.6),
    λ h. of_command p w l o (command.Lazy h.1 h.2) (Refused 38) h.3 (lazy_to p w h.1 h.2 o h.0 h.4 h.5 h.6 h.7),
  )

  -- ---- lines with the codes of what a command fared

  pub failed_line : (line_answer p w l o ≡ Some (Refused 33) → Asks l (λ c. HasFailed p w c o)) × (Asks l (λ c. HasFailed p w c o) → line_answer p w l o ≡ Some (Refused 33))
  failed_line = (
    λ h. (by_answer (Refused 33) (λ c. HasFailed p w c o) (omega arith) (λ e. omega (arith, e)) (λ c there e. (caused_33 p w c o).0 e) h).1,
    λ h. of_command p w l o h.0 (Refused 33) h.1 ((caused_33 p w h.0 o).1 h.2),
  )

  pub bad_line : (file place : ℕ) → (line_answer p w l o ≡ Some (BadFile file place) → Asks l (λ c. HasBad p w c file place o)) × (Asks l (λ c. HasBad p w c file place o) → line_answer p w l o ≡ Some (BadFile file place))
  bad_line file place = (
    λ h. (by_answer (BadFile file place) (λ c. HasBad p w c file place o) (omega arith) (λ e. omega (arith, e)) (λ c there e. (caused_37 p w c file place o).0 e) h).1,
    λ h. of_command p w l o h.0 (BadFile file place) h.1 ((caused_37 p w h.0 file place o).1 h.2),
  )

  pub other_line : (line_answer p w l o ≡ Some (Refused 39) → Asks l (λ c. HasOther p w c o)) × (Asks l (λ c. HasOther p w c o) → line_answer p w l o ≡ Some (Refused 39))
  other_line = (
    λ h. (by_answer (Refused 39) (λ c. HasOther p w c o) (omega arith) (λ e. omega (arith, e)) (λ c there e. (caused_39 p w c o).0 e) h).1,
    λ h. of_command p w l o h.0 (Refused 39) h.1 ((caused_39 p w h.0 o).1 h.2),
  )

  one_command : (c x : Command) → l ≡ Ok (Some c) → l ≡ Ok (Some x) → c ≡ x
  one_command c x h k = cc

  pub never_line : (c : Command) (call : ℕ) → l ≡ Ok (Some c) → needed_running c ≡ None → line_answer p w l o ≡ Some (StoppedAt call) → ⊥
  never_line c call is none h =
      let r = ((stopped_line call).0 h).1 in
      none_some r.2.2.0 (sym none ∙ ap needed_running (one_command c r.0 is r.1) ∙ r.2.2.1)
