-- Turns in memory alone.
use Rattle.std.proofs.Common.{◌≡◌, ◌<◌, ◌+◌, ℕ, Option, Some, None, Result, Ok, Err, length, refl, sym, ap, subst, ◌∙◌}
use Rattle.std.specs.Prelude.{IfOk, Bool, false, true, ◌≢◌, map, OnOk, slice_set}
use Rattle.std.specs.List.{All}
use Rattle.std.specs.Option.{option_map_or}
use mathlib.Core.Bool.{true≢false}
use Rattle.re_compact.specs.Pair.{StandsIn}
use Rattle.re_device.specs.Causes.{IsCausedBy, unsettled_refusal}
use Rattle.re_device.specs.Device.{DeviceState, current, logged, with_entry}
use Rattle.re_device.specs.Standing.{StandsSettled}
use Rattle.re_device.specs.Stepping.{StepsTo, applied_as, fared_as, refused_as}
use Rattle.re_device.specs.declared.fault.DeviceFault.{DeviceFault}
use Rattle.re_device.specs.declared.fault.DeviceFault.TheVariants as fault
use Rattle.re_journal.specs.declared.journal.Journal.{Journal}
use Rattle.re_outside.specs.Frame.{Store}
use Rattle.re_outside.specs.Outside.{Seen}
use Rattle.re_outside.specs.Port.{past_in}
use Rattle.re_outside.specs.Trace.{Past}
use Rattle.re_print.specs.AnswerTexts.{AscendsWhereSet}
use Rattle.re_record.specs.Stores.{ComesTo}
use Rattle.re_terms.specs.Admission.{IsCommandOf, device_count}
use Rattle.re_terms.specs.DeviceWorlds.{BadStore, Failed, Fine, Memory, OtherProgram, Outcome, World, apply, fared_world, is_refusal, outcome_of, refusal, spelled, world_after}
use Rattle.re_terms.specs.Entries.{turn_entry}
use Rattle.re_terms.specs.Shapes.{FitsShape, shape_of}
use Rattle.re_terms.specs.UpdateStates.{state_of_updates}
use Rattle.re_terms.specs.Worlds.{Members, PlainAnswer, plain_answer}
use Rattle.re_terms.specs.declared.command.Answer.{Answer}
use Rattle.re_terms.specs.declared.command.Answer.TheVariants as answer
use Rattle.re_terms.specs.declared.command.Command.{Command}
use Rattle.re_terms.specs.declared.command.Command.TheVariants as command
use Rattle.re_terms.specs.declared.entry.Admitted.{Admitted}
use Rattle.re_terms.specs.declared.entry.Entry.TheVariants as entry
use Rattle.re_terms.specs.declared.entry.Logged.{Logged}
use Rattle.re_terms.specs.declared.program.Program.{Program}
use Rattle.re_world.proofs.Caused.{any_state, device_is, found_up}
use Rattle.re_world.proofs.Inside.{device_has}
use Rattle.re_world.proofs.InsideDone.{HoldsAlike, done_does, inside_behind}
use Rattle.re_world.proofs.Placed.{back_elsewhere, back_here, back_same, place_below}
use Rattle.re_world.proofs.Staying.{keeps_done, no_store_by, tells_of_store}
use Rattle.re_world.proofs.Taken.{if_ok, on_ok, refuses, takes_refused}
use Rattle.re_world.specs.Causes.{HasCause}
use Rattle.re_world.specs.FileSteps.{is_disk_refusal}
use Rattle.re_world.specs.Standing.{HasDevice, IsWorldOf}
use Rattle.re_world.specs.State.{WorldState, device_in}
use Rattle.re_world.specs.Stepping.{DoesInside, Keeps, Shows}
use Rattle.re_world.specs.Taking.{Takes}

-- ---- the device

-- a device has the program, the number and the settled state of another
pub record KeepsOwn (x x' : DeviceState) : Type 0 where
  pub program : x'.memory.program ≡ x.memory.program
  pub number : x'.memory.device ≡ x.memory.device
  pub settled : x'.memory.settled ≡ x.memory.settled

-- an entry in memory alone, or none, leaves them
pub keeps_own : (x x' : DeviceState) (l : Logged) (r : Result ℕ DeviceFault) → OnOk r (x'.memory ≡ with_entry x.memory l) → ((f : DeviceFault) → r ≡ Err f → x' ≡ x) → KeepsOwn x x'
keeps_own x x' l (Ok n) memory same = record { program = ap (λ m. m.program) memory; number = ap (λ m. m.device) memory; settled = ap (λ m. m.settled) memory }
keeps_own x x' l (Err f) memory same =
    let is = same f refl in
    record { program = ap (λ (d : DeviceState). d.memory.program) is; number = ap (λ (d : DeviceState). d.memory.device) is; settled = ap (λ (d : DeviceState). d.memory.settled) is }

-- a device stands where it stood while its store and what it has settled stay
stands_same : (x x' : DeviceState) (now : Past) → x'.journal ≡ x.journal → x'.generation ≡ x.generation → KeepsOwn x x' → StandsSettled x now → StandsSettled x' now
stands_same x x' now journal generation own s = record {
  snapshot = s.snapshot;
  bodies = s.bodies;
  stands = subst (λ (j : Journal). StandsIn j (Store j.file s.snapshot s.bodies) now) (sym journal) s.stands;
  comes =
      subst (λ q. ComesTo q x'.memory.device s.snapshot s.bodies x'.memory.settled) (sym own.program)
      (subst (λ d. ComesTo x.memory.program d s.snapshot s.bodies x'.memory.settled) (sym own.number)
      (subst (ComesTo x.memory.program x.memory.device s.snapshot s.bodies) (sym own.settled) s.comes));
  number_is = s.number_is ∙ sym generation;
}

-- ---- the world

-- what holds of the world as it was and of the world with the entry holds behind the turn, however it fared
lazy_after : (p : Program) (w : World) (n : ℕ) (t : Admitted) (P : World → Type 0) → P w → P (apply w n (turn_entry t)) → (o : Outcome) → P (world_after p w (command.Lazy n t) o)
lazy_after p w n t P before done o = by_refusal (refusal p w (command.Lazy n t))
  where
    by_outcome : (q : Outcome) → P (fared_world w (command.Lazy n t) q)
    by_outcome Fine = done
    by_outcome Memory = before
    by_outcome (Failed at gate_open) = before
    by_outcome (BadStore file place) = before
    by_outcome OtherProgram = before

    by_refusal : (r : Option PlainAnswer) → P (option_map_or (λ refused. w) r (fared_world w (command.Lazy n t) (outcome_of w (command.Lazy n t) o)))
    by_refusal None = by_outcome (outcome_of w (command.Lazy n t) o)
    by_refusal (Some a) = before

module _ (p : Program) (w : World) (n : ℕ) (t : Admitted) (o : Outcome) where
  lazy_alike : HoldsAlike n w (world_after p w (command.Lazy n t) o)
  lazy_alike = lazy_after p w n t (HoldsAlike n w) (record { base = refl; base_number = refl; settled = refl; in_doubt = refl; reads = refl }) (record { base = refl; base_number = refl; settled = refl; in_doubt = refl; reads = refl }) o

  lazy_packets : (world_after p w (command.Lazy n t) o).packets ≡ w.packets
  lazy_packets = lazy_after p w n t (λ u. u.packets ≡ w.packets) refl refl o

  lazy_stop : (world_after p w (command.Lazy n t) o).stop n ≡ w.stop n
  lazy_stop = lazy_after p w n t (λ u. u.stop n ≡ w.stop n) refl refl o

-- ---- the answer

-- no answer to such a turn is a set
lists_members : PlainAnswer → Bool
lists_members (Members elements) = true
lists_members a = false

lists_none : (r : Result ℕ DeviceFault) → lists_members (applied_as r) ≡ false
unfolding lists_members
lists_none (Ok n) = refl
lists_none (Err fault.Memory) = refl
lists_none (Err fault.Disk) = refl
lists_none (Err (fault.Stopped at)) = refl
lists_none (Err fault.Full) = refl
lists_none (Err fault.LooseFull) = refl
lists_none (Err fault.SetFull) = refl
lists_none (Err fault.CounterFull) = refl
lists_none (Err fault.DotsSpent) = refl

ascends_by : (a : Answer) (r : Result ℕ DeviceFault) → plain_answer a ≡ applied_as r → AscendsWhereSet a
unfolding lists_members
ascends_by (answer.Members pairs) r is = absurd (true≢false (ap lists_members is ∙ lists_none r))
ascends_by (answer.Entered n) r is = tt
ascends_by (answer.Applied n) r is = tt
ascends_by (answer.Settled n) r is = tt
ascends_by (answer.Value word) r is = tt
ascends_by (answer.Packet n) r is = tt
ascends_by (answer.Hex bytes) r is = tt
ascends_by answer.Down r is = tt
ascends_by (answer.Up n) r is = tt
ascends_by (answer.No code) r is = tt
ascends_by (answer.StoppedAt call) r is = tt
ascends_by (answer.BadFile file place) r is = tt

-- no file call fails in it
calm_by : (r : Result ℕ DeviceFault) → r ≢ Err fault.Disk → is_disk_refusal (applied_as r) ≡ false
calm_by (Ok n) never = refl
calm_by (Err fault.Memory) never = refl
calm_by (Err fault.Disk) never = absurd (never refl)
calm_by (Err (fault.Stopped at)) never = refl
calm_by (Err fault.Full) never = refl
calm_by (Err fault.LooseFull) never = refl
calm_by (Err fault.SetFull) never = refl
calm_by (Err fault.CounterFull) never = refl
calm_by (Err fault.DotsSpent) never = refl

shows_by : (old new : WorldState) (c : Command) (s : Seen) (stopped : Option ℕ) (r : Result ℕ DeviceFault) → r ≢ Err fault.Disk → Shows old new c (fared_as stopped false r) s s
shows_by old new c s stopped (Ok n) never = λ kind. refl
shows_by old new c s stopped (Err fault.Memory) never = λ kind. refl
shows_by old new c s stopped (Err fault.Disk) never = absurd (never refl)
shows_by old new c s stopped (Err (fault.Stopped at)) never = λ kind. refl
shows_by old new c s stopped (Err fault.Full) never = λ kind. refl
shows_by old new c s stopped (Err fault.LooseFull) never = λ kind. refl
shows_by old new c s stopped (Err fault.SetFull) never = λ kind. refl
shows_by old new c s stopped (Err fault.CounterFull) never = λ kind. refl
shows_by old new c s stopped (Err fault.DotsSpent) never = λ kind. refl

-- ---- the command

-- what is known of such a turn: the device before and after it
pub record IsLazy (old new : WorldState) (n : ℕ) (x x' : DeviceState) (t : Admitted) (a : Answer) (r : Result ℕ DeviceFault) : Type 0 where
  pub of : IsCommandOf old.program (command.Lazy n t)
  pub place : device_in old n ≡ Some x
  pub number : x.memory.device ≡ n
  pub back : new ≡ record old { devices = slice_set (slice_set old.devices n None) n (Some x') }
  pub answer : plain_answer a ≡ applied_as r
  pub steps : StepsTo x x' (command.Lazy x.memory.device t) (fared_as x'.journal.stopped false r) (applied_as r)
  pub memory : OnOk r (x'.memory ≡ with_entry x.memory (logged x.memory (entry.Turn t.turn)))
  pub entry_number : IfOk r (λ k. k ≡ (current x.memory).number + 1)
  pub journal : x'.journal ≡ x.journal
  pub generation : x'.generation ≡ x.generation
  pub own : KeepsOwn x x'
  pub never : r ≢ Err fault.Disk
  pub refused : (f : DeviceFault) → r ≡ Err f → x' ≡ x
  pub caused : IsCausedBy (unsettled_refusal x (entry.Turn t.turn)) (applied_as r)

module _ (old new : WorldState) (n : ℕ) (x x' : DeviceState) (t : Admitted) (a : Answer) (r : Result ℕ DeviceFault) (is : IsLazy old new n x x' t a r) where
  steps_here : StepsTo x x' (command.Lazy n t) (fared_as x'.journal.stopped false r) (applied_as r)
  steps_here = subst (λ m. StepsTo x x' (command.Lazy m t) (fared_as x'.journal.stopped false r) (applied_as r)) is.number is.steps

  below : n < length old.devices
  below = place_below old.devices n x is.place

  -- the device is the world's behind the turn
  lazy_has : (p : Program) (w : World) (s : Seen) → IsWorldOf p w old s → HasDevice p (world_after p w (command.Lazy n t) (fared_as x'.journal.stopped false r)) n (Some x') (past_in n s)
  lazy_has p w s world =
      let has = device_has p w old s n (Some x) world is.of.0 is.place in (
        steps_here.world p w has.0 tt,
        is.own.number ∙ is.number,
        λ runs. stands_same x x' (past_in n s) is.journal is.generation is.own (has.2 (sym (lazy_stop p w n t (fared_as x'.journal.stopped false r)) ∙ runs)),
      )

  lazy_world : (p : Program) (w : World) (s : Seen) → IsWorldOf p w old s → IsWorldOf p (world_after p w (command.Lazy n t) (fared_as x'.journal.stopped false r)) new s
  lazy_world p w s world =
      let o = fared_as x'.journal.stopped false r in
      inside_behind p w old new s (command.Lazy n t) n world (subst (λ q. IsCommandOf q (command.Lazy n t)) world.program is.of) (subst (λ (q : Program). n < device_count q.decls.items) world.program is.of.0) refl o
      (lazy_alike p w n t o)
      (λ e other. ap (λ (v : WorldState). device_in v e) is.back ∙ back_elsewhere old.devices n e None (Some x') other)
      (ap (λ (v : WorldState). v.program) is.back)
      (ap (λ (v : WorldState). v.packets) is.back ∙ world.packets ∙ ap (map (spelled p)) (sym (lazy_packets p w n t o)))
      (subst (All (λ us. FitsShape (shape_of p) (state_of_updates (shape_of p) us))) (sym (lazy_packets p w n t o)) world.fit)
      (subst (λ q. HasDevice p (world_after p w (command.Lazy n t) o) n q (past_in n s)) (sym (ap (λ (v : WorldState). device_in v n) is.back ∙ back_here old.devices n None (Some x') below)) (lazy_has p w s world))

  -- a refused one leaves all as it was
  lazy_refused : (q : Result ℕ DeviceFault) → r ≡ q → is_refusal (applied_as q) ≡ true → new ≡ old
  lazy_refused (Ok m) same refused = absurd (true≢false (sym refused))
  lazy_refused (Err f) same refused = is.back ∙ (λ i. record old { devices = (ap (λ y. slice_set (slice_set old.devices n None) n (Some y)) (is.refused f same) ∙ back_same old.devices n x is.place) i })

  calm : is_disk_refusal (plain_answer a) ≡ false
  calm = ap is_disk_refusal is.answer ∙ calm_by r is.never

  other : tells_of_store (plain_answer a) ≡ false
  other = ap tells_of_store is.answer ∙ by_result r
    where
      by_result : (q : Result ℕ DeviceFault) → tells_of_store (applied_as q) ≡ false
      by_result (Ok m) = refl
      by_result (Err f) = no_store_by f

  lazy_takes : Takes old new (command.Lazy n t) (plain_answer a)
  lazy_takes = subst (Takes old new (command.Lazy n t)) (sym is.answer) (by_result r refl)
    where
      by_result : (q : Result ℕ DeviceFault) → r ≡ q → Takes old new (command.Lazy n t) (applied_as q)
      by_result (Ok m) same = record {
        own = record {
          number = n;
          number_is = refl;
          before = x;
          place = is.place;
          after = x';
          place_after = ap (λ (v : WorldState). device_in v n) is.back ∙ back_here old.devices n None (Some x') below;
        };
        taken = entry.Turn t.turn;
        taken_is = refl;
        number_is = if_ok (λ k. k ≡ (current x.memory).number + 1) r m is.entry_number same;
        memory = on_ok r m is.memory same;
        journal = is.journal;
        generation = is.generation;
      }
      by_result (Err f) same = takes_refused old new (command.Lazy n t) (refused_as f) (refuses f)

  lazy_keeps : Keeps old new (command.Lazy n t) (plain_answer a)
  lazy_keeps =
      keeps_done old new (command.Lazy n t) (plain_answer a) calm (ap (λ (v : WorldState). v.program) is.back)
      (λ d other. ap (λ (v : WorldState). device_in v d) is.back ∙ back_elsewhere old.devices n d None (Some x') (λ same. other (ap Some (sym same))))
      (λ refused. lazy_refused r refl (ap is_refusal (sym is.answer) ∙ refused))

  lazy_caused : HasCause old (command.Lazy n t) (plain_answer a)
  lazy_caused = (
    any_state old,
    tt,
    subst (λ o. IsCausedBy o (plain_answer a)) (sym (device_is old (command.Lazy n t) refl (any_state old) x (found_up old n x is.place) refl is.place))
        (subst (IsCausedBy (unsettled_refusal x (entry.Turn t.turn))) (sym is.answer) is.caused),
  )

  -- it is a step of each world
  pub lazy_does : DoesInside old new (command.Lazy n t) a
  lazy_does =
      done_does old new (command.Lazy n t) a (ascends_by a r is.answer) calm other lazy_takes lazy_keeps lazy_caused (λ s. refl)
      (fared_as x'.journal.stopped false r) (λ s. shows_by old new (command.Lazy n t) s x'.journal.stopped r is.never)
      (λ p w s world. is.answer ∙ steps_here.answers p w (device_has p w old s n (Some x) world is.of.0 is.place).0 tt) lazy_world
