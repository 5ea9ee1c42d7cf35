-- The calls of a device as steps of each world that it stands for.
use Rattle.std.proofs.Common.{◌≡◌, ◌≢◌, inl, inr, ◌+◌, ◌++◌, ◌∷◌, [], ℕ, Bool, true, false, List, length, Option, None, Some, Result, Ok, Err, refl, sym, ap, subst, ◌∙◌, arith}
use Rattle.std.specs.Prelude.{if◌then◌else◌, option_map, slice_get, unwrap_or}
use Rattle.std.specs.Option.{option_map_or}
use Rattle.re_device.proofs.PlainEntries.{merge_plain, turn_plain}
use Rattle.re_device.proofs.WorldDevices.{device_applied, device_entered, device_settled, device_stopped}
use Rattle.re_device.proofs.WorldRefusals.{lazy_refusal, merge_refusal, settle_refusal, turn_refusal}
use Rattle.re_device.specs.Causes.{IsCausedBy, entry_refusal, is_caused, stop_refusal, unsettled_refusal}
use Rattle.re_device.specs.Device.{DeviceState, all_settled, current, logged, with_entry}
use Rattle.re_device.specs.Stepping.{IsDeviceOf, IsPacketOf, StepsTo, StepsWhere, answered_as, applied_as, entered_as, fared_as, refused_as, settled_as}
use Rattle.re_device.specs.declared.fault.DeviceFault.{DeviceFault}
use Rattle.re_device.specs.declared.fault.DeviceFault.TheVariants as fault
use Rattle.re_device.specs.declared.fault.Done.{Done}
use Rattle.re_terms.proofs.WorldSteps.{done_after, failed_after}
use Rattle.re_terms.specs.Admission.{IsAdmitted}
use Rattle.re_terms.specs.DeviceWorlds.{World, Outcome, Fine, Failed, Memory as MemoryOut, calls_files, counted, done_answer, done_world, entries_of, failed_world, fared_answer, has_entries, last_number, refusal, reply, settle, world_after}
use Rattle.re_terms.specs.Entries.{PlainEntry, turn_entry}
use Rattle.re_terms.specs.Entries as plain
use Rattle.re_terms.specs.Updates.{Update}
use Rattle.re_terms.specs.Worlds.{Applied, Entered, PlainAnswer, Refused, Settled}
use Rattle.re_terms.specs.declared.command.Command.{Command}
use Rattle.re_terms.specs.declared.command.Command.TheVariants as command
use Rattle.re_terms.specs.declared.entry.Admitted.{Admitted}
use Rattle.re_terms.specs.declared.entry.Entry.{Entry}
use Rattle.re_terms.specs.declared.entry.Entry.TheVariants as entry
use Rattle.re_terms.specs.declared.entry.Logged.{Logged}
use Rattle.re_terms.specs.declared.program.Program.{Program}
use Rattle.re_terms.specs.declared.replicated.RState.{RState}

-- What a call's result says, by why the command is refused: it is done, where nothing refuses it; memory ran out; a call of the disk failed, where nothing refuses it; or it is that refusal.
abbrev pub Fares : {T : Type 0} → Option PlainAnswer → Type 0 → (T → Type 0) → DeviceState → DeviceState → Result T DeviceFault → Type 0
Fares why Calls Done old new (Ok x) = (why ≡ None) × Done x
Fares why Calls Done old new (Err fault.Memory) = new ≡ old
Fares why Calls Done old new (Err fault.Disk) = (why ≡ None) × Calls × (new.memory ≡ old.memory) × ((at : ℕ) × (new.journal.stopped ≡ Some at))
Fares why Calls Done old new (Err (fault.Stopped at)) = (why ≡ Some (refused_as (fault.Stopped at))) × (new ≡ old)
Fares why Calls Done old new (Err fault.Full) = (why ≡ Some (refused_as fault.Full)) × (new ≡ old)
Fares why Calls Done old new (Err fault.LooseFull) = (why ≡ Some (refused_as fault.LooseFull)) × (new ≡ old)
Fares why Calls Done old new (Err fault.SetFull) = (why ≡ Some (refused_as fault.SetFull)) × (new ≡ old)
Fares why Calls Done old new (Err fault.CounterFull) = (why ≡ Some (refused_as fault.CounterFull)) × (new ≡ old)
Fares why Calls Done old new (Err fault.DotsSpent) = (why ≡ Some (refused_as fault.DotsSpent)) × (new ≡ old)

-- the answer's cause, from how the call fared
caused_by : {T : Type 0} (why : Option PlainAnswer) (Calls : Type 0) (Done : T → Type 0) (old new : DeviceState) (answer : T → PlainAnswer) → ((x : T) → is_caused (answer x) ≡ false) → (result : Result T DeviceFault) → Fares why Calls Done old new result → IsCausedBy why (answered_as answer result)
caused_by why Calls Done old new answer plain (Ok x) fares = subst (λ y. IsCausedBy y (answer x)) (sym fares.0) (plain x)
caused_by None Calls Done old new answer plain (Err fault.Memory) fares = refl
caused_by (Some r) Calls Done old new answer plain (Err fault.Memory) fares = inr refl
caused_by why Calls Done old new answer plain (Err fault.Disk) fares = subst (λ y. IsCausedBy y (Refused 33)) (sym fares.0) refl
caused_by why Calls Done old new answer plain (Err (fault.Stopped at)) fares = subst (λ y. IsCausedBy y (refused_as (fault.Stopped at))) (sym fares.0) (inl refl)
caused_by why Calls Done old new answer plain (Err fault.Full) fares = subst (λ y. IsCausedBy y (refused_as fault.Full)) (sym fares.0) (inl refl)
caused_by why Calls Done old new answer plain (Err fault.LooseFull) fares = subst (λ y. IsCausedBy y (refused_as fault.LooseFull)) (sym fares.0) (inl refl)
caused_by why Calls Done old new answer plain (Err fault.SetFull) fares = subst (λ y. IsCausedBy y (refused_as fault.SetFull)) (sym fares.0) (inl refl)
caused_by why Calls Done old new answer plain (Err fault.CounterFull) fares = subst (λ y. IsCausedBy y (refused_as fault.CounterFull)) (sym fares.0) (inl refl)
caused_by why Calls Done old new answer plain (Err fault.DotsSpent) fares = subst (λ y. IsCausedBy y (refused_as fault.DotsSpent)) (sym fares.0) (inl refl)

no_change : (w : World) (r : Option PlainAnswer) → option_map_or (λ refused. w) r w ≡ w
no_change w None = refl
no_change w (Some a) = refl

-- a call that answers so and leaves the device so is the step
abbrev pub IsStep : Program → World → DeviceState → Command → Outcome → PlainAnswer → Type 0
IsStep p w new c o a = (a ≡ reply p w c o) × IsDeviceOf p (world_after p w c o) new

module _ (p : Program) (w : World) (old new : DeviceState) (is : IsDeviceOf p w old) (c : Command) (why : Option PlainAnswer) (because : refusal p w c ≡ why) where
  refused_step : (a : PlainAnswer) → why ≡ Some a → new ≡ old → IsStep p w new c Fine a
  refused_step a refused same =
      let r = because ∙ refused in (
        sym (ap (λ x. unwrap_or x (done_answer p w c)) r),
        subst (λ x. IsDeviceOf p (option_map_or (λ refused. w) x (done_world w c)) new) (sym r) (subst (IsDeviceOf p w) (sym same) is),
      )

  done_step : (a : PlainAnswer) → why ≡ None → a ≡ done_answer p w c → IsDeviceOf p (done_world w c) new → IsStep p w new c Fine a
  done_step a none answer device =
      let r = because ∙ none in
      (answer ∙ sym (ap (λ x. unwrap_or x (done_answer p w c)) r), subst (λ v. IsDeviceOf p v new) (sym (done_after p w c r)) device)

  memory_step : new ≡ old → IsStep p w new c MemoryOut (Refused 36)
  memory_step same = (refl, subst (λ v. IsDeviceOf p v new) (sym (no_change w (refusal p w c))) (subst (IsDeviceOf p w) (sym same) is))

  failed_step : (at : ℕ) (reads : Bool) → why ≡ None → calls_files w c ≡ true → IsDeviceOf p (failed_world w c at reads) new → IsStep p w new c (Failed at reads) (Refused 33)
  failed_step at reads none files device =
      let r = because ∙ none in (
        sym ((λ i. unwrap_or (r i) (fared_answer p w c (if files i then Failed at reads else Fine)))),
        subst (λ v. IsDeviceOf p v new) (sym (failed_after p w c at reads r files)) device,
      )

  module _ {T : Type 0} (answer : T → PlainAnswer) (Calls : Type 0) (Done : T → Type 0) (reads : Bool)
      (done : (x : T) → Done x → (answer x ≡ done_answer p w c) × IsDeviceOf p (done_world w c) new)
      (files : Calls → calls_files w c ≡ true)
      (stops : Calls → (at : ℕ) → new.memory ≡ old.memory → new.journal.stopped ≡ Some at → IsDeviceOf p (failed_world w c at reads) new) where
    pub step_of : (result : Result T DeviceFault) → Fares why Calls Done old new result → IsStep p w new c (fared_as new.journal.stopped reads result) (answered_as answer result)
    step_of (Ok x) fares = done_step (answer x) fares.0 (done x fares.1).0 (done x fares.1).1
    step_of (Err fault.Memory) fares = memory_step fares
    step_of (Err fault.Disk) fares =
        let at = fares.3.0 in
        let stopped : unwrap_or new.journal.stopped 0 ≡ at = ap (λ s. unwrap_or s 0) fares.3.1 in
        subst (λ n. IsStep p w new c (Failed n reads) (Refused 33)) (sym stopped)
        (failed_step at reads fares.0 (files fares.1) (stops fares.1 at fares.2 fares.3.1))
    step_of (Err (fault.Stopped at)) fares = refused_step (refused_as (fault.Stopped at)) fares.0 fares.1
    step_of (Err fault.Full) fares = refused_step (refused_as fault.Full) fares.0 fares.1
    step_of (Err fault.LooseFull) fares = refused_step (refused_as fault.LooseFull) fares.0 fares.1
    step_of (Err fault.SetFull) fares = refused_step (refused_as fault.SetFull) fares.0 fares.1
    step_of (Err fault.CounterFull) fares = refused_step (refused_as fault.CounterFull) fares.0 fares.1
    step_of (Err fault.DotsSpent) fares = refused_step (refused_as fault.DotsSpent) fares.0 fares.1

-- ---- an entry that is settled

-- the entry is settled behind all that were unsettled, and has the next number
abbrev pub IsDone : DeviceState → DeviceState → Entry → Done → Type 0
IsDone old new e done = (done.number ≡ (current old.memory).number + 1) × (new.memory ≡ all_settled (with_entry old.memory (logged old.memory e))) × (new.journal.stopped ≡ old.journal.stopped)

abbrev pub EntryFares : DeviceState → DeviceState → Entry → Result Done DeviceFault → Type 0
EntryFares old new e = Fares (entry_refusal old e) (Unit {0}) (IsDone old new e) old new

-- a merge's record is of the packet behind the unsettled entries
record_is : (w : World) (device k : ℕ) (packet : List Update) → slice_get w.packets k ≡ Some packet → w.unsettled device ++ plain.Merge packet ∷ [] ≡ w.unsettled device ++ entries_of (option_map plain.Merge (slice_get w.packets k))
record_is w device k packet listed = ap (λ x. w.unsettled device ++ entries_of (option_map plain.Merge x)) (sym listed)

module _ (old new : DeviceState) (reads : Bool) (result : Result Done DeviceFault) where
  module _ (p : Program) (w : World) (is : IsDeviceOf p w old) where
    abbrev device : ℕ
    device = old.memory.device

    entered_number : (done : Done) → done.number ≡ (current old.memory).number + 1 → Entered done.number ≡ Entered (last_number w device + 1)
    entered_number done number = ap Entered (number ∙ ap (λ n. n + 1) is.now.number_is)

    turn_step : (t : Admitted) → IsAdmitted old.memory.program t.turn → EntryFares old new (entry.Turn t.turn) result → IsStep p w new (command.Turn device t) (fared_as new.journal.stopped reads result) (answered_as (λ (done : Done). Entered done.number) result)
    turn_step t admitted =
        step_of p w old new is (command.Turn device t) (entry_refusal old (entry.Turn t.turn)) (turn_refusal p w old is t admitted) (λ (done : Done). Entered done.number) (Unit {0}) (IsDone old new (entry.Turn t.turn)) reads
        (λ done of. (entered_number done of.0, device_entered p w old is (entry.Turn t.turn) (turn_entry t) (turn_plain p w old is t) new of.1 (of.2 ∙ is.stop)))
        (λ u. refl)
        (λ calls at memory stop. device_stopped p w old is (w.unsettled device ++ turn_entry t ∷ []) at reads new memory stop)
        result

    merge_step : (k : ℕ) (state : RState) (of : IsPacketOf old k state p w) → EntryFares old new (entry.Merge state) result → IsStep p w new (command.Deliver k device) (fared_as new.journal.stopped reads result) (answered_as (λ (done : Done). Entered done.number) result)
    merge_step k state of =
        step_of p w old new is (command.Deliver k device) (entry_refusal old (entry.Merge state)) (merge_refusal p w old is k state of) (λ (done : Done). Entered done.number) (Unit {0}) (IsDone old new (entry.Merge state)) reads
        (λ done facts. (
          entered_number done facts.0,
          subst (λ (l : List PlainEntry). IsDeviceOf p (counted (settle w device l) device) new) (record_is w device k of.packet of.listed)
              (device_entered p w old is (entry.Merge state) (plain.Merge of.packet) (merge_plain p w old is k state of) new facts.1 (facts.2 ∙ is.stop)),
        ))
        (λ u. refl)
        (λ calls at memory stop. device_stopped p w old is (w.unsettled device ++ entries_of (option_map plain.Merge (slice_get w.packets k))) at reads new memory stop)
        result

  pub turn_steps : (t : Admitted) → IsAdmitted old.memory.program t.turn → EntryFares old new (entry.Turn t.turn) result → StepsTo old new (command.Turn old.memory.device t) (fared_as new.journal.stopped reads result) (entered_as result)
  turn_steps t admitted fares = record {
    answers = λ p w is free. (turn_step p w is t admitted fares).0;
    world = λ p w is free. (turn_step p w is t admitted fares).1;
  }

  pub merge_steps : (k : ℕ) (state : RState) → EntryFares old new (entry.Merge state) result → StepsWhere (IsPacketOf old k state) old new (command.Deliver k old.memory.device) (fared_as new.journal.stopped reads result) (entered_as result)
  merge_steps k state fares = record {
    answers = λ p w is of. (merge_step p w is k state of fares).0;
    world = λ p w is of. (merge_step p w is k state of fares).1;
  }

-- ---- an entry that is unsettled

-- the entry is in memory, and has the next number
abbrev pub IsApplied : DeviceState → DeviceState → Entry → ℕ → Type 0
IsApplied old new e number = (number ≡ (current old.memory).number + 1) × (new.memory ≡ with_entry old.memory (logged old.memory e)) × (new.journal ≡ old.journal)

abbrev pub LazyFares : DeviceState → DeviceState → Entry → Result ℕ DeviceFault → Type 0
LazyFares old new e = Fares (unsettled_refusal old e) ⊥ (IsApplied old new e) old new

-- ---- unsettled entries are settled

-- all entries are settled
abbrev pub AreSettled : DeviceState → DeviceState → ℕ → Type 0
AreSettled old new number = (number ≡ (current old.memory).number) × (new.memory ≡ all_settled old.memory) × (new.journal.stopped ≡ old.journal.stopped)

abbrev pub SettleFares : DeviceState → DeviceState → Result ℕ DeviceFault → Type 0
SettleFares old new = Fares (stop_refusal old) (old.memory.unsettled ≢ []) (AreSettled old new) old new

-- entries of another list of the same length are some too
some_entries : (xs : List Logged) (ys : List PlainEntry) → length xs ≡ length ys → xs ≢ [] → has_entries ys ≡ true
some_entries [] ys same some = absurd (some refl)
some_entries (x ∷ xs) [] same some = absurd (let e : length (x ∷ xs) ≡ 0 = same in omega (arith, e))
some_entries (x ∷ xs) (y ∷ ys) same some = refl

module _ (old new : DeviceState) (reads : Bool) (result : Result ℕ DeviceFault) where
  module _ (p : Program) (w : World) (is : IsDeviceOf p w old) where
    abbrev place : ℕ
    place = old.memory.device

    lazy_step : (t : Admitted) → IsAdmitted old.memory.program t.turn → LazyFares old new (entry.Turn t.turn) result → IsStep p w new (command.Lazy place t) (fared_as new.journal.stopped reads result) (answered_as Applied result)
    lazy_step t admitted =
        step_of p w old new is (command.Lazy place t) (unsettled_refusal old (entry.Turn t.turn)) (lazy_refusal p w old is t admitted) Applied ⊥ (IsApplied old new (entry.Turn t.turn)) reads
        (λ number of. (ap Applied (of.0 ∙ ap (λ n. n + 1) is.now.number_is), device_applied p w old is (entry.Turn t.turn) (turn_entry t) (turn_plain p w old is t) new of.1 of.2 (tt, tt)))
        (λ none. absurd none)
        (λ none at memory stop. absurd none)
        result

    settle_step : SettleFares old new result → IsStep p w new (command.Settle place) (fared_as new.journal.stopped reads result) (answered_as Settled result)
    settle_step =
        step_of p w old new is (command.Settle place) (stop_refusal old) (settle_refusal p w old is) Settled (old.memory.unsettled ≢ []) (AreSettled old new) reads
        (λ number of. (ap Settled (of.0 ∙ is.now.number_is), device_settled p w old is new of.1 (of.2 ∙ is.stop)))
        (λ some. some_entries old.memory.unsettled (w.unsettled place) is.unsettled some)
        (λ calls at memory stop. device_stopped p w old is (w.unsettled place) at reads new memory stop)
        result

  pub lazy_steps : (t : Admitted) → IsAdmitted old.memory.program t.turn → LazyFares old new (entry.Turn t.turn) result → StepsTo old new (command.Lazy old.memory.device t) (fared_as new.journal.stopped reads result) (applied_as result)
  lazy_steps t admitted fares = record {
    answers = λ p w is free. (lazy_step p w is t admitted fares).0;
    world = λ p w is free. (lazy_step p w is t admitted fares).1;
  }

  pub settle_steps : SettleFares old new result → StepsTo old new (command.Settle old.memory.device) (fared_as new.journal.stopped reads result) (settled_as result)
  settle_steps fares = record {
    answers = λ p w is free. (settle_step p w is fares).0;
    world = λ p w is free. (settle_step p w is fares).1;
  }

-- ---- causes

pub entry_caused : (old new : DeviceState) (e : Entry) (result : Result Done DeviceFault) → EntryFares old new e result → IsCausedBy (entry_refusal old e) (entered_as result)
entry_caused old new e result fares = caused_by (entry_refusal old e) (Unit {0}) (IsDone old new e) old new (λ (done : Done). Entered done.number) (λ done. refl) result fares

pub unsettled_caused : (old new : DeviceState) (e : Entry) (result : Result ℕ DeviceFault) → LazyFares old new e result → IsCausedBy (unsettled_refusal old e) (applied_as result)
unsettled_caused old new e result fares = caused_by (unsettled_refusal old e) ⊥ (IsApplied old new e) old new Applied (λ n. refl) result fares

pub settling_caused : (old new : DeviceState) (result : Result ℕ DeviceFault) → SettleFares old new result → IsCausedBy (stop_refusal old) (settled_as result)
settling_caused old new result fares = caused_by (stop_refusal old) (old.memory.unsettled ≢ []) (AreSettled old new) old new Settled (λ n. refl) result fares
