-- The device after a command, as the world's.
use Rattle.std.proofs.Common.{◌≡◌, ◌+◌, ◌++◌, ◌∷◌, [], ℕ, Bool, List, length, length-append, Some, refl, sym, ap, subst, ◌∙◌, append_assoc, arith}
use Rattle.std.specs.List.{count_by}
use Rattle.std.proofs.lemmas.List.{append-nil}
use Rattle.re_device.proofs.Entered.{settled_memory}
use Rattle.re_device.proofs.PlainEntries.{IsPlainEntry, more_is, more_words, state_more}
use Rattle.re_device.specs.Device.{DeviceMemory, DeviceState, all_settled, current, logged, with_entry}
use Rattle.re_device.specs.Stepping.{IsDeviceOf, IsPlainly, log_with_unsettled}
use Rattle.re_record.specs.Restoring.{Opened}
use Rattle.re_terms.proofs.Growing.{all_append, entries_taken, run_taken-append}
use Rattle.re_terms.proofs.WorldEffects.{device-taken}
use Rattle.re_terms.proofs.WorldSteps.{with_at-same}
use Rattle.re_terms.specs.Cells.{is_cell}
use Rattle.re_terms.specs.DeviceWorlds.{World, apply, counted, device_state, doubt, last_number, settle, settled_number, settled_state, settled_taken, with_at}
use Rattle.re_terms.specs.Entries.{PlainEntry, run_entries, run_taken, run_updates, taken_after, updates_of}
use Rattle.re_terms.specs.Parts.{AllFit}
use Rattle.re_terms.specs.Runs.{PlainState}
use Rattle.re_terms.specs.TakenIn.{IsTakenIn}
use Rattle.re_terms.specs.Updates.{Update}
use Rattle.re_terms.specs.declared.entry.Entry.{Entry}
use Rattle.re_terms.specs.declared.entry.Logged.{Logged}
use Rattle.re_terms.specs.declared.program.Program.{Program}

run_updates-append : (device : ℕ) (us : List Update) (xs ys : List PlainEntry) → run_updates device us (xs ++ ys) ≡ run_updates device us xs ++ run_updates device (run_taken device us xs) ys
run_updates-append device us [] ys = refl
run_updates-append device us (x ∷ xs) ys =
    ap (λ (l : List Update). updates_of device us x ++ l) (run_updates-append device (taken_after device us x) xs ys)
    ∙ sym (append_assoc (updates_of device us x) (run_updates device (taken_after device us x) xs) (run_updates device (run_taken device (taken_after device us x) xs) ys))

-- a state and a number that are plainly these are plainly equal ones
plainly : (p : Program) (o : Opened) (s t : PlainState) (m n : ℕ) → s ≡ t → m ≡ n → IsPlainly p o s m → IsPlainly p o t n
plainly p o s t m n same number is = subst (λ (x : PlainState). IsPlainly p o x n) same (subst (IsPlainly p o s) number is)

module _ (p : Program) (w : World) (d : DeviceState) (is : IsDeviceOf p w d) where
  abbrev device : ℕ
  device = d.memory.device

  -- ---- entries are settled

  -- a device that stands for the world in which these entries are settled, and that took so many since it was opened
  module _ (entries : List PlainEntry) (count : ℕ → ℕ) (o : Opened) (took : List Logged) (plainly_is : IsPlainly p o (run_entries p device (w.base device) (w.settled device ++ entries)) (w.base_number device + length (w.settled device ++ entries))) where
    abbrev settled_world : World
    settled_world = record (settle w d.memory.device entries) { count = count }

    settled_here : settled_world.settled device ≡ w.settled device ++ entries
    settled_here = with_at-same device (w.settled device ++ entries) w.settled

    unsettled_here : settled_world.unsettled device ≡ []
    unsettled_here = with_at-same device [] w.unsettled

    entries_here : settled_world.settled device ++ settled_world.unsettled device ≡ w.settled device ++ entries
    entries_here = (λ i. settled_here i ++ unsettled_here i) ∙ append-nil (w.settled device ++ entries)

    is_settled : IsPlainly p o (settled_state p settled_world device) (settled_number settled_world device)
    is_settled =
        plainly p o _ _ _ _
        (ap (run_entries p device (w.base device)) (sym settled_here))
        (ap (λ (l : List PlainEntry). w.base_number device + length l) (sym settled_here)) plainly_is

    is_now : IsPlainly p o (device_state p settled_world device) (last_number settled_world device)
    is_now =
        plainly p o _ _ _ _
        (ap (run_entries p device (w.base device)) (sym entries_here))
        (ap (λ (l : List PlainEntry). w.base_number device + length l) (sym entries_here)) plainly_is

    is_taken : IsTakenIn (w.log ++ run_updates device (settled_taken w device) entries) device (run_taken device (settled_taken w device) entries) → IsTakenIn settled_world.log device (settled_taken settled_world device)
    is_taken = subst (IsTakenIn settled_world.log device) (sym (run_taken-append device (w.base device).taken (w.settled device) entries) ∙ ap (run_taken device (w.base device).taken) (sym settled_here))

    pub settled_device : (new : DeviceState) → new.memory ≡ settled_memory d.memory.program device o took → new.journal.stopped ≡ w.stop device
        → length o.state.words.items ≡ count_by is_cell p.decls.items
        → IsTakenIn (w.log ++ run_updates device (settled_taken w device) entries) device (run_taken device (settled_taken w device) entries)
        → length took ≡ count device → IsDeviceOf p settled_world new
    settled_device new memory stop words taken counts =
        subst (λ (m : DeviceMemory). IsDeviceOf p settled_world (record { memory = m; room = new.room; generation = new.generation; journal = new.journal })) (sym memory)
        (record {
          program = is.program;
          up = is.up;
          stop = stop;
          settled = is_settled;
          now = is_now;
          words = words;
          unsettled = ap length (sym unsettled_here);
          count = counts;
          taken = is_taken taken;
          fit = subst (AllFit settled_world.log) (sym unsettled_here) tt;
        })

  -- all unsettled ones are
  pub device_settled : (new : DeviceState) → new.memory ≡ all_settled d.memory → new.journal.stopped ≡ w.stop device → IsDeviceOf p (settle w device (w.unsettled device)) new
  device_settled new memory stop =
      settled_device (w.unsettled device) w.count (current d.memory) d.memory.entries is.now new memory stop is.words
      (entries_taken w.log (settled_taken w device) device (w.unsettled device) is.taken is.fit) is.count

  module _ (e : Entry) (x : PlainEntry) (same : IsPlainEntry p w d.memory e x) where
    one_more : (xs : List PlainEntry) → length (xs ++ x ∷ []) ≡ length xs + 1
    one_more xs = length-append xs (x ∷ [])

    last_more : last_number w device + 1 ≡ w.base_number device + length (w.settled device ++ (w.unsettled device ++ x ∷ []))
    last_more =
        let a = length-append (w.settled device) (w.unsettled device) in
        let b = length-append (w.settled device) (w.unsettled device ++ x ∷ []) in
        omega (arith, a, b, one_more (w.unsettled device))

    entered_plainly : IsPlainly p (current (with_entry d.memory (logged d.memory e))) (run_entries p device (w.base device) (w.settled device ++ (w.unsettled device ++ x ∷ []))) (w.base_number device + length (w.settled device ++ (w.unsettled device ++ x ∷ [])))
    entered_plainly = plainly p (current (with_entry d.memory (logged d.memory e))) _ _ _ _ (sym (state_more p w d is e x same)) last_more (more_is p w d is e x same)

    took_more : length (d.memory.entries ++ logged d.memory e ∷ []) ≡ with_at device (w.count device + 1) w.count device
    took_more =
        let n : length (d.memory.entries ++ logged d.memory e ∷ []) ≡ w.count device + 1 = let l = length-append d.memory.entries (logged d.memory e ∷ []) in let c = is.count in omega (arith, l, c) in
        n ∙ sym (with_at-same device (w.count device + 1) w.count)

    -- by the updates of all entries that are settled then
    entered_taken : IsTakenIn (w.log ++ run_updates device (settled_taken w device) (w.unsettled device ++ x ∷ [])) device (run_taken device (settled_taken w device) (w.unsettled device ++ x ∷ []))
    entered_taken =
        let st = settled_taken w device in
        let here : (device_state p w device).taken ≡ run_taken device st (w.unsettled device) = device-taken p w device ∙ run_taken-append device (w.base device).taken (w.settled device) (w.unsettled device) in
        let grown : log_with_unsettled w device ++ updates_of device (run_taken device st (w.unsettled device)) x ≡ w.log ++ run_updates device st (w.unsettled device ++ x ∷ []) =
        append_assoc w.log (run_updates device st (w.unsettled device)) (updates_of device (run_taken device st (w.unsettled device)) x)
        ∙ ap (λ (l : List Update). w.log ++ (run_updates device st (w.unsettled device) ++ l)) (sym (append-nil (updates_of device (run_taken device st (w.unsettled device)) x)))
        ∙ ap (λ (l : List Update). w.log ++ l) (sym (run_updates-append device st (w.unsettled device) (x ∷ [])))
        in
        subst (λ (l : List Update). IsTakenIn l device (run_taken device st (w.unsettled device ++ x ∷ []))) grown
        (subst (IsTakenIn (log_with_unsettled w device ++ updates_of device (run_taken device st (w.unsettled device)) x) device) (sym (run_taken-append device st (w.unsettled device) (x ∷ [])))
        (subst (λ (us : List Update). IsTakenIn (log_with_unsettled w device ++ updates_of device us x) device (taken_after device us x)) here same.taken))

    -- the entry is, behind all unsettled ones
    pub device_entered : (new : DeviceState) → new.memory ≡ all_settled (with_entry d.memory (logged d.memory e)) → new.journal.stopped ≡ w.stop device → IsDeviceOf p (counted (settle w device (w.unsettled device ++ x ∷ [])) device) new
    device_entered new memory stop =
        settled_device (w.unsettled device ++ x ∷ []) (with_at device (w.count device + 1) w.count) (current (with_entry d.memory (logged d.memory e))) (d.memory.entries ++ logged d.memory e ∷ []) entered_plainly new memory stop (more_words p w d is e x same)
        entered_taken took_more

    -- ---- an entry is unsettled

    abbrev applied : World
    applied = apply w d.memory.device x

    unsettled_then : applied.unsettled device ≡ w.unsettled device ++ x ∷ []
    unsettled_then = with_at-same device (w.unsettled device ++ x ∷ []) w.unsettled

    entries_then : w.settled device ++ applied.unsettled device ≡ w.settled device ++ (w.unsettled device ++ x ∷ [])
    entries_then = ap (λ (l : List PlainEntry). w.settled device ++ l) unsettled_then

    applied_now : IsPlainly p (current (with_entry d.memory (logged d.memory e))) (device_state p applied device) (last_number applied device)
    applied_now =
        plainly p (current (with_entry d.memory (logged d.memory e))) _ _ _ _
        (ap (run_entries p device (w.base device)) (sym entries_then))
        (ap (λ (l : List PlainEntry). w.base_number device + length l) (sym entries_then)) entered_plainly

    unsettled_more : length (d.memory.unsettled ++ logged d.memory e ∷ []) ≡ length (applied.unsettled device)
    unsettled_more =
        let n : length (d.memory.unsettled ++ logged d.memory e ∷ []) ≡ length (w.unsettled device ++ x ∷ []) = let l = length-append d.memory.unsettled (logged d.memory e ∷ []) in let u = is.unsettled in omega (arith, l, u, one_more (w.unsettled device)) in
        n ∙ ap length (sym unsettled_then)

    pub device_applied : (new : DeviceState) → new.memory ≡ with_entry d.memory (logged d.memory e) → new.journal ≡ d.journal → AllFit w.log (x ∷ []) → IsDeviceOf p applied new
    device_applied new memory journal fits =
        subst (λ (m : DeviceMemory). IsDeviceOf p applied (record { memory = m; room = new.room; generation = new.generation; journal = new.journal })) (sym memory)
        (record {
          program = is.program;
          up = is.up;
          stop = ap (λ j. j.stopped) journal ∙ is.stop;
          settled = is.settled;
          now = applied_now;
          words = more_words p w d is e x same;
          unsettled = unsettled_more;
          count = took_more;
          taken = is.taken;
          fit = subst (AllFit w.log) (sym unsettled_then) (all_append w.log (w.unsettled device) (x ∷ []) is.fit fits);
        })

  -- ---- a call failed

  pub device_stopped : (entries : List PlainEntry) (at : ℕ) (reads : Bool) (new : DeviceState) → new.memory ≡ d.memory → new.journal.stopped ≡ Some at → IsDeviceOf p (doubt w device entries at reads) new
  device_stopped entries at reads new memory stop =
      subst (λ (m : DeviceMemory). IsDeviceOf p (doubt w device entries at reads) (record { memory = m; room = new.room; generation = new.generation; journal = new.journal })) (sym memory)
      (record {
        program = is.program;
        up = is.up;
        stop = stop ∙ sym (with_at-same device (Some at) w.stop);
        settled = is.settled;
        now = is.now;
        words = is.words;
        unsettled = is.unsettled;
        count = is.count;
        taken = is.taken;
        fit = is.fit;
      })
