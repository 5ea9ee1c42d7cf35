-- A device's entries as those of the world's device, and the limits that stand against them.
use Rattle.std.proofs.Common.{◌≡◌, ◌+◌, ◌++◌, ◌∷◌, [], ℕ, true, List, length, None, Some, refl, sym, ap, subst, ◌∙◌, append_assoc}
use Rattle.std.specs.Prelude.{if◌then◌else◌, nat_lt, option_and_then}
use Rattle.std.specs.List.{count_by, list_all, sum_by}
use Rattle.std.proofs.lemmas.List.{append-nil, length-map}
use Rattle.re_device.proofs.Memories.{current_more}
use Rattle.re_device.specs.Device.{DeviceMemory, DeviceState, current, limit_against, logged, rep_after, step_by, takes_no_more, with_entry}
use Rattle.re_device.specs.Stepping.{IsDeviceOf, IsPacketOf, IsPlainly, log_with_unsettled}
use Rattle.re_record.specs.Restoring.{Opened}
use Rattle.re_terms.proofs.ChangesKept.{cells_agree}
use Rattle.re_terms.proofs.Growing.{entries_taken, merged_state, merged_taken, run_taken-append}
use Rattle.re_terms.proofs.MergeLimits.{merge_fault-is}
use Rattle.re_terms.proofs.PutWords.{words_put}
use Rattle.re_terms.proofs.RangedPlaces.{length-passing}
use Rattle.re_terms.proofs.TakenIns.{taken_devices, taken_fault, taken_made, taken_state}
use Rattle.re_terms.proofs.Values.{view_is}
use Rattle.re_terms.proofs.WorldEffects.{device-taken, run_entries-append}
use Rattle.re_terms.specs.Admission.{IsAdmitted}
use Rattle.re_terms.specs.Cells.{is_cell}
use Rattle.re_terms.specs.DeviceWorlds.{World, device_state, last_number, limit_fault, merge_fault, settled_taken, taken, takes_no_more as world_takes_no_more}
use Rattle.re_terms.specs.Entries as plain
use Rattle.re_terms.specs.Entries.{PlainEntry, entry_after, run_entries, step_to, taken_after, turn_entry, updates_of}
use Rattle.re_terms.specs.Limits.{SetFull, after_operations, operations_fault, updates_fault}
use Rattle.re_terms.specs.Propagation.{Step, cell_ids, effect, fires_of, is_cell_at, sets_of, words_after}
use Rattle.re_terms.specs.Runs.{plain_view}
use Rattle.re_terms.specs.ShapedUpdates.{is_operation_in}
use Rattle.re_terms.specs.Shapes.{pair_count, shape_of}
use Rattle.re_terms.specs.TakenIn.{IsTakenIn}
use Rattle.re_terms.specs.UpdateSets.{union}
use Rattle.re_terms.specs.UpdateStates.{join_states, state_of_updates}
use Rattle.re_terms.specs.Updates.{Update}
use Rattle.re_terms.specs.Values.{view_of_updates}
use Rattle.re_terms.specs.Views.{view_of}
use Rattle.re_terms.specs.Worlds.{is_full}
use Rattle.re_terms.specs.declared.command.Command.TheVariants as command
use Rattle.re_terms.specs.declared.entry.Admitted.{Admitted}
use Rattle.re_terms.specs.declared.entry.Entry.{Entry}
use Rattle.re_terms.specs.declared.entry.Entry.TheVariants as entry
use Rattle.re_terms.specs.declared.limits.TheConstants.{PAIRS}
use Rattle.re_terms.specs.declared.program.Program.{Program}
use Rattle.re_terms.specs.declared.replicated.RState.{RState}

-- an entry leaves a word for each var and fold
pub words_long : (p : Program) (s : Step) → length (words_after p s) ≡ count_by is_cell p.decls.items
words_long p s = length-map (cell_ids p.decls.items) (λ id. (effect p s id).word) ∙ length-passing (is_cell_at p.decls.items) is_cell p.decls.items 0 (cells_agree p.decls.items)

-- what a list of updates that was taken in shows
pub shows : (p : Program) (log us : List Update) (device : ℕ) → IsTakenIn log device us → view_of (state_of_updates (shape_of p) us) ≡ view_of_updates (shape_of p) us
shows p log us device is = view_is (shape_of p) us (taken_devices log us device is)

-- A device's entry is this plain one: it sets and fires the same, and leads to what the updates make that are taken in then; these are of all updates that were made and those that it makes.
pub record IsPlainEntry (p : Program) (w : World) (m : DeviceMemory) (e : Entry) (x : PlainEntry) : Type 0 where
  pub sets : sets_of e ≡ plain.sets_of x
  pub fires : fires_of e ≡ plain.fires_of x
  pub rep : rep_after m e ≡ state_of_updates (shape_of p) (taken_after m.device (device_state p w m.device).taken x)
  pub taken : IsTakenIn (log_with_unsettled w m.device ++ updates_of m.device (device_state p w m.device).taken x) m.device (taken_after m.device (device_state p w m.device).taken x)

module _ (p : Program) (w : World) (d : DeviceState) (is : IsDeviceOf p w d) where
  abbrev device : ℕ
  device = d.memory.device

  abbrev us : List Update
  us = (device_state p w d.memory.device).taken

  abbrev log : List Update
  log = log_with_unsettled w d.memory.device

  -- by all its entries the device has taken in a part of all updates that were made
  pub taken_now : IsTakenIn log device us
  taken_now =
      subst (IsTakenIn log device) (sym (run_taken-append device (w.base device).taken (w.settled device) (w.unsettled device)) ∙ sym (device-taken p w device))
      (entries_taken w.log (settled_taken w device) device (w.unsettled device) is.taken is.fit)

  pub old_view : view_of (current d.memory).state.rep ≡ plain_view p (device_state p w device)
  old_view = ap view_of is.now.state.rep ∙ shows p log us device taken_now

  -- ---- which plain entry it is

  pub turn_plain : (t : Admitted) → IsPlainEntry p w d.memory (entry.Turn t.turn) (turn_entry t)
  turn_plain t = record {
    sets = refl;
    fires = refl;
    rep =
        (λ i. after_operations (shape_of (is.program i)) device t.turn.ops.items (is.now.state.rep i))
        ∙ sym (taken_state (shape_of p) log us device t.turn.ops.items taken_now);
    taken = taken_made log us device t.turn.ops.items taken_now;
  }

  -- the state that a merge gives
  joined : (k : ℕ) (state : RState) (of : IsPacketOf d k state p w) → join_states (current d.memory).state.rep state ≡ join_states (state_of_updates (shape_of p) us) (state_of_updates (shape_of p) of.packet)
  joined k state of = of.joins ∙ ap (λ (r : RState). join_states r (state_of_updates (shape_of p) of.packet)) is.now.state.rep

  pub merge_plain : (k : ℕ) (state : RState) (of : IsPacketOf d k state p w) → IsPlainEntry p w d.memory (entry.Merge state) (plain.Merge of.packet)
  merge_plain k state of = record {
    sets = refl;
    fires = refl;
    rep = joined k state of ∙ sym (merged_state log us of.packet device taken_now of.part (shape_of p));
    taken = subst (λ (l : List Update). IsTakenIn l device (union us of.packet)) (sym (append-nil log)) (merged_taken log us of.packet device taken_now of.part);
  }

  -- ---- limits

  -- the device takes no more exactly where the world's doesn't
  pub full_is : takes_no_more d.memory ≡ world_takes_no_more w device
  full_is = ap (λ n. is_full n (current d.memory).number) is.count ∙ ap (is_full (w.count device)) is.now.number_is

  -- the same limit stands against a turn
  pub turn_limit : (t : Admitted) → IsAdmitted d.memory.program t.turn → limit_against d.memory (entry.Turn t.turn) ≡ limit_fault p w (command.Turn device t)
  turn_limit t admitted =
      let allowed : list_all (is_operation_in (shape_of p)) t.turn.ops.items ≡ true = subst (λ (q : Program). list_all (is_operation_in (shape_of q)) t.turn.ops.items ≡ true) is.program admitted.operations in
      (λ i. operations_fault (shape_of (is.program i)) device t.turn.ops.items (is.now.state.rep i))
      ∙ sym (taken_fault (shape_of p) log us device t.turn.ops.items taken_now allowed)
      ∙ ap (updates_fault (shape_of p) device t.turn.ops.items) (device-taken p w device)

  -- the same limit stands against a merge
  pub merge_limit : (k : ℕ) (state : RState) (of : IsPacketOf d k state p w) → limit_against d.memory (entry.Merge state) ≡ limit_fault p w (command.Deliver k device)
  merge_limit k state of =
      ap (λ (r : RState). if nat_lt PAIRS (sum_by pair_count r.cells.items) then Some SetFull else None) (joined k state of)
      ∙ sym (merge_fault-is p log us of.packet device taken_now of.part)
      ∙ ap (λ (l : List Update). merge_fault p l of.packet) (device-taken p w device)
      ∙ sym (ap (option_and_then (merge_fault p (taken w device))) of.listed)

  -- ---- the state after it

  module _ (e : Entry) (x : PlainEntry) (same : IsPlainEntry p w d.memory e x) where
    abbrev us_then : List Update
    us_then = taken_after d.memory.device (device_state p w d.memory.device).taken x

    new_view : view_of (rep_after d.memory e) ≡ view_of_updates (shape_of p) us_then
    new_view = ap view_of same.rep ∙ shows p (log ++ updates_of device us x) us_then device same.taken

    step_is : step_by d.memory e ≡ step_to p (device_state p w device) x us_then
    step_is = λ i. record {
      words = is.now.state.words i;
      old_view = old_view i;
      new_view = new_view i;
      sets = same.sets i;
      fires = same.fires i;
    }

    count_is : length (current d.memory).state.words.items ≡ count_by is_cell d.memory.program.decls.items
    count_is = is.words ∙ ap (λ (q : Program). count_by is_cell q.decls.items) (sym is.program)

    -- the device with the entry has the world's state with the plain one
    pub more_is : IsPlainly p (current (with_entry d.memory (logged d.memory e))) (entry_after p device (device_state p w device) x) (last_number w device + 1)
    more_is =
        subst (λ (o : Opened). IsPlainly p o (entry_after p device (device_state p w device) x) (last_number w device + 1)) (sym (current_more d.memory (logged d.memory e)))
        (record {
          state = record {
            words =
                words_put d.memory.program (step_by d.memory e) count_is
                ∙ ap (λ (q : Program). words_after q (step_by d.memory e)) is.program
                ∙ ap (words_after p) step_is;
            rep = same.rep;
          };
          number_is = ap (λ n. n + 1) is.now.number_is;
        })

    pub more_words : length (current (with_entry d.memory (logged d.memory e))).state.words.items ≡ count_by is_cell p.decls.items
    more_words = ap length more_is.state.words ∙ words_long p (step_to p (device_state p w device) x us_then)

    -- what the world's device has then
    pub state_more : run_entries p device (w.base device) (w.settled device ++ (w.unsettled device ++ x ∷ [])) ≡ entry_after p device (device_state p w device) x
    state_more =
        ap (run_entries p device (w.base device)) (sym (append_assoc (w.settled device) (w.unsettled device) (x ∷ [])))
        ∙ run_entries-append p device (w.base device) (w.settled device ++ w.unsettled device) (x ∷ [])
