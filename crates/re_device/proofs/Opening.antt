-- A device that was opened, as the world's, and what a device shows.
use Rattle.std.proofs.Common.{◌≡◌, ◌∙◌, ◌+◌, ◌++◌, ℕ, Bool, true, false, List, length, None, Some, refl, sym, ap, subst}
use Rattle.std.specs.Prelude.{slice_get}
use Rattle.std.proofs.lemmas.List.{append-nil}
use Rattle.re_device.proofs.PlainEntries.{old_view}
use Rattle.re_device.specs.Device.{DeviceState, current, opened_at}
use Rattle.re_device.specs.Stepping.{IsDeviceOf, WasOpenedAt}
use Rattle.re_journal.specs.declared.journal.Journal.{Journal}
use Rattle.re_terms.proofs.Values.{elements_are}
use Rattle.re_terms.proofs.WorldEffects.{settled-taken}
use Rattle.re_terms.specs.DeviceWorlds.{World, device_state, settled_taken, spelled}
use Rattle.re_terms.specs.Entries.{PlainEntry, run_entries}
use Rattle.re_terms.specs.Parts.{AllFit}
use Rattle.re_terms.specs.Runs.{StandsForPlain, plain_view}
use Rattle.re_terms.specs.SignalWords.{replicated_place, signal_word}
use Rattle.re_terms.specs.Shapes.{shape_of}
use Rattle.re_terms.specs.Spellings.{packet_bytes}
use Rattle.re_terms.specs.Values.{value_at, value_elements}
use Rattle.re_terms.specs.Views.{cell_elements, view_of}
use Rattle.re_terms.specs.WordKinds.{IsStateOf}
use Rattle.re_terms.specs.WordOrder.{elements_of}
use Rattle.re_terms.specs.Worlds.{Members, Value, is_set_at, shown}
use Rattle.re_terms.specs.declared.entry.State.{State}
use Rattle.re_terms.specs.declared.program.Program.{Program}
use Rattle.re_terms.specs.declared.replicated.Pair.{Pair}
use Rattle.re_terms.specs.declared.replicated.RCell.TheVariants as cell
use Rattle.re_terms.specs.Listed.{Listed, plain}

-- a device that was opened just now is that of the world that has it so
pub opened_device : (p : Program) (w : World) (device : ℕ) (s : State) (number room generation : ℕ) (journal : Journal) → IsStateOf p s → journal.stopped ≡ None → WasOpenedAt p w device s number
    → IsDeviceOf p w (record { memory = opened_at p device s number; room = room; generation = generation; journal = journal })
opened_device p w device s number room generation journal is runs was =
    let nothing : w.settled device ++ w.unsettled device ≡ w.settled device = ap (λ (l : List PlainEntry). w.settled device ++ l) was.unsettled ∙ append-nil (w.settled device) in
    record {
      program = refl;
      up = was.up;
      stop = runs ∙ sym was.runs;
      settled = record { state = record { words = was.state.words; rep = was.state.rep }; number_is = was.number_is };
      now = record {
        state = subst (λ (l : List PlainEntry). StandsForPlain p (record { words = plain s.words.items; rep = s.rep }) (run_entries p device (w.base device) l)) (sym nothing) (record { words = was.state.words; rep = was.state.rep });
        number_is = was.number_is ∙ ap (λ (l : List PlainEntry). w.base_number device + length l) (sym nothing);
      };
      words = is.words.count;
      unsettled = ap length (sym was.unsettled);
      count = sym was.count;
      taken = was.taken;
      fit = subst (AllFit w.log) (sym was.unsettled) tt;
    }

-- ---- what a device shows

module _ (p : Program) (w : World) (d : DeviceState) (is : IsDeviceOf p w d) (id : ℕ) where
  set_is : (b : Bool) → is_set_at d.memory.program.decls.items id ≡ b → is_set_at p.decls.items id ≡ b
  set_is b h = ap (λ (q : Program). is_set_at q.decls.items id) (sym is.program) ∙ h

  word_is : signal_word d.memory.program (current d.memory).state.words.items (view_of (current d.memory).state.rep) id ≡ signal_word p (device_state p w d.memory.device).words (plain_view p (device_state p w d.memory.device)) id
  word_is = λ i. signal_word (is.program i) (is.now.state.words i) (old_view p w d is i) id

  -- a word is shown as it is
  pub shown_word_is : is_set_at d.memory.program.decls.items id ≡ false → shown p (device_state p w d.memory.device) id ≡ Value (signal_word d.memory.program (current d.memory).state.words.items (view_of (current d.memory).state.rep) id)
  shown_word_is other = rw (set_is false other) (ap Value (sym word_is))

  elements_is : (pairs : Listed Pair) → slice_get (current d.memory).state.rep.cells.items (replicated_place d.memory.program.decls.items id) ≡ Some (cell.Set pairs) → value_elements (value_at (shape_of p) (device_state p w d.memory.device).taken (replicated_place p.decls.items id)) ≡ elements_of pairs.items
  elements_is pairs at =
      sym (elements_are (shape_of p) (device_state p w d.memory.device).taken (replicated_place p.decls.items id))
      ∙ sym (λ i. cell_elements (slice_get (is.now.state.rep i).cells.items (replicated_place (is.program i).decls.items id)))
      ∙ ap cell_elements at

  -- a set by the elements of its pairs
  pub shown_set_is : (pairs : Listed Pair) → is_set_at d.memory.program.decls.items id ≡ true → slice_get (current d.memory).state.rep.cells.items (replicated_place d.memory.program.decls.items id) ≡ Some (cell.Set pairs) → shown p (device_state p w d.memory.device) id ≡ Members (elements_of pairs.items)
  shown_set_is pairs set at = rw (set_is true set) (ap Members (elements_is pairs at))

-- the packet of what is settled is that of the updates that the world's device took in by its settled entries
pub shown_packet_is : (p : Program) (w : World) (d : DeviceState) → IsDeviceOf p w d → packet_bytes (shape_of d.memory.program).devices d.memory.settled.state.rep ≡ spelled p (settled_taken w d.memory.device)
shown_packet_is p w d is =
    (λ i. packet_bytes (shape_of (is.program i)).devices (is.settled.state.rep i))
    ∙ ap (spelled p) (settled-taken p w d.memory.device)
