-- A device's fields after an entry was put into them.
use Rattle.std.proofs.Common.{◌≡◌, ◌<◌, ◌+◌, ◌-◌, ◌++◌, ◌∷◌, [], ℕ, false, unwrap_or, Option, List, length, drop, sym, ap, subst, ◌∙◌}
use Rattle.std.specs.Prelude.{slice_index, Result, IsOk, OnOk}
use Rattle.std.proofs.Math.Seq.{drop-length}
use Rattle.std.specs.List.{All, count_by}
use Rattle.std.proofs.lemmas.List.Elements.{All-cons, All-nil}
use Rattle.re_prop.specs.Caching.{put_all, put_at, signal_words}
use Rattle.re_record.specs.Restoring.{AreAccepted, Opened, opened_after, replicated_after}
use Rattle.re_terms.specs.Cells.{cell_place, is_cell}
use Rattle.re_terms.specs.Changes.{with_changes}
use Rattle.re_terms.specs.Listed.{Listed, plain}
use Rattle.re_terms.specs.Propagation.{changes, words_after}
use Rattle.re_terms.specs.Shapes.{FitsShape, shape_of}
use Rattle.re_terms.specs.Views.{view_of}
use Rattle.re_terms.specs.WordKinds.{AreWordsOf, IsStateOf}
use Rattle.re_terms.specs.declared.entry.Logged.{Logged}
use Rattle.re_terms.specs.declared.entry.Put.{Put}
use Rattle.re_terms.specs.declared.entry.State.{State}
use Rattle.re_terms.specs.declared.program.Program.{Program}
use Rattle.re_terms.specs.declared.replicated.RState.{RState}
use Rattle.re_terms.specs.declared.word.Word.{Word}
use Rattle.re_device.proofs.Memories.{accepted_more, agrees_kept, as_kept, state_kept, taken_is, words_are}
use Rattle.re_device.proofs.Puts.{of_ok, put_signals-declared, put_signals-is, put_words-declared, put_words-is, put_words-placed}
use Rattle.re_device.specs.Device.{DeviceMemory, current, logged, rep_after, step_by, takes_no_more}
use Rattle.re_device.specs.Keeping.{AreCurrent, IsKept, IsTaken, memory_of, settled_of, unsettled_of}
use Rattle.re_terms.specs.Placing.{at_each}
use Rattle.re_device.specs.Taking.{MayBeTaken}
use Rattle.re_device.specs.declared.device.Device.TheInside.{Inside}
use Rattle.re_device.specs.declared.store.Settled.{Settled}
use Rattle.re_device.specs.declared.taking.Taken.{Taken}

module _ (d : Inside) (kept : IsKept d) (taken : Taken) (may : MayBeTaken (memory_of d) taken) where
  puts_are : taken.logged.changes.items ≡ changes d.program (step_by (memory_of d) may.entry)
  puts_are = ap (λ (l : Logged). l.changes.items) may.is.logged_is

  places_are : d.places.words.items ≡ at_each cell_place d.program.decls.items
  places_are = ap (λ x. x.words.items) kept.places

  count_is : length (step_by (memory_of d) may.entry).words ≡ count_by is_cell d.program.decls.items
  count_is = (agrees_kept d.program (current (memory_of d)) d.state d.number kept.current kept.state).words.count

  -- what is put is declared, and has places
  pub declared : All (λ put. put.id < length d.places.words.items) taken.logged.changes.items
  declared = put_words-declared d.program (step_by (memory_of d) may.entry) d.places.words.items taken.logged.changes.items places_are puts_are

  pub placed : All (λ put. slice_index d.places.words.items put.id < length d.state.words.items) taken.logged.changes.items
  placed =
      subst (λ (w : List Word). All (λ put. slice_index d.places.words.items put.id < length w) taken.logged.changes.items) (sym kept.current.words)
      (put_words-placed d.program (step_by (memory_of d) may.entry) d.places.words.items taken.logged.changes.items count_is places_are puts_are)

  cache_is : d.cache ≡ signal_words d.program (step_by (memory_of d) may.entry).words (step_by (memory_of d) may.entry).old_view
  cache_is =
      kept.cache
      ∙ ap (λ (w : List Word). signal_words d.program w (view_of d.state.rep)) kept.current.words
      ∙ ap (λ (r : RState). signal_words d.program (current (memory_of d)).state.words.items (view_of r)) kept.current.rep

  pub signals_declared : All (λ put. put.id < length d.cache) taken.signals.items
  signals_declared = put_signals-declared d.program (step_by (memory_of d) may.entry) d.cache taken.signals.items cache_is (ap (λ (l : Listed Put). l.items) may.is.signals)

  -- the state and the number with it
  pub now_current : (s : State) → s.words.items ≡ put_at (slice_index d.places.words.items) d.state.words.items taken.logged.changes.items → s.rep ≡ unwrap_or taken.after d.state.rep → AreCurrent (opened_after d.program d.device taken.logged (current (memory_of d))) s (d.number + 1)
  now_current s words rep = record {
    words =
        words ∙ put_words-is d.program (step_by (memory_of d) may.entry) d.places.words.items d.state.words.items taken.logged.changes.items kept.current.words places_are puts_are
        ∙ ap (with_changes d.program.decls.items (current (memory_of d)).state.words.items) (sym puts_are);
    rep =
        rep ∙ ap (unwrap_or taken.after) kept.current.rep ∙ may.is.after
        ∙ ap (λ (l : Logged). replicated_after (shape_of d.program) d.device l.entry (current (memory_of d)).state.rep) (sym may.is.logged_is);
    number_is = ap (λ (n : ℕ). n + 1) kept.current.number_is;
  }

  after_is : (l : Logged) → l ≡ logged (memory_of d) may.entry → IsStateOf d.program (opened_after d.program d.device l (current (memory_of d))).state
  after_is l is =
      subst (λ (x : Logged). IsStateOf d.program (opened_after d.program d.device x (current (memory_of d))).state) (sym is)
      (state_kept (memory_of d) may.entry kept.is_program (agrees_kept d.program (current (memory_of d)) d.state d.number kept.current kept.state) may.of_program may.is.fits)

  pub now_state : (s : State) → AreCurrent (opened_after d.program d.device taken.logged (current (memory_of d))) s (d.number + 1) → IsStateOf d.program s
  now_state s are =
      let is = after_is taken.logged may.is.logged_is in
      record { words = subst (AreWordsOf d.program) (sym are.words) is.words; rep = subst (FitsShape (shape_of d.program)) (sym are.rep) is.rep }

  pub now_cache : (s : State) (cache : List Word) → AreCurrent (opened_after d.program d.device taken.logged (current (memory_of d))) s (d.number + 1) → cache ≡ put_all d.cache taken.signals.items → cache ≡ signal_words d.program s.words.items (view_of s.rep)
  now_cache s cache are is =
      let words : words_after d.program (step_by (memory_of d) may.entry) ≡ s.words.items =
      sym (words_are (memory_of d) may.entry kept.is_program (agrees_kept d.program (current (memory_of d)) d.state d.number kept.current kept.state) may.of_program may.is.fits)
      ∙ ap (with_changes d.program.decls.items (current (memory_of d)).state.words.items) (sym puts_are) ∙ sym are.words in
      let rep : rep_after (memory_of d) may.entry ≡ s.rep = ap (λ (l : Logged). replicated_after (shape_of d.program) d.device l.entry (current (memory_of d)).state.rep) (sym may.is.logged_is) ∙ sym are.rep in
      is
      ∙ put_signals-is d.program (step_by (memory_of d) may.entry) d.cache taken.signals.items cache_is (ap (λ (l : Listed Put). l.items) may.is.signals)
      ∙ ap (λ (w : List Word). signal_words d.program w (view_of (rep_after (memory_of d) may.entry))) words
      ∙ ap (λ (r : RState). signal_words d.program s.words.items (view_of r)) rep

  -- it may stand in a record, and isn't refused behind the unsettled ones
  pub taken_of : IsTaken d.program taken.logged
  taken_of = subst (IsTaken d.program) (sym may.is.logged_is) (taken_is (memory_of d) may.entry kept.is_program (agrees_kept d.program (current (memory_of d)) d.state d.number kept.current kept.state) may.of_program may.is.fits)

  pub now_accepted : takes_no_more (memory_of d) ≡ false → AreAccepted d.program d.device (settled_of d) (unsettled_of d ++ taken.logged ∷ [])
  now_accepted more =
      subst (λ (l : Logged). AreAccepted d.program d.device (settled_of d) (unsettled_of d ++ l ∷ [])) (sym may.is.logged_is)
      (accepted_more (memory_of d) may.entry kept.accepted may.free more)

-- what holds of one holds of a list of it
pub All-one : {T : Type 0} (P : T → Type 0) (x : T) → P x → All P (x ∷ [])
All-one P x is = All-cons P x [] is (All-nil P)

-- what is taken down of the files is the state, with nothing unsettled
pub now_settled : (p : Program) (device : ℕ) (entries : List Logged) (o : Opened) (s : State) (number : ℕ) (held : Settled) → held.words.items ≡ s.words.items → held.outbox ≡ s.rep → held.number ≡ number → held.count ≡ length entries → AreCurrent o s number → o.state.words.spare ≡ 0
    → ◌≡◌ {A = DeviceMemory} (record { program = p; device = device; settled = record { state = record { words = plain held.words.items; rep = held.outbox }; number = held.number }; unsettled = drop held.count entries; entries = entries }) (record { program = p; device = device; settled = o; unsettled = []; entries = entries })
now_settled p device entries o s number held words rep number_is count are none =
    ap (λ (w : List Word). record { program = p; device = device; settled = record { state = record { words = plain w; rep = held.outbox }; number = held.number }; unsettled = drop held.count entries; entries = entries }) words
    ∙ ap (λ (r : RState). record { program = p; device = device; settled = record { state = record { words = plain s.words.items; rep = r }; number = held.number }; unsettled = drop held.count entries; entries = entries }) rep
    ∙ ap (λ (n : ℕ). record { program = p; device = device; settled = record { state = record { words = plain s.words.items; rep = s.rep }; number = n }; unsettled = drop held.count entries; entries = entries }) number_is
    ∙ ap (λ (q : Opened). record { program = p; device = device; settled = q; unsettled = drop held.count entries; entries = entries }) (as_kept o s number are none)
    ∙ ap (λ (l : List Logged). record { program = p; device = device; settled = o; unsettled = l; entries = entries }) (ap (λ (n : ℕ). drop n entries) count ∙ drop-length entries)

-- a list with room takes one more
pub pushed_one : {T E : Type 0} (before after : Listed T) (x : T) (r : Result (Unit {0}) E) → 0 < before.spare → (0 < before.spare → IsOk r) → OnOk r (after ≡ record { items = before.items ++ x ∷ []; spare = before.spare - 1 }) → after.items ≡ before.items ++ x ∷ []
pushed_one before after x r some room pushes = ap (λ l. l.items) (of_ok r (room some) pushes)

-- a memory with nothing unsettled
abbrev pub settled_memory : Program → ℕ → Opened → List Logged → DeviceMemory
settled_memory p device o entries = record { program = p; device = device; settled = o; unsettled = []; entries = entries }

-- the replicated state that is taken down, by the kept one
pub settled_rep : (rep after : Option RState) (d : Inside) → IsKept d → unwrap_or rep (settled_of d).state.rep ≡ unwrap_or after (current (memory_of d)).state.rep → unwrap_or rep d.settled.outbox ≡ unwrap_or after d.state.rep
settled_rep rep after d kept is = is ∙ ap (unwrap_or after) (sym kept.current.rep)
