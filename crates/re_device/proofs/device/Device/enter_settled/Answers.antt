-- The entry is put into the state, and the files hold it.
use Rattle.std.proofs.Common.{◌≡◌, ◌<◌, ◌+◌, ◌∙◌, ◌∷◌, [], false, unwrap_or, List, length, drop, sym, ap, subst, arith, refl, length-append}
use Rattle.std.proofs.Math.Seq.{drop-length}
use Rattle.std.proofs.lemmas.List.Elements.{All-nil}
use Rattle.std.specs.List.{All}
use Rattle.re_device.proofs.Entered.{declared, now_cache, now_current, now_settled, now_state, placed, pushed_one, settled_memory, settled_rep, signals_declared}
use Rattle.re_device.proofs.Memories.{current_more}
use Rattle.re_device.proofs.Puts.{room_left}
use Rattle.re_device.proofs.device.Device.enter_settled.Goals as goal
use Rattle.re_device.specs.Device.{DeviceState, all_settled, current, takes_no_more, with_entry}
use Rattle.re_device.specs.Keeping.{AreCurrent, IsUnsettled, memory_of}
use Rattle.re_device.specs.Taking.{MayBeTaken}
use Rattle.re_device.specs.declared.store.Settled.{Settled}
use Rattle.re_terms.specs.Shapes.{FitsShape, shape_of}
use Rattle.re_terms.specs.WordKinds.{AreWordsOf, IsStateOf}
use Rattle.re_record.specs.Restoring.{AreAccepted, Opened, after_all, opened_after}
use Rattle.re_terms.specs.Listed.{Listed, plain}
use Rattle.re_terms.specs.declared.entry.Logged.{Logged}
use Rattle.re_terms.specs.declared.word.Word.{Word}

pub put_taken-requires-clause-declared : goal.put_taken-requires-clause-declared
put_taken-requires-clause-declared c = declared c.self.inside c.self.invariant c.args.taken (subst (λ (v : DeviceState). MayBeTaken v.memory c.args.taken) (sym c.self.view_is) c.requires.taken)

pub put_taken-requires-clause-placed : goal.put_taken-requires-clause-placed
put_taken-requires-clause-placed c = placed c.self.inside c.self.invariant c.args.taken (subst (λ (v : DeviceState). MayBeTaken v.memory c.args.taken) (sym c.self.view_is) c.requires.taken)

pub put_taken-requires-clause-signals : goal.put_taken-requires-clause-signals
put_taken-requires-clause-signals c = signals_declared c.self.inside c.self.invariant c.args.taken (subst (λ (v : DeviceState). MayBeTaken v.memory c.args.taken) (sym c.self.view_is) c.requires.taken)

pub settle-requires : goal.settle-requires
settle-requires c =
    let d = c.self.inside in
    let inv = c.self.invariant in
    let may = subst (λ (v : DeviceState). MayBeTaken v.memory c.args.taken) (sym c.self.view_is) c.requires.taken in
    let now = now_current d inv c.args.taken may c.put_taken.new.state (ap (λ (w : Listed Word). w.items) c.put_taken.ensures.words) c.put_taken.ensures.rep in
    ap length c.as_slice.ensures ∙ (now_state d inv c.args.taken may c.put_taken.new.state now).words.count ∙ sym inv.settled.words.count

pub invariant_of-self : goal.invariant_of-self
invariant_of-self c =
    let d = c.self.inside in
    let m = memory_of d in
    let inv = c.self.invariant in
    let l = c.args.taken.logged in
    let st = c.put_taken.new.state in
    let held = c.settle.new.self in
    let may = subst (λ (v : DeviceState). MayBeTaken v.memory c.args.taken) (sym c.self.view_is) c.requires.taken in
    let more = subst (λ (v : DeviceState). takes_no_more v.memory ≡ false) (sym c.self.view_is) c.requires.more in
    let some = subst (λ (v : DeviceState). 0 < v.room) (sym c.self.view_is) c.requires.room in
    let pushed = pushed_one d.entries c.push.new.self l c.push.result some c.push.ensures.room c.push.ensures.ok in
    let now = now_current d inv c.args.taken may st (ap (λ (w : Listed Word). w.items) c.put_taken.ensures.words) c.put_taken.ensures.rep in
    let state = now_state d inv c.args.taken may st now in
    let room = room_left (length d.entries.items) (current m).number more in
    let long = ap length pushed ∙ length-append d.entries.items (l ∷ []) in
    let words : held.words.items ≡ st.words.items = ap (λ (s : Settled). s.words.items) c.settle.ensures ∙ c.as_slice.ensures in
    let rep : held.outbox ≡ st.rep = ap (λ (s : Settled). s.outbox) c.settle.ensures ∙ settled_rep c.args.rep c.args.taken.after d c.self.invariant (subst (λ (v : DeviceState). unwrap_or c.args.rep v.memory.settled.state.rep ≡ unwrap_or c.args.taken.after (current v.memory).state.rep) (sym c.self.view_is) c.requires.rep) ∙ sym c.put_taken.ensures.rep in
    let number = ap (λ (s : Settled). s.number) c.settle.ensures in
    let count : held.count ≡ length c.push.new.self.items = ap (λ (s : Settled). s.count) c.settle.ensures ∙ c.len.ensures in
    let none : drop held.count c.push.new.self.items ≡ [] = ap (λ n. drop n c.push.new.self.items) count ∙ drop-length c.push.new.self.items in
    let held_state : IsStateOf d.program (record { words = plain held.words.items; rep = held.outbox }) = record { words = subst (AreWordsOf d.program) (sym words) state.words; rep = subst (FitsShape (shape_of d.program)) (sym rep) state.rep } in
    record {
      is_program = inv.is_program;
      text = inv.text;
      graph = inv.graph;
      places = inv.places;
      shape = inv.shape;
      device = inv.device;
      state = state;
      settled = held_state;
      current = subst (λ (ls : List Logged). AreCurrent (after_all d.program d.device ls (record { state = record { words = plain held.words.items; rep = held.outbox }; number = held.number })) st (d.number + 1)) (sym none) (record { words = sym words; rep = sym rep; number_is = sym number });
      count = omega (arith, count);
      few_unsettled = let e = ap length none in omega (arith, e);
      unsettled = subst (All (IsUnsettled d.program)) (sym none) (All-nil (IsUnsettled d.program));
      accepted = subst (AreAccepted d.program d.device (record { state = record { words = plain held.words.items; rep = held.outbox }; number = held.number })) (sym none) (record {});
      cache = now_cache d inv c.args.taken may st c.put_taken.new.cache now c.put_taken.ensures.cache;
      few = omega (arith, room.0, long);
      number = omega (arith, room.1, inv.current.number_is);
      generation = inv.generation;
    }

pub returns-clause-memory : goal.returns-clause-memory
returns-clause-memory c =
    let d = c.self.inside in
    let m = memory_of d in
    let inv = c.self.invariant in
    let l = c.args.taken.logged in
    let st = c.put_taken.new.state in
    let held = c.settle.new.self in
    let may = subst (λ (v : DeviceState). MayBeTaken v.memory c.args.taken) (sym c.self.view_is) c.requires.taken in
    let some = subst (λ (v : DeviceState). 0 < v.room) (sym c.self.view_is) c.requires.room in
    let pushed = pushed_one d.entries c.push.new.self l c.push.result some c.push.ensures.room c.push.ensures.ok in
    let now = now_current d inv c.args.taken may st (ap (λ (w : Listed Word). w.items) c.put_taken.ensures.words) c.put_taken.ensures.rep in
    let words : held.words.items ≡ st.words.items = ap (λ (s : Settled). s.words.items) c.settle.ensures ∙ c.as_slice.ensures in
    let rep : held.outbox ≡ st.rep = ap (λ (s : Settled). s.outbox) c.settle.ensures ∙ settled_rep c.args.rep c.args.taken.after d c.self.invariant (subst (λ (v : DeviceState). unwrap_or c.args.rep v.memory.settled.state.rep ≡ unwrap_or c.args.taken.after (current v.memory).state.rep) (sym c.self.view_is) c.requires.rep) ∙ sym c.put_taken.ensures.rep in
    let number = ap (λ (s : Settled). s.number) c.settle.ensures in
    let count : held.count ≡ length c.push.new.self.items = ap (λ (s : Settled). s.count) c.settle.ensures ∙ c.len.ensures in
    now_settled d.program d.device c.push.new.self.items (opened_after d.program d.device l (current m)) st (d.number + 1) held words rep number count now refl
    ∙ ap (λ (o : Opened). settled_memory d.program d.device o c.push.new.self.items) (sym (current_more m l))
    ∙ ap (settled_memory d.program d.device (current (with_entry m l))) pushed
    ∙ ap (λ (v : DeviceState). all_settled (with_entry v.memory l)) c.self.view_is
