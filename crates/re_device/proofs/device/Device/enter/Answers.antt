-- The entry is put into the state, and stands behind the others.
use Rattle.std.proofs.Common.{◌≡◌, ◌<◌, ◌+◌, ◌∙◌, ◌∷◌, [], false, List, length, drop, sym, ap, subst, arith, length-append}
use Rattle.std.proofs.lemmas.List.Elements.{All-append}
use Rattle.std.specs.List.{All}
use Rattle.re_device.proofs.Entered.{All-one, declared, now_accepted, now_cache, now_current, now_state, placed, pushed_one, signals_declared, taken_of}
use Rattle.re_device.proofs.Memories.{current_more, unsettled_more}
use Rattle.re_device.proofs.Puts.{room_left}
use Rattle.re_device.proofs.device.Device.enter.Goals as goal
use Rattle.re_device.specs.Device.{DeviceState, current, takes_no_more}
use Rattle.re_device.specs.Keeping.{AreCurrent, IsUnsettled, memory_of, settled_of, unsettled_of}
use Rattle.re_device.specs.Taking.{MayBeTaken}
use Rattle.re_record.specs.Restoring.{AreAccepted, Opened, after_all}
use Rattle.re_terms.specs.Listed.{Listed}
use Rattle.re_terms.specs.declared.entry.Logged.{Logged}
use Rattle.re_terms.specs.declared.word.Word.{Word}

pub put_taken-requires-clause-declared : goal.put_taken-requires-clause-declared
put_taken-requires-clause-declared c = declared c.self.inside c.self.invariant c.args.taken (subst (λ (v : DeviceState). MayBeTaken v.memory c.args.taken) (sym c.self.view_is) c.requires.taken.1)

pub put_taken-requires-clause-placed : goal.put_taken-requires-clause-placed
put_taken-requires-clause-placed c = placed c.self.inside c.self.invariant c.args.taken (subst (λ (v : DeviceState). MayBeTaken v.memory c.args.taken) (sym c.self.view_is) c.requires.taken.1)

pub put_taken-requires-clause-signals : goal.put_taken-requires-clause-signals
put_taken-requires-clause-signals c = signals_declared c.self.inside c.self.invariant c.args.taken (subst (λ (v : DeviceState). MayBeTaken v.memory c.args.taken) (sym c.self.view_is) c.requires.taken.1)

pub invariant_of-self : goal.invariant_of-self
invariant_of-self c =
    let d = c.self.inside in
    let m = memory_of d in
    let inv = c.self.invariant in
    let l = c.args.taken.logged in
    let may = subst (λ (v : DeviceState). MayBeTaken v.memory c.args.taken) (sym c.self.view_is) c.requires.taken.1 in
    let more = subst (λ (v : DeviceState). takes_no_more v.memory ≡ false) (sym c.self.view_is) c.requires.more in
    let some = subst (λ (v : DeviceState). 0 < v.room) (sym c.self.view_is) c.requires.room in
    let few = subst (λ (v : DeviceState). length v.memory.unsettled < 8) (sym c.self.view_is) c.requires.few in
    let pushed = pushed_one d.entries c.push.new.self l c.push.result some c.push.ensures.room c.push.ensures.ok in
    let behind = ap (drop d.settled.count) pushed ∙ unsettled_more d.settled.count d.entries.items l inv.count in
    let now = now_current d inv c.args.taken may c.put_taken.new.state (ap (λ (w : Listed Word). w.items) c.put_taken.ensures.words) c.put_taken.ensures.rep in
    let room = room_left (length d.entries.items) (current m).number more in
    let long = ap length pushed ∙ length-append d.entries.items (l ∷ []) in
    let longer = ap length behind ∙ length-append (unsettled_of d) (l ∷ []) in
    record {
      is_program = inv.is_program;
      text = inv.text;
      graph = inv.graph;
      places = inv.places;
      shape = inv.shape;
      device = inv.device;
      state = now_state d inv c.args.taken may c.put_taken.new.state now;
      settled = inv.settled;
      current = subst (λ (o : Opened). AreCurrent o c.put_taken.new.state (d.number + 1)) (sym (ap (λ (ls : List Logged). after_all d.program d.device ls (settled_of d)) behind ∙ current_more m l)) now;
      count = omega (arith, inv.count, long);
      few_unsettled = omega (arith, few, longer);
      unsettled = subst (All (IsUnsettled d.program)) (sym behind) (All-append (IsUnsettled d.program) (unsettled_of d) (l ∷ []) inv.unsettled (All-one (IsUnsettled d.program) l (record { taken = taken_of d inv c.args.taken may; turn = c.requires.taken.0 })));
      accepted = subst (AreAccepted d.program d.device (settled_of d)) (sym behind) (now_accepted d inv c.args.taken may more);
      cache = now_cache d inv c.args.taken may c.put_taken.new.state c.put_taken.new.cache now c.put_taken.ensures.cache;
      few = omega (arith, room.0, long);
      number = omega (arith, room.1, inv.current.number_is);
      generation = inv.generation;
    }
