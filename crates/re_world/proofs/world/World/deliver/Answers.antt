-- A delivery is a step of the world.
use Rattle.std.proofs.Common.{arith, ◌≡◌, ◌∙◌, ◌<◌, ◌+◌, ◌++◌, ◌∷◌, [], ℕ, List, Option, Some, Result, Ok, Err, Bor, refl, sym, ap, subst, length}
use Rattle.std.specs.Prelude.{◌^◌, true, map, nat_le, slice_get}
use Rattle.std.specs.Option.{option_copied}
use Rattle.std.proofs.lemmas.Bool.Decides.{nat_tests}
use Rattle.re_device.specs.Device.{current, logged, with_entry}
use Rattle.re_device.specs.Stepping.{IsPacketOf, entered_as}
use Rattle.re_device.specs.declared.fault.Done.{Done}
use Rattle.re_terms.specs.Admission.{device_count}
use Rattle.re_terms.specs.Worlds.{Entered, Refused}
use Rattle.re_terms.specs.declared.command.Answer.TheVariants as answer
use Rattle.re_terms.specs.declared.command.Command.TheVariants as command
use Rattle.re_terms.specs.declared.entry.Entry.TheVariants as entry
use Rattle.re_terms.specs.declared.program.Program.{Program}
use Rattle.re_device.specs.Causes.{IsCausedBy}
use Rattle.re_world.proofs.Caused.{any_state, caused_as, device_is, found_down, found_up, lacks_is}
use Rattle.re_world.proofs.CommitKinds.{deliver_commit}
use Rattle.re_world.proofs.Doing.{commit_does}
use Rattle.re_world.proofs.Delivered.{all_at, kept_at, none_seen, none_there, kept_state, one_seen, one_there, packet_of, packet_short, packet_state}
use Rattle.re_world.proofs.Inside.{down_does, lacks_first, memory_does, refused_before}
use Rattle.re_world.proofs.Placed.{back_all, back_others, back_packets, back_place, back_program, none_taken_out, no_some}
use Rattle.re_outside.specs.Listed.{Listed}
use Rattle.re_terms.proofs.ProgramShapes.{program_shape}
use Rattle.re_terms.specs.Shapes.{FitsShape, IsShape, shape_of}
use Rattle.re_terms.specs.Spellings.{packet_bytes}
use Rattle.re_terms.specs.declared.replicated.RState.{RState}
use Rattle.re_terms.specs.declared.replicated.Shape.{Shape}
use Rattle.re_world.specs.FileSteps.{IsPacketState}
use Rattle.re_world.specs.State.{IsDeviceIn, IsPacket, WorldState, state_of}
use Rattle.re_wire.specs.Reading.{Fails}
use Rattle.re_wire.specs.declared.fault.WireFault.{WireFault}
use Rattle.re_wire.specs.declared.fault.WireFault.TheVariants as wire
use Rattle.re_world.specs.declared.world.World.TheInside.{Inside}
use Rattle.re_world.specs.Stepping.{DoesCommand}
use Rattle.re_world.proofs.Taken.{if_ok, on_ok}
use Rattle.re_world.proofs.world.World.deliver.Goals as goal

-- the packets as they are kept
packets_are : (v : WorldState) (w : Inside) → state_of w ≡ v → v.packets ≡ map (λ (bytes : Listed ℕ). bytes.items) w.packets.items
packets_are v w same = ap (λ (u : WorldState). u.packets) (sym same)

-- the one at this place
at_place : (o : Option (Bor (Listed ℕ))) (b : Bor (Listed ℕ)) (kept : List (Listed ℕ)) (k : ℕ) → option_copied o ≡ slice_get kept k → o ≡ Some b → slice_get kept k ≡ Some b.now
at_place o b kept k found is = sym found ∙ ap option_copied is

read_is : (state r : RState) → ◌≡◌ {A = Result RState ℕ} (Ok r) (Ok state) → state ≡ r
read_is state r e = cc

one_of : {X : Type 0} {x y : X} → Some x ≡ Some y → x ≡ y
one_of e = cc

never_refused : (r : RState) (fault : WireFault) (place : ℕ) → fault ≡ wire.At place → Fails {X = RState} fault (Ok r) → ⊥
never_refused r fault place is fails = refuted (subst (λ f. Fails {X = RState} f (Ok r)) is fails)
  where
    refuted : ◌≡◌ {A = Result RState ℕ} (Ok r) (Err place) → ⊥
    refuted e = cc

not_below : (v : WorldState) (k : ℕ) → nat_le (length v.packets) k ≡ true → k < length v.packets → ⊥
not_below v k past below = grind (arith, nat_tests)

pub returns-in_default : goal.returns-in_default
returns-in_default g c =
    let v = c.args.self.now in
    refused_before v (command.Deliver c.args.packet c.args.number) (answer.No 28) tt refl refl refl
    (caused_as v (command.Deliver c.args.packet c.args.number) (Refused 28) (any_state v, λ below. absurd (not_below v c.args.packet (none_seen v c.self.inside.packets.items (packets_are v c.self.inside c.self.view_is) c.args.packet (sym c.get.ensures ∙ ap option_copied c.in_default.is)) below)) (λ state merges. lacks_is v (command.Deliver c.args.packet c.args.number) state (none_seen v c.self.inside.packets.items (packets_are v c.self.inside c.self.view_is) c.args.packet (sym c.get.ensures ∙ ap option_copied c.in_default.is)))) refl
    (λ p w s is. lacks_first p w (command.Deliver c.args.packet c.args.number) (none_there p w v s is c.self.inside.packets.items (packets_are v c.self.inside c.self.view_is) c.args.packet (sym c.get.ensures ∙ ap option_copied c.in_default.is)))
    g.O.Outside.tells (g.O.Outside.seen c.args.out.now)

pub decode-requires-clause-shape : goal.decode-requires-clause-shape
decode-requires-clause-shape g c = subst IsShape (sym c.self.invariant.shape) (program_shape c.self.inside.program c.self.invariant.is_program)

pub decode-requires-clause-limit : goal.decode-requires-clause-limit
decode-requires-clause-limit g c =
    let at = kept_at (state_of c.self.inside) c.self.inside.packets.items c.args.packet c.in-Some.bytes.now refl (at_place c.get.result c.in-Some.bytes c.self.inside.packets.items c.args.packet c.get.ensures c.in-Some.is) in
    subst (λ (l : List ℕ). length l < 2 ^ 32) (sym c.as_slice.ensures) (packet_short c.self.inside.program c.in-Some.bytes.now.items c.self.invariant.is_program (all_at (IsPacket c.self.inside.program) (state_of c.self.inside).packets c.args.packet c.in-Some.bytes.now.items c.self.invariant.packets at))

pub returns-in-Err-Memory : goal.returns-in-Err-Memory
returns-in-Err-Memory g c = memory_does c.args.self.now (command.Deliver c.args.packet c.args.number) refl (kept_state c.self.inside c.args.self.now c.args.packet c.args.number c.in-Some.bytes.now c.self.view_is c.self.invariant (at_place c.get.result c.in-Some.bytes c.self.inside.packets.items c.args.packet c.get.ensures c.in-Some.is)) g.O.Outside.tells (g.O.Outside.seen c.args.out.now)

pub unreachable-requires : goal.unreachable-requires
unreachable-requires g c =
    let at = kept_at (state_of c.self.inside) c.self.inside.packets.items c.args.packet c.in-Some.bytes.now refl (at_place c.get.result c.in-Some.bytes c.self.inside.packets.items c.args.packet c.get.ensures c.in-Some.is) in
    let packet : IsPacket c.self.inside.program c.in-Some.bytes.now.items = all_at (IsPacket c.self.inside.program) (state_of c.self.inside).packets c.args.packet c.in-Some.bytes.now.items c.self.invariant.packets at in
    never_refused packet.0 c.in-Err-At.field-0 c.in-Err-At.field-0-0 c.in-Err-At.field-0-is (c.in-Err-At.ensures.only packet.0 (subst (λ q. FitsShape q packet.0) (sym c.self.invariant.shape) packet.1) (c.as_slice.ensures ∙ packet.2 ∙ ap (λ (q : Shape). packet_bytes q.devices packet.0) (sym c.self.invariant.shape)))

pub returns-in_default-take_out : goal.returns-in_default-take_out
returns-in_default-take_out g c =
    let v = c.args.self.now in
    let s = g.O.Outside.seen c.args.out.now in
    let place = sym c.take_out.ensures.device ∙ no_some c.take_out.result c.in_default-take_out.not-Some in
    subst (λ u. DoesCommand g.O.Outside.tells v u (command.Deliver c.args.packet c.args.number) (answer.No 26) s s) (sym (none_taken_out v c.take_out.new.self c.args.number c.take_out.ensures.rest place))
    (down_does v (command.Deliver c.args.packet c.args.number) c.args.number c.requires place refl (found_down v c.args.number place) (one_seen v c.self.inside.packets.items (packets_are v c.self.inside c.self.view_is) c.args.packet c.in-Some.bytes.now (at_place c.get.result c.in-Some.bytes c.self.inside.packets.items c.args.packet c.get.ensures c.in-Some.is)) (kept_state c.self.inside v c.args.packet c.args.number c.in-Some.bytes.now c.self.view_is c.self.invariant (at_place c.get.result c.in-Some.bytes c.self.inside.packets.items c.args.packet c.get.ensures c.in-Some.is)) (λ w. refl) (λ p w t is. one_there p w v t is c.self.inside.packets.items (packets_are v c.self.inside c.self.view_is) c.args.packet c.in-Some.bytes.now (at_place c.get.result c.in-Some.bytes c.self.inside.packets.items c.args.packet c.get.ensures c.in-Some.is)) g.O.Outside.tells s)

pub put_in-requires-clause-placed : goal.put_in-requires-clause-placed
put_in-requires-clause-placed g c =
    let placed : IsDeviceIn c.args.self.now.program c.args.number c.in-Some-take_out.device = c.in-Some-take_out.ensures.placed in
    record {
      program = c.take_merge-taken.ensures.leaves.program ∙ placed.program ∙ sym (ap (λ (u : WorldState). u.program) c.take_out.ensures.rest);
      number_is = c.take_merge-taken.ensures.leaves.number ∙ placed.number_is;
    }

pub returns : goal.returns
returns g c =
    let v = c.args.self.now in
    let n = c.args.number in
    let x = c.in-Some-take_out.device in
    let x' = c.take_merge-taken.new.device in
    let placed : IsDeviceIn v.program n x = c.in-Some-take_out.ensures.placed in
    let below = subst (λ k. n < k) (sym c.take_out.ensures.count) c.requires in
    let packet_is : IsPacketState v c.args.packet c.in-Ok.state =
    let program : c.self.inside.program ≡ v.program = ap (λ (u : WorldState). u.program) c.self.view_is in
    let place = at_place c.get.result c.in-Some.bytes c.self.inside.packets.items c.args.packet c.get.ensures c.in-Some.is in
    packet_state v c.args.packet c.in-Some.bytes.now.items c.in-Ok.state (kept_at v c.self.inside.packets.items c.args.packet c.in-Some.bytes.now (packets_are v c.self.inside c.self.view_is) place)
    (subst (λ q. IsPacket q c.in-Some.bytes.now.items) program (all_at (IsPacket c.self.inside.program) (state_of c.self.inside).packets c.args.packet c.in-Some.bytes.now.items c.self.invariant.packets (kept_at (state_of c.self.inside) c.self.inside.packets.items c.args.packet c.in-Some.bytes.now refl place)))
    (λ r fits same. read_is c.in-Ok.state r (c.in-Ok.ensures.only r (subst (λ q. FitsShape q r) (sym (c.self.invariant.shape ∙ ap shape_of program)) fits) (c.as_slice.ensures ∙ same ∙ ap (λ (q : Shape). packet_bytes q.devices r) (sym (c.self.invariant.shape ∙ ap shape_of program))))) in
    commit_does (IsPacketOf x c.args.packet c.in-Ok.state) (λ (d : Done). Entered d.number) (x.memory.unsettled ++ logged x.memory (entry.Merge c.in-Ok.state) ∷ []) (current (with_entry x.memory (logged x.memory (entry.Merge c.in-Ok.state)))) g.O.Outside.tells v c.put_in.new.self x x' (λ k. command.Deliver c.args.packet k) c.entered.result (g.O.Outside.seen c.args.out.now) (g.O.Outside.seen c.take_merge-taken.new.out) c.take_merge-taken.result n placed.number_is
    (record {
      of = c.requires;
      below = c.requires;
      device_is = refl;
      commit = λ p w. deliver_commit p w n c.args.packet;
      place = sym c.take_out.ensures.device ∙ c.in-Some-take_out.is;
      number = c.take_merge-taken.ensures.leaves.number ∙ placed.number_is;
      new_place = back_place v c.take_out.new.self c.put_in.new.self n x' c.take_out.ensures.rest c.put_in.ensures below;
      other_places = back_others v c.take_out.new.self c.put_in.new.self n x' c.take_out.ensures.rest c.put_in.ensures;
      program = back_program v c.take_out.new.self c.put_in.new.self n x' c.take_out.ensures.rest c.put_in.ensures;
      packets = back_packets v c.take_out.new.self c.put_in.new.self n x' c.take_out.ensures.rest c.put_in.ensures;
      answer = c.entered.ensures.answer;
      ascends = c.entered.ensures.ascends;
      cause = c.take_merge-taken.ensures.cause;
      others = c.take_merge-taken.ensures.others;
      left = c.take_merge-taken.ensures.left;
      commits = c.take_merge-taken.ensures.commits c.args.packet;
      holds = λ p w is.
          let program : c.self.inside.program ≡ p = ap (λ (u : WorldState). u.program) c.self.view_is ∙ is.program in
          packet_of p w v (g.O.Outside.seen c.args.out.now) x c.args.packet c.in-Some.bytes.now.items c.in-Ok.state is (subst (λ (k : ℕ). k < device_count p.decls.items) (sym placed.number_is) (subst (λ (q : Program). n < device_count q.decls.items) is.program c.requires)) (kept_at v c.self.inside.packets.items c.args.packet c.in-Some.bytes.now (packets_are v c.self.inside c.self.view_is) (at_place c.get.result c.in-Some.bytes c.self.inside.packets.items c.args.packet c.get.ensures c.in-Some.is))
          (λ r fits same. read_is c.in-Ok.state r (c.in-Ok.ensures.only r (subst (λ q. FitsShape q r) (sym (c.self.invariant.shape ∙ ap shape_of program)) fits) (c.as_slice.ensures ∙ same ∙ ap (λ (q : Shape). packet_bytes q.devices r) (sym (c.self.invariant.shape ∙ ap shape_of program)))));
      reads = λ told f. g.met.O.Outside.reads_left c.take_merge-taken.new.out n f (g.met.O.Outside.tells_always c.take_merge-taken.new.out ∙ told);
      enters = λ y. refl;
      calm = λ y. (refl, refl);
      leaves = c.take_merge-taken.ensures.leaves;
      takes = λ y same. record {
        own = record {
          number = n;
          number_is = refl;
          before = x;
          place = sym c.take_out.ensures.device ∙ c.in-Some-take_out.is;
          after = x';
          place_after = back_place v c.take_out.new.self c.put_in.new.self n x' c.take_out.ensures.rest c.put_in.ensures below;
        };
        taken = entry.Merge c.in-Ok.state;
        taken_is = (c.in-Ok.state, packet_is, refl);
        number_is = if_ok (λ (d : Done). d.number ≡ (current x.memory).number + 1) c.take_merge-taken.result y c.take_merge-taken.ensures.number same;
        memory = on_ok c.take_merge-taken.result y c.take_merge-taken.ensures.memory same;
      };
      caused =
          let kept = packets_are v c.self.inside c.self.view_is in
          let at = at_place c.get.result c.in-Some.bytes c.self.inside.packets.items c.args.packet c.get.ensures c.in-Some.is in
          let place = sym c.take_out.ensures.device ∙ c.in-Some-take_out.is in (
            c.in-Ok.state,
            λ there. packet_is,
            subst (λ o. IsCausedBy o (entered_as c.take_merge-taken.result)) (sym (device_is v (command.Deliver c.args.packet n) (one_seen v c.self.inside.packets.items kept c.args.packet c.in-Some.bytes.now at) c.in-Ok.state x (found_up v n x place) refl place)) c.take_merge-taken.ensures.caused,
          );
      same = back_all v c.take_out.new.self c.put_in.new.self n x' c.take_out.ensures.rest c.put_in.ensures x (sym c.take_out.ensures.device ∙ c.in-Some-take_out.is);
      writes = (c.in-Ok.state, packet_is, refl);
      files = λ made. made;
      fails = λ at gate_open stops. (n, refl, stops);
    })
