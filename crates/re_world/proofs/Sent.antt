-- A packet is made of what a device has settled.
use Rattle.std.proofs.Common.{◌≡◌, ◌<◌, ◌≤◌, ◌++◌, ◌∷◌, [], ℕ, List, Option, Some, None, length, refl, sym, ap, subst, ◌∙◌, arith}
use Rattle.std.specs.Prelude.{false, true, map, nat_le}
use Rattle.std.specs.List.{All}
use Rattle.std.specs.Option.{option_or}
use mathlib.Core.Bool.{true≢false}
use Rattle.std.proofs.lemmas.Bool.Decides.{nat_tests}
use Rattle.std.proofs.lemmas.List.{length-append, length-map, map-append}
use Rattle.std.proofs.lemmas.List.Elements.{All-push}
use Rattle.re_device.proofs.Opening.{shown_packet_is}
use Rattle.re_device.specs.Causes.{refusal_by}
use Rattle.re_device.specs.Device.{DeviceState}
use Rattle.re_device.specs.Stepping.{IsDeviceOf}
use Rattle.re_outside.specs.Listed.{Listed as Bytes}
use Rattle.re_outside.specs.Outside.{Seen}
use Rattle.re_outside.specs.Port.{past_in}
use Rattle.re_terms.proofs.WorldEffects.{settled-taken}
use Rattle.re_terms.proofs.WorldSteps.{done_after}
use Rattle.re_terms.specs.Admission.{IsCommandOf, device_count}
use Rattle.re_terms.specs.DeviceWorlds.{Fine, World, refusal, refused_where, settled_taken, spelled}
use Rattle.re_terms.specs.Listed.{Listed}
use Rattle.re_terms.specs.Shapes.{FitsShape, shape_of}
use Rattle.re_terms.specs.Spellings.{packet_bytes}
use Rattle.re_terms.specs.UpdateStates.{state_of_updates}
use Rattle.re_terms.specs.Worlds.{Packet, PlainAnswer, Refused}
use Rattle.re_terms.specs.declared.command.Answer.TheVariants as answer
use Rattle.re_terms.specs.declared.command.Command.TheVariants as command
use Rattle.re_terms.specs.declared.program.Program.{Program}
use Rattle.re_terms.specs.declared.replicated.RState.{RState}
use Rattle.re_world.proofs.Caused.{any_state, caused_as, caused_free, device_is, found_up}
use Rattle.re_world.proofs.Inside.{device_has, refused_before, unrefused}
use Rattle.re_world.proofs.InsideDone.{done_behind, done_does, replied}
use Rattle.re_world.proofs.Staying.{keeps_done}
use Rattle.re_world.proofs.Told.{packet_count}
use Rattle.re_world.specs.Causes.{refusal_in}
use Rattle.re_world.specs.Standing.{HasDevice, IsWorldOf}
use Rattle.re_world.specs.State.{IsKept, IsPacket, IsPlaced, WorldState, device_in, state_of}
use Rattle.re_world.specs.Stepping.{DoesInside}
use Rattle.re_world.specs.declared.world.World.TheInside.{Inside}

-- ---- what is kept

-- a packet more
pub kept_more : (w : Inside) (packets : Listed (Bytes ℕ)) (bytes : Bytes ℕ) → IsKept w → packets.items ≡ w.packets.items ++ bytes ∷ [] → IsPacket w.program bytes.items → length w.packets.items < 10000 → IsKept (record w { packets = packets })
kept_more w packets bytes kept is packet few = record {
  is_program = kept.is_program;
  text = kept.text;
  shape = kept.shape;
  count = kept.count;
  placed = kept.placed;
  packets = subst (λ (l : List (Bytes ℕ)). All (IsPacket w.program) (map (λ (b : Bytes ℕ). b.items) l)) (sym is) (subst (All (IsPacket w.program)) (sym (map-append (λ (b : Bytes ℕ). b.items) w.packets.items (bytes ∷ []))) (All-push (IsPacket w.program) (map (λ (b : Bytes ℕ). b.items) w.packets.items) bytes.items kept.packets packet));
  few = subst (λ (l : List (Bytes ℕ)). length l ≤ 10000) (sym is) (omega (arith, length-append w.packets.items (bytes ∷ []), few));
}

-- what a device has settled makes a packet of the program
pub settled_packet : (w : Inside) (v : WorldState) (n : ℕ) (x : DeviceState) (bytes : List ℕ) → state_of w ≡ v → IsKept w → device_in v n ≡ Some x → FitsShape (shape_of x.memory.program) x.memory.settled.state.rep → bytes ≡ packet_bytes (shape_of x.memory.program).devices x.memory.settled.state.rep → IsPacket w.program bytes
settled_packet w v n x bytes view kept place fits is =
    subst (λ (p : Program). IsPacket p bytes) own (x.memory.settled.state.rep, fits, is)
  where
    own : x.memory.program ≡ w.program
    own = (subst (IsPlaced w.program n) (ap (λ (u : WorldState). device_in u n) view ∙ place) (kept.placed n)).program

-- what is seen of a packet more
pub seen_more : (w : Inside) (v : WorldState) (packets : Listed (Bytes ℕ)) (bytes : Bytes ℕ) → state_of w ≡ v → packets.items ≡ w.packets.items ++ bytes ∷ [] → state_of (record w { packets = packets }) ≡ record v { packets = v.packets ++ bytes.items ∷ [] }
seen_more w v packets bytes view is =
    subst (λ (u : WorldState). state_of (record w { packets = packets }) ≡ record u { packets = u.packets ++ bytes.items ∷ [] }) view
    (λ i. record { program = w.program; devices = w.devices.items; packets = (ap (map (λ (b : Bytes ℕ). b.items)) is ∙ map-append (λ (b : Bytes ℕ). b.items) w.packets.items (bytes ∷ [])) i })

-- as many packets are seen as are kept
pub seen_count : (w : Inside) (v : WorldState) → state_of w ≡ v → length v.packets ≡ length w.packets.items
seen_count w v view = ap (λ (u : WorldState). length u.packets) (sym view) ∙ length-map w.packets.items (λ (b : Bytes ℕ). b.items)

-- where the packets have stayed, all has
pub kept_same : (w : Inside) (packets : Listed (Bytes ℕ)) → IsKept w → packets ≡ w.packets → IsKept (record w { packets = packets })
kept_same w packets kept same = subst (λ q. IsKept (record w { packets = q })) (sym same) kept

pub seen_same : (w : Inside) (v : WorldState) (packets : Listed (Bytes ℕ)) → state_of w ≡ v → packets ≡ w.packets → state_of (record w { packets = packets }) ≡ v
seen_same w v packets view same = ap (λ q. state_of (record w { packets = q })) same ∙ view

-- ---- the command

-- the world with the packet
abbrev with_packet : ℕ → World → World
with_packet n w = record w { packets = w.packets ++ settled_taken w n ∷ [] }

module _ (old : WorldState) (n : ℕ) (x : DeviceState) (of : IsCommandOf old.program (command.Send n)) (place : device_in old n ≡ Some x) (runs : x.journal.stopped ≡ None) where
  by_packets : (p : Program) (w : World) (s : Seen) → IsWorldOf p w old s → refusal p w (command.Send n) ≡ option_or (refused_where (nat_le 10000 (length w.packets)) 35) None
  by_packets p w s is = unrefused p w old s (command.Send n) n x is of place runs refl refl refl refl

  sends : (state : RState) → refusal_in old state (command.Send n) ≡ option_or (refused_where (nat_le 10000 (length old.packets)) 35) None
  sends state = device_is old (command.Send n) refl state x (found_up old n x place) refl place ∙ ap (λ o. option_or (refusal_by o false false None) (refused_where (nat_le 10000 (length old.packets)) 35)) runs ∙ alone (refused_where (nat_le 10000 (length old.packets)) 35)
    where
      alone : (r : Option PlainAnswer) → r ≡ option_or r None
      alone None = refl
      alone (Some a) = refl

  -- as many were made as there may be
  pub send_none : 10000 ≤ length old.packets → DoesInside old old (command.Send n) (answer.No 35)
  send_none many =
      refused_before old (command.Send n) (answer.No 35) tt refl refl refl (caused_as old (command.Send n) (Refused 35) (any_state old, tt) (λ state merges. sends state ∙ ap (λ b. option_or (refused_where b 35) None) (all_made many))) refl
      (λ p w s is. by_packets p w s is ∙ ap (λ b. option_or (refused_where b 35) None) (reached w (subst (λ m. 10000 ≤ m) (packet_count p w old s is) many)))
    where
      all_made : 10000 ≤ length old.packets → nat_le 10000 (length old.packets) ≡ true
      all_made past = grind (arith, nat_tests)

      reached : (w : World) → 10000 ≤ length w.packets → nat_le 10000 (length w.packets) ≡ true
      reached w past = grind (arith, nat_tests)

  send_unrefused : (p : Program) (w : World) (s : Seen) → length old.packets < 10000 → IsWorldOf p w old s → refusal p w (command.Send n) ≡ None
  send_unrefused p w s few is = by_packets p w s is ∙ ap (λ b. option_or (refused_where b 35) None) (below (subst (λ m. m < 10000) (packet_count p w old s is) few))
    where
      below : length w.packets < 10000 → nat_le 10000 (length w.packets) ≡ false
      below under = grind (arith, nat_tests)

  same_device : (p : Program) (w : World) → IsDeviceOf p w x → IsDeviceOf p (with_packet n w) x
  same_device p w is = record {
    program = is.program;
    up = is.up;
    stop = is.stop;
    settled = is.settled;
    now = is.now;
    words = is.words;
    unsettled = is.unsettled;
    count = is.count;
    taken = is.taken;
    fit = is.fit;
  }

  settled_fits : (p : Program) (w : World) → IsDeviceOf p w x → x.memory.device ≡ n → FitsShape (shape_of x.memory.program) x.memory.settled.state.rep → FitsShape (shape_of p) (state_of_updates (shape_of p) (settled_taken w n))
  settled_fits p w is number fits =
      subst (λ m. FitsShape (shape_of p) (state_of_updates (shape_of p) (settled_taken w m))) number
      (subst (FitsShape (shape_of p)) (is.settled.state.rep ∙ ap (state_of_updates (shape_of p)) (settled-taken p w x.memory.device))
      (subst (λ (q : Program). FitsShape (shape_of q) x.memory.settled.state.rep) is.program fits))

  -- the packet is made
  pub send_does : (new : WorldState) (bytes : List ℕ) (k : ℕ) → length old.packets < 10000 → FitsShape (shape_of x.memory.program) x.memory.settled.state.rep → bytes ≡ packet_bytes (shape_of x.memory.program).devices x.memory.settled.state.rep → new ≡ record old { packets = old.packets ++ bytes ∷ [] } → k ≡ length old.packets → DoesInside old new (command.Send n) (answer.Packet k)
  send_does new bytes k few fits spelt is_new number =
      done_does old new (command.Send n) (answer.Packet k) tt refl refl (ap (λ (v : WorldState). v.devices) is_new)
      (keeps_done old new (command.Send n) (Packet k) refl (ap (λ (v : WorldState). v.program) is_new) (λ d other. ap (λ (v : WorldState). device_in v d) is_new) (λ is. absurd (true≢false (sym is))))
      (caused_free old (command.Send n) (Packet k) (any_state old, tt) refl (λ state merges. sends state ∙ ap (λ b. option_or (refused_where b 35) None) (fewer few)))
      (λ s. refl) Fine (λ s kind. refl)
      (λ p w s is. ap Packet (number ∙ packet_count p w old s is) ∙ sym (replied p w (command.Send n) (send_unrefused p w s few is)))
      (λ p w s is.
      let has = device_has p w old s n (Some x) is of place in
      done_behind p w old new s (command.Send n) n is (subst (λ q. IsCommandOf q (command.Send n)) is.program of) (subst (λ (q : Program). n < device_count q.decls.items) is.program of) refl
      (with_packet n w) (done_after p w (command.Send n) (send_unrefused p w s few is))
      (record { base = refl; base_number = refl; settled = refl; in_doubt = refl; reads = refl })
      (λ e other. ap (λ (v : WorldState). device_in v e) is_new)
      (ap (λ (v : WorldState). v.program) is_new)
      (ap (λ (v : WorldState). v.packets) is_new ∙ packets p w has.0 has.1 is.packets)
      (All-push (λ us. FitsShape (shape_of p) (state_of_updates (shape_of p) us)) w.packets (settled_taken w n) is.fit (settled_fits p w has.0 has.1 fits))
      (subst (λ o. HasDevice p (with_packet n w) n o (past_in n s)) (sym (ap (λ (v : WorldState). device_in v n) is_new ∙ place)) (same_device p w has.0, has.1, has.2)))
    where
      fewer : length old.packets < 10000 → nat_le 10000 (length old.packets) ≡ false
      fewer under = grind (arith, nat_tests)

      packets : (p : Program) (w : World) → IsDeviceOf p w x → x.memory.device ≡ n → old.packets ≡ map (spelled p) w.packets → old.packets ++ bytes ∷ [] ≡ map (spelled p) (w.packets ++ settled_taken w n ∷ [])
      packets p w is own same =
          (λ i. same i ++ (spelt ∙ shown_packet_is p w x is ∙ ap (λ m. spelled p (settled_taken w m)) own) i ∷ [])
          ∙ sym (map-append (spelled p) w.packets (settled_taken w n ∷ []))
