-- Commands that only tell something: what a device shows, and the bytes of a packet.
use Rattle.std.proofs.Common.{◌≡◌, ◌<◌, ◌≤◌, ◌∷◌, [], ℕ, zero, suc, List, Option, Some, None, Bor, length, refl, sym, ap, subst, ◌∙◌, arith}
use Rattle.std.specs.Prelude.{Bool, false, true, ◌≢◌, nat_le, option_map, slice_get}
use Rattle.std.specs.Option.{option_copied, option_map_or, option_or}
use Rattle.std.proofs.lemmas.Bool.Decides.{nat_tests}
use Rattle.std.proofs.lemmas.List.{length-map}
use Rattle.std.proofs.lemmas.Option.{slice_get-map, slice_get_within}
use Rattle.re_device.proofs.Opening.{shown_set_is, shown_word_is}
use Rattle.re_device.specs.Causes.{is_caused, refusal_by}
use Rattle.re_device.specs.Device.{DeviceState, current}
use Rattle.re_device.specs.Stepping.{IsDeviceOf}
use Rattle.re_outside.specs.Listed.{Listed as Bytes}
use Rattle.re_outside.specs.Outside.{Seen}
use Rattle.re_print.specs.AnswerTexts.{AscendsWhereSet}
use Rattle.re_terms.specs.Admission.{IsCommandOf}
use Rattle.re_terms.specs.DeviceWorlds.{World, device_state, refused_where, spelled}
use Rattle.re_terms.specs.Listed.{Listed}
use Rattle.re_terms.specs.SignalWords.{signal_word}
use Rattle.re_terms.specs.Views.{view_of}
use Rattle.re_terms.specs.Worlds.{Hex, Refused, is_set_at, plain_answer, shown}
use Rattle.re_terms.specs.declared.command.Answer.{Answer}
use Rattle.re_terms.specs.declared.command.Answer.TheVariants as answer
use Rattle.re_terms.specs.declared.command.Command.TheVariants as command
use Rattle.re_terms.specs.declared.program.Program.{Program}
use Rattle.re_terms.specs.declared.replicated.RState.{RState}
use Rattle.re_world.proofs.Inside.{device_has, lacks_first, memory_does, refused_before, stop_first, unrefused}
use Rattle.re_world.proofs.Caused.{any_state, caused_as, caused_free, device_is, found_up, lacks_is}
use Rattle.re_world.proofs.InsideDone.{told_does}
use Rattle.re_world.proofs.Placed.{no_some}
use Rattle.re_world.proofs.Staying.{tells_of_store}
use Rattle.re_world.specs.Causes.{refusal_in}
use Rattle.re_world.specs.FileSteps.{is_disk_refusal}
use Rattle.re_world.specs.Standing.{IsWorldOf}
use Rattle.re_world.specs.State.{WorldState, device_in, state_of}
use Rattle.re_world.specs.Stepping.{DoesInside, IsSetOrMemory}
use Rattle.re_world.specs.Taking.{Takes}
use Rattle.re_world.specs.declared.world.World.TheInside.{Inside}

-- nothing is behind a reference that isn't there
pub nothing_behind : {T : Type 0} (r : Option (Bor T)) → ((x : Bor T) → r ≢ Some x) → option_copied r ≡ None
nothing_behind r nothing = ap option_copied (no_some r nothing)

-- ---- what a device shows

module _ (v : WorldState) (n id : ℕ) (x : DeviceState) (of : IsCommandOf v.program (command.Get n id)) (place : device_in v n ≡ Some x) (runs : x.journal.stopped ≡ None) where
  -- an answer that is what is shown of the name in each world whose device this is
  shown_does : (a : Answer) → AscendsWhereSet a → is_disk_refusal (plain_answer a) ≡ false → tells_of_store (plain_answer a) ≡ false → Takes v v (command.Get n id) (plain_answer a) → is_caused (plain_answer a) ≡ false → ((p : Program) (w : World) → IsDeviceOf p w x → shown p (device_state p w x.memory.device) id ≡ plain_answer a) → DoesInside v v (command.Get n id) a
  shown_does a ascends calm other takes free shows =
      told_does v (command.Get n id) a ascends calm other takes
      (caused_free v (command.Get n id) (plain_answer a) (any_state v, tt) free (λ state merges. device_is v (command.Get n id) refl state x (found_up v n x place) refl place ∙ ap (λ o. refusal_by o false false None) runs))
      (λ s. refl) (λ w. refl)
      (λ p w s is.
      let has = device_has p w v s n (Some x) is of.0 place in
      (unrefused p w v s (command.Get n id) n x is of.0 place runs refl refl refl refl, sym (shows p w has.0) ∙ ap (λ m. shown p (device_state p w m) id) has.1))

  set_does : (a : Answer) → is_set_at x.memory.program.decls.items id ≡ true → IsSetOrMemory x id a → AscendsWhereSet a → DoesInside v v (command.Get n id) a
  set_does (answer.Members pairs) set at ascends = shown_does (answer.Members pairs) ascends refl refl refl refl (λ p w has. shown_set_is p w x has id pairs set at)
  set_does (answer.No code) set is ascends = subst (λ k. DoesInside v v (command.Get n id) (answer.No k)) (sym is) (memory_does v (command.Get n id) refl (any_state v, tt))
  set_does (answer.Entered m) set none ascends = absurd none
  set_does (answer.Applied m) set none ascends = absurd none
  set_does (answer.Settled m) set none ascends = absurd none
  set_does (answer.Value word) set none ascends = absurd none
  set_does (answer.Packet m) set none ascends = absurd none
  set_does (answer.Hex bytes) set none ascends = absurd none
  set_does answer.Down set none ascends = absurd none
  set_does (answer.Up m) set none ascends = absurd none
  set_does (answer.StoppedAt m) set none ascends = absurd none
  set_does (answer.BadFile file at) set none ascends = absurd none

  -- a word or a set is shown
  pub get_does : (a : Answer) → (is_set_at x.memory.program.decls.items id ≡ false → a ≡ answer.Value (signal_word x.memory.program (current x.memory).state.words.items (view_of (current x.memory).state.rep) id)) → (is_set_at x.memory.program.decls.items id ≡ true → IsSetOrMemory x id a) → AscendsWhereSet a → DoesInside v v (command.Get n id) a
  get_does a word set ascends = by_set (is_set_at x.memory.program.decls.items id) refl
    where
      by_set : (b : Bool) → is_set_at x.memory.program.decls.items id ≡ b → DoesInside v v (command.Get n id) a
      by_set false other = subst (DoesInside v v (command.Get n id)) (sym (word other)) (shown_does (answer.Value _) tt refl refl refl refl (λ p w has. shown_word_is p w x has id other))
      by_set true is = set_does a is (set is) ascends

-- ---- the bytes of packets

get_past : {T : Type 0} (xs : List T) (k : ℕ) → slice_get xs k ≡ None → length xs ≤ k
get_past [] k none = omega arith
get_past (x ∷ xs) zero none = absurd (cc)
get_past (x ∷ xs) (suc k) none = omega (arith, get_past xs k none)

-- a world has as many packets as there are
pub packet_count : (p : Program) (w : World) (v : WorldState) (s : Seen) → IsWorldOf p w v s → length v.packets ≡ length w.packets
packet_count p w v s is = ap length is.packets ∙ length-map w.packets (spelled p)

-- there is no such packet
pub hex_lacks : (v : WorldState) (k : ℕ) → slice_get v.packets k ≡ None → DoesInside v v (command.Hex k) (answer.No 28)
hex_lacks v k none =
    refused_before v (command.Hex k) (answer.No 28) tt refl refl refl (caused_as v (command.Hex k) (Refused 28) (any_state v, tt) (λ state merges. lacks_is v (command.Hex k) state (reached (get_past v.packets k none)))) refl
    (λ p w s is. lacks_first p w (command.Hex k) (lacks w (subst (λ m. m ≤ k) (packet_count p w v s is) (get_past v.packets k none))))
  where
    lacks : (w : World) → length w.packets ≤ k → nat_le (length w.packets) k ≡ true
    lacks w past = grind (arith, nat_tests)

    reached : length v.packets ≤ k → nat_le (length v.packets) k ≡ true
    reached past = grind (arith, nat_tests)

-- its bytes are shown
pub hex_does : (v : WorldState) (k : ℕ) (bytes : Listed ℕ) → slice_get v.packets k ≡ Some bytes.items → DoesInside v v (command.Hex k) (answer.Hex bytes)
hex_does v k bytes at =
    told_does v (command.Hex k) (answer.Hex bytes) tt refl refl refl
    (caused_free v (command.Hex k) (plain_answer (answer.Hex bytes)) (any_state v, tt) refl (λ state merges. free state (held (slice_get_within v.packets k bytes.items at)))) (λ s. refl) (λ w. refl)
    (λ p w s is. (stop_first p w (command.Hex k) (there w (subst (λ m. k < m) (packet_count p w v s is) (slice_get_within v.packets k bytes.items at))) refl None refl refl, ap Hex (sym (behind p w s is))))
  where
    there : (w : World) → k < length w.packets → nat_le (length w.packets) k ≡ false
    there w below = grind (arith, nat_tests)

    held : k < length v.packets → nat_le (length v.packets) k ≡ false
    held below = grind (arith, nat_tests)

    free : (state : RState) → nat_le (length v.packets) k ≡ false → refusal_in v state (command.Hex k) ≡ None
    free state has = λ i. option_or (refused_where (has i) 28) None

    mapped : {A B : Type 0} (f : A → B) (o : Option A) (y d : B) → option_map f o ≡ Some y → option_map_or f o d ≡ y
    mapped f None y d is = absurd (cc)
    mapped f (Some x) y d is = cc

    behind : (p : Program) (w : World) (s : Seen) → IsWorldOf p w v s → option_map_or (spelled p) (slice_get w.packets k) [] ≡ bytes.items
    behind p w s is = mapped (spelled p) (slice_get w.packets k) bytes.items [] (sym (slice_get-map (spelled p) w.packets k) ∙ ap (λ l. slice_get l k) (sym is.packets) ∙ at)

-- a packet of a world, by what it keeps
pub packet_at : (w : Inside) (v : WorldState) (k : ℕ) (o : Option (Bytes ℕ)) → state_of w ≡ v → slice_get w.packets.items k ≡ o → slice_get v.packets k ≡ option_map (λ (bytes : Bytes ℕ). bytes.items) o
packet_at w v k o view at =
    ap (λ (u : WorldState). slice_get u.packets k) (sym view) ∙ slice_get-map (λ (bytes : Bytes ℕ). bytes.items) w.packets.items k ∙ ap (option_map (λ (bytes : Bytes ℕ). bytes.items)) at
