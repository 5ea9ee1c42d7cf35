-- A packet of the world, as its bytes are read.
use Rattle.std.proofs.Common.{◌≡◌, ◌<◌, ◌≤◌, ◌∷◌, [], ℕ, zero, suc, List, Some, None, length, refl, sym, ap, subst, ◌∙◌, arith}
use Rattle.std.specs.Prelude.{◌^◌, true, false, map, nat_le, slice_get}
use Rattle.std.specs.List.{All}
use Rattle.std.proofs.lemmas.Bool.Decides.{nat_tests}
use Rattle.std.proofs.lemmas.List.{length-map}
use Rattle.std.proofs.lemmas.List.Elements.{All-head, All-tail}
use Rattle.std.proofs.lemmas.Option.{slice_get_within}
use Rattle.re_device.specs.Device.{DeviceState, current}
use Rattle.re_device.specs.Stepping.{IsPacketOf}
use Rattle.re_outside.specs.Listed.{Listed}
use Rattle.re_outside.specs.Outside.{Seen}
use Rattle.re_terms.proofs.Growing.{entries_taken, part_grown}
use Rattle.re_terms.proofs.ProgramShapes.{program_shape}
use Rattle.re_terms.proofs.StateLengths.{packet_long}
use Rattle.re_terms.specs.Admission.{device_count}
use Rattle.re_terms.specs.DeviceWorlds.{World, settled_taken, spelled}
use Rattle.re_terms.specs.Entries.{run_updates}
use Rattle.re_terms.specs.Programs.{IsProgram}
use Rattle.re_terms.specs.Shapes.{FitsShape, shape_of}
use Rattle.re_terms.specs.Spellings.{packet_bytes}
use Rattle.re_terms.specs.UpdateStates.{join_states, state_of_updates}
use Rattle.re_terms.specs.Updates.{Update}
use Rattle.re_terms.specs.declared.command.Command.TheVariants as command
use Rattle.re_terms.specs.declared.program.Program.{Program}
use Rattle.re_terms.specs.declared.replicated.RState.{RState}
use Rattle.re_world.proofs.Within.{part_at}
use Rattle.re_world.specs.Causes.{Merges}
use Rattle.re_world.specs.FileSteps.{IsPacketState}
use Rattle.re_world.specs.Standing.{IsWorldOf}
use Rattle.re_world.specs.State.{IsKept, IsPacket, WorldState, state_of}
use Rattle.re_world.specs.declared.world.World.TheInside.{Inside}

-- what stands in a mapped list stands for one of the list
pub mapped_at : {X Y : Type 0} (f : X → Y) (xs : List X) (k : ℕ) (y : Y) → slice_get (map f xs) k ≡ Some y → (x : X) × (slice_get xs k ≡ Some x) × (y ≡ f x)
mapped_at f [] k y e = absurd (cc)
mapped_at f (x ∷ xs) zero y e = (x, refl, same e)
  where
    same : Some (f x) ≡ Some y → y ≡ f x
    same h = cc
mapped_at f (x ∷ xs) (suc k) y e = mapped_at f xs k y e

-- what all have, the one at a place has
pub all_at : {X : Type 0} (P : X → Type 0) (xs : List X) (k : ℕ) (x : X) → All P xs → slice_get xs k ≡ Some x → P x
all_at P [] k x all e = absurd (cc)
all_at P (y ∷ xs) zero x all e = subst P (same e) (All-head P y xs all)
  where
    same : Some y ≡ Some x → y ≡ x
    same h = cc
all_at P (y ∷ xs) (suc k) x all e = all_at P xs k x (All-tail P y xs all) e

-- a state with the bytes of a packet is that packet's, for the device that it is delivered to
pub packet_of : (p : Program) (w : World) (v : WorldState) (s : Seen) (x : DeviceState) (k : ℕ) (bytes : List ℕ) (state : RState) → IsWorldOf p w v s → x.memory.device < device_count p.decls.items → slice_get v.packets k ≡ Some bytes
    → ((r : RState) → FitsShape (shape_of p) r → bytes ≡ packet_bytes (shape_of p).devices r → state ≡ r) → IsPacketOf x k state p w
packet_of p w v s x k bytes state is below at only =
    let d = x.memory.device in
    let found : (us : List Update) × (slice_get w.packets k ≡ Some us) × (bytes ≡ spelled p us) = mapped_at (spelled p) w.packets k bytes (subst (λ l. slice_get l k ≡ Some bytes) is.packets at) in
    let us = found.0 in
    record {
      packet = us;
      listed = found.1;
      part = part_grown w.log (run_updates d (settled_taken w d) (w.unsettled d)) us (entries_taken w.log (settled_taken w d) d (w.unsettled d) (is.causal.taken_in d below) (is.causal.unsettled d)).causal (part_at w.log w.packets k us is.causal.packets found.1);
      joins = ap (join_states (current x.memory).state.rep) (only (state_of_updates (shape_of p) us) (all_at (λ us. FitsShape (shape_of p) (state_of_updates (shape_of p) us)) w.packets k us is.fit found.1) found.2);
    }

-- a state that is all that has a packet's bytes is the packet's
pub packet_state : (v : WorldState) (k : ℕ) (bytes : List ℕ) (state : RState) → slice_get v.packets k ≡ Some bytes → IsPacket v.program bytes → ((r : RState) → FitsShape (shape_of v.program) r → bytes ≡ packet_bytes (shape_of v.program).devices r → state ≡ r) → IsPacketState v k state
packet_state v k bytes state at packet only =
    let same = only packet.0 packet.1 packet.2 in
    record {
      fits = subst (FitsShape (shape_of v.program)) (sym same) packet.1;
      bytes = at ∙ ap Some (packet.2 ∙ ap (packet_bytes (shape_of v.program).devices) (sym same));
    }

-- ---- the packets as they are kept

-- as many packets are seen as are kept
module _ (v : WorldState) (kept : List (Listed ℕ)) (same : v.packets ≡ map (λ (bytes : Listed ℕ). bytes.items) kept) where
  seen_count : length v.packets ≡ length kept
  seen_count = ap (λ (l : List (List ℕ)). length l) same ∙ length-map kept (λ (bytes : Listed ℕ). bytes.items)

  pub none_seen : (k : ℕ) → slice_get kept k ≡ None → nat_le (length v.packets) k ≡ true
  none_seen k none = let count = seen_count in let past = none_past kept k none in reached (length v.packets) (omega (arith, count, past))
    where
      none_past : {X : Type 0} (xs : List X) (i : ℕ) → slice_get xs i ≡ None → length xs ≤ i
      none_past [] i e = omega arith
      none_past (x ∷ xs) zero e = absurd (some_none x e)
        where
          some_none : {X : Type 0} (x : X) → Some x ≡ None → ⊥
          some_none x h = cc
      none_past (x ∷ xs) (suc i) e = let rest = none_past xs i e in omega (arith, rest)

      reached : (n : ℕ) → n ≤ k → nat_le n k ≡ true
      reached n h = grind (arith, nat_tests)

  pub one_below : (k : ℕ) (bytes : Listed ℕ) → slice_get kept k ≡ Some bytes → k < length v.packets
  one_below k bytes at = let count = seen_count in let within = slice_get_within kept k bytes at in omega (arith, count, within)

  pub one_seen : (k : ℕ) (bytes : Listed ℕ) → slice_get kept k ≡ Some bytes → nat_le (length v.packets) k ≡ false
  one_seen k bytes at = missed (length v.packets) (one_below k bytes at)
    where
      missed : (n : ℕ) → k < n → nat_le n k ≡ false
      missed n h = grind (arith, nat_tests)

-- a world has as many
module _ (p : Program) (w : World) (v : WorldState) (s : Seen) (is : IsWorldOf p w v s) (kept : List (Listed ℕ)) (same : v.packets ≡ map (λ (bytes : Listed ℕ). bytes.items) kept) where
  world_count : length v.packets ≡ length w.packets
  world_count = ap (λ (l : List (List ℕ)). length l) is.packets ∙ length-map w.packets (spelled p)

  -- there is no packet with this number
  pub none_there : (k : ℕ) → slice_get kept k ≡ None → nat_le (length w.packets) k ≡ true
  none_there k none = ap (λ n. nat_le n k) (sym world_count) ∙ none_seen v kept same k none

  -- there is one
  pub one_there : (k : ℕ) (bytes : Listed ℕ) → slice_get kept k ≡ Some bytes → nat_le (length w.packets) k ≡ false
  one_there k bytes at = ap (λ n. nat_le n k) (sym world_count) ∙ one_seen v kept same k bytes at

-- the bytes of a packet that is kept
pub kept_at : (v : WorldState) (kept : List (Listed ℕ)) (k : ℕ) (bytes : Listed ℕ) → v.packets ≡ map (λ (b : Listed ℕ). b.items) kept → slice_get kept k ≡ Some bytes → slice_get v.packets k ≡ Some bytes.items
kept_at v kept k bytes same at = ap (λ l. slice_get l k) same ∙ through kept k at
  where
    through : (xs : List (Listed ℕ)) (i : ℕ) → slice_get xs i ≡ Some bytes → slice_get (map (λ (b : Listed ℕ). b.items) xs) i ≡ Some bytes.items
    through [] i e = absurd (cc)
    through (x ∷ xs) zero e = ap (λ (y : Listed ℕ). Some y.items) (some_is e)
      where
        some_is : Some x ≡ Some bytes → x ≡ bytes
        some_is h = cc
    through (x ∷ xs) (suc i) e = through xs i e

-- a packet that is kept has a state
pub kept_state : (w : Inside) (v : WorldState) (k d : ℕ) (bytes : Listed ℕ) → state_of w ≡ v → IsKept w → slice_get w.packets.items k ≡ Some bytes → (state : RState) × Merges v (command.Deliver k d) state
kept_state w v k d bytes view kept at =
    let own = kept_at (state_of w) w.packets.items k bytes refl at in
    let packet : IsPacket w.program bytes.items = all_at (IsPacket w.program) (state_of w).packets k bytes.items kept.packets own in
    subst (λ u. (state : RState) × Merges u (command.Deliver k d) state) view (packet.0, λ below. record { fits = packet.1; bytes = own ∙ ap Some packet.2 })

-- they are short
pub packet_short : (p : Program) (bytes : List ℕ) → IsProgram p → IsPacket p bytes → length bytes < 2 ^ 32
packet_short p bytes is packet = let long = packet_long (shape_of p) packet.0 (program_shape p is) packet.1 in let same = ap (λ (l : List ℕ). length l) packet.2 in omega (arith, long, same)
