-- Commands that call nothing outside and are done.
use Rattle.std.proofs.Common.{◌≡◌, inl, inr, ◌<◌, ◌++◌, [], ℕ, Some, None, refl, sym, ap, subst, ◌∙◌}
use Rattle.std.specs.Prelude.{false, not, map, ◌≢◌, ◌==◌, if◌then◌else◌, slice_set, unwrap_or}
use Rattle.std.specs.List.{All}
use Rattle.std.specs.Option.{option_map_or}
use mathlib.Core.Bool.{true≢false}
use Rattle.re_device.specs.Device.{DeviceState}
use Rattle.re_print.specs.AnswerTexts.{AscendsWhereSet}
use Rattle.re_outside.specs.Outside.{Seen}
use Rattle.re_outside.specs.Port.{past_in}
use Rattle.re_outside.specs.Trace.{Past}
use Rattle.re_terms.proofs.CausalSteps.{stepped}
use Rattle.re_terms.proofs.WorldSteps.{done_after, others_kept, with_at-same}
use Rattle.re_terms.specs.Admission.{IsCommandOf, device_count}
use Rattle.re_terms.specs.DeviceWorlds.{Fine, Outcome, World, device_of, done_answer, done_world, fared_answer, outcome_of, put_down, recovered, refusal, reply, spelled, world_after}
use Rattle.re_terms.specs.Shapes.{FitsShape, shape_of}
use Rattle.re_terms.specs.UpdateStates.{state_of_updates}
use Rattle.re_terms.specs.Worlds.{Down, plain_answer}
use Rattle.re_terms.specs.declared.command.Answer.{Answer}
use Rattle.re_terms.specs.declared.command.Answer.TheVariants as answer
use Rattle.re_terms.specs.declared.command.Command.{Command}
use Rattle.re_terms.specs.declared.command.Command.TheVariants as command
use Rattle.re_terms.specs.declared.program.Program.{Program}
use Rattle.re_world.proofs.Agreeing.{opens_in}
use Rattle.re_world.proofs.Inside.{device_has, stop_first}
use Rattle.re_world.proofs.Placed.{none_taken, place_below, place_elsewhere, place_here}
use Rattle.re_world.proofs.Caused.{any_state, caused_free, device_is, found_up}
use Rattle.re_world.proofs.Staying.{counts_still, keeps_done, keeps_still, no_store, tells_of_store}
use Rattle.re_world.proofs.Stepped.{world_behind}
use Rattle.re_world.proofs.Within.{within_still}
use Rattle.re_world.specs.Causes.{HasCause}
use Rattle.re_world.specs.FileSteps.{HasFileSteps, is_disk_refusal}
use Rattle.re_world.specs.Standing.{HasDevice, IsWorldOf, RestsAs}
use Rattle.re_world.specs.State.{WorldState, device_in}
use Rattle.re_world.specs.Stepping.{DoesInside, Keeps, Shows}
use Rattle.re_world.specs.Taking.{Takes}

-- the worlds have the same of what the files of a device hold
pub record HoldsAlike (n : ℕ) (w u : World) : Type 0 where
  pub base : u.base n ≡ w.base n
  pub base_number : u.base_number n ≡ w.base_number n
  pub settled : u.settled n ≡ w.settled n
  pub in_doubt : u.in_doubt n ≡ w.in_doubt n
  pub reads : u.reads n ≡ w.reads n

pub rests_alike : (p : Program) (w u : World) (n : ℕ) (now : Past) → HoldsAlike n w u → RestsAs p w n now → RestsAs p u n now
rests_alike p w u n now alike rests = record {
  images = λ first second a b. elim (rests.images first second a b) [
    | inl settled ↦ inl (opens_in p w u n alike.base alike.base_number first second (w.settled n) (u.settled n) alike.settled settled)
    | inr more ↦ inr (opens_in p w u n alike.base alike.base_number first second (w.settled n ++ w.in_doubt n) (u.settled n ++ u.in_doubt n) (λ i. alike.settled i ++ alike.in_doubt i) more)
  ];
  reads = opens_in p w u n alike.base alike.base_number _ _ (w.settled n ++ recovered w n) (u.settled n ++ recovered u n) (λ i. alike.settled i ++ (if alike.reads i then alike.in_doubt i else [])) rests.reads;
}

-- ---- what isn't refused

module _ (p : Program) (w : World) (c : Command) (unrefused : refusal p w c ≡ None) where
  pub replied : reply p w c Fine ≡ done_answer p w c
  replied = ap (λ r. unwrap_or r (fared_answer p w c (outcome_of w c Fine))) unrefused

-- ---- the world behind a command that is done

module _ (p : Program) (w : World) (old new : WorldState) (s : Seen) (c : Command) (n : ℕ) (is : IsWorldOf p w old s) (of : IsCommandOf p c) (below : n < device_count p.decls.items) (own : device_of c ≡ Some n) where
  -- the command for device n, where nothing outside was called: the world behind it by the device alone
  pub inside_behind : (o : Outcome) → HoldsAlike n w (world_after p w c o)
      → ((e : ℕ) → e ≢ n → device_in new e ≡ device_in old e) → new.program ≡ old.program → new.packets ≡ map (spelled p) (world_after p w c o).packets → All (λ us. FitsShape (shape_of p) (state_of_updates (shape_of p) us)) (world_after p w c o).packets
      → HasDevice p (world_after p w c o) n (device_in new n) (past_in n s) → IsWorldOf p (world_after p w c o) new s
  inside_behind o alike others program packets fit has =
      world_behind p w (world_after p w c o) old new s s n is (stepped p w c o of is.causal) (λ e apart. others_kept p w c o e (ap (λ q. option_map_or (λ m. e == m) q false) own ∙ apart)) others (λ e f other. record { content = refl; images = λ file image. image }) program packets fit has
      (rests_alike p w (world_after p w c o) n (past_in n s) alike (is.files n below))

  -- the same, where it isn't refused, by the world that it is done in
  pub done_behind : (u : World) → world_after p w c Fine ≡ u → HoldsAlike n w u → ((e : ℕ) → e ≢ n → device_in new e ≡ device_in old e) → new.program ≡ old.program → new.packets ≡ map (spelled p) u.packets → All (λ us. FitsShape (shape_of p) (state_of_updates (shape_of p) us)) u.packets
      → HasDevice p u n (device_in new n) (past_in n s) → IsWorldOf p (world_after p w c Fine) new s
  done_behind u after alike others program packets fit has =
      let back = λ (P : World → Type 0) (h : P u). subst P (sym after) h in
      inside_behind Fine (back (HoldsAlike n w) alike) others program (back (λ x. new.packets ≡ map (spelled p) x.packets) packets) (back (λ x. All (λ us. FitsShape (shape_of p) (state_of_updates (shape_of p) us)) x.packets) fit)
      (back (λ x. HasDevice p x n (device_in new n) (past_in n s)) has)

-- a command that calls nothing outside does all that a command does
pub done_does : (old new : WorldState) (c : Command) (a : Answer) → AscendsWhereSet a → is_disk_refusal (plain_answer a) ≡ false → tells_of_store (plain_answer a) ≡ false → Takes old new c (plain_answer a) → Keeps old new c (plain_answer a) → HasCause old c (plain_answer a) → ((s : Seen) → HasFileSteps old new c (plain_answer a) s s) → (o : Outcome) → ((s : Seen) → Shows old new c o s s) → ((p : Program) (w : World) (s : Seen) → IsWorldOf p w old s → plain_answer a ≡ reply p w c o) → ((p : Program) (w : World) (s : Seen) → IsWorldOf p w old s → IsWorldOf p (world_after p w c o) new s) → DoesInside old new c a
done_does old new c a ascends calm other takes keeps caused files o shows answers world tells s = record {
  keeps = keeps;
  caused = caused;
  ascends = ascends;
  counts = counts_still c (plain_answer a) s calm;
  takes = takes;
  stores = λ is. absurd (no_store (plain_answer a) other is);
  left = λ told. refl;
  files = λ told. files s;
  stepped = λ told. record {
    outcome = o;
    shows = shows s;
    answers = λ p w is. answers p w s is;
    world = λ p w is. world p w s is;
    restores = λ p w is. within_still p w old c o s s is refl;
  };
}

-- one that only tells something leaves the world
pub told_does : (v : WorldState) (c : Command) (a : Answer) → AscendsWhereSet a → is_disk_refusal (plain_answer a) ≡ false → tells_of_store (plain_answer a) ≡ false → Takes v v c (plain_answer a) → HasCause v c (plain_answer a) → ((s : Seen) → HasFileSteps v v c (plain_answer a) s s) → ((w : World) → done_world w c ≡ w) → ((p : Program) (w : World) (s : Seen) → IsWorldOf p w v s → (refusal p w c ≡ None) × (plain_answer a ≡ done_answer p w c)) → DoesInside v v c a
told_does v c a ascends calm other takes caused files same told =
    done_does v v c a ascends calm other takes (keeps_still v c (plain_answer a) calm) caused files Fine (λ s kind. refl)
    (λ p w s is. (told p w s is).1 ∙ sym (replied p w c (told p w s is).0))
    (λ p w s is. subst (λ u. IsWorldOf p u v s) (sym (done_after p w c (told p w s is).0 ∙ same w)) is)

-- ---- crashes

module _ (old : WorldState) (n : ℕ) (of : IsCommandOf old.program (command.Crash n)) where
  crash_unrefused : (p : Program) (w : World) (s : Seen) (x : DeviceState) → IsWorldOf p w old s → device_in old n ≡ Some x → refusal p w (command.Crash n) ≡ None
  crash_unrefused p w s x is place =
      let has = device_has p w old s n (Some x) is of place in
      stop_first p w (command.Crash n) refl (ap not (ap w.up (sym has.1) ∙ has.0.up)) None refl refl

  -- a device that is up is put down
  pub crash_does : (new : WorldState) (x : DeviceState) → device_in old n ≡ Some x → new ≡ record old { devices = slice_set old.devices n None } → DoesInside old new (command.Crash n) answer.Down
  crash_does new x place is_new =
      done_does old new (command.Crash n) answer.Down tt refl refl
      (record { device = n; command_is = refl; down = ap (λ (v : WorldState). device_in v n) is_new ∙ place_here old.devices n None (place_below old.devices n x place) })
      (keeps_done old new (command.Crash n) Down refl (ap (λ (v : WorldState). v.program) is_new) (λ d other. ap (λ (v : WorldState). device_in v d) is_new ∙ place_elsewhere old.devices n d None (λ same. other (ap Some (sym same)))) (λ is. absurd (true≢false (sym is))))
      (caused_free old (command.Crash n) Down (any_state old, tt) refl (λ state merges. device_is old (command.Crash n) refl state x (found_up old n x place) refl place)) (λ s. refl) Fine (λ s kind. refl)
      (λ p w s is. sym (replied p w (command.Crash n) (crash_unrefused p w s x is place)))
      (λ p w s is.
      done_behind p w old new s (command.Crash n) n is (subst (λ q. IsCommandOf q (command.Crash n)) is.program of) (subst (λ (q : Program). n < device_count q.decls.items) is.program of) refl
      (put_down w n) (done_after p w (command.Crash n) (crash_unrefused p w s x is place))
      (record { base = refl; base_number = refl; settled = refl; in_doubt = refl; reads = refl })
      (λ e other. ap (λ (v : WorldState). device_in v e) is_new ∙ place_elsewhere old.devices n e None other)
      (ap (λ (v : WorldState). v.program) is_new)
      (ap (λ (v : WorldState). v.packets) is_new ∙ is.packets) is.fit
      (subst (λ o. HasDevice p (put_down w n) n o (past_in n s)) (sym (ap (λ (v : WorldState). device_in v n) is_new ∙ place_here old.devices n None (place_below old.devices n x place))) (with_at-same n false w.up)))

-- nothing is taken of a device that is down
pub none_out : (old new : WorldState) (n : ℕ) → device_in old n ≡ None → new ≡ record old { devices = slice_set old.devices n None } → new ≡ old
none_out old new n none is = is ∙ (λ i. record { program = old.program; devices = none_taken old.devices n none i; packets = old.packets })
