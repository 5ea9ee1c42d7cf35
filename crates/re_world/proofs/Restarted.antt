-- A restart is a step of the world.
use Rattle.std.proofs.Common.{◌≡◌, ◌⊎◌, inl, inr, ◌<◌, ◌+◌, ◌++◌, ◌∷◌, [], ℕ, List, Option, Some, None, length, refl, sym, ap, subst, ◌∙◌, arith}
use Rattle.std.specs.Prelude.{Bool, false, true, ◌==◌, ◌≢◌, if◌then◌else◌}
use Rattle.std.proofs.lemmas.List.{append-nil, length-append}
use mathlib.Core.Bool.{true≢false}
use Rattle.re_device.proofs.Opening.{opened_device}
use Rattle.re_device.specs.Device.{DeviceMemory, DeviceState, opened_at}
use Rattle.re_device.specs.Standing.{StandsSettled}
use Rattle.re_device.specs.Stepping.{IsDeviceOf, WasOpenedAt}
use Rattle.re_outside.proofs.Elsewhere as elsewhere
use Rattle.re_outside.proofs.Moments.{at_end}
use Rattle.re_outside.specs.Moment.{IsKept, Throughout}
use Rattle.re_outside.specs.Outside.{Seen, content_in}
use Rattle.re_outside.specs.Port.{past_in}
use Rattle.re_outside.specs.Trace.{IsCrashImageOf, Past, as_device, content_of}
use Rattle.re_record.proofs.StoreLaws.{one_opening}
use Rattle.re_record.specs.Restoring.{Opened, unopened}
use Rattle.re_record.specs.Stores.{Blank, OpensTo}
use Rattle.re_restore.specs.Opening.{StillOpens}
use Rattle.re_terms.proofs.CausalSteps.{stepped}
use Rattle.re_terms.proofs.WorldSteps.{others_kept, untouched_same, with_at-same}
use Rattle.re_terms.specs.Admission.{device_count}
use Rattle.re_terms.specs.CausalWorlds.{IsCausalWorld}
use Rattle.re_terms.specs.DeviceWorlds.{Outcome, World, put_up, recovered, settled_number, world_after}
use Rattle.re_terms.specs.Entries.{PlainEntry, run_entries}
use Rattle.re_terms.specs.Lines.{entry_under_way, first_filled}
use Rattle.re_terms.specs.Programs.{IsProgram}
use Rattle.re_terms.specs.Runs.{StandsForPlain}
use Rattle.re_terms.specs.Untouched.{IsUntouched}
use Rattle.re_terms.specs.declared.command.Command.TheVariants as command
use Rattle.re_terms.specs.declared.program.Program.{Program}
use Rattle.re_world.proofs.Committed.{standing_rests}
use Rattle.re_world.proofs.Stepped.{world_behind}
use Rattle.re_world.proofs.Within.{some_in_doubt, within_moves}
use Rattle.re_world.specs.Images.{MayHold, OpensAfter}
use Rattle.re_world.specs.Opening.{IsOpened}
use Rattle.re_world.specs.Standing.{HasDevice, IsWorldOf, RestsAs}
use Rattle.re_world.specs.State.{WorldState, device_in}
use Rattle.re_world.specs.Stepping.{RestoresWithin}

-- where what is read holds what is in doubt or doesn't, it is the settled entries, or these and those in doubt
held_either : (b : Bool) (xs ys : List PlainEntry) (P : List PlainEntry → Type 0) → P (xs ++ (if b then ys else [])) → P xs ⊎ P (xs ++ ys)
held_either true xs ys P holds = inr holds
held_either false xs ys P holds = inl (subst P (append-nil xs) holds)

module _ (p : Program) (w : World) (v : WorldState) (n : ℕ) (before now : Seen) (is_program : IsProgram p) (is : IsWorldOf p w v before) (below : n < device_count p.decls.items) (down : w.up n ≡ false)
    (moments : Throughout (past_in n before) (past_in n now) (StillOpens p n (past_in n before)))
    (read_same : (o : Opened) → OpensTo p n (content_in before n 0) (content_in before n 1) o → OpensTo p n (content_in now n 0) (content_in now n 1) o) where
  abbrev old_past : Past
  old_past = past_in n before

  abbrev new_past : Past
  new_past = past_in n now

  rests : RestsAs p w n old_past
  rests = is.files n below

  small : n < 256
  small = let few = is_program.devices in omega (arith, below, few)

  kept : (e f : ℕ) → e ≢ n → IsKept e f (past_in 0 before) (past_in 0 now)
  kept e f other = let k = elsewhere.kept_on e f old_past new_past moments.goes_on (at_end old_past new_past _ moments).others other in record { content = k.content; images = k.images }

  -- files that open to what the files opened to as they read
  reads_after : (first second : List ℕ) (o : Opened) → OpensTo p n (content_in before n 0) (content_in before n 1) o → OpensTo p n first second o → OpensAfter p w n first second (w.settled n ++ recovered w n)
  reads_after first second o read opens =
      let same = one_opening p n (content_in before n 0) (content_in before n 1) o rests.reads.opened is_program small read rests.reads.opens in
      record {
        opened = rests.reads.opened;
        opens = subst (OpensTo p n first second) same opens;
        state = rests.reads.state;
        number_is = rests.reads.number_is;
      }

  -- what a stop leaves within the opening opens to the settled entries, or to these and those in doubt
  images_rest : (m : Past) → StillOpens p n old_past m → (first second : List ℕ) → IsCrashImageOf m 0 first → IsCrashImageOf m 1 second → OpensAfter p w n first second (w.settled n) ⊎ OpensAfter p w n first second (w.settled n ++ w.in_doubt n)
  images_rest m still first second a b = elim (still.images first second a b) [
    | inl left ↦ rests.images first second left.0 left.1
    | inr blank ↦ held_either (w.reads n) (w.settled n) (w.in_doubt n) (OpensAfter p w n first second) (reads_after first second (unopened p) (Blank, blank.0, refl) blank.1)
  ]

  -- the files still rest so
  still_rest : RestsAs p w n new_past
  still_rest = record {
    images = images_rest new_past (at_end old_past new_past _ moments);
    reads = reads_after (content_in now n 0) (content_in now n 1) rests.reads.opened rests.reads.opens (read_same rests.reads.opened rests.reads.opens);
  }

  pub restart_restores : (o : Outcome) → RestoresWithin p w (command.Restart n) o before now
  restart_restores o =
      within_moves p w v (command.Restart n) o before now is n (StillOpens p n old_past) moments (λ m still. still.others)
      (λ there m still first second a b. by_doubt (w.in_doubt n) refl (images_rest (as_device n m) still first second a b))
    where
      by_doubt : {first second : List ℕ} (l : List PlainEntry) → w.in_doubt n ≡ l → OpensAfter p w n first second (w.settled n) ⊎ OpensAfter p w n first second (w.settled n ++ l) → OpensAfter p w n first second (w.settled n) ⊎ (MayHold p w (Some (record { asked = command.Restart n; outcome = o })) n × OpensAfter p w n first second (w.settled n ++ first_filled l (w.unsettled n ++ entry_under_way p w (Some (record { asked = command.Restart n; outcome = o })) n)))
      by_doubt l is (inl settled) = inl settled
      by_doubt [] is (inr held) = inl (subst (OpensAfter p w n _ _) (append-nil (w.settled n)) held)
      by_doubt (e ∷ l) is (inr held) = inr (inl (some_in_doubt (w.in_doubt n) e l is), held)

  agrees : (o : Outcome) (e : ℕ) → (e == n) ≡ false → IsUntouched e w (world_after p w (command.Restart n) o)
  agrees o e other = others_kept p w (command.Restart n) o e other

  -- refused, it leaves the world as it was
  pub unopened_world : (o : Outcome) → world_after p w (command.Restart n) o ≡ w → device_in v n ≡ None → IsWorldOf p (world_after p w (command.Restart n) o) v now
  unopened_world o same place =
      subst (λ u. IsWorldOf p u v now) (sym same)
      (world_behind p w w v v before now n is is.causal (λ e other. untouched_same e w) (λ e other. refl) kept refl is.packets is.fit (subst (λ d. HasDevice p w n d new_past) (sym place) down) still_rest)

  module _ (x : DeviceState) (opened : IsOpened p n x) (settled : OpensTo p n (content_in before n 0) (content_in before n 1) x.memory.settled) (stands : StandsSettled x new_past) (o : Outcome) (up : world_after p w (command.Restart n) o ≡ put_up w n) where
    abbrev u : World
    u = world_after p w (command.Restart n) o

    causal : IsCausalWorld (device_count p.decls.items) (put_up w n)
    causal = subst (IsCausalWorld (device_count p.decls.items)) up (stepped p w (command.Restart n) o below is.causal)

    settled_is : x.memory.settled ≡ rests.reads.opened
    settled_is = one_opening p n (content_in before n 0) (content_in before n 1) x.memory.settled rests.reads.opened is_program small settled rests.reads.opens

    at_settled : (opened_at p n opened.state opened.entry).settled ≡ rests.reads.opened
    at_settled = ap (λ (m : DeviceMemory). m.settled) (sym opened.memory) ∙ settled_is

    now_settled : (put_up w n).settled n ≡ w.settled n ++ recovered w n
    now_settled = with_at-same n (w.settled n ++ recovered w n) w.settled

    never_stopped : w.stop n ≡ None
    never_stopped = by_stop (w.stop n) refl
      where
        by_stop : (s : Option ℕ) → w.stop n ≡ s → s ≡ None
        by_stop None e = refl
        by_stop (Some at) e = absurd (true≢false (sym (is.causal.stops n at e) ∙ down))

    pub entry_is : opened.entry ≡ settled_number w n + length (recovered w n)
    entry_is =
        ap (λ (q : Opened). q.number) at_settled ∙ rests.reads.number_is ∙ counted (w.settled n) (recovered w n)
      where
        counted : (xs ys : List PlainEntry) → w.base_number n + length (xs ++ ys) ≡ w.base_number n + length xs + length ys
        counted xs ys = let all = length-append xs ys in omega (arith, all)

    was : WasOpenedAt p (put_up w n) n opened.state opened.entry
    was = record {
      up = with_at-same n true w.up;
      runs = never_stopped;
      unsettled = with_at-same n [] w.unsettled;
      count = with_at-same n 0 w.count;
      state =
          subst (StandsForPlain p opened.state) (sym (ap (run_entries p n (w.base n)) now_settled)) (record {
            words = ap (λ (q : Opened). q.state.words.items) at_settled ∙ rests.reads.state.words;
            rep = ap (λ (q : Opened). q.state.rep) at_settled ∙ rests.reads.state.rep;
          });
      number_is = ap (λ (q : Opened). q.number) at_settled ∙ rests.reads.number_is ∙ sym (ap (λ l. w.base_number n + length l) now_settled);
      taken = causal.taken_in n below;
    }

    is_device : IsDeviceOf p (put_up w n) x
    is_device =
        subst (λ (m : DeviceMemory). IsDeviceOf p (put_up w n) (record { memory = m; room = x.room; generation = x.generation; journal = x.journal })) (sym opened.memory)
        (opened_device p (put_up w n) n opened.state opened.entry x.room x.generation x.journal opened.state_is opened.running was)

    number : x.memory.device ≡ n
    number = ap (λ (m : DeviceMemory). m.device) opened.memory

    -- opened, it is the device of the world that has recovered what its files read
    pub opened_world : (v' : WorldState) → v'.program ≡ v.program → v'.packets ≡ v.packets → device_in v' n ≡ Some x → ((e : ℕ) → e ≢ n → device_in v' e ≡ device_in v e) → ((f : ℕ) → IsCrashImageOf new_past f (content_of new_past f)) → IsWorldOf p (world_after p w (command.Restart n) o) v' now
    opened_world v' program packets place others reads =
        subst (λ q. IsWorldOf p q v' now) (sym up)
        (world_behind p w (put_up w n) v v' before now n is causal (λ e other. subst (IsUntouched e w) up (agrees o e other)) others kept program (packets ∙ is.packets) is.fit
        (subst (λ d. HasDevice p (put_up w n) n d new_past) (sym place) (is_device, number, λ _. stands))
        (standing_rests p (put_up w n) x n new_past number refl causal is_device opened.running stands reads))
