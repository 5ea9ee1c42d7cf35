-- A step leads from a world of one causal log to another.
use Rattle.std.proofs.Common.{◌≡◌, ◌≢◌, ℕ, zero, suc, ◌<◌, ◌≤◌, Bool, true, false, List, [], ◌∷◌, ◌++◌, Option, Some, None, refl, sym, ap, ◌∙◌, subst, arith, inl, inr}
use Rattle.std.proofs.lemmas.Bool.Decides.{nat_tests}
use Rattle.std.specs.Option.{option_map_or}
use Rattle.std.specs.Prelude.{◌==◌, not, if◌then◌else◌, nat_lt, option_map, slice_get}
use mathlib.Core.Bool.{true≢false}
use Rattle.re_terms.specs.declared.command.Command.{Command}
use Rattle.re_terms.specs.declared.command.Command.TheVariants as command
use Rattle.re_terms.specs.declared.program.Program.{Program}
use Rattle.re_terms.specs.Admission.{IsCommandOf, device_count}
use Rattle.re_terms.specs.CausalWorlds.{IsCausalWorld}
use Rattle.re_terms.specs.DeviceWorlds.{World, Outcome, Fine, Memory, Failed, BadStore, OtherProgram, apply, counted, done_world, doubt, entries_of, failed_world, fared_world, is_down, outcome_of, put_down, put_up, record_of, recovered, refusal, settle, settled_taken, start_world, with_at, world_after}
use Rattle.re_terms.specs.Entries.{PlainEntry, Merge, run_taken, run_updates, turn_entry}
use Rattle.re_terms.specs.Parts.{IsPart, AreParts, AllFit}
use Rattle.re_terms.specs.Runs.{PlainState}
use Rattle.re_terms.specs.TakenIn.{IsTakenIn}
use Rattle.re_terms.specs.Updates.{Update, IsCausalLog, IsIn}
use Rattle.re_terms.specs.Worlds.{PlainAnswer}
use Rattle.re_terms.proofs.Growing.{all_append, all_grown, entries_own, entries_taken, part_of, parts_grown, parts_more, run_taken-append, taken_grown}
use Rattle.re_terms.proofs.Logs.{IsIn-cases}
use Rattle.re_terms.proofs.WorldSteps.{has_device, some_none, with_at-other, with_at-same}

-- a device is this one or another
each_of : (P : ℕ → Type 0) (d x : ℕ) → P d → ((x == d) ≡ false → P x) → P x
each_of P d x here elsewhere = elim (x == d) as (λ b. (x == d) ≡ b → P x) [
  | true ↦ λ e. subst P (same e) here
  | false ↦ λ e. elsewhere e
] refl
  where
    same : (x == d) ≡ true → d ≡ x
    same e = grind (arith, nat_tests)

apart : (x d : ℕ) → (x == d) ≡ false → x ≢ d
apart x d e same = absurd (grind (arith, nat_tests))

pub started : (p : Program) (base : ℕ → PlainState) (base_number : ℕ → ℕ) (log : List Update) → device_count p.decls.items ≤ 16 → IsCausalLog log
    → ((u : Update) → IsIn u log → u.dot.device < device_count p.decls.items) → ((d : ℕ) → d < device_count p.decls.items → IsTakenIn log d (base d).taken)
    → IsCausalWorld (device_count p.decls.items) (start_world p base base_number log)
started p base base_number log few causal of_devices taken_in = record {
  few = few;
  causal = causal;
  of_devices = of_devices;
  taken_in = taken_in;
  packets = tt;
  unsettled = λ d. tt;
  in_doubt = λ d. tt;
  ups = λ d e. below d (device_count p.decls.items) e;
  stops = λ d at e. absurd (some_none at (sym e));
  downs = λ d e. refl;
  settles = λ d e s. refl;
}
  where
    below : (d n : ℕ) → nat_lt d n ≡ true → d < n
    below d n e = grind (arith, nat_tests)

part_at : (log : List Update) (packets : List (List Update)) (k : ℕ) (us : List Update) → AreParts log packets → slice_get packets k ≡ Some us → IsPart log us
part_at log [] k us parts e = absurd (some_none us (sym e))
part_at log (x ∷ packets) zero us parts e = subst (IsPart log) (some_is e) parts.0
  where
    some_is : Some x ≡ Some us → x ≡ us
    some_is h = cc
part_at log (x ∷ packets) (suc k) us parts e = part_at log packets k us parts.1 e

module _ (n : ℕ) (w : World) (world : IsCausalWorld n w) where
  counted_causal : (d : ℕ) → IsCausalWorld n (counted w d)
  counted_causal d = record {
    few = world.few;
    causal = world.causal;
    of_devices = world.of_devices;
    taken_in = world.taken_in;
    packets = world.packets;
    unsettled = world.unsettled;
    in_doubt = world.in_doubt;
    ups = world.ups;
    stops = world.stops;
    downs = world.downs;
    settles = world.settles;
  }

  module _ (d : ℕ) (there : d < n) (entries : List PlainEntry) (fit : AllFit w.log entries) where
    made : List Update
    made = run_updates d (settled_taken w d) entries

    new : World
    new = settle w d entries

    all : IsTakenIn (w.log ++ made) d (run_taken d (settled_taken w d) entries)
    unfolding made
    all = entries_taken w.log (settled_taken w d) d entries (world.taken_in d there) fit

    taken_here : settled_taken new d ≡ run_taken d (settled_taken w d) entries
    unfolding new
    taken_here = ap (run_taken d (w.base d).taken) (with_at-same d (w.settled d ++ entries) w.settled) ∙ run_taken-append d (w.base d).taken (w.settled d) entries

    pub settled_causal : IsCausalWorld n (settle w d entries)
    unfolding made new
    settled_causal = record {
      few = world.few;
      causal = all.causal;
      of_devices = λ u h. elim (IsIn-cases u w.log made h) [
        | inl a ↦ world.of_devices u a
        | inr b ↦ subst (λ x. x < n) (sym (entries_own (settled_taken w d) d entries u b)) there
      ];
      taken_in = λ x lo. each_of (λ y. y < n → IsTakenIn (w.log ++ made) y (settled_taken new y)) d x
          (λ _. subst (IsTakenIn (w.log ++ made) d) (sym taken_here) all)
          (λ other inside. subst (IsTakenIn (w.log ++ made) x) (sym (ap (run_taken x (w.base x).taken) (with_at-other d (w.settled d ++ entries) w.settled x other)))
          (taken_grown w.log made (settled_taken w x) x all.causal (λ u h k. apart x d other (sym k ∙ entries_own (settled_taken w d) d entries u h)) (world.taken_in x inside)))
          lo;
      packets = parts_grown w.log made w.packets all.causal world.packets;
      unsettled = λ x. each_of (λ y. AllFit (w.log ++ made) (with_at d [] w.unsettled y)) d x
          (subst (AllFit (w.log ++ made)) (sym (with_at-same d [] w.unsettled)) tt)
          (λ other. subst (AllFit (w.log ++ made)) (sym (with_at-other d [] w.unsettled x other)) (all_grown w.log made all.causal (w.unsettled x) (world.unsettled x)));
      in_doubt = λ x. all_grown w.log made all.causal (w.in_doubt x) (world.in_doubt x);
      ups = world.ups;
      stops = world.stops;
      downs = λ x. each_of (λ y. w.up y ≡ false → with_at d [] w.unsettled y ≡ []) d x
          (λ _. with_at-same d [] w.unsettled)
          (λ other e. with_at-other d [] w.unsettled x other ∙ world.downs x e);
      settles = world.settles;
    }

  doubt_causal : (d : ℕ) (entries : List PlainEntry) (at : ℕ) (gate_open : Bool) → w.up d ≡ true → AllFit w.log entries → IsCausalWorld n (doubt w d entries at gate_open)
  doubt_causal d entries at gate_open up fit = record {
    few = world.few;
    causal = world.causal;
    of_devices = world.of_devices;
    taken_in = world.taken_in;
    packets = world.packets;
    unsettled = world.unsettled;
    in_doubt = λ x. each_of (λ y. AllFit w.log (with_at d entries w.in_doubt y)) d x
        (subst (AllFit w.log) (sym (with_at-same d entries w.in_doubt)) fit)
        (λ other. subst (AllFit w.log) (sym (with_at-other d entries w.in_doubt x other)) (world.in_doubt x));
    ups = world.ups;
    stops = λ x k. each_of (λ y. with_at d (Some at) w.stop y ≡ Some k → w.up y ≡ true) d x
        (λ _. up)
        (λ other e. world.stops x k (sym (with_at-other d (Some at) w.stop x other) ∙ e));
    downs = world.downs;
    settles = λ x. each_of (λ y. w.up y ≡ true → with_at d (Some at) w.stop y ≡ None → with_at d entries w.in_doubt y ≡ []) d x
        (λ e s. absurd (some_none at (sym (with_at-same d (Some at) w.stop) ∙ s)))
        (λ other e s. with_at-other d entries w.in_doubt x other ∙ world.settles x e (sym (with_at-other d (Some at) w.stop x other) ∙ s));
  }

  apply_causal : (d : ℕ) (e : PlainEntry) → w.up d ≡ true → AllFit w.log (e ∷ []) → IsCausalWorld n (apply w d e)
  apply_causal d e up fit = record {
    few = world.few;
    causal = world.causal;
    of_devices = world.of_devices;
    taken_in = world.taken_in;
    packets = world.packets;
    unsettled = λ x. each_of (λ y. AllFit w.log (with_at d (w.unsettled d ++ e ∷ []) w.unsettled y)) d x
        (subst (AllFit w.log) (sym (with_at-same d (w.unsettled d ++ e ∷ []) w.unsettled)) (all_append w.log (w.unsettled d) (e ∷ []) (world.unsettled d) fit))
        (λ other. subst (AllFit w.log) (sym (with_at-other d (w.unsettled d ++ e ∷ []) w.unsettled x other)) (world.unsettled x));
    in_doubt = world.in_doubt;
    ups = world.ups;
    stops = world.stops;
    downs = λ x. each_of (λ y. w.up y ≡ false → with_at d (w.unsettled d ++ e ∷ []) w.unsettled y ≡ []) d x
        (λ h. absurd (true≢false (sym up ∙ h)))
        (λ other h. with_at-other d (w.unsettled d ++ e ∷ []) w.unsettled x other ∙ world.downs x h);
    settles = world.settles;
  }

  down_causal : (d : ℕ) → IsCausalWorld n (put_down w d)
  down_causal d = record {
    few = world.few;
    causal = world.causal;
    of_devices = world.of_devices;
    taken_in = world.taken_in;
    packets = world.packets;
    unsettled = λ x. each_of (λ y. AllFit w.log (with_at d [] w.unsettled y)) d x
        (subst (AllFit w.log) (sym (with_at-same d [] w.unsettled)) tt)
        (λ other. subst (AllFit w.log) (sym (with_at-other d [] w.unsettled x other)) (world.unsettled x));
    in_doubt = world.in_doubt;
    ups = λ x. each_of (λ y. with_at d false w.up y ≡ true → y < n) d x
        (λ e. absurd (true≢false (sym e ∙ with_at-same d false w.up)))
        (λ other e. world.ups x (sym (with_at-other d false w.up x other) ∙ e));
    stops = λ x k. each_of (λ y. with_at d None w.stop y ≡ Some k → with_at d false w.up y ≡ true) d x
        (λ e. absurd (some_none k (sym e ∙ with_at-same d None w.stop)))
        (λ other e. with_at-other d false w.up x other ∙ world.stops x k (sym (with_at-other d None w.stop x other) ∙ e));
    downs = λ x. each_of (λ y. with_at d false w.up y ≡ false → with_at d [] w.unsettled y ≡ []) d x
        (λ _. with_at-same d [] w.unsettled)
        (λ other e. with_at-other d [] w.unsettled x other ∙ world.downs x (sym (with_at-other d false w.up x other) ∙ e));
    settles = λ x. each_of (λ y. with_at d false w.up y ≡ true → with_at d None w.stop y ≡ None → w.in_doubt y ≡ []) d x
        (λ e s. absurd (true≢false (sym e ∙ with_at-same d false w.up)))
        (λ other e s. world.settles x (sym (with_at-other d false w.up x other) ∙ e) (sym (with_at-other d None w.stop x other) ∙ s));
  }

  sent_causal : (us : List Update) → IsPart w.log us → IsCausalWorld n (record w { packets = w.packets ++ us ∷ [] })
  sent_causal us part = record {
    few = world.few;
    causal = world.causal;
    of_devices = world.of_devices;
    taken_in = world.taken_in;
    packets = parts_more w.log w.packets us world.packets part;
    unsettled = world.unsettled;
    in_doubt = world.in_doubt;
    ups = world.ups;
    stops = world.stops;
    downs = world.downs;
    settles = world.settles;
  }

  recovered_fit : (d : ℕ) → AllFit w.log (recovered w d)
  recovered_fit d = by_reads (w.reads d)
    where
      by_reads : (b : Bool) → AllFit w.log (if b then w.in_doubt d else [])
      by_reads true = world.in_doubt d
      by_reads false = tt

  merge_fit : (k : ℕ) → AllFit w.log (entries_of (option_map Merge (slice_get w.packets k)))
  merge_fit k = by_packet (slice_get w.packets k) refl
    where
      by_packet : (o : Option (List Update)) → slice_get w.packets k ≡ o → AllFit w.log (entries_of (option_map Merge o))
      by_packet None e = tt
      by_packet (Some us) e = (part_at w.log w.packets k us world.packets e, tt)

-- an opened device
raised_causal : (n : ℕ) (v : World) → IsCausalWorld n v → (d : ℕ) → d < n → v.unsettled d ≡ [] → IsCausalWorld n (record v { in_doubt = with_at d [] v.in_doubt; count = with_at d 0 v.count; up = with_at d true v.up })
raised_causal n v world d there none = record {
  few = world.few;
  causal = world.causal;
  of_devices = world.of_devices;
  taken_in = world.taken_in;
  packets = world.packets;
  unsettled = world.unsettled;
  in_doubt = λ x. each_of (λ y. AllFit v.log (with_at d [] v.in_doubt y)) d x
      (subst (AllFit v.log) (sym (with_at-same d [] v.in_doubt)) tt)
      (λ other. subst (AllFit v.log) (sym (with_at-other d [] v.in_doubt x other)) (world.in_doubt x));
  ups = λ x. each_of (λ y. with_at d true v.up y ≡ true → y < n) d x
      (λ _. there)
      (λ other e. world.ups x (sym (with_at-other d true v.up x other) ∙ e));
  stops = λ x k. each_of (λ y. v.stop y ≡ Some k → with_at d true v.up y ≡ true) d x
      (λ _. with_at-same d true v.up)
      (λ other e. with_at-other d true v.up x other ∙ world.stops x k e);
  downs = λ x. each_of (λ y. with_at d true v.up y ≡ false → v.unsettled y ≡ []) d x
      (λ _. none)
      (λ other e. world.downs x (sym (with_at-other d true v.up x other) ∙ e));
  settles = λ x. each_of (λ y. with_at d true v.up y ≡ true → v.stop y ≡ None → with_at d [] v.in_doubt y ≡ []) d x
      (λ e s. with_at-same d [] v.in_doubt)
      (λ other e s. with_at-other d [] v.in_doubt x other ∙ world.settles x (sym (with_at-other d true v.up x other) ∙ e) s);
}

module _ (n : ℕ) (w : World) (world : IsCausalWorld n w) where
  up_causal : (d : ℕ) → d < n → IsCausalWorld n (put_up w d)
  up_causal d there =
      raised_causal n (settle w d (recovered w d)) (settled_causal n w world d there (recovered w d) (recovered_fit n w world d)) d there (with_at-same d [] w.unsettled)

  committed_causal : (d : ℕ) (entries : List PlainEntry) → d < n → AllFit w.log entries → IsCausalWorld n (counted (settle w d entries) d)
  committed_causal d entries there fit = counted_causal n (settle w d entries) (settled_causal n w world d there entries fit) d

  -- the record of a merge, and of a turn
  turn_fit : (d : ℕ) (e : PlainEntry) → AllFit w.log (e ∷ []) → AllFit w.log (w.unsettled d ++ e ∷ [])
  turn_fit d e fit = all_append w.log (w.unsettled d) (e ∷ []) (world.unsettled d) fit

  deliver_fit : (k d : ℕ) → AllFit w.log (record_of w (command.Deliver k d))
  deliver_fit k d = all_append w.log (w.unsettled d) (entries_of (option_map Merge (slice_get w.packets k))) (world.unsettled d) (merge_fit n w world k)

  is_up : (d : ℕ) → not (w.up d) ≡ false → w.up d ≡ true
  is_up d = by_up (w.up d)
    where
      by_up : (b : Bool) → not b ≡ false → b ≡ true
      by_up true e = refl
      by_up false e = absurd (true≢false e)

  module _ (p : Program) (small : n ≡ device_count p.decls.items) where
    done_causal : (c : Command) → IsCommandOf p c → is_down w c ≡ false → IsCausalWorld n (done_world w c)
    done_causal (command.Turn d t) of up = committed_causal d _ (world.ups d (is_up d up)) (turn_fit d (turn_entry t) (tt, tt))
    done_causal (command.Lazy d t) of up = apply_causal n w world d (turn_entry t) (is_up d up) (tt, tt)
    done_causal (command.Settle d) of up = settled_causal n w world d (world.ups d (is_up d up)) (w.unsettled d) (world.unsettled d)
    done_causal (command.Get d id) of up = world
    done_causal (command.Send d) of up = sent_causal n w world (settled_taken w d) (part_of w.log (settled_taken w d) d (world.taken_in d (world.ups d (is_up d up))))
    done_causal (command.Deliver k d) of up = committed_causal d _ (world.ups d (is_up d up)) (deliver_fit k d)
    done_causal (command.Hex k) of up = world
    done_causal (command.Crash d) of up = down_causal n w world d
    done_causal (command.Restart d) of up = up_causal d (subst (λ m. d < m) (sym small) of)

    failed_causal : (c : Command) (at : ℕ) (gate_open : Bool) → is_down w c ≡ false → IsCausalWorld n (failed_world w c at gate_open)
    failed_causal (command.Turn d t) at gate_open up = doubt_causal n w world d _ at gate_open (is_up d up) (turn_fit d (turn_entry t) (tt, tt))
    failed_causal (command.Lazy d t) at gate_open up = world
    failed_causal (command.Settle d) at gate_open up = doubt_causal n w world d (w.unsettled d) at gate_open (is_up d up) (world.unsettled d)
    failed_causal (command.Get d id) at gate_open up = world
    failed_causal (command.Send d) at gate_open up = world
    failed_causal (command.Deliver k d) at gate_open up = doubt_causal n w world d _ at gate_open (is_up d up) (deliver_fit k d)
    failed_causal (command.Hex k) at gate_open up = world
    failed_causal (command.Crash d) at gate_open up = world
    failed_causal (command.Restart d) at gate_open up = world

    fared_causal : (c : Command) (o : Outcome) → IsCommandOf p c → is_down w c ≡ false → IsCausalWorld n (fared_world w c o)
    fared_causal c Fine of up = done_causal c of up
    fared_causal c Memory of up = world
    fared_causal c (Failed at gate_open) of up = failed_causal c at gate_open up
    fared_causal c (BadStore file place) of up = world
    fared_causal c OtherProgram of up = world

pub stepped : (p : Program) (w : World) (c : Command) (o : Outcome) → IsCommandOf p c → IsCausalWorld (device_count p.decls.items) w → IsCausalWorld (device_count p.decls.items) (world_after p w c o)
stepped p w c o of world = by_refusal (refusal p w c) refl
  where
    by_refusal : (r : Option PlainAnswer) → refusal p w c ≡ r → IsCausalWorld (device_count p.decls.items) (option_map_or (λ refused. w) r (fared_world w c (outcome_of w c o)))
    by_refusal None e = fared_causal (device_count p.decls.items) w world p refl c (outcome_of w c o) of (has_device p w c e)
    by_refusal (Some a) e = world
