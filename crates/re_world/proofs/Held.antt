-- One update log stands behind the files of all devices, by what each device's files hold.
use Rattle.std.proofs.Common.{◌≡◌, ◌⊎◌, inl, inr, ◌<◌, ◌≤◌, ◌+◌, ◌++◌, ◌∷◌, [], ℕ, zero, suc, List, Option, length, refl, sym, ap, subst, ◌∙◌, arith}
use Rattle.std.specs.Prelude.{map, take, slice_index}
use Rattle.std.specs.List.{range_with_len}
use Rattle.std.proofs.lemmas.Bool.{cases_lt}
use Rattle.std.proofs.lemmas.List.{append-nil}
use Rattle.re_terms.proofs.Logs.{IsIn-cases, IsIn-from_filter}
use Rattle.std.proofs.Math.Seq.{take-length}
use Rattle.re_record.specs.Represents.{DeviceRepresents, counts_of}
use Rattle.re_terms.proofs.Growing.{all_append, entries_follow, entries_taken, joint_count, part_grown, run_taken-append}
use Rattle.re_terms.proofs.Joint.{count-append, joint_causal, joint_closed, joint_covered}
use Rattle.re_terms.proofs.Members.{state_same}
use Rattle.re_terms.proofs.WorldEffects.{run-taken}
use Rattle.re_terms.specs.Admission.{device_count}
use Rattle.re_terms.specs.CausalWorlds.{IsCausalWorld}
use Rattle.re_terms.specs.DeviceWorlds.{World, settled_taken}
use Rattle.re_terms.specs.Entries.{PlainEntry, run_entries, run_taken}
use Rattle.re_terms.specs.JointLogs.{Further, all_of, AllFollow, Follows, IsOneOf, NoneOf}
use Rattle.re_terms.specs.Lines.{Done, entry_under_way, first_filled, further}
use Rattle.re_terms.specs.Parts.{AllFit, AreParts}
use Rattle.re_terms.specs.Shapes.{shape_of}
use Rattle.re_terms.specs.TakenIn.{IsTakenIn}
use Rattle.re_terms.specs.Updates.{Update, IsCausalLog, IsCausallyClosed, IsIn, covered, vector_of}
use Rattle.re_terms.specs.Vectors.{covers}
use Rattle.re_terms.specs.UpdateStates.{state_of_updates}
use Rattle.re_terms.specs.declared.program.Program.{Program}
use Rattle.re_terms.specs.declared.replicated.RState.{RState}
use Rattle.re_world.specs.Images.{MayHold, OpensAfter, OpensToLine, Restores, log_held, updates_held}

-- ---- entries that may come next

fit_take : (log : List Update) (n : ℕ) (entries : List PlainEntry) → AllFit log entries → AllFit log (take n entries)
fit_take log zero entries fit = tt
fit_take log (suc n) [] fit = tt
fit_take log (suc n) (e ∷ entries) fit = (fit.0, fit_take log n entries fit.1)

fit_filled : (log : List Update) (first more : List PlainEntry) → AllFit log first → AllFit log more → AllFit log (first_filled first more)
fit_filled log [] more a b = b
fit_filled log (e ∷ first) more a b = a

-- ---- lists of further updates, a list by each device

none_in : (f : ℕ → Further) → ((d : ℕ) → (f d).device ≡ d) → (a n d : ℕ) → d < a → NoneOf d (map f (range_with_len a n))
none_in f is a zero d below = tt
none_in f is a (suc n) d below = (λ e. let same = sym e ∙ is a in absurd (omega arith), none_in f is (a + 1) n d (omega arith))

follow_in : (log : List Update) (f : ℕ → Further) (a n : ℕ) → ((d : ℕ) → (f d).device ≡ d) → ((d : ℕ) → d < a + n → Follows log (f d)) → AllFollow log (map f (range_with_len a n))
follow_in log f a zero is each = tt
follow_in log f a (suc n) is each =
    (each a (omega arith), subst (λ d. NoneOf d (map f (range_with_len (a + 1) n))) (sym (is a)) (none_in f is (a + 1) n a (omega arith)), follow_in log f (a + 1) n is (λ d below. each d (omega arith)))

one_in : (f : ℕ → Further) (a n d : ℕ) → a ≤ d → d < a + n → IsOneOf (f d) (map f (range_with_len a n))
one_in f a zero d low high = absurd (omega arith)
one_in f a (suc n) d low high = elim (cases_lt a d) [
  | inl above ↦ inr (one_in f (a + 1) n d (omega arith) (omega arith))
  | inr not_above ↦ let e : a ≡ d = omega arith in inl (ap f e)
]

devices_in : (log : List Update) (bound : ℕ) (xs : List Further) → AllFollow log xs → ((x : Further) → IsOneOf x xs → x.device < bound) → (u : Update) → IsIn u (all_of xs) → u.dot.device < bound
devices_in log bound [] follow each u is = absurd is
devices_in log bound (x ∷ xs) follow each u is = elim (IsIn-cases u x.updates (all_of xs) is) [
  | inl here ↦ subst (λ d. d < bound) (sym (follow.0.own u here)) (each x (inl refl))
  | inr behind ↦ devices_in log bound xs follow.2 (λ y one. each y (inr one)) u behind
]

bounded_in : (f : ℕ → Further) → ((d : ℕ) → (f d).device ≡ d) → (bound a n : ℕ) → a + n ≤ bound → (x : Further) → IsOneOf x (map f (range_with_len a n)) → x.device < bound
bounded_in f is bound a zero within x one = absurd one
bounded_in f is bound a (suc n) within x (inl e) = subst (λ (y : Further). y.device < bound) e (let same = is a in omega arith)
bounded_in f is bound a (suc n) within x (inr one) = bounded_in f is bound (a + 1) n (omega arith) x one

-- ---- one device of a world

module _ (p : Program) (w : World) (under_way : Option Done) (causal : IsCausalWorld (device_count p.decls.items) w) (own : (d : ℕ) → AllFit w.log (entry_under_way p w under_way d)) where
  further_fits : (d : ℕ) → AllFit w.log (further p w under_way d)
  further_fits d = fit_filled w.log (w.in_doubt d) _ (causal.in_doubt d) (all_append w.log (w.unsettled d) (entry_under_way p w under_way d) (causal.unsettled d) (own d))

  module _ (more : ℕ → ℕ) where
    held_fits : (d : ℕ) → AllFit w.log (take (more d) (further p w under_way d))
    held_fits d = fit_take w.log (more d) (further p w under_way d) (further_fits d)

    abbrev lists : List Further
    lists = map (updates_held p w under_way more) (range_with_len 0 (device_count p.decls.items))

    all_follow : AllFollow w.log lists
    all_follow = follow_in w.log (updates_held p w under_way more) 0 (device_count p.decls.items) (λ d. refl) (λ d below. entries_follow w.log (settled_taken w d) d (take (more d) (further p w under_way d)) (causal.taken_in d (omega (arith, below))) (held_fits d))

    log_causal : IsCausalLog (log_held p w under_way more)
    log_causal = joint_causal w.log lists causal.causal all_follow

    parts_held : (packets : List (List Update)) → AreParts w.log packets → AreParts (log_held p w under_way more) packets
    parts_held [] are = tt
    parts_held (us ∷ packets) are = (part_grown w.log (all_of lists) us log_causal are.0, parts_held packets are.1)

    log_devices : (u : Update) → IsIn u (log_held p w under_way more) → u.dot.device < device_count p.decls.items
    log_devices u is = elim (IsIn-cases u w.log (all_of lists) is) [
      | inl before ↦ causal.of_devices u before
      | inr behind ↦ devices_in w.log (device_count p.decls.items) lists all_follow (bounded_in (updates_held p w under_way more) (λ d. refl) (device_count p.decls.items) 0 (device_count p.decls.items) (omega arith)) u behind
    ]

    module _ (d : ℕ) (below : d < device_count p.decls.items) where
      abbrev us : List Update
      us = run_taken d (settled_taken w d) (take (more d) (further p w under_way d))

      abbrev own_log : List Update
      own_log = w.log ++ (updates_held p w under_way more d).updates

      is_taken : IsTakenIn own_log d us
      is_taken = entries_taken w.log (settled_taken w d) d (take (more d) (further p w under_way d)) (causal.taken_in d below) (held_fits d)

      one : IsOneOf (updates_held p w under_way more d) lists
      one = one_in (updates_held p w under_way more) 0 (device_count p.decls.items) d (omega arith) (omega (arith, below))

      covers_same : covered (log_held p w under_way more) (vector_of us) ≡ covered own_log (vector_of us)
      covers_same = joint_covered w.log lists (updates_held p w under_way more d) (vector_of us) causal.causal all_follow one is_taken.closed

      taken_is : (run_entries p d (w.base d) (w.settled d ++ take (more d) (further p w under_way d))).taken ≡ us
      taken_is = run-taken p d (w.base d) (w.settled d ++ take (more d) (further p w under_way d)) ∙ run_taken-append d (w.base d).taken (w.settled d) (take (more d) (further p w under_way d))

      module _ (first second : List ℕ) (opens : OpensAfter p w d first second (w.settled d ++ take (more d) (further p w under_way d))) where
        rep_is : opens.opened.state.rep ≡ state_of_updates (shape_of p) us
        rep_is = opens.state.rep ∙ ap (state_of_updates (shape_of p)) taken_is

        counts_are : counts_of opens.opened ≡ vector_of us
        counts_are = ap (λ (r : RState). r.vector.counts) rep_is

        device_is : DeviceRepresents p d first second (log_held p w under_way more)
        device_is = record {
          opened = opens.opened;
          opens = opens.opens;
          rep =
              rep_is
              ∙ state_same (shape_of p) own_log us (covered own_log (vector_of us)) is_taken.causal is_taken.same (λ u is. (IsIn-from_filter (λ x. covers (vector_of us) x.dot) u own_log is).0)
              ∙ ap (state_of_updates (shape_of p)) (sym covers_same ∙ ap (covered (log_held p w under_way more)) (sym counts_are));
          closed = subst (IsCausallyClosed (log_held p w under_way more)) (sym counts_are) (joint_closed w.log lists (updates_held p w under_way more d) (vector_of us) one is_taken.closed);
          own =
              ap (λ v. slice_index v d) counts_are ∙ is_taken.own
              ∙ count-append d w.log (updates_held p w under_way more d).updates
              ∙ sym (joint_count w.log lists (updates_held p w under_way more d) all_follow one);
        }

-- ---- all devices

-- how many further entries are held, by what the files open to
abbrev held_by : {P Q : Type 0} → P ⊎ Q → ℕ → ℕ
held_by (inl a) n = 0
held_by (inr b) n = n

held_whole : {P M Q : Type 0} (c : P ⊎ (M × Q)) (n : ℕ) → (held_by c n ≡ 0) ⊎ ((held_by c n ≡ n) × M)
held_whole (inl a) n = inl refl
held_whole (inr b) n = inr (refl, b.0)

-- files that open to the line's one front or the other open to the front that is held
held_opens : {M : Type 0} (p : Program) (w : World) (d : ℕ) (first second : List ℕ) (more : List PlainEntry) (c : OpensAfter p w d first second (w.settled d) ⊎ (M × OpensAfter p w d first second (w.settled d ++ more))) → OpensAfter p w d first second (w.settled d ++ take (held_by c (length more)) more)
held_opens p w d first second more (inl a) = subst (OpensAfter p w d first second) (sym (append-nil (w.settled d))) a
held_opens p w d first second more (inr b) = subst (λ l. OpensAfter p w d first second (w.settled d ++ l)) (sym (take-length more)) b.1

pub restores : (p : Program) (w : World) (under_way : Option Done) (files : ℕ → ℕ → List ℕ) → IsCausalWorld (device_count p.decls.items) w → ((d : ℕ) → AllFit w.log (entry_under_way p w under_way d)) → ((d : ℕ) → d < device_count p.decls.items → OpensToLine p w under_way d (files d 0) (files d 1)) → Restores p w under_way files
restores p w under_way files causal own each = record {
  more = more;
  whole = whole;
  opens = opens;
  represents = record {
    causal = log_causal p w under_way causal own more;
    of_devices = log_devices p w under_way causal own more;
    each = λ d below. device_is p w under_way causal own more d below (files d 0) (files d 1) (opens d below);
  };
  packets = parts_held p w under_way causal own more w.packets causal.packets;
}
  where
    held : (d : ℕ) → (d < device_count p.decls.items) ⊎ (device_count p.decls.items ≤ d) → ℕ
    held d (inl below) = held_by (each d below) (length (further p w under_way d))
    held d (inr above) = 0

    more : ℕ → ℕ
    more d = held d (cases_lt d (device_count p.decls.items))

    whole_by : (d : ℕ) (c : (d < device_count p.decls.items) ⊎ (device_count p.decls.items ≤ d)) → (held d c ≡ 0) ⊎ ((held d c ≡ length (further p w under_way d)) × MayHold p w under_way d)
    whole_by d (inl below) = held_whole (each d below) (length (further p w under_way d))
    whole_by d (inr above) = inl refl

    whole : (d : ℕ) → d < device_count p.decls.items → (more d ≡ 0) ⊎ ((more d ≡ length (further p w under_way d)) × MayHold p w under_way d)
    whole d below = whole_by d (cases_lt d (device_count p.decls.items))

    opens_by : (d : ℕ) → d < device_count p.decls.items → (c : (d < device_count p.decls.items) ⊎ (device_count p.decls.items ≤ d)) → OpensAfter p w d (files d 0) (files d 1) (w.settled d ++ take (held d c) (further p w under_way d))
    opens_by d is (inl below) = held_opens p w d (files d 0) (files d 1) (further p w under_way d) (each d below)
    opens_by d is (inr above) = absurd (omega arith)

    opens : (d : ℕ) → d < device_count p.decls.items → OpensAfter p w d (files d 0) (files d 1) (w.settled d ++ take (more d) (further p w under_way d))
    opens d below = opens_by d below (cases_lt d (device_count p.decls.items))
