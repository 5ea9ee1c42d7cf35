-- What a stop within a command leaves restores, by what it leaves of the files of the command's device.
use Rattle.std.proofs.Common.{◌≡◌, ◌⊎◌, inl, inr, ◌<◌, ◌++◌, ◌∷◌, [], ℕ, zero, suc, List, Option, Some, None, refl, sym, ap, subst, ◌∙◌}
use Rattle.std.specs.Prelude.{Bool, false, true, ◌≢◌, if◌then◌else◌, option_map, slice_get}
use Rattle.std.proofs.lemmas.List.{append-nil}
use Rattle.re_outside.proofs.Elsewhere as elsewhere
use Rattle.re_outside.proofs.Moments.{no_step, of_outside}
use Rattle.re_outside.specs.Moment.{OnlyDeviceMoves, Throughout}
use Rattle.re_outside.specs.Outside.{Seen}
use Rattle.re_outside.specs.Port.{past_in}
use Rattle.re_outside.specs.Trace.{IsCrashImageOf, Past, as_device}
use Rattle.re_terms.specs.Admission.{device_count}
use Rattle.re_terms.specs.CausalWorlds.{IsCausalWorld}
use Rattle.re_terms.specs.DeviceWorlds.{Outcome, World, entries_of, entry_of}
use Rattle.re_terms.specs.Entries.{Merge, PlainEntry}
use Rattle.re_terms.specs.Lines.{Done, entry_under_way, first_filled, further, settles_own}
use Rattle.re_terms.specs.Parts.{AllFit, AreParts, IsPart}
use Rattle.re_terms.specs.Updates.{Update}
use Rattle.re_terms.specs.declared.command.Command.{Command}
use Rattle.re_terms.specs.declared.command.Command.TheVariants as command
use Rattle.re_terms.specs.declared.program.Program.{Program}
use Rattle.re_world.proofs.Held.{restores}
use Rattle.re_world.proofs.Stepped.{apart}
use Rattle.re_world.specs.Images.{MayHold, OpensAfter, OpensToLine, Restores}
use Rattle.re_world.specs.Standing.{IsWorldOf, RestsAs}
use Rattle.re_world.specs.State.{WorldState}
use Rattle.re_world.specs.Stepping.{RestoresWithin}

-- ---- the entry under way

pub part_at : (log : List Update) (packets : List (List Update)) (k : ℕ) (us : List Update) → AreParts log packets → slice_get packets k ≡ Some us → IsPart log us
part_at log [] k us parts e = absurd (cc)
part_at log (x ∷ packets) zero us parts e = subst (IsPart log) (some_is e) parts.0
  where
    some_is : Some x ≡ Some us → x ≡ us
    some_is h = cc
part_at log (x ∷ packets) (suc k) us parts e = part_at log packets k us parts.1 e

module _ (w : World) (n : ℕ) (causal : IsCausalWorld n w) where
  packet_fits : (k : ℕ) (o : Option (List Update)) → slice_get w.packets k ≡ o → AllFit w.log (entries_of (option_map Merge o))
  packet_fits k None e = tt
  packet_fits k (Some us) e = (part_at w.log w.packets k us causal.packets e, tt)

  entry_fits : (c : Command) → AllFit w.log (entries_of (entry_of w c))
  entry_fits (command.Turn d t) = (tt, tt)
  entry_fits (command.Lazy d t) = (tt, tt)
  entry_fits (command.Settle d) = tt
  entry_fits (command.Get d id) = tt
  entry_fits (command.Send d) = tt
  entry_fits (command.Deliver k d) = packet_fits k (slice_get w.packets k) refl
  entry_fits (command.Hex k) = tt
  entry_fits (command.Crash d) = tt
  entry_fits (command.Restart d) = tt

  fit_if : (b : Bool) (entries : List PlainEntry) → AllFit w.log entries → AllFit w.log (if b then entries else [])
  fit_if true entries fit = fit
  fit_if false entries fit = tt

  pub under_way_fits : (p : Program) (c : Command) (o : Outcome) (d : ℕ) → AllFit w.log (entry_under_way p w (Some (record { asked = c; outcome = o })) d)
  under_way_fits p c o d = fit_if _ _ (fit_if (settles_own c) _ (fit_if _ (entries_of (entry_of w c)) (entry_fits c)))

-- ---- files that rest

-- where some entries are in doubt there are entries in doubt
pub some_in_doubt : (xs : List PlainEntry) (e : PlainEntry) (l : List PlainEntry) → xs ≡ e ∷ l → xs ≢ []
some_in_doubt xs e l is none = let both = sym is ∙ none in absurd (cc)

-- what a stop leaves of files that rest opens to the line, whatever is under way
pub rests_line : (p : Program) (w : World) (under_way : Option Done) (d : ℕ) (now : Past) (first second : List ℕ) → RestsAs p w d now → IsCrashImageOf now 0 first → IsCrashImageOf now 1 second → OpensToLine p w under_way d first second
rests_line p w under_way d now first second rests a b = by_opened (rests.images first second a b)
  where
    more : List PlainEntry
    more = further p w under_way d

    by_doubt : (l : List PlainEntry) → w.in_doubt d ≡ l → OpensAfter p w d first second (w.settled d ++ l) → OpensAfter p w d first second (w.settled d) ⊎ (MayHold p w under_way d × OpensAfter p w d first second (w.settled d ++ first_filled l (w.unsettled d ++ entry_under_way p w under_way d)))
    by_doubt [] is opens = inl (subst (OpensAfter p w d first second) (append-nil (w.settled d)) opens)
    by_doubt (e ∷ l) is opens = inr (inl (some_in_doubt (w.in_doubt d) e l is), opens)

    by_opened : OpensAfter p w d first second (w.settled d) ⊎ OpensAfter p w d first second (w.settled d ++ w.in_doubt d) → OpensToLine p w under_way d first second
    by_opened (inl settled) = inl settled
    by_opened (inr held) = by_doubt (w.in_doubt d) refl held

-- ---- all files

module _ (p : Program) (w : World) (v : WorldState) (c : Command) (o : Outcome) (before now : Seen) (is : IsWorldOf p w v before) where
  abbrev under_way : Option Done
  under_way = Some (record { asked = c; outcome = o })

  restores_by : (m : Past) (files : ℕ → ℕ → List ℕ) → ((d : ℕ) → d < device_count p.decls.items → OpensToLine p w under_way d (files d 0) (files d 1)) → Restores p w under_way files
  restores_by m files lines = restores p w under_way files is.causal (under_way_fits w (device_count p.decls.items) is.causal p c o) lines

  -- no file has moved
  pub within_still : past_in 0 now ≡ past_in 0 before → RestoresWithin p w c o before now
  within_still same =
      no_step (past_in 0 before) (past_in 0 now) _ same
      (λ files images. restores_by (past_in 0 before) files (λ d below. rests_line p w under_way d (past_in d before) (files d 0) (files d 1) (is.files d below) (images d 0) (images d 1)))

  -- the files of one device have moved
  pub within_moves : (d : ℕ) (Q : Past → Type 0) → Throughout (past_in d before) (past_in d now) Q → ((m : Past) → Q m → OnlyDeviceMoves (past_in d before) m)
      → (d < device_count p.decls.items → (m : Past) → Q (as_device d m) → (first second : List ℕ) → IsCrashImageOf (as_device d m) 0 first → IsCrashImageOf (as_device d m) 1 second → OpensToLine p w under_way d first second)
      → RestoresWithin p w c o before now
  within_moves d Q moments only line =
      let t = of_outside d (past_in 0 before) (past_in 0 now) Q refl moments in
      record {
        goes_on = t.goes_on;
        each = λ m first after files images.
            restores_by m files (λ e below. elim (apart e d) [
              | inl own ↦ subst (λ x. OpensToLine p w under_way x (files x 0) (files x 1)) (sym own) (line (subst (λ x. x < device_count p.decls.items) own below) m (t.each m first after) (files d 0) (files d 1) (images d 0) (images d 1))
              | inr other ↦
                  let kept = λ (f : ℕ). elsewhere.kept_on e f (past_in d before) (as_device d m) (first.0, ap (as_device d) first.1) (only (as_device d m) (t.each m first after)) other.1 in
                  rests_line p w under_way e (past_in e before) (files e 0) (files e 1) (is.files e below) ((kept 0).images (files e 0) (images e 0)) ((kept 1).images (files e 1) (images e 1))
            ]);
      }
