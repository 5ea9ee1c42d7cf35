-- The files that a stop left begin the next session.
use Rattle.std.proofs.Common.{◌≡◌, ◌+◌, ◌++◌, ◌<◌, ◌≤◌, ◌⊎◌, [], ℕ, List, Option, ap, arith, inl, inr, length, refl, subst, sym, take, true, ◌∙◌}
use Rattle.std.proofs.lemmas.Bool.{cases_lt}
use Rattle.re_outside.proofs.Images.{image_start}
use Rattle.re_outside.specs.Image.{IsCrashImage, content}
use Rattle.re_outside.specs.Outside.{Seen}
use Rattle.re_outside.specs.Port.{past_in}
use Rattle.re_outside.specs.Trace.{acts_of, content_at}
use Rattle.re_outside.specs.declared.step.Step.{Step}
use Rattle.re_record.proofs.StoreLaws.{one_opening}
use Rattle.re_record.specs.Represents.{Represents, counts_of}
use Rattle.re_record.specs.Restoring.{Opened}
use Rattle.re_session.specs.Stops.{GoesOn, IsSameState}
use Rattle.re_terms.specs.Admission.{device_count}
use Rattle.re_terms.specs.DeviceWorlds.{World, start_world}
use Rattle.re_terms.specs.Entries.{run_entries}
use Rattle.re_terms.specs.Lines.{Done, further}
use Rattle.re_terms.specs.Programs.{IsProgram}
use Rattle.re_terms.specs.Runs.{PlainState}
use Rattle.re_terms.specs.Shapes.{shape_of}
use Rattle.re_terms.specs.UpdateStates.{state_of_updates}
use Rattle.re_terms.specs.Updates.{Update, covered}
use Rattle.re_terms.specs.declared.program.Program.{Program}
use Rattle.re_world.specs.Images.{Restores, log_held}
use Rattle.re_world.specs.Starting.{IsBaseOf, StartsAt}

module _ (p : Program) (is_program : IsProgram p) (w : World) (under_way : Option Done) (files : ℕ → ℕ → List ℕ) (r : Restores p w under_way files) where
  abbrev count : ℕ
  count = device_count p.decls.items

  abbrev log : List Update
  log = log_held p w under_way r.more

  -- the state to which a device's files open, and its number
  abbrev state_by : (d : ℕ) → (d < count) ⊎ (count ≤ d) → PlainState
  state_by d (inl below) = let o = (r.opens d below).opened in record { words = o.state.words.items; taken = covered log (counts_of o) }
  state_by d (inr over) = record { words = []; taken = [] }

  abbrev number_by : (d : ℕ) → (d < count) ⊎ (count ≤ d) → ℕ
  number_by d (inl below) = (r.opens d below).opened.number
  number_by d (inr over) = 0

  base_by : (d : ℕ) (side : (d < count) ⊎ (count ≤ d)) → d < count → IsBaseOf p d (files d 0) (files d 1) log (state_by d side) (number_by d side)
  base_by d (inl below) h = record { opened = (r.opens d below).opened; opens = (r.opens d below).opens; words = refl; taken = refl; number_is = refl }
  base_by d (inr over) h = absurd (omega (arith, h, over))

  number_is : (d : ℕ) (side : (d < count) ⊎ (count ≤ d)) → (below : d < count) → number_by d side ≡ w.base_number d + length (w.settled d ++ take (r.more d) (further p w under_way d))
  number_is d (inl below) h = (r.opens d below).number_is
  number_is d (inr over) h = absurd (omega (arith, h, over))

  same_by : (d : ℕ) (side : (d < count) ⊎ (count ≤ d)) → d < count → IsSameState p (state_by d side) (run_entries p d (w.base d) (w.settled d ++ take (r.more d) (further p w under_way d)))
  same_by d (inl below) h =
      let o = r.opens d below in
      let there = r.represents.each d below in
      let n = is_program.devices in
      let same : there.opened ≡ o.opened = one_opening p d (files d 0) (files d 1) there.opened o.opened is_program (omega (arith, below, n)) there.opens o.opens in
      record {
        words = o.state.words;
        replicated = sym (subst (λ (q : Opened). q.state.rep ≡ state_of_updates (shape_of p) (covered log (counts_of q))) same there.rep) ∙ o.state.rep;
      }
  same_by d (inr over) h = absurd (omega (arith, h, over))

  module _ (s : Seen) (told : s.told ≡ true) (fresh : s.trace ≡ []) (start : s.start ≡ files) where
    read : (d f : ℕ) → content_at (past_in 0 s) d f ≡ files d f
    read d f = ap (λ (t : List Step). content (s.start d f) (acts_of d f t)) fresh ∙ (λ i. start i d f)

    starts : StartsAt p (λ d. state_by d (cases_lt d count)) (λ d. number_by d (cases_lt d count)) log (past_in 0 s)
    starts = record {
      settled = λ d f file image. image_start (s.start d f) file (subst (λ (t : List Step). IsCrashImage (s.start d f) (acts_of d f t) file) fresh image) ∙ (λ i. start i d f) ∙ sym (read d f);
      represents = subst (λ fs. Represents p fs log) (λ i d f. sym (read d f) i) r.represents;
      bases = λ d below. subst (λ x. IsBaseOf p d x (content_at (past_in 0 s) d 1) log (state_by d (cases_lt d count)) (number_by d (cases_lt d count))) (sym (read d 0)) (subst (λ x. IsBaseOf p d (files d 0) x log (state_by d (cases_lt d count)) (number_by d (cases_lt d count))) (sym (read d 1)) (base_by d (cases_lt d count) below));
    }

    pub goes_on : GoesOn p w under_way files r s
    goes_on = record {
      next = start_world p (λ d. state_by d (cases_lt d count)) (λ d. number_by d (cases_lt d count)) log;
      begins = record { told = told; base = _; base_number = _; log = log; starts = starts; is = refl };
      log = refl;
      number = λ d below. number_is d (cases_lt d count) below;
      state = λ d below. same_by d (cases_lt d count) below;
    }
