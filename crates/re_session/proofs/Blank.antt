-- Blank files begin the world of no entry.
use Rattle.std.proofs.Common.{◌≡◌, ◌<◌, [], ℕ, List, ap, arith, refl, subst, sym, true, ◌∙◌}
use Rattle.std.specs.Prelude.{slice_index}
use Rattle.re_outside.proofs.Images.{image_start}
use Rattle.re_outside.specs.Frame.{is_blank}
use Rattle.re_outside.specs.Image.{IsCrashImage, content}
use Rattle.re_outside.specs.Outside.{Seen}
use Rattle.re_outside.specs.Port.{past_in}
use Rattle.re_outside.specs.Trace.{acts_of, content_at}
use Rattle.re_outside.specs.declared.step.Step.{Step}
use Rattle.re_record.specs.Represents.{DeviceRepresents}
use Rattle.re_record.specs.Restoring.{unopened}
use Rattle.re_record.specs.Stores.{Blank, OpensTo}
use Rattle.re_session.specs.Begins.{Begins}
use Rattle.re_terms.proofs.Members.{state_none}
use Rattle.re_terms.proofs.TakenIns.{taken_start}
use Rattle.re_terms.specs.Admission.{device_count}
use Rattle.re_terms.specs.DeviceWorlds.{blank_world}
use Rattle.re_terms.specs.Programs.{IsProgram}
use Rattle.re_terms.specs.Runs.{plain_start}
use Rattle.re_terms.specs.Shapes.{shape_of}
use Rattle.re_terms.specs.Updates.{IsCausallyClosed, count_of}
use Rattle.re_terms.specs.declared.program.Program.{Program}
use Rattle.re_terms.specs.declared.replicated.RState.{RState}
use Rattle.re_world.specs.Starting.{StartsAt}

module _ (p : Program) (is_program : IsProgram p) where
  -- two blank files open to the start
  opens_start : (d : ℕ) (first second : List ℕ) → first ≡ [] → second ≡ [] → OpensTo p d first second (unopened p)
  opens_start d first second a b = (Blank, (ap is_blank a, ap is_blank b), refl)

  -- no update is behind the start
  behind_start : (d : ℕ) → d < device_count p.decls.items → (first second : List ℕ) → first ≡ [] → second ≡ [] → DeviceRepresents p d first second []
  behind_start d below first second a b =
      let n = is_program.devices in
      let none = taken_start d (omega (arith, below, n)) in
      let counts = ap (λ (r : RState). r.vector.counts) (state_none (shape_of p)) in
      record {
        opened = unopened p;
        opens = opens_start d first second a b;
        rep = sym (state_none (shape_of p));
        closed = subst (IsCausallyClosed []) counts none.closed;
        own = subst (λ v. slice_index v d ≡ count_of d []) counts none.own;
      }

  module _ (s : Seen) (told : s.told ≡ true) (fresh : s.trace ≡ []) (blank : (d f : ℕ) → s.start d f ≡ []) where
    read : (d f : ℕ) → content_at (past_in 0 s) d f ≡ []
    read d f = ap (λ (t : List Step). content (s.start d f) (acts_of d f t)) fresh ∙ blank d f

    starts : StartsAt p (λ d. plain_start p) (λ d. 0) [] (past_in 0 s)
    starts = record {
      settled = λ d f file image. image_start (s.start d f) file (subst (λ (t : List Step). IsCrashImage (s.start d f) (acts_of d f t) file) fresh image) ∙ blank d f ∙ sym (read d f);
      represents = record {
        causal = (taken_start 0 (omega arith)).causal;
        of_devices = λ u is. absurd is;
        each = λ d below. behind_start d below (content_at (past_in 0 s) d 0) (content_at (past_in 0 s) d 1) (read d 0) (read d 1);
      };
      bases = λ d below. record { opened = unopened p; opens = opens_start d (content_at (past_in 0 s) d 0) (content_at (past_in 0 s) d 1) (read d 0) (read d 1); words = refl; taken = refl; number_is = refl };
    }

    pub begins_blank : Begins p (blank_world p) s
    begins_blank = record { told = told; base = _; base_number = _; log = []; starts = starts; is = refl }
