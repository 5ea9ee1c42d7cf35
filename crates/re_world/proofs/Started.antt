-- The world that the files of all devices stand for at the start of a session.
use Rattle.std.proofs.Common.{◌≡◌, inl, inr, ◌<◌, ◌≤◌, ◌∷◌, [], ℕ, List, None, refl, sym, ap, subst, ◌∙◌, arith}
use Rattle.std.specs.Prelude.{Bool, true, false, cond, slice_index}
use Rattle.re_outside.specs.Trace.{Past, IsCrashImageAt, IsJointImage, content_at}
use Rattle.re_record.proofs.StoreLaws.{one_opening}
use Rattle.re_record.specs.Represents.{DeviceRepresents, counts_of}
use Rattle.re_record.specs.Restoring.{Opened, unopened}
use Rattle.re_record.specs.Stores.{Blank, OpensTo}
use Rattle.re_terms.proofs.CausalSteps as causal
use Rattle.re_terms.proofs.Dots.{each_once}
use Rattle.re_terms.proofs.Logs.{IsIn-from_filter}
use Rattle.re_terms.specs.Admission.{device_count}
use Rattle.re_terms.specs.CausalWorlds.{IsCausalWorld}
use Rattle.re_terms.specs.DeviceWorlds.{World, start_world}
use Rattle.re_terms.specs.Programs.{IsProgram}
use Rattle.re_terms.specs.Runs.{PlainState, StandsForPlain}
use Rattle.re_terms.specs.Shapes.{shape_of}
use Rattle.re_terms.specs.TakenIn.{IsTakenIn}
use Rattle.re_terms.specs.Updates.{Update, IsCausallyClosed, count_of, covered, vector_of}
use Rattle.re_terms.specs.UpdateSets.{EachOnce, SameUpdates}
use Rattle.re_terms.specs.UpdateStates.{state_of_updates}
use Rattle.re_terms.specs.Vectors.{covers}
use Rattle.re_terms.specs.declared.program.Program.{Program}
use Rattle.re_terms.specs.declared.replicated.RState.{RState}
use Rattle.std.specs.List.{filter}
use Rattle.re_world.proofs.Held.{restores}
use Rattle.re_world.specs.Images.{OpensAfter, Restores}
use Rattle.re_world.specs.Opening.{KeepsOpening}
use Rattle.re_world.specs.Starting.{IsBaseOf, StartsAt}

once_filter : (test : Update → Bool) (us : List Update) → EachOnce us → EachOnce (filter test us)
once_filter test [] each = tt
once_filter test (u ∷ us) each = elim (test u) as (λ b. EachOnce (cond b (u ∷ filter test us) (filter test us))) [
  | true ↦ (λ is. each.0 (IsIn-from_filter test u us is).0, once_filter test us each.1)
  | false ↦ once_filter test us each.1
]

-- the same updates, each once
alike : (us : List Update) → EachOnce us → SameUpdates us us
alike us once = record { once = once; other_once = once; to = λ u is. is; back = λ u is. is }

module _ (p : Program) (base : ℕ → PlainState) (base_number : ℕ → ℕ) (log : List Update) (old : Past) (is_program : IsProgram p) (starts : StartsAt p base base_number log old) where
  abbrev w : World
  w = start_world p base base_number log

  few : device_count p.decls.items ≤ 16
  few = is_program.devices

  module _ (d : ℕ) (below : d < device_count p.decls.items) where
    abbrev base_of : IsBaseOf p d (content_at old d 0) (content_at old d 1) log (base d) (base_number d)
    base_of = starts.bases d below

    abbrev behind : DeviceRepresents p d (content_at old d 0) (content_at old d 1) log
    behind = starts.represents.each d below

    small : d < 256
    small = let n = few in omega (arith, below, n)

    -- the two files open to one state
    same_opened : behind.opened ≡ base_of.opened
    same_opened = one_opening p d (content_at old d 0) (content_at old d 1) behind.opened base_of.opened is_program small behind.opens base_of.opens

    abbrev v : List ℕ
    v = counts_of base_of.opened

    rep_is : base_of.opened.state.rep ≡ state_of_updates (shape_of p) (covered log v)
    rep_is = subst (λ (o : Opened). o.state.rep ≡ state_of_updates (shape_of p) (covered log (counts_of o))) same_opened behind.rep

    counts_are : v ≡ vector_of (covered log v)
    counts_are = ap (λ (r : RState). r.vector.counts) rep_is

    covered_taken : IsTakenIn log d (covered log v)
    covered_taken = record {
      numbered = let n = few in omega (arith, below, n);
      causal = starts.represents.causal;
      closed = subst (IsCausallyClosed log) counts_are (subst (λ (o : Opened). IsCausallyClosed log (counts_of o)) same_opened behind.closed);
      same = subst (λ l. SameUpdates (covered log v) (covered log l)) counts_are (alike (covered log v) (once_filter (λ u. covers v u.dot) log (each_once log starts.represents.causal)));
      own = ap (λ l. slice_index l d) (sym counts_are) ∙ subst (λ (o : Opened). slice_index (counts_of o) d ≡ count_of d log) same_opened behind.own;
    }

    pub base_taken : IsTakenIn log d (base d).taken
    base_taken = subst (IsTakenIn log d) (sym base_of.taken) covered_taken

    pub base_stands : StandsForPlain p base_of.opened.state (base d)
    base_stands = record { words = base_of.words; rep = rep_is ∙ ap (state_of_updates (shape_of p)) (sym base_of.taken) }

    -- files that open to the same open to the base
    pub opens_base : (first second : List ℕ) → OpensTo p d first second base_of.opened → OpensAfter p w d first second []
    opens_base first second opens = record { opened = base_of.opened; opens = opens; state = base_stands; number_is = let n = base_of.number_is in omega (arith, n) }

    -- what a stop leaves while files are opened opens to the base
    pub image_opens : (now : Past) → KeepsOpening p old now → (first second : List ℕ) → IsCrashImageAt now d 0 first → IsCrashImageAt now d 1 second → OpensTo p d first second base_of.opened
    image_opens now keeps first second a b = elim (keeps d first second a b) [
      | inl left ↦
          subst (λ x. OpensTo p d x second base_of.opened) (sym (starts.settled d 0 first left.0))
          (subst (λ x. OpensTo p d (content_at old d 0) x base_of.opened) (sym (starts.settled d 1 second left.1)) base_of.opens)
      | inr blank ↦
          let start : OpensTo p d (content_at old d 0) (content_at old d 1) (unopened p) = (Blank, blank.0, refl) in
          subst (OpensTo p d first second) (one_opening p d (content_at old d 0) (content_at old d 1) (unopened p) base_of.opened is_program small start base_of.opens) blank.1
    ]

  pub start_causal : IsCausalWorld (device_count p.decls.items) w
  start_causal = causal.started p base base_number log few starts.represents.causal starts.represents.of_devices base_taken

  -- at each moment of an opening a stop leaves what restores
  pub start_restores : (now : Past) → KeepsOpening p old now → (files : ℕ → ℕ → List ℕ) → IsJointImage now files → Restores p w None files
  start_restores now keeps files images =
      restores p w None files start_causal (λ d. tt) (λ d below. inl (opens_base d below (files d 0) (files d 1) (image_opens d below now keeps (files d 0) (files d 1) (images d 0) (images d 1))))
