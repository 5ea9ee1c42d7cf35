-- The calls of a laying, one part behind the other.
use Rattle.std.specs.Prelude.{nat_le, if◌then◌else◌, min, Result, Ok, Err, OnErr}
use Rattle.std.proofs.Common.{◌≡◌, inl, inr, ℕ, ◌+◌, ◌-◌, ◌^◌, ◌≤◌, Bool, true, false, List, [], ◌∷◌, ◌++◌, Option, Some, None, refl, sym, ◌∙◌, ap, subst, arith, append_assoc}
use Rattle.re_outside.specs.Plan.{WriteAt, CutAt, synced_steps}
use Rattle.re_outside.specs.Listed.{plain}
use Rattle.re_outside.specs.Trace.{Past, with_steps}
use Rattle.re_outside.specs.declared.step.Step.{Step}
use Rattle.re_outside.specs.declared.step.Step.TheVariants as steps
use Rattle.re_outside.proofs.Moments.{goes_nothing}
use Rattle.re_journal.specs.Commits.{StopsInTurn, IsStopOf}
use Rattle.re_journal.specs.Journals.{calls_after}
use Rattle.re_compact.specs.Laying.{prepare_steps, shut_steps, trim_steps, frame_steps, two_unless}

pub then_steps : (past : Past) (a b : List Step) → with_steps (with_steps past a) b ≡ with_steps past (a ++ b)
then_steps past a b = λ i. record { device = past.device; start = past.start; trace = append_assoc past.trace a b i }

-- the parts make the whole
parts : (d g : ℕ) (framed : List ℕ) (blank : Bool) (size : ℕ) → shut_steps d g blank ++ (trim_steps d g size ++ frame_steps d g framed) ≡ prepare_steps d g blank size framed
parts d g framed blank size = by_tests blank (nat_le size 1)
  where
    by_tests : (b s : Bool) → synced_steps d g (if b then [] else WriteAt 0 (0 ∷ []) ∷ []) ++ (synced_steps d g (if s then [] else CutAt 1 ∷ []) ++ frame_steps d g framed)
        ≡ synced_steps d g ((if b then [] else WriteAt 0 (0 ∷ []) ∷ []) ++ (if s then [] else CutAt 1 ∷ []) ++ (WriteAt 0 (0 ∷ []) ∷ WriteAt 1 framed ∷ []))
    by_tests true true = refl
    by_tests true false = refl
    by_tests false true = refl
    by_tests false false = refl

pub three_parts : (g : ℕ) (blank : Bool) (size : ℕ) (framed : List ℕ) (a b c d : Past) → b ≡ with_steps a (shut_steps a.device g blank) → c ≡ with_steps b (trim_steps b.device g size) → d ≡ with_steps c (frame_steps c.device g framed)
    → d ≡ with_steps a (prepare_steps a.device g blank size framed)
three_parts g blank size framed a b c d first second third =
    third
    ∙ (ap (λ p. with_steps p (frame_steps p.device g framed)) second
    ∙ (ap (λ p. with_steps (with_steps p (trim_steps p.device g size)) (frame_steps p.device g framed)) first
    ∙ (then_steps (with_steps a (shut_steps a.device g blank)) (trim_steps a.device g size) (frame_steps a.device g framed)
    ∙ (then_steps a (shut_steps a.device g blank) (trim_steps a.device g size ++ frame_steps a.device g framed)
    ∙ ap (with_steps a) (parts a.device g framed blank size)))))

-- ---- a call that failed

-- in the first part
in_front : (a b : List Step) (calls : ℕ) (stopped : Option ℕ) (old new : Past) → StopsInTurn a calls stopped old new → StopsInTurn (a ++ b) calls stopped old new
in_front [] b calls stopped old new none = absurd none
in_front (s ∷ a) b calls stopped old new (inl here) = inl here
in_front (s ∷ a) b calls stopped old new (inr there) = inr (in_front a b (calls_after 1 calls) stopped (with_steps old (s ∷ [])) new there)

-- behind two calls
behind_two : (s t : Step) (rest : List Step) (calls : ℕ) (stopped : Option ℕ) (old new : Past) → StopsInTurn rest (calls_after 2 calls) stopped (with_steps old (s ∷ t ∷ [])) new → StopsInTurn (s ∷ t ∷ rest) calls stopped old new
behind_two s t rest calls stopped old new stops =
    inr (inr (subst (λ p. StopsInTurn rest (calls_after 1 (calls_after 1 calls)) stopped p new) (sym (then_steps old (s ∷ []) (t ∷ [])))
    (subst (λ n. StopsInTurn rest n stopped (with_steps old (s ∷ t ∷ [])) new) (omega arith) stops)))

-- a call failed behind one part, or behind two
module _ (d g : ℕ) (stopped : Option ℕ) (new : Past) where
  behind_shut : (blank : Bool) (rest : List Step) (calls : ℕ) (old : Past) → StopsInTurn rest (two_unless blank calls) stopped (with_steps old (shut_steps d g blank)) new → StopsInTurn (shut_steps d g blank ++ rest) calls stopped old new
  behind_shut true rest calls old stops = subst (λ p. StopsInTurn rest calls stopped p new) (sym (goes_nothing old)) stops
  behind_shut false rest calls old stops = behind_two (steps.Write d g 0 (plain (0 ∷ []))) (steps.Sync d g) rest calls stopped old new stops

  behind_trim : (size : ℕ) (rest : List Step) (calls : ℕ) (old : Past) → StopsInTurn rest (two_unless (nat_le size 1) calls) stopped (with_steps old (trim_steps d g size)) new → StopsInTurn (trim_steps d g size ++ rest) calls stopped old new
  behind_trim size rest calls old = by_test (nat_le size 1)
    where
      by_test : (s : Bool) → StopsInTurn rest (two_unless s calls) stopped (with_steps old (synced_steps d g (if s then [] else CutAt 1 ∷ []))) new → StopsInTurn (synced_steps d g (if s then [] else CutAt 1 ∷ []) ++ rest) calls stopped old new
      by_test true stops = subst (λ p. StopsInTurn rest calls stopped p new) (sym (goes_nothing old)) stops
      by_test false stops = behind_two (steps.Cut d g 1) (steps.Sync d g) rest calls stopped old new stops

module _ (g : ℕ) (blank : Bool) (size : ℕ) (framed : List ℕ) (calls : ℕ) (stopped : Option ℕ) (old new : Past) where
  whole_plan : StopsInTurn (shut_steps old.device g blank ++ (trim_steps old.device g size ++ frame_steps old.device g framed)) calls stopped old new → StopsInTurn (prepare_steps old.device g blank size framed) calls stopped old new
  whole_plan = subst (λ (l : List Step). StopsInTurn l calls stopped old new) (parts old.device g framed blank size)

  pub trim_stops : (mid : Past) (h more count : ℕ) → h ≡ g → more ≡ size → count ≡ two_unless blank calls → mid ≡ with_steps old (shut_steps old.device g blank) → StopsInTurn (trim_steps mid.device h more) count stopped mid new
      → StopsInTurn (prepare_steps old.device g blank size framed) calls stopped old new
  trim_stops mid h more count same_file same_size counted is stops =
      let here : StopsInTurn (trim_steps old.device g size) (two_unless blank calls) stopped (with_steps old (shut_steps old.device g blank)) new =
      subst (λ p. StopsInTurn (trim_steps p.device g size) (two_unless blank calls) stopped p new) is
      (subst (λ n. StopsInTurn (trim_steps mid.device g size) n stopped mid new) counted
      (subst (λ n. StopsInTurn (trim_steps mid.device g n) count stopped mid new) same_size
      (subst (λ n. StopsInTurn (trim_steps mid.device n more) count stopped mid new) same_file stops))) in
      whole_plan (behind_shut old.device g stopped new blank (trim_steps old.device g size ++ frame_steps old.device g framed) calls old
      (in_front (trim_steps old.device g size) (frame_steps old.device g framed) (two_unless blank calls) stopped (with_steps old (shut_steps old.device g blank)) new here))

  pub frame_stops : (mid last : Past) (h more k count : ℕ) → h ≡ g → more ≡ size → k ≡ g → count ≡ two_unless (nat_le size 1) (two_unless blank calls) → mid ≡ with_steps old (shut_steps old.device g blank)
      → last ≡ with_steps mid (trim_steps mid.device h more) → StopsInTurn (frame_steps last.device k framed) count stopped last new → StopsInTurn (prepare_steps old.device g blank size framed) calls stopped old new
  frame_stops mid last h more k count same_file same_size file_too counted is behind stops =
      let first : Past = with_steps old (shut_steps old.device g blank) in
      let second : last ≡ with_steps first (trim_steps old.device g size) =
      behind ∙ (ap (λ n. with_steps mid (trim_steps mid.device n more)) same_file ∙ (ap (λ n. with_steps mid (trim_steps mid.device g n)) same_size ∙ ap (λ p. with_steps p (trim_steps p.device g size)) is)) in
      let here : StopsInTurn (frame_steps old.device g framed) (two_unless (nat_le size 1) (two_unless blank calls)) stopped (with_steps first (trim_steps old.device g size)) new =
      subst (λ p. StopsInTurn (frame_steps p.device g framed) (two_unless (nat_le size 1) (two_unless blank calls)) stopped p new) second
      (subst (λ n. StopsInTurn (frame_steps last.device g framed) n stopped last new) counted
      (subst (λ n. StopsInTurn (frame_steps last.device n framed) count stopped last new) file_too stops)) in
      whole_plan (behind_shut old.device g stopped new blank (trim_steps old.device g size ++ frame_steps old.device g framed) calls old
      (behind_trim old.device g stopped new size (frame_steps old.device g framed) (two_unless blank calls) first here))

-- ---- the number of a call that failed

pub later_stop : (none : Bool) (n m calls count : ℕ) (stopped : Option ℕ) → count ≡ two_unless none calls → (if none then 0 else 2) + n ≤ m → IsStopOf n count stopped → IsStopOf m calls stopped
later_stop none n m calls count None counted fits stop = absurd stop
later_stop true n m calls count (Some at) counted fits (i, low, high, is) = (i, low, omega arith, is ∙ ap (λ k. min (k + i) (2 ^ 64 - 1)) counted)
later_stop false n m calls count (Some at) counted fits (i, low, high, is) = (i + 2, omega arith, omega arith, is ∙ omega (arith, counted))

-- what holds however a call ended holds where it failed
pub on_err : {T : Type 0} {E : Type 0} (r : Result T E) (P : Type 0) → P → OnErr r P
on_err (Ok x) P p = tt
on_err (Err e) P p = p
