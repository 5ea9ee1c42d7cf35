-- Exactly when a run ends for a device that doesn't open.
use Rattle.std.proofs.Common.{arith, ◌≡◌, ◌<◌, ◌++◌, [], ℕ, List, take, sym, ◌∙◌, ap, subst, refl, Bool, true, Option, Some, None, ◌⊎◌, inl, inr}
use Rattle.std.specs.List.{flat_map}
use Rattle.std.proofs.lemmas.Bool.{cases_lt}
use Rattle.std.proofs.lemmas.List.{append_cancel_right}
use Rattle.re_compact.specs.declared.fault.OpenFault.{OpenFault}
use Rattle.re_compact.specs.declared.fault.OpenFault.TheVariants as unopened
use Rattle.re_outside.specs.Outside.{Does, Rose, Seen, content_in, none}
use Rattle.re_outside.specs.Port.{disk_faults}
use Rattle.re_record.proofs.OneStore.{one_stored}
use Rattle.re_record.specs.Restoring.{Opened}
use Rattle.re_record.specs.Stores as stores
use Rattle.re_record.specs.Stores.{HasStore, OpensTo, Stored, opened}
use Rattle.re_terms.specs.Admission.{device_count}
use Rattle.re_terms.specs.Programs.{IsProgram}
use Rattle.re_terms.specs.declared.program.Program.{Program}
use Rattle.re_tool.specs.Acts.{Course, FailsOpening, FindsUnopened, IsOpening, IsWhy, opens_none, reads, serves}
use Rattle.re_tool.specs.Answers.{done, done_by, ending, ending_in, reading_end, session_in, unopened_end}
use Rattle.re_tool.specs.Causes.{IsUnlessEnded, OpeningCause, store_status}
use Rattle.re_tool.specs.Endings.{NoMemory, status_at}
use Rattle.re_tool.specs.Lines.{ended, split}
use Rattle.re_tool.specs.Part.{Part, divided, part_of}
use Rattle.re_tool.specs.Reads.{limit}
use Rattle.re_tool.specs.Session.{Runs}
use Rattle.re_tool.specs.Verdict.{Accepted, HasVerdict, IsJudged}
use Rattle.re_tool.specs.declared.status.Status.{Status}
use Rattle.re_tool.specs.declared.status.Status.TheVariants as status
use Rattle.re_tool.specs.declared.words.Job.{Job}
use Rattle.re_tool.specs.declared.words.Job.TheVariants as job
use Rattle.re_tool.proofs.Caused.{bad_here, before_on, disk_here, ends_with, joined, other_here, quiet_closes, quiet_does, quiet_halts, separated_part, status_of, stopped_status, store_on, told_status}
use Rattle.re_tool.proofs.Endings.{content_on}
use Rattle.re_world.specs.Opening.{OpenBefore}

-- ---- two files are one thing

-- a store that is refused opens to no state
refused_opens : (p : Program) (d : ℕ) (stored : Stored) (wanted : Status) → store_status stored ≡ Some wanted → opened p d stored ≡ None
refused_opens p d (stores.Bad file at) wanted is = refl
refused_opens p d stores.OtherProgram wanted is = refl
refused_opens p d stores.Blank wanted is = absurd (cc)
refused_opens p d (stores.Store generation snapshot entries) wanted is = absurd (cc)

module _ (p : Program) (is_program : IsProgram p) (d : ℕ) (below : d < device_count p.decls.items) (first second : List ℕ) (stored : Stored) (wanted : Status) (refused : store_status stored ≡ Some wanted) (has : HasStore p d first second stored) where
  small : d < 256
  small = let few = is_program.devices in omega (arith, below, few)

  -- such files don't open
  not_opens : (o : Opened) → OpensTo p d first second o → ⊥
  not_opens o opens =
      let same : opens.0 ≡ stored = one_stored p d is_program small first second opens.0 stored opens.1 has in
      let no : ◌≡◌ {A = Option Opened} None (Some o) = sym (refused_opens p d stored wanted refused) ∙ sym (ap (opened p d) same) ∙ opens.2 in
      absurd (cc)

  same_status : (x : Stored) (other : Status) → store_status x ≡ Some other → HasStore p d first second x → other ≡ wanted
  same_status x other is h =
      let same : x ≡ stored = one_stored p d is_program small first second x stored h has in
      let e : Some other ≡ Some wanted = sym is ∙ ap store_status same ∙ refused in
      cc

-- ---- the first device that doesn't open

-- which one it is, by order
sides : (d e : ℕ) → (e < d) ⊎ ((d ≡ e) ⊎ (d < e))
sides d e = elim (cases_lt e d) [
  | inl less ↦ inl less
  | inr more ↦ elim (cases_lt d e) [ inl less ↦ inr (inr less) | inr same ↦ inr (inl (omega (arith, more, same))) ]
]

module _ (p : Program) (is_program : IsProgram p) (d : ℕ) (below : d < device_count p.decls.items) (a m calm : Seen) (same : (e f : ℕ) → content_in m e f ≡ content_in a e f) (before : OpenBefore p d a) (stored : Stored) (wanted : Status) (refused : store_status stored ≡ Some wanted)
    (has : HasStore p d (content_in a d 0) (content_in a d 1) stored) (calm_disks : (e : ℕ) → Rose (disk_faults e m) (disk_faults e calm) → ⊥) where
  -- not all devices open
  not_all : OpenBefore p (device_count p.decls.items) m → ⊥
  not_all all = let o = before_on p (device_count p.decls.items) a m same all d below in not_opens p is_program d below (content_in a d 0) (content_in a d 1) stored wanted refused has o.0 o.1

  -- a device before it that isn't refused
  earlier : (e : ℕ) (fault : OpenFault) → e < d → IsWhy p e fault m calm → FailsOpening (Some (e, fault)) m calm → fault ≡ unopened.Memory
  earlier e unopened.Memory less why fails = refl
  earlier e unopened.Disk less why fails = absurd (calm_disks e fails.0)
  earlier e (unopened.BadStore file at) less why fails =
      let o = before e less in
      absurd (not_opens p is_program e (omega (arith, less, below)) (content_in a e 0) (content_in a e 1) (stores.Bad file at) status.Store refl (store_on p e (stores.Bad file at) a m same why) o.0 o.1)
  earlier e unopened.OtherProgram less why fails =
      let o = before e less in
      absurd (not_opens p is_program e (omega (arith, less, below)) (content_in a e 0) (content_in a e 1) stores.OtherProgram status.OtherProgram refl (store_on p e stores.OtherProgram a m same why) o.0 o.1)

  -- the device itself
  itself : (fault : OpenFault) → IsWhy p d fault m calm → FailsOpening (Some (d, fault)) m calm → (fault ≡ unopened.Memory) ⊎ (status_at (unopened_end p (d, fault)) ≡ wanted)
  itself unopened.Memory why fails = inl refl
  itself unopened.Disk why fails = absurd (calm_disks d fails.0)
  itself (unopened.BadStore file at) why fails = inr (same_status p is_program d below (content_in a d 0) (content_in a d 1) stored wanted refused has (stores.Bad file at) status.Store refl (store_on p d (stores.Bad file at) a m same why))
  itself unopened.OtherProgram why fails = inr (same_status p is_program d below (content_in a d 0) (content_in a d 1) stored wanted refused has stores.OtherProgram status.OtherProgram refl (store_on p d stores.OtherProgram a m same why))

  -- so the run ends for it, or for want of memory
  pub ends_for : (e : ℕ) (fault : OpenFault) → FindsUnopened p (Some (e, fault)) m calm → FailsOpening (Some (e, fault)) m calm → (status_at (unopened_end p (e, fault)) ≡ status.Memory) ⊎ (status_at (unopened_end p (e, fault)) ≡ wanted)
  ends_for e fault finds fails = by (sides d e)
    where
      by : (e < d) ⊎ ((d ≡ e) ⊎ (d < e)) → (status_at (unopened_end p (e, fault)) ≡ status.Memory) ⊎ (status_at (unopened_end p (e, fault)) ≡ wanted)
      by (inl less) = inl (ap (λ f. status_at (unopened_end p (e, f))) (earlier e fault less finds.1 fails))
      by (inr (inl is)) = own (itself fault (subst (λ n. IsWhy p n fault m calm) (sym is) finds.1) (subst (λ n. FailsOpening (Some (n, fault)) m calm) (sym is) fails))
        where
          own : (fault ≡ unopened.Memory) ⊎ (status_at (unopened_end p (d, fault)) ≡ wanted) → (status_at (unopened_end p (e, fault)) ≡ status.Memory) ⊎ (status_at (unopened_end p (e, fault)) ≡ wanted)
          own (inl memory) = inl (ap (λ f. status_at (unopened_end p (e, f))) memory)
          own (inr h) = inr (subst (λ n. status_at (unopened_end p (n, fault)) ≡ wanted) is h)
      by (inr (inr less)) = let o = before_on p e a m same finds.0 d less in absurd (not_opens p is_program d below (content_in a d 0) (content_in a d 1) stored wanted refused has o.0 o.1)

-- ---- a run

one_program : (p q : Program) → Accepted p ≡ Accepted q → p ≡ q
one_program p q e = cc

has_session : (stopped : Option (ℕ × Bool)) (p : Program) (part : Part) → done_by stopped (session_in (Accepted p) None (Some part)) ≡ None → ⊥
has_session None p part h = cc
has_session (Some (n, said)) p part h = cc

module _ (a b : Seen) (s : Status) (r : Runs job.Run a b s) (p : Program) (d : ℕ) (below : d < device_count p.decls.items) (part : Part) (is_part : part_of r.read r.outcomes.input_failed ≡ Some part) (told : a.told ≡ true) (before : OpenBefore p d a) (stored : Stored) (wanted : Status) (refused : store_status stored ≡ Some wanted)
    (has : HasStore p d (content_in a d 0) (content_in a d 1) stored) (disks : (e : ℕ) → Rose (disk_faults e a) (disk_faults e b) → ⊥) where
  -- no disk failed in a part of the run either
  within : (m : Seen) (read : List ℕ) → Does a m read [] none → (e : ℕ) → Rose (disk_faults e m) (disk_faults e r.calm) → ⊥
  within m read does e rose =
      let last = quiet_closes r.halted b r.last s r.closes e ∙ quiet_halts r.outcomes.input_failed r.calm r.halted r.halts e in
      disks e (subst (λ x. Rose x (disk_faults e b)) (quiet_does a m read [] does e) (subst (λ x. Rose (disk_faults e m) x) (sym last) rose))

  unopened_ends : (e : ℕ) (fault : OpenFault) → r.verdict ≡ Accepted p → r.outcomes.unopened ≡ Some (e, fault) → (status_at (unopened_end p (e, fault)) ≡ status.Memory) ⊎ (status_at (unopened_end p (e, fault)) ≡ wanted) → IsUnlessEnded wanted s
  unopened_ends e fault accepted is ends = by_end (subst (λ x. IsUnlessEnded x s) ended_is (ends_with job.Run a b s r)) ends
    where
      ended_is : status_of job.Run r.verdict r.outcomes r.read ≡ status_at (unopened_end p (e, fault))
      ended_is = λ i. status_at (ending_in job.Run (accepted i) (is i) (is_part i) (reading_end r.read r.outcomes.input_failed))

      by_end : IsUnlessEnded (status_at (unopened_end p (e, fault))) s → (status_at (unopened_end p (e, fault)) ≡ status.Memory) ⊎ (status_at (unopened_end p (e, fault)) ≡ wanted) → IsUnlessEnded wanted s
      by_end (inr h) k = inr h
      by_end (inl h) (inl memory) = inr (inl (h ∙ memory))
      by_end (inl h) (inr k) = inl (h ∙ k)

  by_course : r.verdict ≡ Accepted p → Course job.Run r.verdict r.outcomes.unopened (done job.Run r.verdict r.read r.outcomes) r.lines r.unanswered a r.calm → IsUnlessEnded wanted s
  by_course accepted (reads lacks opens did un does) =
      absurd (has_session r.outcomes.stopped p part ((λ i. done_by r.outcomes.stopped (session_in (sym accepted i) (sym opens i) (sym is_part i))) ∙ lacks))
  by_course accepted (opens_none {p = q} {u = u} {read = read} {part_read = m} run verdict is lacks did un does whole opening) =
      let same : q ≡ p = one_program q p (sym verdict ∙ accepted) in
      let o : IsOpening p (Some u) m r.calm = subst (λ x. IsOpening x (Some u) m r.calm) same opening in
      unopened_ends u.0 u.1 accepted is (ends_for p o.is_program d below a m r.calm (λ e f. content_on a m read [] none told does e f) before stored wanted refused has (within m read does) u.0 u.1 (o.finds (does.moves.told ∙ told)) o.failed)
  by_course accepted (serves {s = x} run verdict opens own spelled ordered) =
      let same : x.program ≡ p = one_program x.program p (sym verdict ∙ accepted) in
      let o : IsOpening p None ordered.part_read ordered.opened = subst (λ y. IsOpening y None ordered.part_read ordered.opened) same ordered.opens.opening in
      absurd (not_all p o.is_program d below a ordered.part_read r.calm (λ e f. content_on a ordered.part_read ordered.part [] none told ordered.reads_part e f) before stored wanted refused has (within ordered.part_read ordered.part ordered.reads_part) (o.finds (ordered.reads_part.moves.told ∙ told)))

  by_verdict : HasVerdict part.text (Accepted p) → IsJudged r.verdict (Some part) r.outcomes.stopped → IsUnlessEnded wanted s
  by_verdict accepted (inl decides) = by_course (sym (decides.only (Accepted p) accepted)) r.course
  by_verdict accepted (inr q) = memory_ends (joined (ending job.Run r.verdict r.read r.outcomes) NoMemory s (inl (stopped_status job.Run r.verdict r.read r.outcomes (0, true) q.1)) (told_status _ s r.ends))
    where
      memory_ends : IsUnlessEnded status.Memory s → IsUnlessEnded wanted s
      memory_ends (inl h) = inr (inl h)
      memory_ends (inr h) = inr h

  pub store_ends : HasVerdict part.text (Accepted p) → IsUnlessEnded wanted s
  store_ends accepted = by_verdict accepted (subst (λ x. IsJudged r.verdict x r.outcomes.stopped) is_part r.judged)

store_always : (j : Job) (a b : Seen) (s : Status) → Runs j a b s → (read : List ℕ) (front back : List (List ℕ)) (p : Program) (d : ℕ) (stored : Stored) (wanted : Status) → j ≡ job.Run → a.told ≡ true → a.left ≡ read ++ b.left → divided (split (take limit read)).0 ≡ Some (front, back) → HasVerdict (flat_map ended front) (Accepted p)
    → OpenBefore p d a → d < device_count p.decls.items → HasStore p d (content_in a d 0) (content_in a d 1) stored → store_status stored ≡ Some wanted → ((e : ℕ) → Rose (disk_faults e a) (disk_faults e b) → ⊥) → IsUnlessEnded wanted s
store_always job.Check a b s r read front back p d stored wanted run told left parted accepted before below has refused disks = absurd (cc)
store_always job.Run a b s r read front back p d stored wanted run told left parted accepted before below has refused disks =
    let same : read ≡ r.read = append_cancel_right read r.read b.left (sym left ∙ r.does.moves.left told) in
    store_ends a b s r p d below _ (separated_part r.read r.outcomes.input_failed front back (ap (λ x. divided (split (take limit x)).0) (sym same) ∙ parted)) told before stored wanted refused has disks accepted

pub opening_cause : (j : Job) (a b : Seen) (s : Status) → Runs j a b s → OpeningCause j a b s
opening_cause j a b s r = record {
  bad = bad_here j a b s r;
  other = other_here j a b s r;
  disk = disk_here j a b s r;
  always = store_always j a b s r;
}
