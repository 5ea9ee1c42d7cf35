-- What a status says of what is seen outside.
use Rattle.std.proofs.Common.{arith, ◌≡◌, ◌≤◌, ◌<◌, ◌++◌, [], ℕ, List, length, take, sym, ◌∙◌, ap, subst, refl, Bool, true, false, Option, Some, None, ◌⊎◌, inl, inr, length-append}
use Rattle.std.specs.Prelude.{if◌then◌else◌, ◌||◌}
use Rattle.std.specs.List.{flat_map}
use Rattle.std.proofs.lemmas.Bool.{lt-ltb, le-ltb, ltb-true}
use Rattle.std.proofs.lemmas.List.{append_cancel_right}
use Rattle.re_compact.specs.declared.fault.OpenFault.{OpenFault}
use Rattle.re_compact.specs.declared.fault.OpenFault.TheVariants as unopened
use Rattle.re_outside.specs.Outside.{Breaks, Counts, Disk, Does, Input, IsAtEnd, Output, Rose, Seen, content_in, none}
use Rattle.re_outside.specs.Port.{disk_faults}
use Rattle.re_record.specs.Stores as stores
use Rattle.re_record.specs.Stores.{HasStore, OpensTo, Stored}
use Rattle.re_terms.specs.Admission.{device_count}
use Rattle.re_terms.specs.declared.program.Program.{Program}
use Rattle.re_tool.specs.Acts.{Course, FailsOpening, FindsUnopened, IsOfProgram, IsOpening, opens_none, reads, serves}
use Rattle.re_session.specs.Acts.{DoneLine}
use Rattle.re_tool.specs.declared.words.Job.{Job}
use Rattle.re_tool.specs.declared.words.Job.TheVariants as job
use Rattle.re_tool.specs.declared.faults.Refusal.{Refusal}
use Rattle.re_tool.specs.declared.status.Status.{Status}
use Rattle.re_tool.specs.declared.status.Status.TheVariants as status
use Rattle.re_tool.specs.Answers.{Outcomes, Session, behind_part, ending, ending_by, ending_in, ending_of, ending_with, reading_end, unopened_end}
use Rattle.re_tool.specs.Endings.{Ending, Done, RefusedProgram, InputFault, NoMemory, InputTooLong, status_at}
use Rattle.re_tool.specs.Causes.{Completes, EndCause, FindsFault, FindsStore, InputCause, IsAcceptedPart, IsRead, IsRefusedPart, IsUnlessEnded, OutputCause, ProgramCause, TooLongCause, TooMuch}
use Rattle.re_tool.specs.Lines.{split, ended}
use Rattle.re_tool.specs.Part.{HasSeparator, Part, divided, part_of, part_by, is_over}
use Rattle.re_tool.specs.Reads.{limit}
use Rattle.re_tool.specs.Session.{Closes, EndsAs, Finishes, Halts, Refuses, Runs, is_output, one_if}
use Rattle.re_outside.proofs.Does.{breaks_does}
use Rattle.re_tool.proofs.Endings.{content_on}
use Rattle.re_tool.proofs.Ends.{Ran, ran_breaks, ran_goes, ran_says}
use Rattle.re_world.specs.Opening.{OpenBefore}
use Rattle.re_session.proofs.Acting.{goes_nil}
use Rattle.re_tool.specs.Verdict.{Verdict, Unknown, Rejected, Accepted, HasVerdict, Decides, IsJudged}

-- the status of a job that isn't cut short
abbrev pub status_of : Job → Verdict → Outcomes → List ℕ → Status
status_of j v o read = status_at (ending_of j v o.unopened read o.input_failed)

-- how a run ends
ending_cases : (j : Job) (v : Verdict) (read : List ℕ) (o : Outcomes) → (ending j v read o ≡ NoMemory) ⊎ (ending j v read o ≡ ending_of j v o.unopened read o.input_failed)
ending_cases j v read o =
    elim o.stopped as (λ x. (ending_by x j v o.unopened read o.input_failed ≡ NoMemory) ⊎ (ending_by x j v o.unopened read o.input_failed ≡ ending_of j v o.unopened read o.input_failed))
    [ None ↦ inr refl | Some p ↦ inl refl ]

-- what the status of a run is
pub told_status : (e : Ending) (s : Status) → EndsAs e s → (s ≡ status.Output) ⊎ (status_at e ≡ s)
told_status e status.Output h = inl refl
told_status e status.Done h = inr h
told_status e status.Words h = inr h
told_status e status.Program h = inr h
told_status e status.Store h = inr h
told_status e status.OtherProgram h = inr h
told_status e status.Disk h = inr h
told_status e status.Input h = inr h
told_status e status.Memory h = inr h
told_status e status.TooLong h = inr h
told_status e status.Line h = inr h

pub joined : (x y : Ending) (s : Status) → (x ≡ NoMemory) ⊎ (x ≡ y) → (s ≡ status.Output) ⊎ (status_at x ≡ s) → IsUnlessEnded (status_at y) s
joined x y s p (inl h) = inr (inr h)
joined x y s (inl m) (inr h) = inr (inl (sym h ∙ ap status_at m))
joined x y s (inr k) (inr h) = inl (sym h ∙ ap status_at k)

-- a run ends with the status of what it read, unless memory or output ended it
pub ends_with : (j : Job) (a b : Seen) (s : Status) (r : Runs j a b s) → IsUnlessEnded (status_of j r.verdict r.outcomes r.read) s
ends_with j a b s r = joined (ending j r.verdict r.read r.outcomes) (ending_of j r.verdict r.outcomes.unopened r.read r.outcomes.input_failed) s (ending_cases j r.verdict r.read r.outcomes) (told_status _ s r.ends)

-- the status is that of what was read where it is neither for want of memory nor of output
status_read : (j : Job) (a b : Seen) (s : Status) (r : Runs j a b s) → (s ≡ status.Memory → ⊥) → (s ≡ status.Output → ⊥) → status_of j r.verdict r.outcomes r.read ≡ s
status_read j a b s r m o = only (ends_with j a b s r)
  where
    only : IsUnlessEnded (status_of j r.verdict r.outcomes r.read) s → status_of j r.verdict r.outcomes r.read ≡ s
    only (inl h) = sym h
    only (inr (inl h)) = absurd (m h)
    only (inr (inr h)) = absurd (o h)

-- ---- status 7

-- the statuses of devices that don't open
abbrev IsOfOpening : Status → Type 0
IsOfOpening s = (s ≡ status.Memory) ⊎ ((s ≡ status.Disk) ⊎ ((s ≡ status.Store) ⊎ (s ≡ status.OtherProgram)))

unopened_status : (p : Program) (u : ℕ × OpenFault) → IsOfOpening (status_at (unopened_end p u))
unopened_status p (d, unopened.Memory) = inl refl
unopened_status p (d, unopened.Disk) = inr (inl refl)
unopened_status p (d, unopened.BadStore file at) = inr (inr (inl refl))
unopened_status p (d, unopened.OtherProgram) = inr (inr (inr refl))

with_verdict : (v : Verdict) (u : Option (ℕ × OpenFault)) (s : Ending) (r : Status) → status_at (ending_with v u s) ≡ r → (r ≡ status.Program → ⊥) → (IsOfOpening r → ⊥) → status_at s ≡ r
with_verdict Unknown u s r h n o = h
with_verdict (Rejected why) u s r h n o = absurd (n (sym h))
with_verdict (Accepted p) None s r h n o = h
with_verdict (Accepted p) (Some u) s r h n o = absurd (o (subst IsOfOpening h (unopened_status p u)))

-- behind the program part a job goes on or is done
in_behind : (j : Job) (s : Ending) (r : Status) → status_at (behind_part j s) ≡ r → (r ≡ status.Done → ⊥) → status_at s ≡ r
in_behind job.Run s r h n = h
in_behind job.Check s r h n = absurd (n (sym h))

in_part : (j : Job) (v : Verdict) (u : Option (ℕ × OpenFault)) (part : Option Part) (s : Ending) (r : Status) → status_at (ending_in j v u part s) ≡ r → (r ≡ status.Program → ⊥) → (r ≡ status.Done → ⊥) → (IsOfOpening r → ⊥) → status_at s ≡ r
in_part j v u None s r h n m o = h
in_part j v u (Some part) s r h n m o = in_behind j s r (with_verdict v u (behind_part j s) r h n o) m

no_opening : (r : Status) → (r ≡ status.Memory → ⊥) → (r ≡ status.Disk → ⊥) → (r ≡ status.Store → ⊥) → (r ≡ status.OtherProgram → ⊥) → IsOfOpening r → ⊥
no_opening r m d s o (inl h) = m h
no_opening r m d s o (inr (inl h)) = d h
no_opening r m d s o (inr (inr (inl h))) = s h
no_opening r m d s o (inr (inr (inr h))) = o h

ending_input : (over failed : Bool) → status_at (if over then InputTooLong else if failed then InputFault else Done) ≡ status.Input → failed ≡ true
ending_input true failed h = absurd (cc)
ending_input false true h = refl
ending_input false false h = absurd (cc)

ending_long : (over failed : Bool) → status_at (if over then InputTooLong else if failed then InputFault else Done) ≡ status.TooLong → over ≡ true
ending_long true failed h = refl
ending_long false true h = absurd (cc)
ending_long false false h = absurd (cc)

at_input : (j : Job) (a b : Seen) → Runs j a b status.Input → Counts 1 (a.faults Input) (b.faults Input)
at_input j a b r =
    let e = in_part j r.verdict r.outcomes.unopened (part_of r.read r.outcomes.input_failed) (reading_end r.read r.outcomes.input_failed) status.Input (status_read j a b status.Input r (λ h. absurd (cc)) (λ h. absurd (cc))) (λ h. absurd (cc)) (λ h. absurd (cc)) (no_opening status.Input (λ h. absurd (cc)) (λ h. absurd (cc)) (λ h. absurd (cc)) (λ h. absurd (cc))) in
    subst (λ n. Counts n (a.faults Input) (b.faults Input)) (r.input ∙ ap one_if (ending_input (is_over r.read) r.outcomes.input_failed e)) (r.does.moves.counts Input)

pub input_cause : (j : Job) (a b : Seen) (s : Status) → Runs j a b s → InputCause a b s
input_cause j a b s r h = at_input j a b (subst (Runs j a b) h r)

pub output_cause : (j : Job) (a b : Seen) (s : Status) → Runs j a b s → OutputCause a b s
output_cause j a b s r = subst (λ n. Counts n (a.faults Output) (b.faults Output)) r.output (r.does.moves.counts Output)

at_done : (j : Job) (a b : Seen) → Runs j a b status.Done → IsRead j a b
at_done job.Run a b r = r.far
at_done job.Check a b r = record { read = r.read; left = r.does.moves.left; far = r.far.1 }

pub end_cause : (j : Job) (a b : Seen) (s : Status) → Runs j a b s → EndCause j a b s
end_cause j a b s r h = at_done j a b (subst (Runs j a b) h r)

-- ---- status 10

at_too_long : (j : Job) (a b : Seen) → Runs j a b status.TooLong → a.told ≡ true → TooMuch a b
at_too_long j a b r t =
    let e = in_part j r.verdict r.outcomes.unopened (part_of r.read r.outcomes.input_failed) (reading_end r.read r.outcomes.input_failed) status.TooLong (status_read j a b status.TooLong r (λ h. absurd (cc)) (λ h. absurd (cc))) (λ h. absurd (cc)) (λ h. absurd (cc)) (no_opening status.TooLong (λ h. absurd (cc)) (λ h. absurd (cc)) (λ h. absurd (cc)) (λ h. absurd (cc))) in
    let long = ltb-true limit (length r.read) (ending_long (is_over r.read) r.outcomes.input_failed e) in
    omega (arith, ap length (r.does.moves.left t), length-append r.read b.left)

over_ending : (read : List ℕ) (failed : Bool) → limit < length read → reading_end read failed ≡ InputTooLong
over_ending read failed h = rw (lt-ltb limit (length read) h) refl

-- how a run ends that read past its program part: for the part, for a device, or as its reading did
abbrev EndsBehind : Job → Ending → Ending → Type 0
EndsBehind j e s = (status_at e ≡ status.Program) ⊎ (IsOfOpening (status_at e) ⊎ ((e ≡ s) ⊎ ((j ≡ job.Check) × (e ≡ Done))))

with_over : (j : Job) (v : Verdict) (u : Option (ℕ × OpenFault)) (s : Ending) → EndsBehind j (ending_with v u s) s
with_over j Unknown u s = inr (inr (inl refl))
with_over j (Rejected why) u s = inl refl
with_over j (Accepted p) None s = inr (inr (inl refl))
with_over j (Accepted p) (Some u) s = inr (inl (unopened_status p u))

in_over : (j : Job) (v : Verdict) (u : Option (ℕ × OpenFault)) (part : Option Part) (s : Ending) → EndsBehind j (ending_in j v u part s) s
in_over j v u None s = inr (inr (inl refl))
in_over job.Run v u (Some part) s = with_over job.Run v u s
in_over job.Check v u (Some part) s = either (with_over job.Check v u Done)
  where
    either : EndsBehind job.Check (ending_with v u Done) Done → EndsBehind job.Check (ending_with v u Done) s
    either (inl h) = inl h
    either (inr (inl h)) = inr (inl h)
    either (inr (inr (inl h))) = inr (inr (inr (refl, h)))
    either (inr (inr (inr h))) = inr (inr (inr h))

-- the statuses at which no byte too many was read
abbrev IsFew : Status → Type 0
IsFew status.Program = Unit {0}
IsFew status.Disk = Unit {0}
IsFew status.Store = Unit {0}
IsFew status.OtherProgram = Unit {0}
IsFew s = ⊥

few_at : (j : Job) (a b : Seen) (s : Status) (r : Runs j a b s) → IsFew s → length r.read ≤ limit
few_at j a b status.Program r h = r.far.0
few_at j a b status.Disk r h = r.far.0
few_at j a b status.Store r h = r.far.0
few_at j a b status.OtherProgram r h = r.far.0
few_at j a b status.Done r h = absurd h
few_at j a b status.Words r h = absurd h
few_at j a b status.Input r h = absurd h
few_at j a b status.Output r h = absurd h
few_at j a b status.Memory r h = absurd h
few_at j a b status.TooLong r h = absurd h
few_at j a b status.Line r h = absurd h

few_checked : (j : Job) (a b : Seen) (s : Status) (r : Runs j a b s) → j ≡ job.Check → s ≡ status.Done → length r.read ≤ limit
few_checked job.Run a b s r h k = absurd (cc)
few_checked job.Check a b status.Done r h k = r.far.0
few_checked job.Check a b status.Program r h k = absurd (cc)
few_checked job.Check a b status.Words r h k = absurd (cc)
few_checked job.Check a b status.Store r h k = absurd (cc)
few_checked job.Check a b status.OtherProgram r h k = absurd (cc)
few_checked job.Check a b status.Disk r h k = absurd (cc)
few_checked job.Check a b status.Input r h k = absurd (cc)
few_checked job.Check a b status.Output r h k = absurd (cc)
few_checked job.Check a b status.Memory r h k = absurd (cc)
few_checked job.Check a b status.TooLong r h k = absurd (cc)
few_checked job.Check a b status.Line r h k = absurd (cc)

too_long_always : (j : Job) (a b : Seen) (s : Status) → (r : Runs j a b s) → a.told ≡ true → TooMuch a b → IsUnlessEnded status.TooLong s
too_long_always j a b s r t h = by_end (ends_with j a b s r) (in_over j r.verdict r.outcomes.unopened (part_of r.read r.outcomes.input_failed) (reading_end r.read r.outcomes.input_failed))
  where
    long : limit < length r.read
    long = omega (arith, ap length (r.does.moves.left t), length-append r.read b.left)

    of_opening : IsOfOpening s → IsUnlessEnded status.TooLong s
    of_opening (inl e) = inr (inl e)
    of_opening (inr (inl e)) = absurd (omega (arith, long, few_at j a b s r (subst IsFew (sym e) tt)))
    of_opening (inr (inr (inl e))) = absurd (omega (arith, long, few_at j a b s r (subst IsFew (sym e) tt)))
    of_opening (inr (inr (inr e))) = absurd (omega (arith, long, few_at j a b s r (subst IsFew (sym e) tt)))

    by_end : IsUnlessEnded (status_of j r.verdict r.outcomes r.read) s → EndsBehind j (ending_of j r.verdict r.outcomes.unopened r.read r.outcomes.input_failed) (reading_end r.read r.outcomes.input_failed) → IsUnlessEnded status.TooLong s
    by_end (inr e) k = inr e
    by_end (inl e) (inl k) = absurd (omega (arith, long, few_at j a b s r (subst IsFew (sym (e ∙ k)) tt)))
    by_end (inl e) (inr (inl k)) = of_opening (subst IsOfOpening (sym e) k)
    by_end (inl e) (inr (inr (inl k))) = inl (e ∙ ap status_at (k ∙ over_ending r.read r.outcomes.input_failed long))
    by_end (inl e) (inr (inr (inr k))) = absurd (omega (arith, long, few_checked j a b s r k.0 (e ∙ ap status_at k.1)))

pub too_long_cause : (j : Job) (a b : Seen) (s : Status) → Runs j a b s → TooLongCause a b s
too_long_cause j a b s r = record {
  only = λ t h. at_too_long j a b (subst (Runs j a b) h r) t;
  always = too_long_always j a b s r;
}

-- ---- status 3

ending_program : (over failed : Bool) → status_at (if over then InputTooLong else if failed then InputFault else Done) ≡ status.Program → ⊥
ending_program true failed h = cc
ending_program false true h = cc
ending_program false false h = cc

-- a part that ends the run is refused
pub record IsRefusedIn (v : Verdict) (read : List ℕ) (failed : Bool) : Type 0 where
  pub part : Part
  pub is_part : part_of read failed ≡ Some part
  pub why : Refusal
  pub refused : HasVerdict part.text (Rejected why)

unopened_program : (p : Program) (u : ℕ × OpenFault) → status_at (unopened_end p u) ≡ status.Program → ⊥
unopened_program p (d, unopened.Memory) h = cc
unopened_program p (d, unopened.Disk) h = cc
unopened_program p (d, unopened.BadStore file at) h = cc
unopened_program p (d, unopened.OtherProgram) h = cc

refused_with : (v : Verdict) (u : Option (ℕ × OpenFault)) (read : List ℕ) (failed : Bool) (part : Part) (s : Ending) (stopped : Option (ℕ × Bool)) → part_of read failed ≡ Some part → IsJudged v (Some part) stopped → status_at (ending_with v u s) ≡ status.Program → (status_at s ≡ status.Program → ⊥) → IsRefusedIn v read failed
refused_with Unknown u read failed part s stopped is q h n = absurd (n h)
refused_with (Accepted p) None read failed part s stopped is q h n = absurd (n h)
refused_with (Accepted p) (Some u) read failed part s stopped is q h n = absurd (unopened_program p u h)
refused_with (Rejected why) u read failed part s stopped is (inl q) h n = record { part = part; is_part = is; why = why; refused = q.has }
refused_with (Rejected why) u read failed part s stopped is (inr q) h n = let k = q.0 in absurd (cc)

behind_program : (j : Job) (s : Ending) → (status_at s ≡ status.Program → ⊥) → status_at (behind_part j s) ≡ status.Program → ⊥
behind_program job.Run s n h = n h
behind_program job.Check s n h = cc

refused_in : (j : Job) (v : Verdict) (u : Option (ℕ × OpenFault)) (read : List ℕ) (failed : Bool) (part : Option Part) (stopped : Option (ℕ × Bool)) → part_of read failed ≡ part → IsJudged v part stopped → status_at (ending_in j v u part (reading_end read failed)) ≡ status.Program → IsRefusedIn v read failed
refused_in j v u read failed None stopped is q h = absurd (ending_program (is_over read) failed h)
refused_in j v u read failed (Some part) stopped is q h = refused_with v u read failed part (behind_part j (reading_end read failed)) stopped is q h (behind_program j (reading_end read failed) (ending_program (is_over read) failed))

at_program : (j : Job) (a b : Seen) → Runs j a b status.Program → a.told ≡ true → IsRefusedPart a b
at_program j a b r t =
    let n = refused_in j r.verdict r.outcomes.unopened r.read r.outcomes.input_failed (part_of r.read r.outcomes.input_failed) r.outcomes.stopped refl r.judged (status_read j a b status.Program r (λ h. absurd (cc)) (λ h. absurd (cc))) in
    record {
      read = r.read;
      left = r.does.moves.left t;
      part = n.part;
      is_cut = r.outcomes.input_failed;
      is_part = n.is_part;
      why = n.why;
      refused = n.refused;
      far = r.far.1;
    }

-- a run that stopped before its first line ends for want of memory, unless the output failed
pub stopped_status : (j : Job) (v : Verdict) (read : List ℕ) (o : Outcomes) (n : ℕ × Bool) → o.stopped ≡ Some n → ending j v read o ≡ NoMemory
stopped_status j v read o n h = ap (λ x. ending_by x j v o.unopened read o.input_failed) h

-- a verdict on a part that is refused ends the run
refused_status_with : (v : Verdict) (u : Option (ℕ × OpenFault)) (text : List ℕ) (why : Refusal) (s : Ending) → Decides text v → HasVerdict text (Rejected why) → status_at (ending_with v u s) ≡ status.Program
refused_status_with Unknown u text why s d h = absurd d.has
refused_status_with (Rejected other) u text why s d h = refl
refused_status_with (Accepted p) u text why s d h = let e : Rejected why ≡ Accepted p = d.only (Rejected why) h in absurd (cc)

-- where the part that was read is refused, the run ends with 3
refused_by : (j : Job) (a b : Seen) (s : Status) (r : Runs j a b s) (part : Part) (why : Refusal) → part_of r.read r.outcomes.input_failed ≡ Some part → HasVerdict part.text (Rejected why) → IsUnlessEnded status.Program s
refused_by j a b s r part why is h = by (subst (λ x. IsJudged r.verdict x r.outcomes.stopped) is r.judged)
  where
    by : IsJudged r.verdict (Some part) r.outcomes.stopped → IsUnlessEnded status.Program s
    by (inr q) = joined (ending j r.verdict r.read r.outcomes) (RefusedProgram why) s (inl (stopped_status j r.verdict r.read r.outcomes (0, true) q.1)) (told_status _ s r.ends)
    by (inl q) =
        let e : status_of j r.verdict r.outcomes r.read ≡ status.Program = ap (λ x. status_at (ending_in j r.verdict r.outcomes.unopened x (reading_end r.read r.outcomes.input_failed))) is ∙ refused_status_with r.verdict r.outcomes.unopened part.text why (behind_part j (reading_end r.read r.outcomes.input_failed)) q h in
        subst (λ x. IsUnlessEnded x s) e (ends_with j a b s r)

-- a separator that was read
pub separated_part : (read : List ℕ) (failed : Bool) (front back : List (List ℕ)) → divided (split (take limit read)).0 ≡ Some (front, back)
    → part_of read failed ≡ part_by (split (take limit read)).0 (split (take limit read)).1 (is_over read || failed) (Some (front, back))
separated_part read failed front back h = ap (part_by (split (take limit read)).0 (split (take limit read)).1 (is_over read || failed)) h

program_always : (j : Job) (a b : Seen) (s : Status) → Runs j a b s → (read : List ℕ) (why : Refusal) (front back : List (List ℕ)) → a.told ≡ true → a.left ≡ read ++ b.left → divided (split (take limit read)).0 ≡ Some (front, back) → HasVerdict (flat_map ended front) (Rejected why) → IsUnlessEnded status.Program s
program_always j a b s r read why front back t left h refused =
    let same : read ≡ r.read = append_cancel_right read r.read b.left (sym left ∙ r.does.moves.left t) in
    refused_by j a b s r _ why (separated_part r.read r.outcomes.input_failed front back (ap (λ x. divided (split (take limit x)).0) (sym same) ∙ h)) refused

input_ends : (read : List ℕ) → length read ≤ limit → reading_end read true ≡ InputFault
input_ends read h = rw (le-ltb limit (length read) h) refl

or_true : (b : Bool) → (b || true) ≡ true
or_true true = refl
or_true false = refl

-- whether or not the input failed behind it, a program part has one text
text_by : (whole : List (List ℕ)) (rest : List ℕ) (is_cut : Bool) (o : Option (List (List ℕ) × List (List ℕ))) (x y : Part) → part_by whole rest true o ≡ Some x → part_by whole rest is_cut o ≡ Some y → y.text ≡ x.text
text_by whole rest is_cut None x y h k = absurd (cc)
text_by whole rest is_cut (Some (front, back)) x y h k = ap text (sym k) ∙ ap text h
  where
    text : Option Part → List ℕ
    text None = []
    text (Some part) = part.text

one_text : (read : List ℕ) (x y : Part) → part_of read true ≡ Some x → part_of read false ≡ Some y → y.text ≡ x.text
one_text read x y h k =
    let parts = split (take limit read) in
    text_by parts.0 parts.1 (is_over read || false) (divided parts.0) x y (ap (λ c. part_by parts.0 parts.1 c (divided parts.0)) (sym (or_true (is_over read))) ∙ h) k

-- a run whose input is refused ends with 3, or with 7 where the input failed
refused_at_end : (j : Job) (a b : Seen) (s : Status) (r : Runs j a b s) (part : Part) (why : Refusal) → length r.read ≤ limit → part_of r.read false ≡ Some part → HasVerdict part.text (Rejected why) → (failed : Bool) → r.outcomes.input_failed ≡ failed
    → IsUnlessEnded status.Program s ⊎ (s ≡ status.Input)
refused_at_end j a b s r part why few is h false e = inl (refused_by j a b s r part why (ap (part_of r.read) e ∙ is) h)
refused_at_end j a b s r part why few is h true e = failing (part_of r.read r.outcomes.input_failed) refl
  where
    unless_input : IsUnlessEnded status.Input s → IsUnlessEnded status.Program s ⊎ (s ≡ status.Input)
    unless_input (inl q) = inr q
    unless_input (inr q) = inl (inr q)

    failing : (o : Option Part) → part_of r.read r.outcomes.input_failed ≡ o → IsUnlessEnded status.Program s ⊎ (s ≡ status.Input)
    failing None q = unless_input (subst (λ x. IsUnlessEnded x s) (ap (λ x. status_at (ending_in j r.verdict r.outcomes.unopened x (reading_end r.read r.outcomes.input_failed))) q ∙ ap (λ f. status_at (reading_end r.read f)) e ∙ ap status_at (input_ends r.read few)) (ends_with j a b s r))
    failing (Some x) q = inl (refused_by j a b s r x why q (subst (λ t. HasVerdict t (Rejected why)) (one_text r.read x part (ap (part_of r.read) (sym e) ∙ q) is) h))

program_at_end : (j : Job) (a b : Seen) (s : Status) → Runs j a b s → (read : List ℕ) (why : Refusal) (part : Part) → a.told ≡ true → a.left ≡ read ++ b.left → length read ≤ limit → part_of read false ≡ Some part → HasVerdict part.text (Rejected why)
    → IsUnlessEnded status.Program s ⊎ (s ≡ status.Input)
program_at_end j a b s r read why part t left few is refused =
    let same : read ≡ r.read = append_cancel_right read r.read b.left (sym left ∙ r.does.moves.left t) in
    refused_at_end j a b s r part why (subst (λ x. length x ≤ limit) same few) (ap (λ x. part_of x false) (sym same) ∙ is) refused r.outcomes.input_failed refl

pub program_cause : (j : Job) (a b : Seen) (s : Status) → Runs j a b s → ProgramCause a b s
program_cause j a b s r = record {
  only = λ t h. at_program j a b (subst (Runs j a b) h r) t;
  always = program_always j a b s r;
  at_end = program_at_end j a b s r;
}

-- ---- statuses 4, 5 and 6

-- a device doesn't open, as it says here
pub record IsRefusedOpening (j : Job) (v : Verdict) (u : Option (ℕ × OpenFault)) (a b : Seen) : Type 0 where
  pub runs : j ≡ job.Run
  pub program : Program
  pub fault : ℕ × OpenFault
  pub accepted : v ≡ Accepted program
  pub is : u ≡ Some fault
  pub read : List ℕ
  pub part_read : Seen
  pub reads_part : Does a part_read read [] none
  pub opening : IsOpening program (Some fault) part_read b

refused_opening : (j : Job) (v : Verdict) (u : Option (ℕ × OpenFault)) (session : Option Session) (lines unanswered : List DoneLine) (a b : Seen) → Course j v u session lines unanswered a b → (u ≡ None) ⊎ IsRefusedOpening j v u a b
refused_opening j v u session lines unanswered a b (reads lacks opens did un does) = inl opens
refused_opening j v u session lines unanswered a b (opens_none {p} {u = f} {read} {part_read = m} run accepted is lacks did un does whole opening) = inr (record { runs = run; program = p; fault = f; accepted = accepted; is = is; read = read; part_read = m; reads_part = does; opening = opening })
refused_opening j v u session lines unanswered a b (serves run accepted opens is spelled ordered) = inl opens

-- such a status comes of a device that doesn't open alone
abbrev IsOfStore : Status → Type 0
IsOfStore s = (s ≡ status.Disk) ⊎ ((s ≡ status.Store) ⊎ (s ≡ status.OtherProgram))

not_store : (r s : Status) → IsOfStore s → r ≡ s → (r ≡ status.Disk → ⊥) → (r ≡ status.Store → ⊥) → (r ≡ status.OtherProgram → ⊥) → ⊥
not_store r s (inl h) e d b o = d (e ∙ h)
not_store r s (inr (inl h)) e d b o = b (e ∙ h)
not_store r s (inr (inr h)) e d b o = o (e ∙ h)

reading_store : (over failed : Bool) (s : Status) → IsOfStore s → status_at (if over then InputTooLong else if failed then InputFault else Done) ≡ s → ⊥
reading_store true failed s h e = not_store status.TooLong s h e (λ k. cc) (λ k. cc) (λ k. cc)
reading_store false true s h e = not_store status.Input s h e (λ k. cc) (λ k. cc) (λ k. cc)
reading_store false false s h e = not_store status.Done s h e (λ k. cc) (λ k. cc) (λ k. cc)

behind_store : (j : Job) (e : Ending) (s : Status) → IsOfStore s → (status_at e ≡ s → ⊥) → status_at (behind_part j e) ≡ s → ⊥
behind_store job.Run e s h n k = n k
behind_store job.Check e s h n k = not_store status.Done s h k (λ q. cc) (λ q. cc) (λ q. cc)

-- a device that doesn't open, by the status
pub record IsUnopenedAs (v : Verdict) (u : Option (ℕ × OpenFault)) (s : Status) : Type 0 where
  pub program : Program
  pub fault : ℕ × OpenFault
  pub accepted : v ≡ Accepted program
  pub is : u ≡ Some fault
  pub status_is : status_at (unopened_end program fault) ≡ s

with_store : (v : Verdict) (u : Option (ℕ × OpenFault)) (e : Ending) (s : Status) → IsOfStore s → (status_at e ≡ s → ⊥) → status_at (ending_with v u e) ≡ s → IsUnopenedAs v u s
with_store Unknown u e s h n k = absurd (n k)
with_store (Rejected why) u e s h n k = absurd (not_store status.Program s h k (λ q. cc) (λ q. cc) (λ q. cc))
with_store (Accepted p) None e s h n k = absurd (n k)
with_store (Accepted p) (Some f) e s h n k = record { program = p; fault = f; accepted = refl; is = refl; status_is = k }

pub record HasStoreStatus (j : Job) (v : Verdict) (u : Option (ℕ × OpenFault)) (read : List ℕ) (failed : Bool) (s : Status) : Type 0 where
  pub part : Part
  pub is_part : part_of read failed ≡ Some part
  pub unopened : IsUnopenedAs v u s

store_status : (j : Job) (v : Verdict) (u : Option (ℕ × OpenFault)) (read : List ℕ) (failed : Bool) (s : Status) → IsOfStore s → status_at (ending_of j v u read failed) ≡ s → HasStoreStatus j v u read failed s
store_status j v u read failed s h e = by (part_of read failed) refl
  where
    by : (part : Option Part) → part_of read failed ≡ part → HasStoreStatus j v u read failed s
    by None is = absurd (reading_store (is_over read) failed s h (sym (ap (λ x. status_at (ending_in j v u x (reading_end read failed))) is) ∙ e))
    by (Some part) is = record {
      part = part;
      is_part = is;
      unopened = with_store v u (behind_part j (reading_end read failed)) s h (behind_store j (reading_end read failed) s h (reading_store (is_over read) failed s h)) (sym (ap (λ x. status_at (ending_in j v u x (reading_end read failed))) is) ∙ e);
    }

one_program : (p q : Program) → Accepted p ≡ Accepted q → p ≡ q
one_program p q e = cc

one_fault_of : (f g : ℕ × OpenFault) → ◌≡◌ {A = Option (ℕ × OpenFault)} (Some f) (Some g) → f ≡ g
one_fault_of f g e = cc

accepted_text : (v : Verdict) (p : Program) (part : Part) (stopped : Option (ℕ × Bool)) → v ≡ Accepted p → IsJudged v (Some part) stopped → HasVerdict part.text (Accepted p)
accepted_text v p part stopped is (inl q) = subst (HasVerdict part.text) is q.has
accepted_text v p part stopped is (inr q) = let no : Accepted p ≡ Unknown = sym is ∙ q.0 in absurd (cc)

pub before_on : (p : Program) (d : ℕ) (a m : Seen) → ((e f : ℕ) → content_in m e f ≡ content_in a e f) → OpenBefore p d m → OpenBefore p d a
before_on p d a m same h = λ e below. let o = h e below in (o.0, subst (λ x. OpensTo p e (content_in a e 0) x o.0) (same e 1) (subst (λ x. OpensTo p e x (content_in m e 1) o.0) (same e 0) o.1))

pub store_on : (p : Program) (d : ℕ) (stored : Stored) (a m : Seen) → ((e f : ℕ) → content_in m e f ≡ content_in a e f) → HasStore p d (content_in m d 0) (content_in m d 1) stored → HasStore p d (content_in a d 0) (content_in a d 1) stored
store_on p d stored a m same h = subst (λ x. HasStore p d (content_in a d 0) x stored) (same d 1) (subst (λ x. HasStore p d x (content_in m d 1) stored) (same d 0) h)

-- ---- counts of disks

pub quiet_does : (a b : Seen) (read text : List ℕ) → Does a b read text none → (d : ℕ) → disk_faults d b ≡ disk_faults d a
quiet_does a b read text does d = (does.moves.counts (Disk d)).0 refl

pub quiet_halts : (failed : Bool) (calm halted : Seen) → Halts failed calm halted → (d : ℕ) → disk_faults d halted ≡ disk_faults d calm
quiet_halts false calm halted h d = ap (disk_faults d) h
quiet_halts true calm halted f d = (f.moves.counts (Disk d)).0 refl

quiet_breaks : (a b : Seen) (text : List ℕ) → Breaks a b text none → (d : ℕ) → disk_faults d b ≡ disk_faults d a
quiet_breaks a b text k d = (k.failed.moves.counts (Disk d)).0 refl ∙ quiet_does a k.before [] k.front k.does d

pub quiet_closes : (halted new : Seen) (last : List ℕ) (s : Status) → Closes halted new last s → (d : ℕ) → disk_faults d new ≡ disk_faults d halted
quiet_closes halted new last status.Output k d = quiet_breaks halted new last k d
quiet_closes halted new last status.Done k d = quiet_does halted new [] last k d
quiet_closes halted new last status.Words k d = quiet_does halted new [] last k d
quiet_closes halted new last status.Program k d = quiet_does halted new [] last k d
quiet_closes halted new last status.Store k d = quiet_does halted new [] last k d
quiet_closes halted new last status.OtherProgram k d = quiet_does halted new [] last k d
quiet_closes halted new last status.Disk k d = quiet_does halted new [] last k d
quiet_closes halted new last status.Input k d = quiet_does halted new [] last k d
quiet_closes halted new last status.Memory k d = quiet_does halted new [] last k d
quiet_closes halted new last status.TooLong k d = quiet_does halted new [] last k d
quiet_closes halted new last status.Line k d = quiet_does halted new [] last k d

-- what a device that doesn't open says of the whole run, by its fault
module _ (j : Job) (a b : Seen) (s : Status) (r : Runs j a b s) (h : IsOfStore s) (far : HasSeparator r.read ⊎ IsAtEnd b) where
  status_is : HasStoreStatus j r.verdict r.outcomes.unopened r.read r.outcomes.input_failed s
  status_is = store_status j r.verdict r.outcomes.unopened r.read r.outcomes.input_failed s h
      (status_read j a b s r (λ e. not_store status.Memory s h (sym e) (λ q. cc) (λ q. cc) (λ q. cc)) (λ e. not_store status.Output s h (sym e) (λ q. cc) (λ q. cc) (λ q. cc)))

  refused_here : (o : IsRefusedOpening j r.verdict r.outcomes.unopened a r.calm) × (status_at (unopened_end o.program o.fault) ≡ s)
  refused_here = by (refused_opening j r.verdict r.outcomes.unopened _ r.lines r.unanswered a r.calm r.course)
    where
      by : (r.outcomes.unopened ≡ None) ⊎ IsRefusedOpening j r.verdict r.outcomes.unopened a r.calm → (o : IsRefusedOpening j r.verdict r.outcomes.unopened a r.calm) × (status_at (unopened_end o.program o.fault) ≡ s)
      by (inl none) = let no : Some status_is.unopened.fault ≡ None = sym status_is.unopened.is ∙ none in absurd (cc)
      by (inr o) =
          let p = one_program o.program status_is.unopened.program (sym o.accepted ∙ status_is.unopened.accepted) in
          let f = one_fault_of o.fault status_is.unopened.fault (sym o.is ∙ status_is.unopened.is) in
          (o, ap (λ x. status_at (unopened_end x o.fault)) p ∙ ap (λ x. status_at (unopened_end status_is.unopened.program x)) f ∙ status_is.unopened.status_is)

  accepted_here : a.told ≡ true → IsAcceptedPart a b refused_here.0.program
  accepted_here t = record {
    read = r.read;
    left = r.does.moves.left t;
    part = status_is.part;
    is_cut = r.outcomes.input_failed;
    is_part = status_is.is_part;
    accepted = accepted_text r.verdict refused_here.0.program status_is.part r.outcomes.stopped refused_here.0.accepted (subst (λ x. IsJudged r.verdict x r.outcomes.stopped) status_is.is_part r.judged);
    far = far;
  }

  same_files : a.told ≡ true → (e f : ℕ) → content_in refused_here.0.part_read e f ≡ content_in a e f
  same_files t e f = content_on a refused_here.0.part_read refused_here.0.read [] none t refused_here.0.reads_part e f

  finds_store : a.told ≡ true → (d : ℕ) (stored : Stored) → d < device_count refused_here.0.program.decls.items → OpenBefore refused_here.0.program d refused_here.0.part_read → HasStore refused_here.0.program d (content_in refused_here.0.part_read d 0) (content_in refused_here.0.part_read d 1) stored → FindsStore a b refused_here.0.program d stored
  finds_store t d stored below before store = record {
    accepted = accepted_here t;
    is_device = below;
    before = before_on refused_here.0.program d a refused_here.0.part_read (same_files t) before;
    store = store_on refused_here.0.program d stored a refused_here.0.part_read (same_files t) store;
  }

  told_here : a.told ≡ true → refused_here.0.part_read.told ≡ true
  told_here t = refused_here.0.reads_part.moves.told ∙ t

  find_bad : a.told ≡ true → s ≡ status.Store → (u : ℕ × OpenFault) → refused_here.0.fault ≡ u → IsOfProgram refused_here.0.program (Some u) → FindsUnopened refused_here.0.program (Some u) refused_here.0.part_read r.calm → (p : Program) × (d : ℕ) × (file : ℕ) × (at : ℕ) × FindsStore a b p d (stores.Bad file at)
  find_bad t is (d, unopened.BadStore file at) e b f = (refused_here.0.program, d, file, at, finds_store t d (stores.Bad file at) b f.0 f.1)
  find_bad t is (d, unopened.Memory) e b f = let no : status.Memory ≡ status.Store = sym (ap (λ x. status_at (unopened_end refused_here.0.program x)) e) ∙ refused_here.1 ∙ is in absurd (cc)
  find_bad t is (d, unopened.Disk) e b f = let no : status.Disk ≡ status.Store = sym (ap (λ x. status_at (unopened_end refused_here.0.program x)) e) ∙ refused_here.1 ∙ is in absurd (cc)
  find_bad t is (d, unopened.OtherProgram) e b f = let no : status.OtherProgram ≡ status.Store = sym (ap (λ x. status_at (unopened_end refused_here.0.program x)) e) ∙ refused_here.1 ∙ is in absurd (cc)

  find_other : a.told ≡ true → s ≡ status.OtherProgram → (u : ℕ × OpenFault) → refused_here.0.fault ≡ u → IsOfProgram refused_here.0.program (Some u) → FindsUnopened refused_here.0.program (Some u) refused_here.0.part_read r.calm → (p : Program) × (d : ℕ) × FindsStore a b p d stores.OtherProgram
  find_other t is (d, unopened.OtherProgram) e b f = (refused_here.0.program, d, finds_store t d stores.OtherProgram b f.0 f.1)
  find_other t is (d, unopened.Memory) e b f = let no : status.Memory ≡ status.OtherProgram = sym (ap (λ x. status_at (unopened_end refused_here.0.program x)) e) ∙ refused_here.1 ∙ is in absurd (cc)
  find_other t is (d, unopened.Disk) e b f = let no : status.Disk ≡ status.OtherProgram = sym (ap (λ x. status_at (unopened_end refused_here.0.program x)) e) ∙ refused_here.1 ∙ is in absurd (cc)
  find_other t is (d, unopened.BadStore file at) e b f = let no : status.Store ≡ status.OtherProgram = sym (ap (λ x. status_at (unopened_end refused_here.0.program x)) e) ∙ refused_here.1 ∙ is in absurd (cc)

  rose_here : (d : ℕ) → Rose (disk_faults d refused_here.0.part_read) (disk_faults d r.calm) → Rose (disk_faults d a) (disk_faults d b)
  rose_here d rose =
      let first = quiet_does a refused_here.0.part_read refused_here.0.read [] refused_here.0.reads_part d in
      let last = quiet_closes r.halted b r.last s r.closes d ∙ quiet_halts r.outcomes.input_failed r.calm r.halted r.halts d in
      subst (λ x. Rose x (disk_faults d b)) first (subst (λ x. Rose (disk_faults d refused_here.0.part_read) x) (sym last) rose)

  find_disk : s ≡ status.Disk → (u : ℕ × OpenFault) → refused_here.0.fault ≡ u → IsOfProgram refused_here.0.program (Some u) → (a.told ≡ true → FindsUnopened refused_here.0.program (Some u) refused_here.0.part_read r.calm) → FailsOpening (Some u) refused_here.0.part_read r.calm → (p : Program) × (d : ℕ) × FindsFault a b p d
  find_disk is (d, unopened.Disk) e below opens f = (
    refused_here.0.program,
    d,
    record {
      rose = rose_here d f.0;
      is_device = below;
      accepted = accepted_here;
      before = λ t. before_on refused_here.0.program d a refused_here.0.part_read (same_files t) (opens t).0;
    },
  )
  find_disk is (d, unopened.Memory) e below opens f = let no : status.Memory ≡ status.Disk = sym (ap (λ x. status_at (unopened_end refused_here.0.program x)) e) ∙ refused_here.1 ∙ is in absurd (cc)
  find_disk is (d, unopened.BadStore file at) e below opens f = let no : status.Store ≡ status.Disk = sym (ap (λ x. status_at (unopened_end refused_here.0.program x)) e) ∙ refused_here.1 ∙ is in absurd (cc)
  find_disk is (d, unopened.OtherProgram) e below opens f = let no : status.OtherProgram ≡ status.Disk = sym (ap (λ x. status_at (unopened_end refused_here.0.program x)) e) ∙ refused_here.1 ∙ is in absurd (cc)

  pub bad_found : a.told ≡ true → s ≡ status.Store → (p : Program) × (d : ℕ) × (file : ℕ) × (at : ℕ) × FindsStore a b p d (stores.Bad file at)
  bad_found t is = find_bad t is refused_here.0.fault refl refused_here.0.opening.of_program (refused_here.0.opening.finds (told_here t))

  pub other_found : a.told ≡ true → s ≡ status.OtherProgram → (p : Program) × (d : ℕ) × FindsStore a b p d stores.OtherProgram
  other_found t is = find_other t is refused_here.0.fault refl refused_here.0.opening.of_program (refused_here.0.opening.finds (told_here t))

  pub disk_found : s ≡ status.Disk → (p : Program) × (d : ℕ) × FindsFault a b p d
  disk_found is = find_disk is refused_here.0.fault refl refused_here.0.opening.of_program (λ t. refused_here.0.opening.finds (told_here t)) refused_here.0.opening.failed

  pub runs_found : j ≡ job.Run
  runs_found = refused_here.0.runs

-- at these statuses the program part was read whole
pub far_at : (j : Job) (a b : Seen) (s : Status) (r : Runs j a b s) → IsOfStore s → HasSeparator r.read ⊎ IsAtEnd b
far_at j a b status.Disk r h = r.far.1
far_at j a b status.Store r h = r.far.1
far_at j a b status.OtherProgram r h = r.far.1
far_at j a b status.Done r h = absurd (not_store status.Done _ h refl (λ q. cc) (λ q. cc) (λ q. cc))
far_at j a b status.Words r h = absurd (not_store status.Words _ h refl (λ q. cc) (λ q. cc) (λ q. cc))
far_at j a b status.Program r h = absurd (not_store status.Program _ h refl (λ q. cc) (λ q. cc) (λ q. cc))
far_at j a b status.Input r h = absurd (not_store status.Input _ h refl (λ q. cc) (λ q. cc) (λ q. cc))
far_at j a b status.Output r h = absurd (not_store status.Output _ h refl (λ q. cc) (λ q. cc) (λ q. cc))
far_at j a b status.Memory r h = absurd (not_store status.Memory _ h refl (λ q. cc) (λ q. cc) (λ q. cc))
far_at j a b status.TooLong r h = absurd (not_store status.TooLong _ h refl (λ q. cc) (λ q. cc) (λ q. cc))
far_at j a b status.Line r h = absurd (not_store status.Line _ h refl (λ q. cc) (λ q. cc) (λ q. cc))

-- a store that is bad
pub bad_here : (j : Job) (a b : Seen) (s : Status) → Runs j a b s → a.told ≡ true → s ≡ status.Store → (p : Program) × (d : ℕ) × (file : ℕ) × (at : ℕ) × FindsStore a b p d (stores.Bad file at)
bad_here j a b s r t is = let h : IsOfStore s = inr (inl is) in bad_found j a b s r h (far_at j a b s r h) t is

-- one of another program
pub other_here : (j : Job) (a b : Seen) (s : Status) → Runs j a b s → a.told ≡ true → s ≡ status.OtherProgram → (p : Program) × (d : ℕ) × FindsStore a b p d stores.OtherProgram
other_here j a b s r t is = let h : IsOfStore s = inr (inr is) in other_found j a b s r h (far_at j a b s r h) t is

-- a disk that failed
pub disk_here : (j : Job) (a b : Seen) (s : Status) → Runs j a b s → s ≡ status.Disk → (p : Program) × (d : ℕ) × FindsFault a b p d
disk_here j a b s r is = let h : IsOfStore s = inl is in disk_found j a b s r h (far_at j a b s r h) is

-- it is `run` that opens devices
runs_here : (j : Job) (a b : Seen) (s : Status) → Runs j a b s → IsOfStore s → j ≡ job.Run
runs_here j a b s r h = runs_found j a b s r h (far_at j a b s r h)

counts_rose : (before now : ℕ) → Rose before now → Counts 1 before now
counts_rose before now h = (λ e. absurd (cc), h)

-- ---- runs that end before they begin

-- nothing was taken, and a last line was said or broke off
pub record EndsAtOnce (old new : Seen) (s : Status) : Type 0 where
  pub text : List ℕ
  pub ran : Ran old new [] text false (is_output s)

ran_none : (a : Seen) → Ran a a [] [] false false
ran_none a = ran_goes a a [] [] (goes_nil a)

ends_said : (a b : Seen) (text : List ℕ) (s : Status) → is_output s ≡ false → Does a b [] text none → EndsAtOnce a b s
ends_said a b text s h d = record { text = text; ran = subst (λ x. Ran a b [] text false x) (sym h) (ran_says a a b [] [] text false (ran_none a) d) }

finishes_at_once : (a b : Seen) (line : List ℕ) (wanted s : Status) → Finishes a b line wanted s → EndsAtOnce a b s
finishes_at_once a b line wanted status.Output d = record { text = d.front; ran = ran_breaks a a b [] [] d.front false (ran_none a) (breaks_does a b line none d) }
finishes_at_once a b line wanted status.Done d = ends_said a b _ status.Done refl d.1
finishes_at_once a b line wanted status.Words d = ends_said a b _ status.Words refl d.1
finishes_at_once a b line wanted status.Program d = ends_said a b _ status.Program refl d.1
finishes_at_once a b line wanted status.Store d = ends_said a b _ status.Store refl d.1
finishes_at_once a b line wanted status.OtherProgram d = ends_said a b _ status.OtherProgram refl d.1
finishes_at_once a b line wanted status.Disk d = ends_said a b _ status.Disk refl d.1
finishes_at_once a b line wanted status.Input d = ends_said a b _ status.Input refl d.1
finishes_at_once a b line wanted status.Memory d = ends_said a b _ status.Memory refl d.1
finishes_at_once a b line wanted status.TooLong d = ends_said a b _ status.TooLong refl d.1
finishes_at_once a b line wanted status.Line d = ends_said a b _ status.Line refl d.1

-- the status of refused words
refused_status : (a b : Seen) (line : List ℕ) (wanted s : Status) → Finishes a b line wanted s → (s ≡ status.Output) ⊎ (s ≡ wanted)
refused_status a b line wanted status.Output d = inl refl
refused_status a b line wanted status.Done d = inr d.0
refused_status a b line wanted status.Words d = inr d.0
refused_status a b line wanted status.Program d = inr d.0
refused_status a b line wanted status.Store d = inr d.0
refused_status a b line wanted status.OtherProgram d = inr d.0
refused_status a b line wanted status.Disk d = inr d.0
refused_status a b line wanted status.Input d = inr d.0
refused_status a b line wanted status.Memory d = inr d.0
refused_status a b line wanted status.TooLong d = inr d.0
refused_status a b line wanted status.Line d = inr d.0

refuses_at_once : (a b : Seen) (s : Status) → Refuses a b s → EndsAtOnce a b s
refuses_at_once a b s (inl d) = finishes_at_once a b _ status.Words s d
refuses_at_once a b s (inr d) = finishes_at_once a b _ status.Memory s d

-- refused words end with one of three statuses
refuses_with : (a b : Seen) (s : Status) → Refuses a b s → IsUnlessEnded status.Words s
refuses_with a b s (inl d) = words (refused_status a b _ status.Words s d)
  where
    words : (s ≡ status.Output) ⊎ (s ≡ status.Words) → IsUnlessEnded status.Words s
    words (inl h) = inr (inr h)
    words (inr h) = inl h
refuses_with a b s (inr d) = memory (refused_status a b _ status.Memory s d)
  where
    memory : (s ≡ status.Output) ⊎ (s ≡ status.Memory) → IsUnlessEnded status.Words s
    memory (inl h) = inr (inr h)
    memory (inr h) = inr (inl h)

never : (s r : Status) → IsUnlessEnded status.Words s → s ≡ r → (r ≡ status.Words → ⊥) → (r ≡ status.Memory → ⊥) → (r ≡ status.Output → ⊥) → ⊥
never s r (inl h) e w m o = w (sym e ∙ h)
never s r (inr (inl h)) e w m o = m (sym e ∙ h)
never s r (inr (inr h)) e w m o = o (sym e ∙ h)

untaken : (a b : Seen) (s : Status) → EndsAtOnce a b s → a.told ≡ true → a.left ≡ b.left
untaken a b s e t = e.ran.does.moves.left t

pub refused_input : (a b : Seen) (s : Status) → Refuses a b s → InputCause a b s
refused_input a b s d h = absurd (never s status.Input (refuses_with a b s d) h (λ q. cc) (λ q. cc) (λ q. cc))

pub refused_output : (a b : Seen) (s : Status) → Refuses a b s → OutputCause a b s
refused_output a b s d = let e = refuses_at_once a b s d in subst (λ n. Counts n (a.faults Output) (b.faults Output)) e.ran.output (e.ran.does.moves.counts Output)

pub refused_end : (j : Job) (a b : Seen) (s : Status) → Refuses a b s → EndCause j a b s
refused_end j a b s d h = absurd (never s status.Done (refuses_with a b s d) h (λ q. cc) (λ q. cc) (λ q. cc))

pub refused_too_long : (a b : Seen) (s : Status) → Refuses a b s → TooLongCause a b s
refused_too_long a b s d = record {
  only = λ t h. absurd (never s status.TooLong (refuses_with a b s d) h (λ q. cc) (λ q. cc) (λ q. cc));
  always = λ t h. absurd (omega (arith, h, ap length (untaken a b s (refuses_at_once a b s d) t)));
}

-- a run never says that the words are bad
run_words : (j : Job) (a b : Seen) → Runs j a b status.Words → ⊥
run_words j a b r = ending_words (is_over r.read) r.outcomes.input_failed (in_part j r.verdict r.outcomes.unopened (part_of r.read r.outcomes.input_failed) (reading_end r.read r.outcomes.input_failed) status.Words (status_read j a b status.Words r (λ h. absurd (cc)) (λ h. absurd (cc))) (λ h. absurd (cc)) (λ h. absurd (cc)) (no_opening status.Words (λ h. absurd (cc)) (λ h. absurd (cc)) (λ h. absurd (cc)) (λ h. absurd (cc))))
  where
    ending_words : (over failed : Bool) → status_at (if over then InputTooLong else if failed then InputFault else Done) ≡ status.Words → ⊥
    ending_words true failed h = cc
    ending_words false true h = cc
    ending_words false false h = cc

pub never_words : (j : Job) (a b : Seen) (s : Status) → Runs j a b s → s ≡ status.Words → ⊥
never_words j a b s r h = run_words j a b (subst (Runs j a b) h r)

-- ---- completeness

run_line : (j : Job) (a b : Seen) → Runs j a b status.Line → ⊥
run_line j a b r = ending_line (is_over r.read) r.outcomes.input_failed (in_part j r.verdict r.outcomes.unopened (part_of r.read r.outcomes.input_failed) (reading_end r.read r.outcomes.input_failed) status.Line (status_read j a b status.Line r (λ h. absurd (cc)) (λ h. absurd (cc))) (λ h. absurd (cc)) (λ h. absurd (cc)) (no_opening status.Line (λ h. absurd (cc)) (λ h. absurd (cc)) (λ h. absurd (cc)) (λ h. absurd (cc))))
  where
    ending_line : (over failed : Bool) → status_at (if over then InputTooLong else if failed then InputFault else Done) ≡ status.Line → ⊥
    ending_line true failed h = cc
    ending_line false true h = cc
    ending_line false false h = cc

pub completes : (j : Job) (a b : Seen) (s : Status) → Runs j a b s → Completes j a b s
completes j a b status.Done r u = inl refl
completes j a b status.Memory r u = inr refl
completes j a b status.Program r u = absurd (u.accepted (at_program j a b r u.told))
completes j a b status.Input r u = absurd (u.quiet Input (at_input j a b r))
completes j a b status.Output r u = absurd (u.quiet Output (output_cause j a b status.Output r))
completes j a b status.TooLong r u = absurd (u.few (at_too_long j a b r u.told))
completes j a b status.Words r u = absurd (run_words j a b r)
completes j a b status.Store r u = let f = bad_here j a b status.Store r u.told refl in absurd (u.bad (runs_here j a b status.Store r (inr (inl refl))) f.0 f.1 f.2 f.3 f.4)
completes j a b status.OtherProgram r u = let f = other_here j a b status.OtherProgram r u.told refl in absurd (u.others (runs_here j a b status.OtherProgram r (inr (inr refl))) f.0 f.1 f.2)
completes j a b status.Disk r u = let f = disk_here j a b status.Disk r refl in absurd (u.quiet (Disk f.1) (counts_rose _ _ f.2.rose))
completes j a b status.Line r u = absurd (run_line j a b r)
