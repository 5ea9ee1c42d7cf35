-- The steps by which devices are opened, one behind the other.
use Rattle.std.proofs.Common.{◌≡◌, ◌⊎◌, inl, inr, ◌+◌, ◌++◌, [], ℕ, suc, Result, Ok, Err, length, refl, sym, ap, subst, ◌∙◌, arith}
use Rattle.std.specs.Prelude.{true, ◌&&◌, if◌then◌else◌}
use Rattle.std.specs.Result.{IsErrAnd}
use Rattle.std.proofs.lemmas.List.{append_assoc}
use Rattle.re_compact.specs.Finding.{open_steps}
use Rattle.re_compact.specs.declared.fault.OpenFault.{OpenFault}
use Rattle.re_compact.specs.declared.fault.OpenFault.TheVariants.{BadStore, Disk, Memory, OtherProgram}
use Rattle.re_journal.specs.Journals.{frame_of}
use Rattle.re_outside.specs.Frame.{is_blank}
use Rattle.re_outside.specs.Trace.{Past, as_device, content_at, with_steps}
use Rattle.re_restore.specs.Opening.{lay_steps, start_snapshot}
use Rattle.re_terms.specs.declared.program.Program.{Program}
use Rattle.re_world.specs.Opening.{HasAllOpeningSteps, HasNextSteps, HasOpeningSteps, RanOutBefore, after_opening, opening_steps, steps_before}

-- the calls of an opening that is refused are handed on with the refusal
pub steps_handed : (T : Type 0) {U : Type 0} (p : Program) (n : ℕ) (r : Result U OpenFault) (e : OpenFault) (old now : Past) → IsErrAnd r (λ x. x ≡ e) → HasOpeningSteps {T = T} p n old now (Err e) → HasOpeningSteps {T = U} p n old now r
steps_handed T {U} p n (Ok x) e old now is h = absurd is
steps_handed T {U} p n (Err f) e old now is h = by_fault f (subst (λ (x : OpenFault). HasOpeningSteps {T = T} p n old now (Err x)) (sym is) h)
  where
    by_fault : (f : OpenFault) → HasOpeningSteps {T = T} p n old now (Err f) → HasOpeningSteps {T = U} p n old now (Err f)
    by_fault Memory h = h
    by_fault Disk h = h
    by_fault (BadStore file at) h = h
    by_fault OtherProgram h = h

-- the same of opening the next device
pub next_handed : (T U : Type 0) (p : Program) (n : ℕ) (f : OpenFault) (old now : Past) → HasNextSteps {T = T} p n old now (Err f) → HasNextSteps {T = U} p n old now (Err f)
next_handed T U p n f old now (inl none) = inl (by_fault f none)
  where
    by_fault : (f : OpenFault) → RanOutBefore {T = T} old now (Err f) → RanOutBefore {T = U} old now (Err f)
    by_fault Memory h = h
    by_fault Disk h = h
    by_fault (BadStore file at) h = h
    by_fault OtherProgram h = h
next_handed T U p n f old now (inr made) = inr (steps_handed T {U = U} p n (Err f) f old now refl made)

-- the same of opening all devices
pub all_handed : (T : Type 0) {U : Type 0} (p : Program) (r : Result U (ℕ × OpenFault)) (e : ℕ × OpenFault) (old now : Past) → IsErrAnd r (λ x. x ≡ e) → HasAllOpeningSteps {T = T} p old now (Err e) → HasAllOpeningSteps {T = U} p old now r
all_handed T {U} p (Ok x) e old now is h = absurd is
all_handed T {U} p (Err (d, f)) e old now is h =
    next_handed T U p d f (as_device d (after_opening p d old)) (as_device d now) (subst (λ (x : ℕ × OpenFault). HasAllOpeningSteps {T = T} p old now (Err x)) (sym is) h)

-- a device is opened by the same steps where its files read the same
pub same_steps : (p : Program) (n : ℕ) (old mid : Past) → ((f : ℕ) → content_at mid n f ≡ content_at old n f) → opening_steps p n (as_device n mid) ≡ opening_steps p n (as_device n old)
same_steps p n old mid same = λ i. open_steps n ++ (if is_blank (same 0 i) && is_blank (same 1 i) then lay_steps n 0 true (length (same 0 i)) (frame_of (start_snapshot p n)) else [])

-- where the next device was opened all its calls were made
pub made : {A : Type 0} → ⊥ ⊎ A → A
made (inl none) = absurd none
made (inr all) = all

-- one device more is opened behind those before it
pub steps_more : (p : Program) (n : ℕ) (old mid now : Past) → mid ≡ after_opening p n old → ((f : ℕ) → content_at mid n f ≡ content_at old n f) → as_device n now ≡ with_steps (as_device n mid) (opening_steps p n (as_device n mid)) → now.device ≡ old.device → now ≡ after_opening p (n + 1) old
steps_more p n old mid now moment same made device =
    subst (λ k. now ≡ after_opening p k old) next (λ i. record { device = device i; start = start_is i; trace = trace_is i })
  where
    next : suc n ≡ n + 1
    next = omega arith

    start_is : now.start ≡ old.start
    start_is = ap (λ (q : Past). q.start) made ∙ ap (λ (q : Past). q.start) moment

    trace_is : now.trace ≡ old.trace ++ (steps_before p n old ++ opening_steps p n (as_device n old))
    trace_is =
        ap (λ (q : Past). q.trace) made
        ∙ (λ i. (moment i).trace ++ same_steps p n old mid same i)
        ∙ append_assoc old.trace (steps_before p n old) (opening_steps p n (as_device n old))
