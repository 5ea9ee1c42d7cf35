-- What a call's result says, from what its parts answered.
use Rattle.std.proofs.Common.{◌≡◌, ◌≢◌, inl, inr, ◌∙◌, ◌+◌, [], ℕ, Bool, true, false, Option, None, Some, List, Result, Ok, Err, refl, sym, ap, subst}
use Rattle.std.specs.Prelude.{IfOk, IsErrAnd, OnOk}
use Rattle.re_device.proofs.Results.{at_ok}
use Rattle.re_device.proofs.WorldSteps.{EntryFares, Fares, IsDone}
use Rattle.re_device.specs.Causes.{entry_refusal, refusal_by}
use Rattle.re_device.specs.Device.{DeviceMemory, DeviceState, all_settled, current, limit_against, logged, takes_no_more, with_entry}
use Rattle.re_device.specs.Refusals.{fault_of_journal, fault_of_limit}
use Rattle.re_device.specs.Taking.{IsCommitFault, IsTakingFault}
use Rattle.re_device.specs.declared.fault.DeviceFault.{DeviceFault}
use Rattle.re_device.specs.declared.fault.DeviceFault.TheVariants as fault
use Rattle.re_device.specs.declared.fault.Done.{Done}
use Rattle.re_journal.specs.declared.fault.JournalFault.{JournalFault}
use Rattle.re_journal.specs.declared.fault.JournalFault.TheVariants as journal
use Rattle.re_record.specs.Restoring.{after_all}
use Rattle.re_terms.specs.Limits as limits
use Rattle.re_terms.specs.Limits.{OperationFault}
use Rattle.re_terms.specs.Worlds.{PlainAnswer}
use Rattle.re_terms.specs.declared.entry.Entry.{Entry}
use Rattle.re_terms.specs.declared.entry.Logged.{Logged}

-- a number that isn't missing
number_of : (s : Option ℕ) → s ≢ None → (at : ℕ) × (s ≡ Some at)
number_of None some = absurd (some refl)
number_of (Some at) some = (at, refl)

-- a refusal that is handed on
handed : {T : Type 0} (P : Result T DeviceFault → Type 0) (result : Result T DeviceFault) (f : DeviceFault) → IsErrAnd result (λ g. g ≡ f) → P (Err f) → P result
handed P (Ok x) f is h = absurd is
handed P (Err g) f is h = subst (λ (k : DeviceFault). P (Err k)) (sym is) h

module _ {T : Type 0} (old new : DeviceState) (Calls : Type 0) (Done : T → Type 0) (result : Result T DeviceFault) where
  module _ (stop : Option ℕ) (full many : Bool) (limit : Option OperationFault) where
    abbrev why : Option PlainAnswer
    why = refusal_by stop full many limit

    -- the device has stopped
    pub stopped_fares : (f : DeviceFault) → IsErrAnd result (λ g. g ≡ f) → (at : ℕ) × (stop ≡ Some at) × (f ≡ fault.Stopped at) → new ≡ old → Fares why Calls Done old new result
    stopped_fares f is (at, stands, e) same = handed (Fares why Calls Done old new) result f is (subst (λ (g : DeviceFault). Fares why Calls Done old new (Err g)) (sym e) (ap (λ s. refusal_by s full many limit) stands, same))

    -- it takes no more
    pub full_fares : (f : DeviceFault) → IsErrAnd result (λ g. g ≡ f) → stop ≡ None → (full ≡ true) × (f ≡ fault.Full) → new ≡ old → Fares why Calls Done old new result
    full_fares f is runs stands same = handed (Fares why Calls Done old new) result f is (subst (λ (g : DeviceFault). Fares why Calls Done old new (Err g)) (sym stands.1) ((λ i. refusal_by (runs i) (stands.0 i) many limit), same))

    -- as many entries are unsettled as may be
    pub many_fares : (f : DeviceFault) → IsErrAnd result (λ g. g ≡ f) → stop ≡ None → full ≡ false → (many ≡ true) × (f ≡ fault.LooseFull) → new ≡ old → Fares why Calls Done old new result
    many_fares f is runs room stands same = handed (Fares why Calls Done old new) result f is (subst (λ (g : DeviceFault). Fares why Calls Done old new (Err g)) (sym stands.1) ((λ i. refusal_by (runs i) (room i) (stands.0 i) limit), same))

    named_limit : (l : OperationFault) → why ≡ refusal_by None false false (Some l) → new ≡ old → Fares why Calls Done old new (Err (fault_of_limit l))
    named_limit limits.DotsSpent stands same = (stands, same)
    named_limit limits.SetFull stands same = (stands, same)
    named_limit limits.CounterFull stands same = (stands, same)

    -- a limit stands against it, or memory ran out
    pub limit_fares : (f : DeviceFault) → IsErrAnd result (λ g. g ≡ f) → stop ≡ None → full ≡ false → many ≡ false → IsTakingFault f limit → new ≡ old → Fares why Calls Done old new result
    limit_fares f is runs room few (inl e) same = handed (Fares why Calls Done old new) result f is (subst (λ (g : DeviceFault). Fares why Calls Done old new (Err g)) (sym e) same)
    limit_fares f is runs room few (inr (l, stands, e)) same =
        handed (Fares why Calls Done old new) result f is
        (subst (λ (g : DeviceFault). Fares why Calls Done old new (Err g)) (sym e) (named_limit l (λ i. refusal_by (runs i) (room i) (few i) (stands i)) same))

    -- nothing refuses it
    pub nothing_refuses : stop ≡ None → full ≡ false → many ≡ false → limit ≡ None → why ≡ None
    nothing_refuses runs room few free = λ i. refusal_by (runs i) (room i) (few i) (free i)

  module _ (why : Option PlainAnswer) where
    -- memory ran out
    pub memory_fares : IsErrAnd result (λ g. g ≡ fault.Memory) → new ≡ old → Fares why Calls Done old new result
    memory_fares is same = handed (Fares why Calls Done old new) result fault.Memory is same

    -- a call of the disk failed in a running device
    pub journal_fares : (f : JournalFault) → IsErrAnd result (λ g. g ≡ fault_of_journal f) → why ≡ None → Calls → old.journal.stopped ≡ None → ((at : ℕ) → f ≡ journal.Stopped at → old.journal.stopped ≡ Some at) → new.memory ≡ old.memory → (f ≡ journal.Disk → new.journal.stopped ≢ None) → Fares why Calls Done old new result
    journal_fares journal.Disk is none calls runs cause same stops = handed (Fares why Calls Done old new) result fault.Disk is (none, calls, same, number_of new.journal.stopped (stops refl))
    journal_fares (journal.Stopped at) is none calls runs cause same stops = absurd (let e : None ≡ Some at = sym runs ∙ cause at refl in cc)

    -- what was committed
    pub committed_fares : why ≡ None → Calls
        → ((x : T) → result ≡ Ok x → Done x)
        → ((f : DeviceFault) → result ≡ Err f → IsCommitFault f)
        → ((f : DeviceFault) → result ≡ Err f → new.memory ≡ old.memory)
        → ((f : DeviceFault) → result ≡ Err f → f ≢ fault.Disk → new ≡ old)
        → (result ≡ Err fault.Disk → new.journal.stopped ≢ None)
        → Fares why Calls Done old new result
    committed_fares none calls done only refused unchanged stops = by_result result refl
      where
        by_fault : (f : DeviceFault) → result ≡ Err f → IsCommitFault f → Fares why Calls Done old new (Err f)
        by_fault f e (inl is) = subst (λ (g : DeviceFault). Fares why Calls Done old new (Err g)) (sym is) (unchanged f e (λ disk. absurd (let x : fault.Memory ≡ fault.Disk = sym is ∙ disk in cc)))
        by_fault f e (inr is) = subst (λ (g : DeviceFault). Fares why Calls Done old new (Err g)) (sym is) (none, calls, refused f e, number_of new.journal.stopped (stops (e ∙ ap Err is)))

        by_result : (r : Result T DeviceFault) → result ≡ r → Fares why Calls Done old new r
        by_result (Ok x) e = (none, done x e)
        by_result (Err f) e = by_fault f e (only f e)

-- with nothing unsettled the memory is as if all were settled
pub settled_same : (m : DeviceMemory) → m.unsettled ≡ [] → m ≡ all_settled m
settled_same m none =
    ap (λ (l : List Logged). record { program = m.program; device = m.device; settled = m.settled; unsettled = l; entries = m.entries }) none
    ∙ ap (λ (l : List Logged). record { program = m.program; device = m.device; settled = after_all m.program m.device l m.settled; unsettled = []; entries = m.entries }) (sym none)

-- ---- an entry that is to be settled

module _ (old : DeviceState) (e : Entry) (result : Result Done DeviceFault) (f : DeviceFault) (is : IsErrAnd result (λ g. g ≡ f)) where
  pub entry_stopped : (at : ℕ) × (old.journal.stopped ≡ Some at) × (f ≡ fault.Stopped at) → EntryFares old old e result
  entry_stopped stands = stopped_fares old old (Unit {0}) (IsDone old old e) result old.journal.stopped (takes_no_more old.memory) false (limit_against old.memory e) f is stands refl

  pub entry_full : old.journal.stopped ≡ None → (takes_no_more old.memory ≡ true) × (f ≡ fault.Full) → EntryFares old old e result
  entry_full runs stands = full_fares old old (Unit {0}) (IsDone old old e) result old.journal.stopped (takes_no_more old.memory) false (limit_against old.memory e) f is runs stands refl

  pub entry_limited : old.journal.stopped ≡ None → takes_no_more old.memory ≡ false → IsTakingFault f (limit_against old.memory e) → EntryFares old old e result
  entry_limited runs room stands = limit_fares old old (Unit {0}) (IsDone old old e) result old.journal.stopped (takes_no_more old.memory) false (limit_against old.memory e) f is runs room refl stands refl

-- a result that is Ok has what holds of an Ok
of_if_ok : {T E : Type 0} (P : T → Type 0) (r : Result T E) (x : T) → r ≡ Ok x → IfOk r P → P x
of_if_ok P r x is holds = subst (λ q. IfOk q P) is holds

-- an entry that was committed
pub entry_committed : (old new : DeviceState) (e : Entry) (l : Logged) (evaluated : ℕ) (result : Result Done DeviceFault) → l ≡ logged old.memory e → old.journal.stopped ≡ None → takes_no_more old.memory ≡ false → limit_against old.memory e ≡ None
    → OnOk result (new.memory ≡ all_settled (with_entry old.memory l))
    → IfOk result (λ done. (done.number ≡ (current old.memory).number + 1) × (done.evaluated ≡ evaluated))
    → OnOk result (new.journal.stopped ≡ None)
    → ((f : DeviceFault) → result ≡ Err f → IsCommitFault f)
    → ((f : DeviceFault) → result ≡ Err f → new.memory ≡ old.memory)
    → ((f : DeviceFault) → result ≡ Err f → f ≢ fault.Disk → new ≡ old)
    → (result ≡ Err fault.Disk → new.journal.stopped ≢ None)
    → EntryFares old new e result
entry_committed old new e l evaluated result is runs room free memory done still only refused unchanged stops =
    committed_fares old new (Unit {0}) (IsDone old new e) result (entry_refusal old e) (nothing_refuses old new (Unit {0}) (IsDone old new e) result old.journal.stopped (takes_no_more old.memory) false (limit_against old.memory e) runs room refl free) tt
    (λ x ok. (
      (of_if_ok (λ (d : Done). (d.number ≡ (current old.memory).number + 1) × (d.evaluated ≡ evaluated)) result x ok done).0,
      at_ok _ result x ok memory ∙ ap (λ (k : Logged). all_settled (with_entry old.memory k)) is,
      at_ok _ result x ok still ∙ sym runs,
    ))
    only refused unchanged stops
