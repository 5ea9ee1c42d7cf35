-- All that a command that commits does.
use Rattle.std.proofs.Common.{◌≡◌, ◌<◌, ℕ, List, Option, Some, None, Result, Ok, Err, refl, sym, ap, subst, ◌∙◌, inl, inr}
use Rattle.std.specs.Prelude.{Bool, false, true, ◌==◌, ◌≢◌, if◌then◌else◌, unwrap_or}
use mathlib.Core.Bool.{true≢false}
use Rattle.std.proofs.lemmas.Bool.Decides.{eqb_tells}
use Rattle.re_device.specs.Committing.{HasDiskCause, record_reads_open}
use Rattle.re_device.specs.Device.{DeviceState}
use Rattle.re_device.specs.Stepping.{IsDeviceOf, answered_as, fared_as, refused_as}
use Rattle.re_device.specs.declared.fault.DeviceFault.{DeviceFault}
use Rattle.re_device.specs.declared.fault.DeviceFault.TheVariants as fault
use Rattle.re_outside.specs.Outside.{Disk, Input, Output, Rose, Seen}
use Rattle.re_outside.specs.Port.{disk_faults, other_faults, past_in}
use Rattle.re_outside.specs.Trace.{IsCrashImageOf, content_of}
use Rattle.re_print.specs.AnswerTexts.{AscendsWhereSet}
use Rattle.re_record.specs.Restoring.{Opened}
use Rattle.re_terms.specs.Admission.{IsCommandOf, device_count}
use Rattle.re_terms.specs.DeviceWorlds.{Outcome, World, device_of, is_refusal, world_after}
use Rattle.re_terms.specs.Lines.{may_have_entered}
use Rattle.re_terms.specs.Worlds.{PlainAnswer, plain_answer}
use Rattle.re_terms.specs.declared.command.Answer.{Answer}
use Rattle.re_terms.specs.declared.command.Command.{Command}
use Rattle.re_terms.specs.declared.command.Command.TheVariants as command
use Rattle.re_terms.specs.declared.entry.Logged.{Logged}
use Rattle.re_terms.specs.declared.program.Program.{Program}
use Rattle.re_world.proofs.CommitSteps.{answered_steps}
use Rattle.re_world.proofs.Committed.{IsCommit}
use Rattle.re_world.proofs.FilesMade.{commits_by}
use Rattle.re_world.proofs.Staying.{no_store, no_store_by, no_store_told, tells_of_store}
use Rattle.re_world.proofs.Taken.{refuses, takes_refused}
use Rattle.re_world.specs.Calls.{Commits, Leaves}
use Rattle.re_world.specs.Causes.{HasCause}
use Rattle.re_world.specs.FileSteps.{CommitsBy, HasFileSteps, Writes, is_disk_refusal}
use Rattle.re_world.specs.Standing.{HasDevice, IsWorldOf}
use Rattle.re_world.specs.State.{WorldState, device_in}
use Rattle.re_world.specs.Stepping.{CountsBy, CountsIf, DoesCommand, Fails, HasStepped, IsLeftStopped, IsStoreRefusal, Keeps, NoneRose, OwnRose, RestoresWithin, Shows, StopsAs}
use Rattle.re_world.specs.Taking.{Takes}

-- ---- counts

-- a device's count and all others stand still
pub none_rose : (d : ℕ) (before now : Seen) → disk_faults d now ≡ disk_faults d before → other_faults d now ≡ other_faults d before → NoneRose before now
none_rose d before now own others Input = λ i. others i Input
none_rose d before now own others Output = λ i. others i Output
none_rose d before now own others (Disk e) = elim (eqb_tells d e) [
  | inl same ↦ subst (λ x. now.faults (Disk x) ≡ before.faults (Disk x)) same.1 own
  | inr other ↦ by_other (d == e) other.0 (λ i. others i (Disk e))
]
  where
    by_other : (b : Bool) → b ≡ false → (if b then 0 else now.faults (Disk e)) ≡ (if b then 0 else before.faults (Disk e)) → now.faults (Disk e) ≡ before.faults (Disk e)
    by_other true is same = absurd (true≢false is)
    by_other false is same = same

-- ---- a command that commits

-- what is known of it: the device before and after it, over which its call was made, and how it is answered
pub record CommitFacts {T : Type 0} (P : Program → World → Type 0) (done : T → PlainAnswer) (entries : List Logged) (after : Opened) (tells : Bool) (old new : WorldState) (x x' : DeviceState) (c : ℕ → Command) (a : Answer) (before now : Seen) (r : Result T DeviceFault) (n : ℕ) : Type 0 where
  pub of : IsCommandOf old.program (c n)
  pub below : n < device_count old.program.decls.items
  pub device_is : device_of (c n) ≡ Some n
  pub commit : (p : Program) (w : World) → IsCommit p w (c n) n
  pub place : device_in old n ≡ Some x
  pub number : x'.memory.device ≡ n
  pub new_place : device_in new n ≡ Some x'
  pub other_places : (e : ℕ) → e ≢ n → device_in new e ≡ device_in old e
  pub program : new.program ≡ old.program
  pub packets : new.packets ≡ old.packets
  pub answer : plain_answer a ≡ answered_as done r
  pub ascends : AscendsWhereSet a
  pub cause : HasDiskCause (disk_faults n before) (disk_faults n now) r
  pub others : other_faults n now ≡ other_faults n before
  pub left : tells ≡ true → now.left ≡ before.left
  pub commits : tells ≡ true → Commits P entries after (c x.memory.device) (answered_as done) x x' (past_in n before) (past_in n now) r
  pub holds : (p : Program) (w : World) → IsWorldOf p w old before → P p w
  pub reads : tells ≡ true → (f : ℕ) → IsCrashImageOf (past_in n now) f (content_of (past_in n now) f)
  pub enters : (y : T) → may_have_entered (done y) ≡ true
  pub calm : (y : T) → (is_disk_refusal (done y) ≡ false) × (is_refusal (done y) ≡ false)
  pub leaves : Leaves x x' r
  pub takes : (y : T) → r ≡ Ok y → Takes old new (c n) (done y)
  pub caused : HasCause old (c n) (answered_as done r)
  pub same : x' ≡ x → new ≡ old
  pub writes : Writes old (c n) x entries
  -- what makes the file calls of a command that commits makes those of this one, and what fails of such a command fails of it
  pub files : CommitsBy (is_disk_refusal (plain_answer a)) (is_refusal (plain_answer a)) old new (c n) n (past_in n before) (past_in n now) → HasFileSteps old new (c n) (plain_answer a) before now
  pub fails : (at : ℕ) (gate_open : Bool) → StopsAs old new n at gate_open before now → Fails old new (c n) at gate_open before now

module _ {T : Type 0} (P : Program → World → Type 0) (done : T → PlainAnswer) (entries : List Logged) (after : Opened) (tells : Bool) (old new : WorldState) (x x' : DeviceState) (c : ℕ → Command) (a : Answer) (before now : Seen) (r : Result T DeviceFault) where
  abbrev Facts : ℕ → Type 0
  Facts n = CommitFacts P done entries after tells old new x x' c a before now r n

  module _ (n : ℕ) (facts : Facts n) where
    none : disk_faults n now ≡ disk_faults n before → NoneRose before now
    none own = none_rose n before now own facts.others

    own_rose : Rose (disk_faults n before) (disk_faults n now) → OwnRose (c n) before now
    own_rose rose = record { device = n; device_is = facts.device_is; rose = rose; others = facts.others }

    abbrev stop : Option ℕ
    stop = x'.journal.stopped

    counts_by : (q : Result T DeviceFault) → HasDiskCause (disk_faults n before) (disk_faults n now) q → CountsBy (c n) (answered_as done q) before now
    counts_by (Ok y) cause = subst (λ b. CountsIf b (c n) before now) (sym (facts.calm y).0) (none cause)
    counts_by (Err fault.Disk) cause = own_rose cause
    counts_by (Err fault.Memory) cause = none cause
    counts_by (Err (fault.Stopped at)) cause = none cause
    counts_by (Err fault.Full) cause = none cause
    counts_by (Err fault.LooseFull) cause = none cause
    counts_by (Err fault.SetFull) cause = none cause
    counts_by (Err fault.CounterFull) cause = none cause
    counts_by (Err fault.DotsSpent) cause = none cause

    -- a device that has stopped did so at a call
    stops_as : (b : Bool) → b ≡ record_reads_open x (past_in n before) (past_in n now) → stop ≢ None → StopsAs old new n (unwrap_or stop 0) b before now
    stops_as b reads stops = record { device = x; place = facts.place; device_after = x'; place_after = facts.new_place; stopped = at_call stop stops; reads = reads }
      where
        at_call : (o : Option ℕ) → o ≢ None → o ≡ Some (unwrap_or o 0)
        at_call None never = absurd (never refl)
        at_call (Some at) never = refl

    shows_by : (b : Bool) → b ≡ record_reads_open x (past_in n before) (past_in n now) → (q : Result T DeviceFault) → r ≡ q → HasDiskCause (disk_faults n before) (disk_faults n now) q → Shows old new (c n) (fared_as stop b q) before now
    shows_by b reads (Ok y) same cause = none cause
    shows_by b reads (Err fault.Disk) same cause = (own_rose cause, facts.fails _ b (stops_as b reads (facts.leaves.stops same)))
    shows_by b reads (Err fault.Memory) same cause = none cause
    shows_by b reads (Err (fault.Stopped at)) same cause = none cause
    shows_by b reads (Err fault.Full) same cause = none cause
    shows_by b reads (Err fault.LooseFull) same cause = none cause
    shows_by b reads (Err fault.SetFull) same cause = none cause
    shows_by b reads (Err fault.CounterFull) same cause = none cause
    shows_by b reads (Err fault.DotsSpent) same cause = none cause

    other_by : (q : Result T DeviceFault) → tells_of_store (answered_as done q) ≡ false
    other_by (Ok y) = no_store_told (done y) (facts.calm y).1
    other_by (Err f) = no_store_by f

    stores : IsStoreRefusal (plain_answer a) → (d : ℕ) × (c n ≡ command.Restart d)
    stores is = absurd (no_store (plain_answer a) (ap tells_of_store facts.answer ∙ other_by r) is)

    takes_by : (q : Result T DeviceFault) → r ≡ q → Takes old new (c n) (answered_as done q)
    takes_by (Ok y) same = facts.takes y same
    takes_by (Err f) same = takes_refused old new (c n) (refused_as f) (refuses f)

    takes : Takes old new (c n) (plain_answer a)
    takes = subst (Takes old new (c n)) (sym facts.answer) (takes_by r refl)

    -- ---- what stays

    own_number : (d : ℕ) → device_of (c n) ≡ Some d → n ≡ d
    own_number d is = some_is (sym facts.device_is ∙ is)
      where
        some_is : Some n ≡ Some d → n ≡ d
        some_is e = cc

    left_stopped : x'.memory ≡ x.memory → stop ≢ None → IsLeftStopped (device_in old n) (device_in new n)
    left_stopped memory stops = subst (λ o. IsLeftStopped o (device_in new n)) (sym facts.place) (subst (IsLeftStopped (Some x)) (sym facts.new_place) (memory, stops))

    refused_by : (q : Result T DeviceFault) → r ≡ q → is_refusal (answered_as done q) ≡ true → is_disk_refusal (answered_as done q) ≡ false → new ≡ old
    refused_by (Ok y) same refused calm = absurd (true≢false (sym refused ∙ (facts.calm y).1))
    refused_by (Err fault.Disk) same refused calm = absurd (true≢false calm)
    refused_by (Err fault.Memory) same refused calm = facts.same (facts.leaves.refused fault.Memory same (λ h. absurd (cc)))
    refused_by (Err (fault.Stopped at)) same refused calm = facts.same (facts.leaves.refused (fault.Stopped at) same (λ h. absurd (cc)))
    refused_by (Err fault.Full) same refused calm = facts.same (facts.leaves.refused fault.Full same (λ h. absurd (cc)))
    refused_by (Err fault.LooseFull) same refused calm = facts.same (facts.leaves.refused fault.LooseFull same (λ h. absurd (cc)))
    refused_by (Err fault.SetFull) same refused calm = facts.same (facts.leaves.refused fault.SetFull same (λ h. absurd (cc)))
    refused_by (Err fault.CounterFull) same refused calm = facts.same (facts.leaves.refused fault.CounterFull same (λ h. absurd (cc)))
    refused_by (Err fault.DotsSpent) same refused calm = facts.same (facts.leaves.refused fault.DotsSpent same (λ h. absurd (cc)))

    stops_by : (q : Result T DeviceFault) → r ≡ q → is_disk_refusal (answered_as done q) ≡ true → IsLeftStopped (device_in old n) (device_in new n)
    stops_by (Ok y) same failed = absurd (true≢false (sym failed ∙ (facts.calm y).0))
    stops_by (Err fault.Disk) same failed = left_stopped (facts.leaves.memory same) (facts.leaves.stops same)
    stops_by (Err fault.Memory) same failed = absurd (true≢false (sym failed))
    stops_by (Err (fault.Stopped at)) same failed = absurd (true≢false (sym failed))
    stops_by (Err fault.Full) same failed = absurd (true≢false (sym failed))
    stops_by (Err fault.LooseFull) same failed = absurd (true≢false (sym failed))
    stops_by (Err fault.SetFull) same failed = absurd (true≢false (sym failed))
    stops_by (Err fault.CounterFull) same failed = absurd (true≢false (sym failed))
    stops_by (Err fault.DotsSpent) same failed = absurd (true≢false (sym failed))

    keeps : Keeps old new (c n) (plain_answer a)
    keeps = record {
      program = facts.program;
      others = λ d other. facts.other_places d (λ same. other (facts.device_is ∙ ap Some (sym same)));
      refused = λ refused calm. refused_by r refl (ap is_refusal (sym facts.answer) ∙ refused) (ap is_disk_refusal (sym facts.answer) ∙ calm);
      stops = λ failed d own. subst (λ m. IsLeftStopped (device_in old m) (device_in new m)) (own_number d own) (stops_by r refl (ap is_disk_refusal (sym facts.answer) ∙ failed));
      packets = λ failed. facts.packets;
    }

  -- the same, of the device's own number
  module _ (facts : Facts x.memory.device) (told : tells ≡ true) where
    abbrev n : ℕ
    n = x.memory.device

    abbrev outcome : Outcome
    outcome = fared_as x'.journal.stopped (record_reads_open x (past_in n before) (past_in n now)) r

    module _ (p : Program) (w : World) (is : IsWorldOf p w old before) where
      of : IsCommandOf p (c n)
      of = subst (λ q. IsCommandOf q (c n)) is.program facts.of

      below : n < device_count p.decls.items
      below = subst (λ (q : Program). n < device_count q.decls.items) is.program facts.below

      steps : IsWorldOf p (world_after p w (c n) outcome) new now × RestoresWithin p w (c n) outcome before now
      steps =
          answered_steps p w old (c n) x before now is of (facts.commit p w) below facts.place P done facts.enters entries after new x' (facts.holds p w is) facts.number facts.new_place facts.other_places facts.program facts.packets (facts.reads told) r
          (facts.commits told) facts.leaves

      own : IsDeviceOf p w x
      own = (subst (λ o. HasDevice p w n o (past_in n before)) facts.place (is.devices n below)).0

    own_stepped : HasStepped old new (c n) (plain_answer a) before now
    own_stepped = record {
      outcome = outcome;
      shows = shows_by n facts _ refl r refl facts.cause;
      answers = λ p w is. facts.answer ∙ (facts.commits told).steps.answers p w (own p w is) (facts.holds p w is);
      world = λ p w is. (steps p w is).0;
      restores = λ p w is. (steps p w is).1;
    }

  own_files : Facts x.memory.device → tells ≡ true → HasFileSteps old new (c x.memory.device) (plain_answer a) before now
  own_files facts told =
      facts.files
      (subst (λ q. CommitsBy (is_disk_refusal q) (is_refusal q) old new (c x.memory.device) x.memory.device (past_in x.memory.device before) (past_in x.memory.device now)) (sym facts.answer)
      (commits_by old new (c x.memory.device) x.memory.device (record { device = x; place = facts.place; device_after = x'; place_after = facts.new_place; entries = entries; writes = facts.writes }) before now done facts.calm r facts.leaves (facts.commits told).stopped (facts.commits told).calls))

  own_does : Facts x.memory.device → DoesCommand tells old new (c x.memory.device) a before now
  own_does facts = record {
    keeps = keeps x.memory.device facts;
    caused = subst (HasCause old (c x.memory.device)) (sym facts.answer) facts.caused;
    ascends = facts.ascends;
    counts = subst (λ q. CountsBy (c x.memory.device) q before now) (sym facts.answer) (counts_by x.memory.device facts r facts.cause);
    takes = takes x.memory.device facts;
    stores = stores x.memory.device facts;
    left = facts.left;
    files = own_files facts;
    stepped = own_stepped facts;
  }

  -- the command does all that a command does
  pub commit_does : (n : ℕ) → x.memory.device ≡ n → Facts n → DoesCommand tells old new (c n) a before now
  commit_does n same facts = subst (λ m. Facts m → DoesCommand tells old new (c m) a before now) same own_does facts
