-- A call that commits makes the file calls of its command, and the device counts them.
use Rattle.std.proofs.Common.{◌≡◌, ◌<◌, ◌++◌, ◌∷◌, [], ℕ, List, Option, Some, None, Result, Ok, Err, length, refl, sym, ap, subst, ◌∙◌, arith, length-append}
use Rattle.std.specs.Prelude.{false, ◌≢◌, option_map}
use Rattle.std.proofs.lemmas.List.{append-nil}
use Rattle.re_compact.proofs.Committing.{prepare_count}
use Rattle.re_compact.specs.Committing.{committing_calls, committing_steps}
use Rattle.re_compact.specs.Laying.{prepare_steps, publish_steps}
use Rattle.re_device.specs.Committing.{due_snapshot, framed_record, settling_calls, settling_steps}
use Rattle.re_device.specs.Device.{DeviceState}
use Rattle.re_device.specs.Stepping.{answered_as}
use Rattle.re_device.specs.declared.fault.DeviceFault.{DeviceFault}
use Rattle.re_device.specs.declared.fault.DeviceFault.TheVariants as fault
use Rattle.re_journal.specs.Commits.{StopsJournal, commit_steps}
use Rattle.re_journal.specs.Journals.{calls_after, frame_of, other_file}
use Rattle.re_journal.specs.declared.journal.Journal.{Journal}
use Rattle.re_outside.specs.Outside.{Seen}
use Rattle.re_outside.specs.Port.{past_in}
use Rattle.re_outside.specs.Trace.{Past, with_steps}
use Rattle.re_outside.specs.declared.step.Step.{Step}
use Rattle.re_terms.specs.DeviceWorlds.{is_refusal}
use Rattle.re_terms.specs.Worlds.{PlainAnswer}
use Rattle.re_terms.specs.declared.command.Command.{Command}
use Rattle.re_terms.specs.declared.entry.Logged.{Logged}
use Rattle.re_world.proofs.Unmoved.{unmoved_settling}
use Rattle.re_world.specs.Calls.{Leaves, MakesCalls}
use Rattle.re_world.specs.FileSteps.{Commit, CommitsBy, calls_behind, is_disk_refusal, steps_of}
use Rattle.re_world.specs.State.{WorldState}

-- ---- how many calls a commit makes

committing_count : (d : ℕ) (journal : Journal) (next : Option (List ℕ)) (framed : List ℕ) → length (committing_steps d journal next framed) ≡ committing_calls journal next
committing_count d journal None framed = refl
committing_count d journal (Some next) framed =
    let laid = prepare_steps d (other_file journal.file) journal.other_blank journal.other_length next in
    let opened = publish_steps d (other_file journal.file) in
    let written = commit_steps d (other_file journal.file) (length next) framed in
    let count = prepare_count d (other_file journal.file) journal.other_blank journal.other_length next in
    let all = length-append laid (opened ++ written) in
    let rest = length-append opened written in
    omega (arith, count, all, rest)

some_calls : (journal : Journal) (next : Option (List ℕ)) → 0 < committing_calls journal next
some_calls journal None = omega arith
some_calls journal (Some next) = omega arith

calls_behind_is : (plan : List Step) (n calls : ℕ) → length plan ≡ n → 0 < n → calls_behind plan calls ≡ calls_after n calls
calls_behind_is [] n calls is some = absurd (omega (arith, is, some))
calls_behind_is (s ∷ plan) n calls is some = ap (λ m. calls_after m calls) is

settling_count : (d : ℕ) (x : DeviceState) (entries : List Logged) (calls : ℕ) → calls_behind (settling_steps d x entries) calls ≡ calls_after (settling_calls x) calls
settling_count d x entries calls =
    calls_behind_is (settling_steps d x entries) (settling_calls x) calls (committing_count d x.journal (option_map frame_of (due_snapshot x)) (framed_record x.memory entries)) (some_calls x.journal (option_map frame_of (due_snapshot x)))

with_none : (past : Past) → with_steps past [] ≡ past
with_none past = λ i. record { device = past.device; start = past.start; trace = append-nil past.trace i }

-- ---- a commit

module _ (old new : WorldState) (c : Command) (d : ℕ) (commit : Commit old new c d) (before now : Seen) where
  abbrev x : DeviceState
  x = commit.device

  abbrev x' : DeviceState
  x' = commit.device_after

  abbrev old_past : Past
  old_past = past_in d before

  abbrev new_past : Past
  new_past = past_in d now

  made_all : {T : Type 0} (y : T) (entries : List Logged) → MakesCalls {T = T} entries x x' old_past new_past (Ok y) → (new_past ≡ with_steps old_past (steps_of d x entries)) × (x'.journal.calls ≡ calls_behind (steps_of d x entries) x.journal.calls)
  made_all y [] calls = ((calls.none refl).1 ∙ sym (with_none old_past), ap (λ (z : DeviceState). z.journal.calls) (calls.none refl).0)
  made_all y (e ∷ entries) calls = (calls.made (λ h. absurd (cc)), calls.counted (λ h. absurd (cc)) ∙ sym (settling_count d x (e ∷ entries) x.journal.calls))

  made_some : {T : Type 0} (entries : List Logged) → MakesCalls {T = T} entries x x' old_past new_past (Err fault.Disk) → x.journal.stopped ≡ None → x'.journal.stopped ≢ None → StopsJournal (steps_of d x entries) x.journal.calls x'.journal.stopped old_past new_past
  made_some [] calls runs stops = absurd (stops (ap (λ (z : DeviceState). z.journal.stopped) (calls.none refl).0 ∙ runs))
  made_some (e ∷ entries) calls runs stops = calls.made (λ h. absurd (cc))

  module _ {T : Type 0} (done : T → PlainAnswer) (calm : (y : T) → (is_disk_refusal (done y) ≡ false) × (is_refusal (done y) ≡ false)) where
    abbrev By : Result T DeviceFault → Type 0
    By r = CommitsBy (is_disk_refusal (answered_as done r)) (is_refusal (answered_as done r)) old new c d old_past new_past

    abbrev Stops : Result T DeviceFault → Type 0
    Stops r = (at : ℕ) → x.journal.stopped ≡ Some at → r ≡ Err (fault.Stopped at)

    done_by : (y : T) → MakesCalls commit.entries x x' old_past new_past (Ok y) → By (Ok y)
    done_by y calls =
        let all = made_all y commit.entries calls in
        subst (λ b. CommitsBy b (is_refusal (done y)) old new c d old_past new_past) (sym (calm y).0)
        (subst (λ b. CommitsBy false b old new c d old_past new_past) (sym (calm y).1) (record { commit = commit; made = all.0; counted = all.1 }))

    ran : Stops (Err fault.Disk) → x.journal.stopped ≡ None
    ran stopped = by_stop x.journal.stopped refl
      where
        by_stop : (o : Option ℕ) → x.journal.stopped ≡ o → o ≡ None
        by_stop None e = refl
        by_stop (Some at) e = absurd (other (stopped at e))
          where
            other : ◌≡◌ {A = Result T DeviceFault} (Err fault.Disk) (Err (fault.Stopped at)) → ⊥
            other h = cc

    still : (f : DeviceFault) → f ≢ fault.Disk → MakesCalls {T = T} commit.entries x x' old_past new_past (Err f) → new_past ≡ old_past
    still f other calls = unmoved_settling {T = T} x commit.entries x'.journal.stopped old_past new_past (Err f) f calls.made (λ none. (calls.none none).1) refl other

    pub commits_by : (r : Result T DeviceFault) → Leaves x x' r → Stops r → MakesCalls commit.entries x x' old_past new_past r → By r
    commits_by (Ok y) leaves stopped calls = done_by y calls
    commits_by (Err fault.Disk) leaves stopped calls = record { commit = commit; made = made_some commit.entries calls (ran stopped) (leaves.stops refl) }
    commits_by (Err fault.Memory) leaves stopped calls = still fault.Memory (λ h. absurd (cc)) calls
    commits_by (Err (fault.Stopped at)) leaves stopped calls = still (fault.Stopped at) (λ h. absurd (cc)) calls
    commits_by (Err fault.Full) leaves stopped calls = still fault.Full (λ h. absurd (cc)) calls
    commits_by (Err fault.LooseFull) leaves stopped calls = still fault.LooseFull (λ h. absurd (cc)) calls
    commits_by (Err fault.SetFull) leaves stopped calls = still fault.SetFull (λ h. absurd (cc)) calls
    commits_by (Err fault.CounterFull) leaves stopped calls = still fault.CounterFull (λ h. absurd (cc)) calls
    commits_by (Err fault.DotsSpent) leaves stopped calls = still fault.DotsSpent (λ h. absurd (cc)) calls
