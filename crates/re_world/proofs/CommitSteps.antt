-- A call that commits makes its command a step of the world.
use Rattle.std.proofs.Common.{arith, ◌≡◌, ◌⊎◌, inl, inr, ◌<◌, ◌+◌, ◌++◌, [], ℕ, List, Option, Some, None, Result, Ok, Err, length, refl, sym, ap, subst, ◌∙◌}
use Rattle.std.specs.Prelude.{Bool, false, true, ◌==◌, ◌≢◌, if◌then◌else◌, map, unwrap_or}
use Rattle.std.specs.List.{All}
use Rattle.std.specs.Option.{option_map_or}
use Rattle.std.proofs.lemmas.List.{append-nil, length-append}
use Rattle.re_device.specs.Committing.{record_reads_open}
use Rattle.re_device.specs.Device.{DeviceState}
use Rattle.re_device.specs.Standing.{LeavesEither, ReadsBy, StandsSettled}
use Rattle.re_device.specs.Stepping.{IsDeviceOf, IsPlainly, answered_as, fared_as}
use Rattle.re_device.specs.declared.fault.DeviceFault.{DeviceFault}
use Rattle.re_device.specs.declared.fault.DeviceFault.TheVariants as fault
use Rattle.re_outside.proofs.Elsewhere as elsewhere
use Rattle.re_outside.proofs.Moments.{at_end}
use Rattle.re_outside.specs.Moment.{IsKept, Throughout}
use Rattle.re_outside.specs.Outside.{Seen}
use Rattle.re_outside.specs.Port.{past_in}
use Rattle.re_outside.specs.Trace.{IsCrashImageOf, Past, as_device, content_of}
use Rattle.re_record.specs.Restoring.{Opened}
use Rattle.re_record.specs.Stores.{OpensTo}
use Rattle.re_terms.proofs.CausalSteps.{stepped}
use Rattle.re_terms.proofs.WorldSteps.{others_kept, with_at-same}
use Rattle.re_terms.specs.Admission.{IsCommandOf, device_count}
use Rattle.re_terms.specs.CausalWorlds.{IsCausalWorld}
use Rattle.re_terms.specs.DeviceWorlds.{Failed, Fine, Outcome, World, doubt, is_refusal, record_of, recovered, reply, settled_number, spelled, world_after}
use Rattle.re_terms.specs.Entries.{PlainEntry, run_entries}
use Rattle.re_terms.specs.Lines.{first_filled, further, may_have_entered, own_entry}
use Rattle.re_terms.specs.Shapes.{FitsShape, shape_of}
use Rattle.re_terms.specs.Untouched.{IsUntouched}
use Rattle.re_terms.specs.UpdateStates.{state_of_updates}
use Rattle.re_terms.specs.Worlds.{PlainAnswer}
use Rattle.re_terms.specs.declared.command.Command.{Command}
use Rattle.re_terms.specs.declared.entry.Logged.{Logged}
use Rattle.re_terms.specs.declared.program.Program.{Program}
use Rattle.re_world.proofs.Agreeing.{opens_in}
use Rattle.re_world.proofs.Committed.{IsCommit, failed_is, memory_same, none_in_doubt, opens_after, packets_same, refused_fine, standing_rests}
use Rattle.re_world.proofs.Stepped.{world_behind}
use Rattle.re_world.proofs.Within.{within_moves, within_still}
use Rattle.re_world.proofs.Unmoved.{unmoved_settling}
use Rattle.re_world.specs.Calls.{Commits, Leaves}
use Rattle.re_world.specs.Images.{OpensAfter}
use Rattle.re_world.specs.Standing.{HasDevice, IsWorldOf, RestsAs}
use Rattle.re_world.specs.State.{WorldState, device_in}
use Rattle.re_world.specs.Stepping.{RestoresWithin}

-- ---- one world

module _ (p : Program) (w : World) (v : WorldState) (c : Command) (x : DeviceState) (before now : Seen) (is : IsWorldOf p w v before) (of : IsCommandOf p c) (commit : IsCommit p w c x.memory.device) (below : x.memory.device < device_count p.decls.items) (place : device_in v x.memory.device ≡ Some x) where
  abbrev d : ℕ
  d = x.memory.device

  has : HasDevice p w d (Some x) (past_in d before)
  has = subst (λ o. HasDevice p w d o (past_in d before)) place (is.devices d below)

  abbrev old_past : Past
  old_past = past_in d before

  abbrev new_past : Past
  new_past = past_in d now

  module _ (o : Outcome) where
    after_causal : IsCausalWorld (device_count p.decls.items) (world_after p w c o)
    after_causal = stepped p w c o of is.causal

    elsewhere_is : (e : ℕ) → (e == d) ≡ false → IsUntouched e w (world_after p w c o)
    elsewhere_is e other = others_kept p w c o e (ap (λ q. option_map_or (λ n. e == n) q false) commit.device_is ∙ other)

  -- ---- the device ran, and its files stand

  module _ (runs : x.journal.stopped ≡ None) (after : Opened) (leads : IsPlainly p after (run_entries p d (w.base d) (w.settled d ++ record_of w c)) (settled_number w d + length (record_of w c))) where
    stands : StandsSettled x old_past
    stands = has.2 (sym has.0.stop ∙ runs)

    nothing : w.in_doubt d ≡ []
    nothing = none_in_doubt p w x d refl is.causal has.0 runs

    settled_after : (first second : List ℕ) → OpensTo p d first second x.memory.settled → OpensAfter p w d first second (w.settled d)
    settled_after first second opens = opens_after p w d first second (w.settled d) x.memory.settled _ opens has.0.settled refl

    record_after : (first second : List ℕ) → OpensTo p d first second after → OpensAfter p w d first second (w.settled d ++ record_of w c)
    record_after first second opens = opens_after p w d first second (w.settled d ++ record_of w c) after _ opens leads (numbers (w.settled d) (record_of w c))
      where
        numbers : (xs ys : List PlainEntry) → w.base_number d + length xs + length ys ≡ w.base_number d + length (xs ++ ys)
        numbers xs ys = let all = length-append xs ys in omega (arith, all)

    module _ (moments : Throughout old_past new_past (LeavesEither x.memory after old_past)) where
      opens_either : (m : Past) → LeavesEither x.memory after old_past m → (first second : List ℕ) → IsCrashImageOf m 0 first → IsCrashImageOf m 1 second → OpensTo p d first second x.memory.settled ⊎ OpensTo p d first second after
      opens_either m leaves first second a b = elim (leaves.images first second a b) [
        | inl settled ↦ inl (subst (λ q. OpensTo q d first second x.memory.settled) has.0.program settled)
        | inr later ↦ inr (subst (λ q. OpensTo q d first second after) has.0.program later)
      ]

      kept : (e f : ℕ) → e ≢ d → IsKept e f (past_in 0 before) (past_in 0 now)
      kept e f other = let k = elsewhere.kept_on e f old_past new_past moments.goes_on (at_end old_past new_past _ moments).others other in record { content = k.content; images = k.images }

      -- a stop within leaves what restores
      commit_restores : (o : Outcome) → may_have_entered (reply p w c o) ≡ true → RestoresWithin p w c o before now
      commit_restores o enters =
          within_moves p w v c o before now is d (LeavesEither x.memory after old_past) moments (λ m leaves. leaves.others)
          (λ there m leaves first second a b. elim (opens_either (as_device d m) leaves first second a b) [
            | inl settled ↦ inl (settled_after first second settled)
            | inr later ↦ inr (inr (record { device_is = commit.device_is; is_commit = commit.is_commit; enters = enters }), subst (λ l. OpensAfter p w d first second (w.settled d ++ l)) (sym line) (record_after first second later))
          ])
        where
          line : further p w (Some (record { asked = c; outcome = o })) d ≡ record_of w c
          line = ap (λ l. first_filled l (w.unsettled d ++ own_entry p w (record { asked = c; outcome = o }) d)) nothing ∙ commit.line o enters

      -- the files rest with the record in doubt
      module _ (at : ℕ) (gate_open : Bool) where
        abbrev u : World
        u = doubt w d (record_of w c) at gate_open

        in_doubt_is : u.in_doubt d ≡ record_of w c
        in_doubt_is = with_at-same d (record_of w c) w.in_doubt

        in_u : (first second : List ℕ) (entries entries' : List PlainEntry) → entries' ≡ entries → OpensAfter p w d first second entries → OpensAfter p u d first second entries'
        in_u = opens_in p w u d refl refl

        recovered_is : recovered u d ≡ (if gate_open then record_of w c else [])
        recovered_is = λ i. if with_at-same d gate_open w.reads i then in_doubt_is i else []

        reads_by : (b : Bool) → ReadsBy x.memory after b new_past → OpensAfter p w d (content_of new_past 0) (content_of new_past 1) (w.settled d ++ (if b then record_of w c else []))
        reads_by true opens = record_after (content_of new_past 0) (content_of new_past 1) (subst (λ q. OpensTo q d (content_of new_past 0) (content_of new_past 1) after) has.0.program opens)
        reads_by false opens =
            subst (OpensAfter p w d (content_of new_past 0) (content_of new_past 1)) (sym (append-nil (w.settled d)))
            (settled_after (content_of new_past 0) (content_of new_past 1) (subst (λ q. OpensTo q d (content_of new_past 0) (content_of new_past 1) x.memory.settled) has.0.program opens))

        doubt_rests : ReadsBy x.memory after gate_open new_past → RestsAs p u d new_past
        doubt_rests reads = record {
          images = λ first second a b. elim (opens_either new_past (at_end old_past new_past _ moments) first second a b) [
            | inl settled ↦ inl (in_u first second (w.settled d) (w.settled d) refl (settled_after first second settled))
            | inr later ↦ inr (in_u first second (w.settled d ++ record_of w c) (w.settled d ++ u.in_doubt d) (ap (λ l. w.settled d ++ l) in_doubt_is) (record_after first second later))
          ];
          reads = in_u (content_of new_past 0) (content_of new_past 1) (w.settled d ++ (if gate_open then record_of w c else [])) (w.settled d ++ recovered u d) (ap (λ l. w.settled d ++ l) recovered_is) (reads_by gate_open reads);
        }

  -- ---- what the call gives

  module _ {T : Type 0} (P : Program → World → Type 0) (done : T → PlainAnswer) (enters : (y : T) → may_have_entered (done y) ≡ true) (entries : List Logged) (after : Opened) (v' : WorldState) (x' : DeviceState) (holds : P p w) (number : x'.memory.device ≡ d)
      (place' : device_in v' d ≡ Some x') (others : (e : ℕ) → e ≢ d → device_in v' e ≡ device_in v e) (program : v'.program ≡ v.program) (packets : v'.packets ≡ v.packets) (reads : (f : ℕ) → IsCrashImageOf new_past f (content_of new_past f)) where
    abbrev fared : Result T DeviceFault → Outcome
    fared r = fared_as x'.journal.stopped (record_reads_open x old_past new_past) r

    abbrev Steps : Result T DeviceFault → Type 0
    Steps r = IsWorldOf p (world_after p w c (fared r)) v' now × RestoresWithin p w c (fared r) before now

    -- the world behind it, by its device and that device's files
    behind : (u : World) (o : Outcome) → u ≡ world_after p w c o → ((e f : ℕ) → e ≢ d → IsKept e f (past_in 0 before) (past_in 0 now)) → HasDevice p u d (Some x') new_past → RestsAs p u d new_past → IsWorldOf p (world_after p w c o) v' now
    behind u o same kept has' rests =
        world_behind p w (world_after p w c o) v v' before now d is (after_causal o) (elsewhere_is o) others kept program
        (packets ∙ is.packets ∙ ap (map (spelled p)) (sym (packets_same p w c d commit o))) (subst (All (λ us. FitsShape (shape_of p) (state_of_updates (shape_of p) us))) (sym (packets_same p w c d commit o)) is.fit)
        (subst (λ q. HasDevice p q d (device_in v' d) new_past) same (subst (λ q. HasDevice p u d q new_past) (sym place') has')) (subst (λ q. RestsAs p q d new_past) same rests)

    module _ (r : Result T DeviceFault) (commits : Commits P entries after c (answered_as done) x x' old_past new_past r) where
      -- where it isn't refused since the device is stopped, the device runs
      ran : ((at : ℕ) → r ≢ Err (fault.Stopped at)) → x.journal.stopped ≡ None
      ran never = by_stop x.journal.stopped refl
        where
          by_stop : (o : Option ℕ) → x.journal.stopped ≡ o → o ≡ None
          by_stop None e = refl
          by_stop (Some at) e = absurd (never at (commits.stopped at e))

      own : IsDeviceOf p (world_after p w c (fared r)) x'
      own = commits.steps.world p w has.0 holds

      stop_is : x'.journal.stopped ≡ (world_after p w c (fared r)).stop d
      stop_is = own.stop ∙ ap (world_after p w c (fared r)).stop number

      leads : IsPlainly p after (run_entries p d (w.base d) (w.settled d ++ record_of w c)) (settled_number w d + length (record_of w c))
      leads = commits.leads.plainly p w has.0 holds

    done_steps : (y : T) → Commits P entries after c (answered_as done) x x' old_past new_past (Ok y) → Steps (Ok y)
    done_steps y commits = (
      behind (world_after p w c Fine) Fine refl (kept runs after (leads (Ok y) commits) (commits.moments there)) (own (Ok y) commits, number, λ _. commits.stands there)
          (standing_rests p (world_after p w c Fine) x' d new_past number refl (after_causal Fine) (own (Ok y) commits) commits.runs (commits.stands there) reads),
      commit_restores runs after (leads (Ok y) commits) (commits.moments there) Fine (ap may_have_entered (sym (commits.steps.answers p w has.0 holds)) ∙ enters y),
    )
      where
        runs : x.journal.stopped ≡ None
        runs = ran (Ok y) commits (λ k e. absurd (cc))

        there : StandsSettled x old_past
        there = stands runs after (leads (Ok y) commits)

    abbrev at : ℕ
    at = unwrap_or x'.journal.stopped 0

    abbrev gate_open : Bool
    gate_open = record_reads_open x old_past new_past

    failed_steps : Commits P entries after c (answered_as done) x x' old_past new_past (Err fault.Disk) → Leaves {T = T} x x' (Err fault.Disk) → Steps (Err fault.Disk)
    failed_steps commits leaves = (
      behind (doubt w d (record_of w c) at gate_open) (Failed at gate_open) (sym is_doubt) (kept runs after (leads (Err fault.Disk) commits) (commits.moments there))
          (subst (λ u. HasDevice p u d (Some x') new_past) is_doubt (own (Err fault.Disk) commits, number, λ e. absurd (leaves.stops refl (stop_is (Err fault.Disk) commits ∙ e))))
          (doubt_rests runs after (leads (Err fault.Disk) commits) (commits.moments there) at gate_open (commits.reads there)),
      commit_restores runs after (leads (Err fault.Disk) commits) (commits.moments there) (Failed at gate_open) (ap may_have_entered (sym (commits.steps.answers p w has.0 holds))),
    )
      where
        runs : x.journal.stopped ≡ None
        runs = ran (Err fault.Disk) commits (λ k e. absurd (cc))

        there : StandsSettled x old_past
        there = stands runs after (leads (Err fault.Disk) commits)

        is_doubt : world_after p w c (Failed at gate_open) ≡ doubt w d (record_of w c) at gate_open
        is_doubt = failed_is p w c d commit at gate_open (λ e. absurd (leaves.stops refl (stop_is (Err fault.Disk) commits ∙ e ∙ sym has.0.stop ∙ runs)))

    -- refused for another cause it has changed nothing
    still_steps : (f : DeviceFault) → f ≢ fault.Disk → world_after p w c (fared (Err f)) ≡ w → Commits P entries after c (answered_as done) x x' old_past new_past (Err f) → Leaves {T = T} x x' (Err f) → Steps (Err f)
    still_steps f other same commits leaves = (
      behind w (fared (Err f)) (sym same) (λ e g _. subst (λ q. IsKept e g (past_in 0 before) q) (sym past_same) (record { content = refl; images = λ file image. image }))
          (subst (λ q. HasDevice p w d (Some x') q) (sym unmoved.1) (subst (λ y. HasDevice p w d (Some y) old_past) (sym unmoved.0) has)) (subst (RestsAs p w d) (sym unmoved.1) (is.files d below)),
      within_still p w v c (fared (Err f)) before now is past_same,
    )
      where
        unmoved : (x' ≡ x) × (new_past ≡ old_past)
        unmoved = (leaves.refused f refl other, unmoved_settling {T = T} x entries x'.journal.stopped old_past new_past (Err f) f commits.calls.made (λ none. (commits.calls.none none).1) refl other)

        past_same : past_in 0 now ≡ past_in 0 before
        past_same = ap (as_device 0) unmoved.1

    pub answered_steps : (r : Result T DeviceFault) → Commits P entries after c (answered_as done) x x' old_past new_past r → Leaves x x' r → Steps r
    answered_steps (Ok y) commits leaves = done_steps y commits
    answered_steps (Err fault.Disk) commits leaves = failed_steps commits leaves
    answered_steps (Err fault.Memory) commits leaves = still_steps fault.Memory (λ e. absurd (cc)) (memory_same p w c) commits leaves
    answered_steps (Err (fault.Stopped at)) commits leaves = still_steps (fault.Stopped at) (λ e. absurd (cc)) (refused_fine p w c (ap is_refusal (sym (commits.steps.answers p w has.0 holds)))) commits leaves
    answered_steps (Err fault.Full) commits leaves = still_steps fault.Full (λ e. absurd (cc)) (refused_fine p w c (ap is_refusal (sym (commits.steps.answers p w has.0 holds)))) commits leaves
    answered_steps (Err fault.LooseFull) commits leaves = still_steps fault.LooseFull (λ e. absurd (cc)) (refused_fine p w c (ap is_refusal (sym (commits.steps.answers p w has.0 holds)))) commits leaves
    answered_steps (Err fault.SetFull) commits leaves = still_steps fault.SetFull (λ e. absurd (cc)) (refused_fine p w c (ap is_refusal (sym (commits.steps.answers p w has.0 holds)))) commits leaves
    answered_steps (Err fault.CounterFull) commits leaves = still_steps fault.CounterFull (λ e. absurd (cc)) (refused_fine p w c (ap is_refusal (sym (commits.steps.answers p w has.0 holds)))) commits leaves
    answered_steps (Err fault.DotsSpent) commits leaves = still_steps fault.DotsSpent (λ e. absurd (cc)) (refused_fine p w c (ap is_refusal (sym (commits.steps.answers p w has.0 holds)))) commits leaves
