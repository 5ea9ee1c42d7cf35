-- All that a restart does.
use Rattle.std.proofs.Common.{◌≡◌, inl, inr, ◌<◌, ◌+◌, ℕ, Some, None, Ok, Err, length, refl, sym, ap, subst, ◌∙◌}
use Rattle.std.specs.Prelude.{Bool, false, true, ◌≢◌, option_and_then, unwrap_or}
use mathlib.Core.Bool.{true≢false}
use Rattle.std.specs.Option.{option_map_or, option_or}
use Rattle.re_compact.specs.declared.fault.OpenFault.{OpenFault}
use Rattle.re_compact.specs.declared.fault.OpenFault.TheVariants as unopened
use Rattle.re_device.specs.Causes.{is_caused}
use Rattle.re_device.specs.Device.{DeviceMemory, DeviceState, current}
use Rattle.re_device.specs.Standing.{StandsSettled}
use Rattle.re_outside.specs.Moment.{Throughout}
use Rattle.re_outside.specs.Outside.{Seen, content_in}
use Rattle.re_outside.specs.Port.{disk_faults, other_faults, past_in}
use Rattle.re_outside.specs.Trace.{IsCrashImageOf, content_of}
use Rattle.re_print.specs.AnswerTexts.{AscendsWhereSet}
use Rattle.re_record.specs.Restoring.{Opened}
use Rattle.re_record.specs.Stores as stores
use Rattle.re_record.specs.Stores.{HasStore, OpensTo, Stored}
use Rattle.re_restore.specs.Opening.{HasRestoreCause, StillOpens}
use Rattle.re_terms.proofs.WorldSteps.{done_after}
use Rattle.re_terms.specs.Admission.{device_count}
use Rattle.re_terms.specs.DeviceWorlds.{BadStore, Failed, Fine, Memory, OtherProgram, Outcome, World, device_of, fared_answer, is_refusal, outcome_of, put_up, recovered, refusal, refused_where, reply, settled_number, world_after}
use Rattle.re_terms.specs.Programs.{IsProgram}
use Rattle.re_terms.specs.Worlds.{PlainAnswer, Refused, Up, plain_answer}
use Rattle.re_terms.specs.declared.command.Answer.{Answer}
use Rattle.re_terms.specs.declared.command.Answer.TheVariants as answer
use Rattle.re_terms.specs.declared.command.Command.TheVariants as command
use Rattle.re_terms.specs.declared.program.Program.{Program}
use Rattle.re_world.proofs.Caused.{any_state, caused_as, caused_free}
use Rattle.re_world.proofs.Doing.{none_rose}
use Rattle.re_world.proofs.Inside.{device_has, refused_does, stop_first, up_first}
use Rattle.re_world.proofs.InsideDone.{replied}
use Rattle.re_world.proofs.OpeningSteps.{steps_handed}
use Rattle.re_world.proofs.Restarted.{entry_is, opened_world, restart_restores, unopened_world}
use Rattle.re_world.proofs.Staying.{keeps_done}
use Rattle.re_world.proofs.Taken.{refuses_opening, takes_refused}
use Rattle.re_world.specs.Causes.{HasCause, device_refusal}
use Rattle.re_world.specs.FileSteps.{HasFileSteps, RestartsFrom, unopened_as}
use Rattle.re_world.specs.Opening.{HasOpeningSteps, IsOpened, IsOpeningAnswer}
use Rattle.re_world.specs.Standing.{IsWorldOf}
use Rattle.re_world.specs.State.{WorldState, device_in}
use Rattle.re_world.specs.Stepping.{CountsBy, DoesCommand, DoesInside, IsLeftStopped, IsRestartAnswer, NoneRose, Shows}

-- ---- causes

-- a device that is up is refused for that
up_caused : (v : WorldState) (n : ℕ) (x : DeviceState) → device_in v n ≡ Some x → HasCause v (command.Restart n) (Refused 27)
up_caused v n x place =
    caused_as v (command.Restart n) (Refused 27) (any_state v, tt)
    (λ state merges. ap (λ o. option_or (refused_where (option_map_or (λ (y : DeviceState). true) o false) 27) (option_and_then (device_refusal v state (command.Restart n)) o)) place)

-- one that is down is refused for nothing in memory
down_caused : (v : WorldState) (n : ℕ) (a : PlainAnswer) → device_in v n ≡ None → is_caused a ≡ false → HasCause v (command.Restart n) a
down_caused v n a place free =
    caused_free v (command.Restart n) a (any_state v, tt) free
    (λ state merges. ap (λ o. option_or (refused_where (option_map_or (λ (y : DeviceState). true) o false) 27) (option_and_then (device_refusal v state (command.Restart n)) o)) place)

-- no refusal of an opening is for what is in memory
free_of : (f : OpenFault) → is_caused (unopened_as f) ≡ false
free_of unopened.Memory = refl
free_of unopened.Disk = refl
free_of (unopened.BadStore file at) = refl
free_of unopened.OtherProgram = refl

-- ---- answers

-- the refusal of an opening is that of a restart
pub refused_by : (p : Program) (n : ℕ) (stored : Stored) (f : OpenFault) → IsOpeningAnswer p n stored (Err f) → IsRestartAnswer p n stored (unopened_as f)
refused_by p n stored unopened.Memory is = inr (inr refl)
refused_by p n stored unopened.Disk is = inr (inl refl)
refused_by p n stored (unopened.BadStore file at) is = is
refused_by p n stored unopened.OtherProgram is = inl (refl, is)

-- what was opened is at the number that it is up at
pub opened_number : (p : Program) (n : ℕ) (x : DeviceState) (number : ℕ) → IsOpened p n x → number ≡ (current x.memory).number → x.memory.settled.number ≡ number
opened_number p n x number opened number_is = ap (λ (m : DeviceMemory). m.settled.number) opened.memory ∙ sym (ap (λ (m : DeviceMemory). (current m).number) opened.memory) ∙ sym number_is

-- ---- restarts

-- the device is up already
pub up_does : (v : WorldState) (n : ℕ) (x : DeviceState) → n < device_count v.program.decls.items → device_in v n ≡ Some x → DoesInside v v (command.Restart n) (answer.No 27)
up_does v n x below place =
    refused_does v (command.Restart n) (answer.No 27) tt refl refl refl (up_caused v n x place)
    (λ s. subst (λ o. RestartsFrom o v.program v n (Refused 27) (past_in n s) (past_in n s)) (sym place) refl)
    (λ p w s is. let has = device_has p w v s n (Some x) is below place in up_first p w (command.Restart n) refl refl (ap w.up (sym has.1) ∙ has.0.up))

-- nothing stands against the restart of a device that is down
unrefused : (p : Program) (w : World) (n : ℕ) → w.up n ≡ false → refusal p w (command.Restart n) ≡ None
unrefused p w n down = stop_first p w (command.Restart n) refl refl None down refl

-- how a restart fared whose opening is refused
abbrev pub fared_opening : OpenFault → Outcome
fared_opening unopened.Memory = Memory
fared_opening unopened.Disk = Failed 0 false
fared_opening (unopened.BadStore file at) = BadStore file at
fared_opening unopened.OtherProgram = OtherProgram

-- what is known of an opening outside, of a device that was down
pub record OpeningFacts (tells : Bool) (v : WorldState) (n : ℕ) (before now : Seen) : Type 0 where
  pub is_program : IsProgram v.program
  pub below : n < device_count v.program.decls.items
  pub place : device_in v n ≡ None
  pub others : other_faults n now ≡ other_faults n before
  pub left : tells ≡ true → now.left ≡ before.left
  pub moments : tells ≡ true → Throughout (past_in n before) (past_in n now) (StillOpens v.program n (past_in n before))
  pub reads : tells ≡ true → (o : Opened) → OpensTo v.program n (content_in before n 0) (content_in before n 1) o → OpensTo v.program n (content_in now n 0) (content_in now n 1) o

module _ (tells : Bool) (v : WorldState) (n : ℕ) (before now : Seen) (facts : OpeningFacts tells v n before now) where
  none : disk_faults n now ≡ disk_faults n before → NoneRose before now
  none own = none_rose n before now own facts.others

  module _ (told : tells ≡ true) (p : Program) (w : World) (is : IsWorldOf p w v before) where
    is_program : IsProgram p
    is_program = subst IsProgram is.program facts.is_program

    below : n < device_count p.decls.items
    below = subst (λ (q : Program). n < device_count q.decls.items) is.program facts.below

    down : w.up n ≡ false
    down = device_has p w v before n None is facts.below facts.place

    moments : Throughout (past_in n before) (past_in n now) (StillOpens p n (past_in n before))
    moments = subst (λ q. Throughout (past_in n before) (past_in n now) (StillOpens q n (past_in n before))) is.program (facts.moments told)

    reads : (o : Opened) → OpensTo p n (content_in before n 0) (content_in before n 1) o → OpensTo p n (content_in now n 0) (content_in now n 1) o
    reads = subst (λ q. (o : Opened) → OpensTo q n (content_in before n 0) (content_in before n 1) o → OpensTo q n (content_in now n 0) (content_in now n 1) o) is.program (facts.reads told)

    replied_by : (f : OpenFault) → unopened_as f ≡ reply p w (command.Restart n) (fared_opening f)
    replied_by unopened.Memory = refl
    replied_by unopened.Disk = sym (ap (λ r. unwrap_or r (fared_answer p w (command.Restart n) (outcome_of w (command.Restart n) (Failed 0 false)))) (unrefused p w n down))
    replied_by (unopened.BadStore file at) = sym (ap (λ r. unwrap_or r (fared_answer p w (command.Restart n) (outcome_of w (command.Restart n) (BadStore file at)))) (unrefused p w n down))
    replied_by unopened.OtherProgram = sym (ap (λ r. unwrap_or r (fared_answer p w (command.Restart n) (outcome_of w (command.Restart n) OtherProgram))) (unrefused p w n down))

    same_by : (f : OpenFault) → world_after p w (command.Restart n) (fared_opening f) ≡ w
    same_by unopened.Memory = ap (λ r. option_map_or (λ refused. w) r w) (unrefused p w n down)
    same_by unopened.Disk = ap (λ r. option_map_or (λ refused. w) r w) (unrefused p w n down)
    same_by (unopened.BadStore file at) = ap (λ r. option_map_or (λ refused. w) r w) (unrefused p w n down)
    same_by unopened.OtherProgram = ap (λ r. option_map_or (λ refused. w) r w) (unrefused p w n down)

  -- the opening is refused
  module _ (f : OpenFault) (a : Answer) (replies : plain_answer a ≡ unopened_as f) (ascends : AscendsWhereSet a) (cause : HasRestoreCause {T = DeviceState} (disk_faults n before) (disk_faults n now) (Err f))
      (bad : tells ≡ true → (file at : ℕ) → f ≡ unopened.BadStore file at → HasStore v.program n (content_in before n 0) (content_in before n 1) (stores.Bad file at))
      (other : tells ≡ true → f ≡ unopened.OtherProgram → HasStore v.program n (content_in before n 0) (content_in before n 1) stores.OtherProgram)
      (steps : tells ≡ true → HasOpeningSteps {T = DeviceState} v.program n (past_in n before) (past_in n now) (Err f)) where
    counts_by : (g : OpenFault) → HasRestoreCause {T = DeviceState} (disk_faults n before) (disk_faults n now) (Err g) → CountsBy (command.Restart n) (unopened_as g) before now
    counts_by unopened.Memory own = none own
    counts_by unopened.Disk own = record { device = n; device_is = refl; rose = own; others = facts.others }
    counts_by (unopened.BadStore file at) own = none own
    counts_by unopened.OtherProgram own = none own

    shows_by : (told : tells ≡ true) (g : OpenFault) → f ≡ g → HasRestoreCause {T = DeviceState} (disk_faults n before) (disk_faults n now) (Err g) → Shows v v (command.Restart n) (fared_opening g) before now
    shows_by told unopened.Memory same own = none own
    shows_by told unopened.Disk same own = (record { device = n; device_is = refl; rose = own; others = facts.others }, tt)
    shows_by told (unopened.BadStore file at) same own = (none own, record { device = n; command_is = refl; store = bad told file at same })
    shows_by told unopened.OtherProgram same own = (none own, record { device = n; command_is = refl; store = other told same })

    -- it stays down
    stays_down : (d : ℕ) → device_of (command.Restart n) ≡ Some d → IsLeftStopped (device_in v d) (device_in v d)
    stays_down d own =
        let same : n ≡ d = cc in
        subst (λ k. IsLeftStopped (device_in v k) (device_in v k)) same (subst (λ o. IsLeftStopped o o) (sym facts.place) tt)

    none_opened : (x : DeviceState) → device_in v n ≡ Some x → x.journal.calls ≡ 0
    none_opened x is = let both = sym facts.place ∙ is in absurd (cc)

    restarts : tells ≡ true → HasFileSteps v v (command.Restart n) (plain_answer a) before now
    restarts told =
        subst (λ o. RestartsFrom o v.program v n (plain_answer a) (past_in n before) (past_in n now)) (sym facts.place)
        (record { result = Err f; answer = replies; steps = steps_handed DeviceState {U = ℕ} v.program n (Err f) f (past_in n before) (past_in n now) refl (steps told) }, none_opened)

    pub unopened_does : DoesCommand tells v v (command.Restart n) a before now
    unopened_does = record {
      keeps = record {
        program = refl;
        others = λ d other. refl;
        refused = λ refused calm. refl;
        stops = λ failed. stays_down;
        packets = λ failed. refl;
      };
      caused = down_caused v n (plain_answer a) facts.place (ap is_caused replies ∙ free_of f);
      files = restarts;
      ascends = ascends;
      counts = subst (λ q. CountsBy (command.Restart n) q before now) (sym replies) (counts_by f cause);
      takes = takes_refused v v (command.Restart n) (plain_answer a) (ap is_refusal replies ∙ refuses_opening f);
      stores = λ is. (n, refl);
      left = facts.left;
      stepped = λ told. record {
        outcome = fared_opening f;
        shows = shows_by told f refl cause;
        answers = λ p w is. replies ∙ replied_by told p w is f;
        world = λ p w is. unopened_world p w v n before now (is_program told p w is) is (below told p w is) (down told p w is) (moments told p w is) (reads told p w is) (fared_opening f) (same_by told p w is f) facts.place;
        restores = λ p w is. restart_restores p w v n before now (is_program told p w is) is (below told p w is) (down told p w is) (moments told p w is) (reads told p w is) (fared_opening f);
      };
    }

  -- the device is opened
  module _ (x : DeviceState) (new : WorldState) (number : ℕ) (number_is : number ≡ (current x.memory).number) (opened : IsOpened v.program n x) (own : disk_faults n now ≡ disk_faults n before)
      (program : new.program ≡ v.program) (packets : new.packets ≡ v.packets) (place : device_in new n ≡ Some x) (other_places : (e : ℕ) → e ≢ n → device_in new e ≡ device_in v e)
      (settled : tells ≡ true → OpensTo v.program n (content_in before n 0) (content_in before n 1) x.memory.settled) (stands : tells ≡ true → StandsSettled x (past_in n now)) (images : tells ≡ true → (f : ℕ) → IsCrashImageOf (past_in n now) f (content_of (past_in n now) f))
      (steps : tells ≡ true → HasOpeningSteps {T = DeviceState} v.program n (past_in n before) (past_in n now) (Ok x)) where
    module _ (told : tells ≡ true) (p : Program) (w : World) (is : IsWorldOf p w v before) where
      is_opened : IsOpened p n x
      is_opened = subst (λ q. IsOpened q n x) is.program opened

      opens : OpensTo p n (content_in before n 0) (content_in before n 1) x.memory.settled
      opens = subst (λ q. OpensTo q n (content_in before n 0) (content_in before n 1) x.memory.settled) is.program (settled told)

      up : world_after p w (command.Restart n) Fine ≡ put_up w n
      up = done_after p w (command.Restart n) (unrefused p w n (down told p w is))

      entries : number ≡ settled_number w n + length (recovered w n)
      entries =
          number_is ∙ ap (λ (m : DeviceMemory). (current m).number) is_opened.memory
          ∙ entry_is p w v n before now (is_program told p w is) is (below told p w is) (down told p w is) (moments told p w is) (reads told p w is) x is_opened opens (stands told) Fine up

    counts_none : (y : DeviceState) → device_in new n ≡ Some y → y.journal.calls ≡ 0
    counts_none y is =
        let both : Some x ≡ Some y = sym place ∙ is in
        let same : x ≡ y = cc in
        subst (λ (z : DeviceState). z.journal.calls ≡ 0) same opened.calls

    restarted : tells ≡ true → HasFileSteps v new (command.Restart n) (Up number) before now
    restarted told =
        subst (λ o. RestartsFrom o v.program new n (Up number) (past_in n before) (past_in n now)) (sym facts.place)
        (record { result = Ok number; answer = refl; steps = steps told }, counts_none)

    pub opened_does : DoesCommand tells v new (command.Restart n) (answer.Up number) before now
    opened_does = record {
      keeps = keeps_done v new (command.Restart n) (Up number) refl program (λ d other. other_places d (λ same. other (ap Some (sym same)))) (λ is. absurd (true≢false (sym is)));
      caused = down_caused v n (Up number) facts.place refl;
      files = restarted;
      ascends = tt;
      counts = none own;
      takes = record { device = n; command_is = refl; after = x; place_after = place; opened = opened; number_is = number_is };
      stores = λ is. (n, refl);
      left = facts.left;
      stepped = λ told. record {
        outcome = Fine;
        shows = none own;
        answers = λ p w is. ap Up (entries told p w is) ∙ sym (replied p w (command.Restart n) (unrefused p w n (down told p w is)));
        world = λ p w is. opened_world p w v n before now (is_program told p w is) is (below told p w is) (down told p w is) (moments told p w is) (reads told p w is) x (is_opened told p w is) (opens told p w is) (stands told) Fine (up told p w is) new program packets place other_places (images told);
        restores = λ p w is. restart_restores p w v n before now (is_program told p w is) is (below told p w is) (down told p w is) (moments told p w is) (reads told p w is) Fine;
      };
    }
