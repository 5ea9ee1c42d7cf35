-- Commands that call nothing outside, and refusals before anything is called.
use Rattle.std.proofs.Common.{◌≡◌, ◌<◌, ℕ, Option, Some, None, refl, sym, ap, subst, ◌∙◌}
use Rattle.std.specs.Prelude.{Bool, false, true, not, option_map, unwrap_or}
use Rattle.std.specs.Option.{option_or}
use Rattle.re_device.specs.Device.{DeviceState}
use Rattle.re_outside.specs.Outside.{Seen}
use Rattle.re_outside.specs.Port.{past_in}
use Rattle.re_print.specs.AnswerTexts.{AscendsWhereSet}
use Rattle.re_terms.specs.Admission.{device_count}
use Rattle.re_terms.specs.DeviceWorlds.{Fine, Memory, Outcome, World, fared_answer, has_all_entries, has_all_packets, has_all_unsettled, is_down, is_refusal, is_up, lacks_packet, limit_fault, outcome_of, reads_store, refusal, refused_where, reply, stopped_at, world_after}
use Rattle.re_terms.specs.Worlds.{PlainAnswer, Refused, StoppedAt, limit_code, plain_answer}
use Rattle.re_terms.specs.declared.command.Answer.{Answer}
use Rattle.re_terms.specs.declared.command.Answer.TheVariants as answer
use Rattle.re_terms.specs.declared.command.Command.{Command}
use Rattle.re_terms.specs.declared.program.Program.{Program}
use Rattle.re_terms.specs.declared.replicated.RState.{RState}
use Rattle.re_world.proofs.Committed.{memory_same, refused_fine}
use Rattle.re_world.proofs.Caused.{caused_as, down_is, memory_caused}
use Rattle.re_world.proofs.Staying.{counts_still, keeps_still, no_store, tells_of_store, refused_files}
use Rattle.re_world.proofs.Taken.{takes_refused}
use Rattle.re_world.proofs.Within.{within_still}
use Rattle.re_world.specs.Causes.{HasCause, Merges, finds_down, lacks}
use Rattle.re_world.specs.FileSteps.{HasFileSteps, is_disk_refusal}
use Rattle.re_world.specs.Standing.{HasDevice, IsWorldOf}
use Rattle.re_world.specs.State.{WorldState, device_in}
use Rattle.re_world.specs.Stepping.{DoesCommand, DoesInside, Shows}

-- what is known of a device's place
pub device_has : (p : Program) (w : World) (v : WorldState) (s : Seen) (n : ℕ) (o : Option DeviceState) → IsWorldOf p w v s → n < device_count v.program.decls.items → device_in v n ≡ o → HasDevice p w n o (past_in n s)
device_has p w v s n o is below place = subst (λ q. HasDevice p w n q (past_in n s)) place (is.devices n (subst (λ (q : Program). n < device_count q.decls.items) is.program below))

-- a command that leaves devices, packets and files does so in each world in which it leaves the world
pub still_does : (v : WorldState) (c : Command) (a : Answer) (tells : Bool) (s : Seen) (o : Outcome) → AscendsWhereSet a → is_disk_refusal (plain_answer a) ≡ false → tells_of_store (plain_answer a) ≡ false → is_refusal (plain_answer a) ≡ true → HasCause v c (plain_answer a) → HasFileSteps v v c (plain_answer a) s s → Shows v v c o s s → ((p : Program) (w : World) → IsWorldOf p w v s → plain_answer a ≡ reply p w c o) → ((p : Program) (w : World) → IsWorldOf p w v s → world_after p w c o ≡ w) → DoesCommand tells v v c a s s
still_does v c a tells s o ascends calm other plain caused files shows answers same = record {
  keeps = keeps_still v c (plain_answer a) calm;
  caused = caused;
  ascends = ascends;
  counts = counts_still c (plain_answer a) s calm;
  takes = takes_refused v v c (plain_answer a) plain;
  stores = λ is. absurd (no_store (plain_answer a) other is);
  left = λ told. refl;
  files = λ told. files;
  stepped = λ told. record {
    outcome = o;
    shows = shows;
    answers = answers;
    world = λ p w is. subst (λ u. IsWorldOf p u v s) (sym (same p w is)) is;
    restores = λ p w is. within_still p w v c o s s is refl;
  };
}

-- want of memory
pub memory_does : (v : WorldState) (c : Command) → reads_store c ≡ false → (state : RState) × Merges v c state → DoesInside v v c (answer.No 36)
memory_does v c own merged tells s = still_does v c (answer.No 36) tells s Memory tt refl refl refl (memory_caused v c merged) (refused_files v c (Refused 36) s own refl refl) (λ kind. refl) (λ p w is. refl) (λ p w is. memory_same p w c)

-- a refusal that comes however it fares
pub refused_does : (v : WorldState) (c : Command) (a : Answer) → AscendsWhereSet a → is_disk_refusal (plain_answer a) ≡ false → tells_of_store (plain_answer a) ≡ false → is_refusal (plain_answer a) ≡ true → HasCause v c (plain_answer a) → ((s : Seen) → HasFileSteps v v c (plain_answer a) s s) → ((p : Program) (w : World) (s : Seen) → IsWorldOf p w v s → refusal p w c ≡ Some (plain_answer a)) → DoesInside v v c a
refused_does v c a ascends calm other plain caused files comes tells s =
    still_does v c a tells s Fine ascends calm other plain caused (files s) (λ kind. refl) (λ p w is. sym (replied p w is)) (λ p w is. refused_fine p w c (ap is_refusal (replied p w is) ∙ plain))
  where
    replied : (p : Program) (w : World) → IsWorldOf p w v s → reply p w c Fine ≡ plain_answer a
    replied p w is = ap (λ r. unwrap_or r (fared_answer p w c (outcome_of w c Fine))) (comes p w s is)

-- the same of a command that reads no store
pub refused_before : (v : WorldState) (c : Command) (a : Answer) → AscendsWhereSet a → is_disk_refusal (plain_answer a) ≡ false → tells_of_store (plain_answer a) ≡ false → is_refusal (plain_answer a) ≡ true → HasCause v c (plain_answer a) → reads_store c ≡ false → ((p : Program) (w : World) (s : Seen) → IsWorldOf p w v s → refusal p w c ≡ Some (plain_answer a)) → DoesInside v v c a
refused_before v c a ascends calm other plain caused own comes = refused_does v c a ascends calm other plain caused (λ s. refused_files v c (plain_answer a) s own plain calm) comes

-- ---- the refusals in their order

module _ (p : Program) (w : World) (c : Command) where
  -- the refusals behind those for packets and for devices that are down or up
  abbrev pub later_refusal : Option PlainAnswer
  later_refusal = option_or (refused_where (has_all_packets w c) 35) (option_or (refused_where (has_all_entries w c) 29) (option_or (refused_where (has_all_unsettled w c) 38) (option_map (λ f. Refused (limit_code f)) (limit_fault p w c))))

  pub lacks_first : lacks_packet w c ≡ true → refusal p w c ≡ Some (Refused 28)
  lacks_first lacks = (λ i. option_or (refused_where (lacks i) 28) (option_or (refused_where (is_down w c) 26) (option_or (refused_where (is_up w c) 27) (option_or (option_map StoppedAt (stopped_at w c)) later_refusal))))

  module _ (there : lacks_packet w c ≡ false) where
    pub down_first : is_down w c ≡ true → refusal p w c ≡ Some (Refused 26)
    down_first down = (λ i. option_or (refused_where (there i) 28) (option_or (refused_where (down i) 26) (option_or (refused_where (is_up w c) 27) (option_or (option_map StoppedAt (stopped_at w c)) later_refusal))))

    module _ (not_down : is_down w c ≡ false) where
      pub up_first : is_up w c ≡ true → refusal p w c ≡ Some (Refused 27)
      up_first up = (λ i. option_or (refused_where (there i) 28) (option_or (refused_where (not_down i) 26) (option_or (refused_where (up i) 27) (option_or (option_map StoppedAt (stopped_at w c)) later_refusal))))

      pub stop_first : (o : Option ℕ) → is_up w c ≡ false → stopped_at w c ≡ o → refusal p w c ≡ option_or (option_map StoppedAt o) later_refusal
      stop_first o not_up stop = (λ i. option_or (refused_where (there i) 28) (option_or (refused_where (not_down i) 26) (option_or (refused_where (not_up i) 27) (option_or (option_map StoppedAt (stop i)) later_refusal))))

-- the device is down
pub down_does : (v : WorldState) (c : Command) (n : ℕ) → n < device_count v.program.decls.items → device_in v n ≡ None → reads_store c ≡ false → finds_down v c ≡ true → lacks v c ≡ false → (state : RState) × Merges v c state → ((w : World) → is_down w c ≡ not (w.up n)) → ((p : Program) (w : World) (s : Seen) → IsWorldOf p w v s → lacks_packet w c ≡ false) → DoesInside v v c (answer.No 26)
down_does v c n below place own finds has merged down there =
    refused_before v c (answer.No 26) tt refl refl refl (caused_as v c (Refused 26) merged (λ state merges. down_is v c has state finds)) own
    (λ p w s is. down_first p w c (there p w s is) (down w ∙ ap not (device_has p w v s n None is below place)))

-- the device is stopped
pub stopped_does : (v : WorldState) (c : Command) (n : ℕ) (x : DeviceState) (at : ℕ) → n < device_count v.program.decls.items → device_in v n ≡ Some x → x.journal.stopped ≡ Some at → reads_store c ≡ false → HasCause v c (StoppedAt at) → ((w : World) → lacks_packet w c ≡ false) → ((w : World) → is_down w c ≡ not (w.up n)) → ((w : World) → is_up w c ≡ false) → ((w : World) → stopped_at w c ≡ w.stop n) → DoesInside v v c (answer.StoppedAt at)
stopped_does v c n x at below place stop own caused there down up stopped =
    refused_before v c (answer.StoppedAt at) tt refl refl refl caused own
    (λ p w s is.
    let has = device_has p w v s n (Some x) is below place in
    stop_first p w c (there w) (down w ∙ ap not (ap w.up (sym has.1) ∙ has.0.up)) (Some at) (up w) (stopped w ∙ ap w.stop (sym has.1) ∙ sym has.0.stop ∙ stop))

-- the device is up and runs, and nothing else stands against the command
pub unrefused : (p : Program) (w : World) (v : WorldState) (s : Seen) (c : Command) (n : ℕ) (x : DeviceState) → IsWorldOf p w v s → n < device_count v.program.decls.items → device_in v n ≡ Some x → x.journal.stopped ≡ None → lacks_packet w c ≡ false → is_down w c ≡ not (w.up n) → is_up w c ≡ false → stopped_at w c ≡ w.stop n → refusal p w c ≡ later_refusal p w c
unrefused p w v s c n x is below place runs there down up stopped =
    let has = device_has p w v s n (Some x) is below place in
    stop_first p w c there (down ∙ ap not (ap w.up (sym has.1) ∙ has.0.up)) None up (stopped ∙ ap w.stop (sym has.1) ∙ sym has.0.stop ∙ runs)
