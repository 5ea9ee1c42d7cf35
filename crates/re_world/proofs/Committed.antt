-- A command that commits is a step of the world.
use Rattle.std.proofs.Common.{◌≡◌, inl, ◌+◌, ◌++◌, [], ℕ, List, Option, Some, None, length, refl, sym, ap, subst, ◌∙◌}
use Rattle.std.specs.Prelude.{Bool, false, true, ◌≢◌, if◌then◌else◌, unwrap_or}
use Rattle.std.specs.Option.{option_map_or}
use Rattle.std.proofs.lemmas.List.{append-nil}
use mathlib.Core.Bool.{true≢false}
use Rattle.re_device.proofs.Settling.{stands_only}
use Rattle.re_device.specs.Device.{DeviceState}
use Rattle.re_device.specs.Standing.{StandsSettled}
use Rattle.re_device.specs.Stepping.{IsDeviceOf, IsPlainly}
use Rattle.re_outside.specs.Trace.{IsCrashImageOf, Past, content_of}
use Rattle.re_record.specs.Restoring.{Opened}
use Rattle.re_record.specs.Stores.{OpensTo}
use Rattle.re_terms.specs.Admission.{device_count}
use Rattle.re_terms.specs.CausalWorlds.{IsCausalWorld}
use Rattle.re_terms.specs.DeviceWorlds.{Failed, Fine, Memory, Outcome, World, calls_files, device_of, done_answer, is_refusal, done_world, doubt, failed_world, fared_world, outcome_of, record_of, recovered, refusal, reply, world_after}
use Rattle.re_terms.specs.Entries.{PlainEntry, run_entries}
use Rattle.re_terms.specs.Lines.{may_have_entered, own_entry}
use Rattle.re_terms.specs.Worlds.{Members, PlainAnswer, Value, is_set_at}
use Rattle.re_terms.specs.declared.command.Command.{Command}
use Rattle.re_terms.specs.declared.command.Command.TheVariants as command
use Rattle.re_terms.specs.declared.program.Program.{Program}
use Rattle.re_terms.specs.declared.word.Word.{Word}
use Rattle.re_world.specs.Images.{OpensAfter, commits}
use Rattle.re_world.specs.Standing.{RestsAs}

-- what is opened is the state after these entries
pub opens_after : (p : Program) (w : World) (d : ℕ) (first second : List ℕ) (entries : List PlainEntry) (o : Opened) (n : ℕ) → OpensTo p d first second o → IsPlainly p o (run_entries p d (w.base d) entries) n → n ≡ w.base_number d + length entries → OpensAfter p w d first second entries
opens_after p w d first second entries o n opens plainly number = record { opened = o; opens = opens; state = plainly.state; number_is = plainly.number_is ∙ number }

-- a device of the world that isn't stopped has nothing in doubt
pub none_in_doubt : (p : Program) (w : World) (x : DeviceState) (d : ℕ) → x.memory.device ≡ d → IsCausalWorld (device_count p.decls.items) w → IsDeviceOf p w x → x.journal.stopped ≡ None → w.in_doubt d ≡ []
none_in_doubt p w x d number causal own runs = subst (λ n. w.in_doubt n ≡ []) number (causal.settles x.memory.device own.up (sym own.stop ∙ runs))

-- the files of a device that stands on what it has settled rest as the world has it
pub standing_rests : (p : Program) (w : World) (x : DeviceState) (d : ℕ) (now : Past) → x.memory.device ≡ d → now.device ≡ d → IsCausalWorld (device_count p.decls.items) w → IsDeviceOf p w x → x.journal.stopped ≡ None → StandsSettled x now → ((f : ℕ) → IsCrashImageOf now f (content_of now f)) → RestsAs p w d now
standing_rests p w x d now number here causal own runs stands reads = record {
  images = λ first second a b. inl (at_settled first second a b);
  reads = subst (OpensAfter p w d (content_of now 0) (content_of now 1)) (sym (ap (λ l. w.settled d ++ l) nothing ∙ append-nil (w.settled d))) (at_settled (content_of now 0) (content_of now 1) (reads 0) (reads 1));
}
  where
    at_own : (first second : List ℕ) → IsCrashImageOf now 0 first → IsCrashImageOf now 1 second → OpensAfter p w x.memory.device first second (w.settled x.memory.device)
    at_own first second a b =
        opens_after p w x.memory.device first second (w.settled x.memory.device) x.memory.settled _
        (subst (λ q. OpensTo q x.memory.device first second x.memory.settled) own.program (stands_only x now stands first second a b)) own.settled refl

    at_settled : (first second : List ℕ) → IsCrashImageOf now 0 first → IsCrashImageOf now 1 second → OpensAfter p w d first second (w.settled d)
    at_settled first second a b = subst (λ n. OpensAfter p w n first second (w.settled n)) number (at_own first second a b)

    by_reads : (b : Bool) (l : List PlainEntry) → l ≡ [] → (if b then l else []) ≡ []
    by_reads true l none = none
    by_reads false l none = refl

    nothing : recovered w d ≡ []
    nothing = by_reads (w.reads d) (w.in_doubt d) (none_in_doubt p w x d number causal own runs)

-- ---- a command that commits

-- what is asked of such a command
pub record IsCommit (p : Program) (w : World) (c : Command) (d : ℕ) : Type 0 where
  pub device_is : device_of c ≡ Some d
  pub is_commit : commits c ≡ true
  pub failed : (at : ℕ) (gate_open : Bool) → failed_world w c at gate_open ≡ doubt w d (record_of w c) at gate_open
  pub stop : (done_world w c).stop ≡ w.stop
  pub packets : (o : Outcome) → (fared_world w c o).packets ≡ w.packets
  -- where it enters, what its record has is what is unsettled and its own entry
  pub line : (o : Outcome) → may_have_entered (reply p w c o) ≡ true → w.unsettled d ++ own_entry p w (record { asked = c; outcome = o }) d ≡ record_of w c

-- a command that is done isn't refused by its answer
pub done_plain : (p : Program) (w : World) (c : Command) → is_refusal (done_answer p w c) ≡ false
done_plain p w (command.Turn d t) = refl
done_plain p w (command.Lazy d t) = refl
done_plain p w (command.Settle d) = refl
done_plain p w (command.Get d id) = by_set _ _ (is_set_at p.decls.items id)
  where
    by_set : (xs : List Word) (word : Word) (b : Bool) → is_refusal (if b then Members xs else Value word) ≡ false
    by_set xs word true = refl
    by_set xs word false = refl
done_plain p w (command.Send d) = refl
done_plain p w (command.Deliver k d) = refl
done_plain p w (command.Hex k) = refl
done_plain p w (command.Crash d) = refl
done_plain p w (command.Restart d) = refl

-- where nothing hindered a command that is refused, the world is as before
pub refused_fine : (p : Program) (w : World) (c : Command) → is_refusal (reply p w c Fine) ≡ true → world_after p w c Fine ≡ w
refused_fine p w c is = by_refusal (refusal p w c) is
  where
    by_refusal : (r : Option PlainAnswer) → is_refusal (unwrap_or r (done_answer p w c)) ≡ true → option_map_or (λ refused. w) r (done_world w c) ≡ w
    by_refusal None e = absurd (true≢false (sym e ∙ done_plain p w c))
    by_refusal (Some a) e = refl

pub memory_same : (p : Program) (w : World) (c : Command) → world_after p w c Memory ≡ w
memory_same p w c = by_refusal (refusal p w c)
  where
    by_refusal : (r : Option PlainAnswer) → option_map_or (λ refused. w) r w ≡ w
    by_refusal None = refl
    by_refusal (Some a) = refl

module _ (p : Program) (w : World) (c : Command) (d : ℕ) (commit : IsCommit p w c d) where
  -- where a call failed and the device stopped, its record is in doubt
  pub failed_is : (at : ℕ) (gate_open : Bool) → (world_after p w c (Failed at gate_open)).stop d ≢ w.stop d → world_after p w c (Failed at gate_open) ≡ doubt w d (record_of w c) at gate_open
  failed_is at gate_open moved = by_refusal (refusal p w c) moved
    where
      by_calls : (b : Bool) → (fared_world w c (if b then Failed at gate_open else Fine)).stop d ≢ w.stop d → fared_world w c (if b then Failed at gate_open else Fine) ≡ doubt w d (record_of w c) at gate_open
      by_calls true other = commit.failed at gate_open
      by_calls false other = absurd (other (λ i. commit.stop i d))

      by_refusal : (r : Option PlainAnswer) → (option_map_or (λ refused. w) r (fared_world w c (outcome_of w c (Failed at gate_open)))).stop d ≢ w.stop d → option_map_or (λ refused. w) r (fared_world w c (outcome_of w c (Failed at gate_open))) ≡ doubt w d (record_of w c) at gate_open
      by_refusal None other = by_calls (calls_files w c) other
      by_refusal (Some a) other = absurd (other refl)

  pub packets_same : (o : Outcome) → (world_after p w c o).packets ≡ w.packets
  packets_same o = by_refusal (refusal p w c)
    where
      by_refusal : (r : Option PlainAnswer) → (option_map_or (λ refused. w) r (fared_world w c (outcome_of w c o))).packets ≡ w.packets
      by_refusal None = commit.packets (outcome_of w c o)
      by_refusal (Some a) = refl
