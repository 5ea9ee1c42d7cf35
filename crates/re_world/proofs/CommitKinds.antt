-- Turns, deliveries and settlings are commands that commit.
use Rattle.std.proofs.Common.{◌≡◌, ◌++◌, [], ℕ, List, refl, ap, ◌∙◌, arith}
use Rattle.std.specs.Prelude.{Bool, true, false, ◌==◌, if◌then◌else◌}
use Rattle.std.proofs.lemmas.Bool.Decides.{nat_tests}
use Rattle.std.proofs.lemmas.List.{append-nil}
use Rattle.re_terms.specs.DeviceWorlds.{BadStore, Failed, Fine, Memory, OtherProgram, Outcome, World, entries_of, entry_of, fared_world}
use Rattle.re_terms.specs.Entries.{PlainEntry}
use Rattle.re_terms.specs.declared.command.Command.TheVariants as command
use Rattle.re_terms.specs.declared.entry.Admitted.{Admitted}
use Rattle.re_terms.specs.declared.program.Program.{Program}
use Rattle.re_world.proofs.Committed.{IsCommit}

same_number : (n : ℕ) → (n == n) ≡ true
same_number n = grind (arith, nat_tests)

none_either : (b : Bool) → ◌≡◌ {A = List PlainEntry} (if b then [] else []) []
none_either true = refl
none_either false = refl

pub turn_commit : (p : Program) (w : World) (n : ℕ) (t : Admitted) → IsCommit p w (command.Turn n t) n
turn_commit p w n t = record {
  device_is = refl;
  is_commit = refl;
  failed = λ at gate_open. refl;
  stop = refl;
  packets = kept;
  line = λ o enters. (λ i. w.unsettled n ++ (if same_number n i then (if enters i then entries_of (entry_of w (command.Turn n t)) else []) else []));
}
  where
    kept : (o : Outcome) → (fared_world w (command.Turn n t) o).packets ≡ w.packets
    kept Fine = refl
    kept Memory = refl
    kept (Failed at gate_open) = refl
    kept (BadStore file place) = refl
    kept OtherProgram = refl

pub deliver_commit : (p : Program) (w : World) (n k : ℕ) → IsCommit p w (command.Deliver k n) n
deliver_commit p w n k = record {
  device_is = refl;
  is_commit = refl;
  failed = λ at gate_open. refl;
  stop = refl;
  packets = kept;
  line = λ o enters. (λ i. w.unsettled n ++ (if same_number n i then (if enters i then entries_of (entry_of w (command.Deliver k n)) else []) else []));
}
  where
    kept : (o : Outcome) → (fared_world w (command.Deliver k n) o).packets ≡ w.packets
    kept Fine = refl
    kept Memory = refl
    kept (Failed at gate_open) = refl
    kept (BadStore file place) = refl
    kept OtherProgram = refl

pub settle_commit : (p : Program) (w : World) (n : ℕ) → IsCommit p w (command.Settle n) n
settle_commit p w n = record {
  device_is = refl;
  is_commit = refl;
  failed = λ at gate_open. refl;
  stop = refl;
  packets = kept;
  line = λ o enters. ap (λ l. w.unsettled n ++ l) (none_either (n == n)) ∙ append-nil (w.unsettled n);
}
  where
    kept : (o : Outcome) → (fared_world w (command.Settle n) o).packets ≡ w.packets
    kept Fine = refl
    kept Memory = refl
    kept (Failed at gate_open) = refl
    kept (BadStore file place) = refl
    kept OtherProgram = refl
