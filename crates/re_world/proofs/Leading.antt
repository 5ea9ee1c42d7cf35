-- What the record of a command leads to, and what a call that commits leaves of a device.
use Rattle.std.proofs.Common.{◌≡◌, ◌+◌, ◌++◌, ◌∷◌, [], ℕ, List, Option, Result, Ok, Err, length, refl, sym, ap, subst, ◌∙◌, arith}
use Rattle.std.specs.Prelude.{OnOk, option_map}
use Rattle.std.proofs.lemmas.List.{length-append}
use Rattle.re_device.proofs.PlainEntries.{merge_plain, more_is, state_more, turn_plain}
use Rattle.re_device.specs.Device.{DeviceMemory, DeviceState, current, logged, with_entry}
use Rattle.re_device.specs.Stepping.{IsPacketOf, IsPlainly}
use Rattle.re_device.specs.declared.fault.DeviceFault.{DeviceFault}
use Rattle.re_record.specs.Restoring.{Opened}
use Rattle.re_terms.specs.DeviceWorlds.{entries_of, record_of, settled_number}
use Rattle.re_terms.specs.Entries.{Merge, PlainEntry, run_entries, turn_entry}
use Rattle.re_terms.specs.Runs.{PlainState}
use Rattle.re_terms.specs.Updates.{Update}
use Rattle.re_terms.specs.declared.command.Command.TheVariants as command
use Rattle.re_terms.specs.declared.entry.Admitted.{Admitted}
use Rattle.re_terms.specs.declared.entry.Entry.TheVariants as entry
use Rattle.re_terms.specs.declared.program.Program.{Program}
use Rattle.re_terms.specs.declared.replicated.RState.{RState}
use Rattle.re_world.specs.Calls.{LeadsTo}

numbers : (n : ℕ) (xs ys : List PlainEntry) → n + length (xs ++ ys) ≡ n + length xs + length ys
numbers n xs ys = let all = length-append xs ys in omega (arith, all)

one_more : (n : ℕ) (xs ys : List PlainEntry) (e : PlainEntry) → n + length (xs ++ ys) + 1 ≡ n + length xs + length (ys ++ e ∷ [])
one_more n xs ys e = let all = length-append xs ys in let last = length-append ys (e ∷ []) in omega (arith, all, last)

plainly_at : (p : Program) (o : Opened) (s s' : PlainState) (n n' : ℕ) → s ≡ s' → n ≡ n' → IsPlainly p o s n → IsPlainly p o s' n'
plainly_at p o s s' n n' same_state same_number is = subst (λ q. IsPlainly p o q n') same_state (subst (IsPlainly p o s) same_number is)

pub turn_leads : (x : DeviceState) (t : Admitted) → LeadsTo (λ p w. Unit {0}) (command.Turn x.memory.device t) (current (with_entry x.memory (logged x.memory (entry.Turn t.turn)))) x
turn_leads x t = record {
  plainly = λ p w is _.
      let d = x.memory.device in
      plainly_at p (current (with_entry x.memory (logged x.memory (entry.Turn t.turn)))) _ _ _ _
      (sym (state_more p w x is (entry.Turn t.turn) (turn_entry t) (turn_plain p w x is t)))
      (one_more (w.base_number d) (w.settled d) (w.unsettled d) (turn_entry t))
      (more_is p w x is (entry.Turn t.turn) (turn_entry t) (turn_plain p w x is t));
}

pub merge_leads : (x : DeviceState) (k : ℕ) (state : RState) → LeadsTo (IsPacketOf x k state) (command.Deliver k x.memory.device) (current (with_entry x.memory (logged x.memory (entry.Merge state)))) x
merge_leads x k state = record {
  plainly = λ p w is of.
      let d = x.memory.device in
      let own : w.unsettled d ++ Merge of.packet ∷ [] ≡ record_of w (command.Deliver k d) = ap (λ (o : Option (List Update)). w.unsettled d ++ entries_of (option_map Merge o)) (sym of.listed) in
      plainly_at p (current (with_entry x.memory (logged x.memory (entry.Merge state)))) _ _ _ _
      (sym (state_more p w x is (entry.Merge state) (Merge of.packet) (merge_plain p w x is k state of)) ∙ ap (λ l. run_entries p d (w.base d) (w.settled d ++ l)) own)
      (one_more (w.base_number d) (w.settled d) (w.unsettled d) (Merge of.packet) ∙ ap (λ l. settled_number w d + length l) own)
      (more_is p w x is (entry.Merge state) (Merge of.packet) (merge_plain p w x is k state of));
}

pub settle_leads : (x : DeviceState) → LeadsTo (λ p w. Unit {0}) (command.Settle x.memory.device) (current x.memory) x
settle_leads x = record {
  plainly = λ p w is _. let d = x.memory.device in plainly_at p (current x.memory) _ _ _ _ refl (numbers (w.base_number d) (w.settled d) (w.unsettled d)) is.now;
}

-- ---- the program and the number of a device

-- they are those of a memory that has them, or the memory is as before
pub memory_keeps : {T : Type 0} {X : Type 0} (part : DeviceMemory → X) (old new kept : DeviceMemory) (r : Result T DeviceFault) → part kept ≡ part old → OnOk r (new ≡ kept) → ((f : DeviceFault) → r ≡ Err f → new ≡ old) → part new ≡ part old
memory_keeps part old new kept (Ok y) same done refused = ap part done ∙ same
memory_keeps part old new kept (Err f) same done refused = ap part (refused f refl)
