-- Why the world refuses a device's command, by what is known of the device.
use Rattle.std.proofs.Common.{◌≡◌, ℕ, Bool, false, length, Option, None, sym, ap}
use Rattle.std.specs.Prelude.{nat_le, not, option_map}
use Rattle.std.specs.Option.{option_or}
use Rattle.std.proofs.lemmas.Bool.{lt-leb}
use Rattle.std.proofs.lemmas.Option.{slice_get_within}
use Rattle.re_device.proofs.PlainEntries.{full_is, merge_limit, turn_limit}
use Rattle.re_device.specs.Causes.{refusal_by}
use Rattle.re_device.specs.Device.{DeviceState, limit_against, takes_no_more}
use Rattle.re_device.specs.Stepping.{IsDeviceOf, IsPacketOf}
use Rattle.re_terms.specs.Admission.{IsAdmitted}
use Rattle.re_terms.specs.DeviceWorlds.{World, refusal, refused_where}
use Rattle.re_terms.specs.Limits.{OperationFault}
use Rattle.re_terms.specs.Worlds.{PlainAnswer}
use Rattle.re_terms.specs.declared.command.Command.TheVariants as command
use Rattle.re_terms.specs.declared.entry.Admitted.{Admitted}
use Rattle.re_terms.specs.declared.entry.Entry.TheVariants as entry
use Rattle.re_terms.specs.declared.program.Program.{Program}
use Rattle.re_terms.specs.declared.replicated.RState.{RState}

-- the same, where the packet may not be there and the device may be down
abbrev refusal_of : Bool → Bool → Option ℕ → Bool → Bool → Option OperationFault → Option PlainAnswer
refusal_of lacks up stop full many limit = option_or (refused_where lacks 28) (option_or (refused_where (not up) 26) (refusal_by stop full many limit))

module _ (p : Program) (w : World) (d : DeviceState) (is : IsDeviceOf p w d) where
  abbrev device : ℕ
  device = d.memory.device

  -- a turn
  pub turn_refusal : (t : Admitted) → IsAdmitted d.memory.program t.turn → refusal p w (command.Turn device t) ≡ refusal_by d.journal.stopped (takes_no_more d.memory) false (limit_against d.memory (entry.Turn t.turn))
  turn_refusal t admitted =
      let full = sym (full_is p w d is) in
      let limit = sym (turn_limit p w d is t admitted) in
      let stop = sym is.stop in
      λ i. refusal_of false (is.up i) (stop i) (full i) false (limit i)

  -- an unsettled turn
  pub lazy_refusal : (t : Admitted) → IsAdmitted d.memory.program t.turn → refusal p w (command.Lazy device t) ≡ refusal_by d.journal.stopped (takes_no_more d.memory) (nat_le 8 (length d.memory.unsettled)) (limit_against d.memory (entry.Turn t.turn))
  lazy_refusal t admitted =
      let full = sym (full_is p w d is) in
      let many = sym (ap (nat_le 8) is.unsettled) in
      let limit = sym (turn_limit p w d is t admitted) in
      let stop = sym is.stop in
      λ i. refusal_of false (is.up i) (stop i) (full i) (many i) (limit i)

  -- a merge
  pub merge_refusal : (k : ℕ) (state : RState) → IsPacketOf d k state p w → refusal p w (command.Deliver k device) ≡ refusal_by d.journal.stopped (takes_no_more d.memory) false (limit_against d.memory (entry.Merge state))
  merge_refusal k state of =
      let there = lt-leb (length w.packets) k (slice_get_within w.packets k of.packet of.listed) in
      let full = sym (full_is p w d is) in
      let limit = sym (merge_limit p w d is k state of) in
      let stop = sym is.stop in
      λ i. refusal_of (there i) (is.up i) (stop i) (full i) false (limit i)

  -- a settling
  pub settle_refusal : refusal p w (command.Settle device) ≡ refusal_by d.journal.stopped false false None
  settle_refusal = let stop = sym is.stop in λ i. refusal_of false (is.up i) (stop i) false false None
