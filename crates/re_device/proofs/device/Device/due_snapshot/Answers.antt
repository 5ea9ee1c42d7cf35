-- The snapshot is short, and is the one that is due.
use Rattle.std.proofs.Common.{◌≡◌, ◌∙◌, ◌+◌, Some, true, ℕ, List, length, sym, ap, arith}
use Rattle.std.specs.Prelude.{option_map}
use Rattle.re_journal.specs.Journals.{frame_of}
use Rattle.re_record.proofs.LoggedLengths.{snapshot_long}
use Rattle.re_outside.specs.Listed.{Listed}
use Rattle.re_terms.specs.Listed.{Listed as Items, plain}
use Rattle.re_terms.specs.declared.replicated.RState.{RState}
use Rattle.re_terms.specs.declared.word.Word.{Word}
use Rattle.re_record.specs.Spellings.{snapshot_bytes}
use Rattle.re_device.proofs.DueSnapshots.{copied_state, due_some, same_snapshot}
use Rattle.re_device.proofs.Memories.{number_after}
use Rattle.re_device.proofs.device.Device.due_snapshot.Goals as goal
use Rattle.re_device.specs.Committing.{due_snapshot, is_due, next_snapshot}
use Rattle.re_device.specs.Device.{DeviceState}
use Rattle.re_device.specs.Keeping.{memory_of, seen_of, settled_of}

pub put_snapshot-requires-clause-number : goal.put_snapshot-requires-clause-number
put_snapshot-requires-clause-number c =
    let d = c.self.inside in
    let m = memory_of d in
    omega (arith, number_after d.program d.device m.unsettled m.settled, c.self.invariant.current.number_is, c.self.invariant.number)

pub frame-requires : goal.frame-requires
frame-requires c =
    let d = c.self.inside in
    let inv = c.self.invariant in
    let words : c.in_ok-copy.field-0.items ≡ d.settled.words.items = ap (λ (w : Items Word). w.items) c.in_ok-copy.ensures in
    let rep : c.in_ok-copy-2.field-0 ≡ d.settled.outbox = c.in_ok-copy-2.ensures ∙ c.state.ensures in
    let state = copied_state d.program (settled_of d).state c.in_ok-copy.field-0 c.in_ok-copy-2.field-0 inv.settled words rep in
    let long = snapshot_long d.program d.device (d.generation + 1) d.settled.number (record { words = c.in_ok-copy.field-0; rep = c.in_ok-copy-2.field-0 }) inv.is_program inv.text state in
    omega (arith, long, ap length (c.as_slice.ensures ∙ ap (λ (l : Listed ℕ). l.items) c.in_ok-snapshot.ensures))

pub returns : goal.returns
returns c =
    let d = c.self.inside in
    let v = seen_of d in
    let words : c.in_ok-copy.field-0.items ≡ d.settled.words.items = ap (λ (w : Items Word). w.items) c.in_ok-copy.ensures in
    let rep : c.in_ok-copy-2.field-0 ≡ d.settled.outbox = c.in_ok-copy-2.ensures ∙ c.state.ensures in
    let bytes : c.as_slice.result.now ≡ next_snapshot (seen_of d) =
    c.as_slice.ensures ∙ ap (λ (l : Listed ℕ). l.items) c.in_ok-snapshot.ensures
    ∙ same_snapshot d.program d.device (d.generation + 1) d.settled.number c.in_ok-copy.field-0 c.in_ok-copy-2.field-0
    ∙ ap (λ (w : List Word). snapshot_bytes d.program d.device (d.generation + 1) d.settled.number (record { words = plain w; rep = c.in_ok-copy-2.field-0 })) words
    ∙ ap (λ (r : RState). snapshot_bytes d.program d.device (d.generation + 1) d.settled.number (record { words = plain d.settled.words.items; rep = r })) rep in
    let due : is_due (seen_of d) ≡ true = ap is_due c.self.view_is ∙ sym c.is_due.ensures ∙ c.if-not-is_due.false in
    ap (λ (l : Listed ℕ). Some l.items) c.in_ok-frame.ensures
    ∙ ap (λ (l : List ℕ). Some (frame_of l)) bytes
    ∙ ap (option_map frame_of) (sym (due_some (seen_of d) due))
    ∙ ap (λ (x : DeviceState). option_map frame_of (due_snapshot x)) c.self.view_is
