use Rattle.std.proofs.Common.{◌≡◌, ◌<◌, ◌≤◌, ◌++◌, ◌∷◌, [], Ok, Option, None, Some, refl, sym, ap, ◌∙◌, length, get_or, arith}
use Rattle.std.proofs.lemmas.List.{get_or_default}
use Rattle.std.proofs.lemmas.Result.{err_from_is_err_and}
use Rattle.re_record.specs.Slots.{kept_slots, slot_of}
use Rattle.re_record.specs.Snapshots.{words_at}
use Rattle.re_record.specs.declared.slots.Role.TheVariants.{Change}
use Rattle.re_record.specs.declared.slots.Slot.{Slot}
use Rattle.re_record.proofs.WordLists.{goes_on, skips, ends, is_done}
use Rattle.re_record.proofs.snapshots.get_words.Goals as goal
use Rattle.re_record.proofs.snapshots.get_words.Goals.{in-Some+in_ok-word+in_ok-push, in_default}
use Rattle.re_terms.specs.Listed.{plain}
use Rattle.re_wire.specs.Reading.{listed}
use Rattle.re_wire.proofs.Several.{fails_then}

pub returns-in_err-word-clause-exact : goal.returns-in_err-word-clause-exact
returns-in_err-word-clause-exact c =
    let p = err_from_is_err_and c.from_residual.result c.from_residual.ensures.1 in
    let total = words_at c.args.symbols (kept_slots c.args.decls.now) c.args.bytes.now c.args.at in
    let lt : c.loop-decl.decl-index < length c.args.decls.now = omega (arith, c.loop-decl-test.true) in
    let some : slot_of Change c.decl-item.result.body ≡ Some c.in-Some.slot = sym c.slot_of.ensures ∙ c.in-Some.is in
    rw (p.1, p.2) (fails_then c.in_err-word.field-0.0 total (λ x. Ok (plain x.0, x.1)) (ends c.args.symbols c.args.bytes.now c.in_err-word.field-0.0 c.loop-decl.words.items c.args.decls.now c.loop-decl.decl-index c.loop-decl.behind c.decl-item.result c.in-Some.slot total lt c.decl-item.is some c.in_err-word.ensures.exact c.loop-decl.invariant.so_far))

no_slot : (found : Option Slot) → ((slot : Slot) → found ≡ Some slot → ⊥) → found ≡ None
no_slot None h = refl
no_slot (Some slot) h = absurd (h slot refl)

pub loop-decl-preserved : goal.loop-decl-preserved
loop-decl-preserved c =
    let lt : c.loop-decl.decl-index < length c.args.decls.now = omega (arith, c.loop-decl-test.true) in
    elim c.match-slot_of.branch [
      | in-Some+in_ok-word+in_ok-push w ↦
          let some : slot_of Change c.decl-item.result.body ≡ Some w.in-Some.slot = sym c.slot_of.ensures ∙ w.in-Some.is in
          let pushed = w.in_ok-push.ensures.ok in
          let items : w.push.new.self.items ≡ c.loop-decl.words.items ++ w.in_ok-word.word ∷ [] = ap (λ m. m.items) pushed in
          let next = goes_on c.args.symbols c.args.bytes.now c.loop-decl.words.items c.args.decls.now c.loop-decl.decl-index c.loop-decl.behind c.decl-item.result w.in-Some.slot w.in_ok-word.word w.in_ok-word.next _ lt c.decl-item.is some w.in_ok-word.ensures.exact c.loop-decl.invariant.so_far in
          record {
            so_far = rw (w.words-is, w.behind-is, items) next;
            spare = omega (arith, ap (λ m. m.spare) w.words-is, ap (λ m. m.spare) pushed, c.loop-decl.invariant.spare);
            within = omega (arith, w.behind-is, w.in_ok-word.ensures.within);
          }
      | in_default w ↦
          let none : slot_of Change c.decl-item.result.body ≡ None = sym c.slot_of.ensures ∙ no_slot c.slot_of.result w.in_default.not-Some in
          let next = skips c.args.symbols c.args.bytes.now c.loop-decl.words.items c.args.decls.now c.loop-decl.decl-index c.loop-decl.behind c.decl-item.result _ lt c.decl-item.is none c.loop-decl.invariant.so_far in
          record {
            so_far = rw (w.words-is, w.behind-is) next;
            spare = omega (arith, ap (λ m. m.spare) w.words-is, c.loop-decl.invariant.spare);
            within = omega (arith, w.behind-is, c.loop-decl.invariant.within);
          }
    ]

pub returns-clause-exact : goal.returns-clause-exact
returns-clause-exact c =
    let read = is_done c.args.symbols c.args.bytes.now c.loop-decl.words.items c.args.decls.now c.loop-decl.decl-index c.loop-decl.behind _ c.loop-decl-test.false c.loop-decl.invariant.so_far in
    let spare : 0 ≡ c.loop-decl.words.spare = sym c.loop-decl.invariant.spare in
    ap (λ r. listed r) read ∙ (λ i. Ok (record { items = c.loop-decl.words.items; spare = spare i }, c.loop-decl.behind))
