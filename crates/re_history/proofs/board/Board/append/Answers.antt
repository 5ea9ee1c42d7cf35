use Rattle.std.proofs.Common.{◌≡◌, ◌+◌, ◌∷◌, [], ◌++◌, length, Some, ◌<◌, subst, sym, ap, ◌∙◌, arith, length-append}
use mathlib.Core.List.{IsPrefix}
use Rattle.re_history.specs.Items.{items_of, next_item, IsTold}
use Rattle.re_history.specs.Rule.{pen_of, chair_of, of_pen, of_chair, counted}
use Rattle.re_history.proofs.Items.{items_of-same, prefix_longer}
use Rattle.re_history.proofs.Steps.{both_is, counts_as, append_told, chair_back, pen_gone, pen_back}
use Rattle.re_history.proofs.board.Board.append.Goals as goal

pub compare_exchange_with-requires : goal.compare_exchange_with-requires
compare_exchange_with-requires g c =
    let two = c.self.invariant in
    let w = c.writer.inside.seat in
    let s = c.seat.inside.seat in
    let h = c.hand_over.ensures in (
      h.table.1 ∙ ap (λ v. v.board.table) c.seat.view_is ∙ ap (λ b. b.table) (c.requires.board.1 ∙ sym c.self.view_is),
      (omega arith),
      counts_as c.self.inside.table.shared.table_id.slots c.hand_over.new.to.id c.hand_over.new.to.me (pen_of w.me.0) (chair_of s.me.0) c.args.value.now c.writer.inside.count
          (h.to ∙ both_is w.me s.me (pen_of w.me.0) (chair_of s.me.0) c.writer.invariant.0 c.seat.invariant.0) c.writer.invariant.1,
    )

pub hand_over-requires-2-clause-pen : goal.hand_over-requires-2-clause-pen
hand_over-requires-2-clause-pen g c =
    let w = c.writer.inside.seat in
    let s = c.seat.inside.seat in
    let x = c.args.value.now in
    let told = append_told w.me s.me c.hand_over.new.to.me c.compare_exchange_with.new.seat.me x c.writer.invariant.0 c.seat.invariant.0 c.hand_over.ensures.to c.compare_exchange_with.ensures.2 in
    ap (λ m. m.0.pen) told.0 ∙ sym (ap (λ m. Some (pen_of m.0)) told.0)

pub invariant_of-writer : goal.invariant_of-writer
invariant_of-writer g c =
    let w = c.writer.inside.seat in
    let s = c.seat.inside.seat in
    let p = pen_of w.me.0 in
    let k = chair_of s.me.0 in
    let x = c.args.value.now in
    let told = append_told w.me s.me c.hand_over.new.to.me c.compare_exchange_with.new.seat.me x c.writer.invariant.0 c.seat.invariant.0 c.hand_over.ensures.to c.compare_exchange_with.ensures.2 in
    let gone = c.hand_over.ensures.from ∙ pen_gone w.me p c.writer.invariant.0 in
    let back = c.hand_over-2.ensures.to ∙ pen_back c.hand_over.new.from.me c.compare_exchange_with.new.seat.me (pen_of (counted p k x)) (chair_of (counted p k x)) gone told.0 in
    let item = next_item k.number k.own x in
    (back ∙ sym (ap (λ m. (of_pen (pen_of m.0), [])) back), ap (λ n. n + 1) c.writer.invariant.1 ∙ sym (length-append p.items (item ∷ [])) ∙ sym (ap (λ m. length (pen_of m.0).items) back))

pub invariant_of-seat : goal.invariant_of-seat
invariant_of-seat g c =
    let w = c.writer.inside.seat in
    let s = c.seat.inside.seat in
    let p = pen_of w.me.0 in
    let k = chair_of s.me.0 in
    let x = c.args.value.now in
    let told = append_told w.me s.me c.hand_over.new.to.me c.compare_exchange_with.new.seat.me x c.writer.invariant.0 c.seat.invariant.0 c.hand_over.ensures.to c.compare_exchange_with.ensures.2 in
    let apart = c.hand_over-2.ensures.from ∙ chair_back c.compare_exchange_with.new.seat.me (pen_of (counted p k x)) (chair_of (counted p k x)) told.0 in
    (apart ∙ sym (ap (λ m. (of_chair (chair_of m.0), [])) apart), subst (λ n. n < c.seat.inside.seats) (sym (ap (λ m. (chair_of m.0).number) apart)) c.seat.invariant.1)

pub returns-clause-before : goal.returns-clause-before
returns-clause-before g c =
    let w = c.writer.inside.seat in
    let s = c.seat.inside.seat in
    let x = c.args.value.now in
    let told = append_told w.me s.me c.hand_over.new.to.me c.compare_exchange_with.new.seat.me x c.writer.invariant.0 c.seat.invariant.0 c.hand_over.ensures.to c.compare_exchange_with.ensures.2 in
    rw (← c.seat.view_is, ← c.writer.view_is) record { front = told.1.0; own = sym told.1.1; told = told.1.2 }

pub returns-clause-front : goal.returns-clause-front
returns-clause-front g c =
    let w = c.writer.inside.seat in
    let s = c.seat.inside.seat in
    let p = pen_of w.me.0 in
    let k = chair_of s.me.0 in
    let x = c.args.value.now in
    let told = append_told w.me s.me c.hand_over.new.to.me c.compare_exchange_with.new.seat.me x c.writer.invariant.0 c.seat.invariant.0 c.hand_over.ensures.to c.compare_exchange_with.ensures.2 in
    let apart = c.hand_over-2.ensures.from ∙ chair_back c.compare_exchange_with.new.seat.me (pen_of (counted p k x)) (chair_of (counted p k x)) told.0 in
    rw (← c.seat.view_is) (subst (λ m. IsPrefix k.front (chair_of m.0).front) (sym apart) (prefix_longer k.front p.items (next_item k.number k.own x ∷ []) told.1.0))

pub returns-clause-own : goal.returns-clause-own
returns-clause-own g c =
    let w = c.writer.inside.seat in
    let s = c.seat.inside.seat in
    let p = pen_of w.me.0 in
    let k = chair_of s.me.0 in
    let x = c.args.value.now in
    let told = append_told w.me s.me c.hand_over.new.to.me c.compare_exchange_with.new.seat.me x c.writer.invariant.0 c.seat.invariant.0 c.hand_over.ensures.to c.compare_exchange_with.ensures.2 in
    let apart = c.hand_over-2.ensures.from ∙ chair_back c.compare_exchange_with.new.seat.me (pen_of (counted p k x)) (chair_of (counted p k x)) told.0 in
    subst (λ m. items_of (chair_of m.0).number (chair_of m.0).front ≡ (chair_of m.0).own) (sym apart)
    (items_of-same k.number p.items k.own x ∙ ap (λ l. l ++ next_item k.number k.own x ∷ []) (sym told.1.1))

pub returns-clause-told : goal.returns-clause-told
returns-clause-told g c =
    let w = c.writer.inside.seat in
    let s = c.seat.inside.seat in
    let p = pen_of w.me.0 in
    let k = chair_of s.me.0 in
    let x = c.args.value.now in
    let told = append_told w.me s.me c.hand_over.new.to.me c.compare_exchange_with.new.seat.me x c.writer.invariant.0 c.seat.invariant.0 c.hand_over.ensures.to c.compare_exchange_with.ensures.2 in
    let apart = c.hand_over-2.ensures.from ∙ chair_back c.compare_exchange_with.new.seat.me (pen_of (counted p k x)) (chair_of (counted p k x)) told.0 in
    rw (← c.seat.view_is) (subst (λ m. IsTold k.told (chair_of m.0).told) (sym apart) (λ at e. e))
