use Rattle.std.proofs.Common.{◌≡◌, subst, sym, ap, ◌∙◌, arith}
use mathlib.Core.List.{IsPrefix}
use Rattle.re_history.specs.Items.{items_of, IsTold}
use Rattle.re_history.specs.Rule.{pen_of, chair_of, caught_up}
use Rattle.re_history.proofs.Steps.{both_is, looks_as, catch_up_told, chair_back}
use Rattle.re_history.proofs.board.Board.catch_up.Goals as goal

pub load-requires : goal.load-requires
load-requires g c =
    let two = c.self.invariant in
    let w = c.writer.inside.seat in
    let s = c.seat.inside.seat in
    let h = c.hand_over.ensures in (
      h.table.1 ∙ ap (λ v. v.board.table) c.seat.view_is ∙ ap (λ b. b.table) (c.requires.board.1 ∙ sym c.self.view_is),
      (omega arith),
      looks_as c.self.inside.table.shared.table_id.slots c.hand_over.new.to.id c.hand_over.new.to.me (pen_of w.me.0) (chair_of s.me.0) (h.to ∙ both_is w.me s.me (pen_of w.me.0) (chair_of s.me.0) c.writer.invariant.0 c.seat.invariant.0),
    )

pub returns-clause-before : goal.returns-clause-before
returns-clause-before g c =
    let told = catch_up_told c.writer.inside.seat.me c.seat.inside.seat.me c.hand_over.new.to.me c.load.new.seat.me c.writer.invariant.0 c.seat.invariant.0 c.hand_over.ensures.to c.load.ensures.2 in
    rw (← c.seat.view_is, ← c.writer.view_is) record { front = told.1.0; own = sym told.1.1; told = told.1.2 }

pub returns-clause-front : goal.returns-clause-front
returns-clause-front g c =
    let p = pen_of c.writer.inside.seat.me.0 in
    let k = chair_of c.seat.inside.seat.me.0 in
    let told = catch_up_told c.writer.inside.seat.me c.seat.inside.seat.me c.hand_over.new.to.me c.load.new.seat.me c.writer.invariant.0 c.seat.invariant.0 c.hand_over.ensures.to c.load.ensures.2 in
    let apart = c.hand_over-2.ensures.from ∙ chair_back c.load.new.seat.me (pen_of (caught_up p k)) (chair_of (caught_up p k)) told.0 in
    rw (← c.seat.view_is) (subst (λ m. IsPrefix k.front (chair_of m.0).front) (sym apart) told.1.0)

pub returns-clause-own : goal.returns-clause-own
returns-clause-own g c =
    let p = pen_of c.writer.inside.seat.me.0 in
    let k = chair_of c.seat.inside.seat.me.0 in
    let told = catch_up_told c.writer.inside.seat.me c.seat.inside.seat.me c.hand_over.new.to.me c.load.new.seat.me c.writer.invariant.0 c.seat.invariant.0 c.hand_over.ensures.to c.load.ensures.2 in
    let apart = c.hand_over-2.ensures.from ∙ chair_back c.load.new.seat.me (pen_of (caught_up p k)) (chair_of (caught_up p k)) told.0 in
    subst (λ m. items_of (chair_of m.0).number (chair_of m.0).front ≡ (chair_of m.0).own) (sym apart) (sym told.1.1)

pub returns-clause-told : goal.returns-clause-told
returns-clause-told g c =
    let p = pen_of c.writer.inside.seat.me.0 in
    let k = chair_of c.seat.inside.seat.me.0 in
    let told = catch_up_told c.writer.inside.seat.me c.seat.inside.seat.me c.hand_over.new.to.me c.load.new.seat.me c.writer.invariant.0 c.seat.invariant.0 c.hand_over.ensures.to c.load.ensures.2 in
    let apart = c.hand_over-2.ensures.from ∙ chair_back c.load.new.seat.me (pen_of (caught_up p k)) (chair_of (caught_up p k)) told.0 in
    rw (← c.seat.view_is) (subst (λ m. IsTold k.told (chair_of m.0).told) (sym apart) told.1.2)
