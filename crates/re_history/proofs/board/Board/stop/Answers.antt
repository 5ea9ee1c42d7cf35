use Rattle.std.proofs.Common.{◌∙◌, sym, ap, arith}
use Rattle.re_history.specs.Rule.{pen_of}
use Rattle.re_history.proofs.Steps.{halts_as}
use Rattle.re_history.proofs.board.Board.stop.Goals as goal

pub store-requires : goal.store-requires
store-requires g c =
    let two = c.self.invariant in
    let w = c.writer.inside.seat in (
      ap (λ v. v.board.table) c.writer.view_is ∙ ap (λ b. b.table) (c.requires.board ∙ sym c.self.view_is),
      (omega arith),
      halts_as c.self.inside.table.shared.table_id.slots w.id w.me (pen_of w.me.0) c.args.at c.writer.invariant.0 (ap (λ v. v.stop) c.writer.view_is ∙ c.requires.first),
    )
