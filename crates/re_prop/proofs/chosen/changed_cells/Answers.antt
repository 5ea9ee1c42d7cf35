use Rattle.std.proofs.Common.{refl, ◌∙◌}
use Rattle.re_terms.specs.Cells.{is_cell}
use Rattle.re_terms.specs.Propagation.{is_cell_at}
use Rattle.re_prop.proofs.Choosing.{differs_at, differs_is, item_at, range_push}
use Rattle.re_prop.proofs.chosen.changed_cells.Goals as goal

pub marking-preserved : goal.marking-preserved
marking-preserved c =
    let decls = c.args.decls.now in
    let id = c.marking.id in
    let decl = c.index-decls-id.result in
    let at = item_at decls decls id decl refl c.marking-test.true c.index-decls-id.is in
    let is = differs_is is_cell decls c.args.old.now c.args.new.now id decl c.word_in.result c.word_in-in-marking.result c.is_changed_cell.result at c.word_in.ensures c.word_in-in-marking.ensures c.is_changed_cell.ensures in
    c.in_ok-push.ensures.items ∙ range_push (differs_at (is_cell_at decls) c.args.old.now c.args.new.now) c.marking.marks.items id c.is_changed_cell.result c.marking.invariant is
