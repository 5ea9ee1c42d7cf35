use Rattle.std.proofs.Common.{sym, ap, ◌∙◌}
use Rattle.re_terms.specs.Listed.{plain}
use Rattle.re_prop.specs.Touched.{touches}
use Rattle.re_prop.proofs.Uses.{filter_push, filter_pass}
use Rattle.re_prop.proofs.touched.touched.Goals as goal
use Rattle.re_prop.proofs.touched.touched.Goals.{then-touches+in_ok-push, else-touches}

pub touching-preserved : goal.touching-preserved
touching-preserved c =
    let test = touches c.args.p.now c.args.s.now c.args.entry.now c.args.after.now in
    let id = c.touching.id in
    elim c.if-touches.branch [
      | then-touches+in_ok-push w ↦ w.ids-is ∙ filter_push test id c.touching.ids w.push.new.self (sym c.touches.ensures ∙ w.if-touches.true) c.touching.invariant w.in_ok-push.ensures.ok
      | else-touches w ↦ w.ids-is ∙ c.touching.invariant ∙ ap plain (sym (filter_pass test id (sym c.touches.ensures ∙ w.if-touches.false)))
    ]
