use Rattle.std.proofs.Common.{sym, ap, ◌∙◌}
use Rattle.re_terms.specs.Listed.{plain}
use Rattle.re_prop.proofs.Choosing.{chosen_skips, put_push}
use Rattle.re_prop.proofs.chosen.chosen.Goals as goal
use Rattle.re_prop.proofs.chosen.chosen.Goals.{then-mark+in_ok-push, else-mark}

pub choosing-preserved : goal.choosing-preserved
choosing-preserved c =
    let marks = c.args.marks.now in
    let words = c.args.words.now in
    let id = c.choosing.id in
    elim c.if-mark.branch [
      | then-mark+in_ok-push w ↦ w.puts-is ∙ put_push marks words id w.word_in.result c.choosing.puts w.push.new.self w.if-mark.true c.choosing.invariant w.word_in.ensures w.in_ok-push.ensures.ok
      | else-mark w ↦ w.puts-is ∙ c.choosing.invariant ∙ ap plain (sym (chosen_skips marks words id w.if-mark.false))
    ]
