use Rattle.std.proofs.Common.{refl, ◌∙◌}
use Rattle.re_prop.proofs.Before.{signal_only, signal_only_at}
use Rattle.re_prop.proofs.Choosing.{item_at, range_push}
use Rattle.re_prop.proofs.words.signals.Goals as goal

pub finding-preserved : goal.finding-preserved
finding-preserved c =
    let decls = c.args.decls.now in
    let id = c.finding.id in
    let decl = c.index-decls-id.result in
    let at = item_at decls decls id decl refl c.finding-test.true c.index-decls-id.is in
    c.in_ok-push.ensures.items ∙ range_push (signal_only decls c.args.words.now) c.finding.found.items id c.of_signal.result c.finding.invariant (signal_only_at decls c.args.words.now id decl c.word_in.result c.of_signal.result at c.word_in.ensures c.of_signal.ensures)
