use Rattle.std.proofs.Common.{◌∙◌}
use Rattle.re_terms.specs.SignalWords.{signal_word}
use Rattle.re_terms.specs.Views.{view_of}
use Rattle.re_prop.proofs.Choosing.{item_at, range_push}
use Rattle.re_prop.proofs.words.from_cache.Goals as goal

pub reading-preserved : goal.reading-preserved
reading-preserved c = c.in_ok-push.ensures.items ∙ range_push (signal_word c.args.p.now c.args.s.now.words.items (view_of c.args.s.now.rep)) c.reading.words.items c.reading.id c.known.result c.reading.invariant c.known.ensures

pub known-requires-clause-at : goal.known-requires-clause-at
known-requires-clause-at c = item_at c.args.p.now.decls.items c.as_slice-decl-items.result.now c.reading.id c.decl-item.result c.as_slice-decl-items.ensures c.reading-test.true c.decl-item.is
