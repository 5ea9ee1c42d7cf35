use Rattle.std.proofs.Common.{length, sym, ap, ◌∙◌}
use Rattle.re_terms.specs.Views.{view_of}
use Rattle.re_terms.proofs.Ordered.{program-ordered, program-regions}
use Rattle.re_prop.proofs.Before.{length-signal_words}
use Rattle.re_prop.proofs.tests.outcome.Goals as goal

pub build-requires-clause-ordered : goal.build-requires-clause-ordered
build-requires-clause-ordered g c = program-ordered c.in_ok-p.p c.in_ok-p.ensures

pub build-requires-clause-regions : goal.build-requires-clause-regions
build-requires-clause-regions g c = program-regions c.in_ok-p.p c.in_ok-p.ensures

pub cached-word-requires : goal.cached-word-requires
cached-word-requires g c = ap length c.in_ok-c.ensures ∙ length-signal_words c.in_ok-p.p c.in_ok-s.s.words.items (view_of c.in_ok-s.s.rep) ∙ sym c.len.ensures
