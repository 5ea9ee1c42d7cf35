use Rattle.std.proofs.Common.{◌≡◌, refl, subst, ◌∙◌}
use Rattle.std.specs.Prelude.{IfOk}
use Rattle.re_terms.specs.Shapes.{shape_of}
use Rattle.re_prop.proofs.Before.{signals_are}
use Rattle.re_prop.proofs.Fits.{sets_of_fit}
use Rattle.re_prop.proofs.words.evaluated.Goals as goal

pub sizes-requires : goal.sizes-requires
sizes-requires c = sets_of_fit (shape_of c.args.p.now) c.args.s.now.rep c.as_slice.result.now c.as_slice.ensures c.requires.rep

pub all-requires-clause-sets : goal.all-requires-clause-sets
all-requires-clause-sets c = sets_of_fit (shape_of c.args.p.now) c.args.s.now.rep c.args.s.now.rep.cells.items refl c.requires.rep

pub returns : goal.returns
returns c = subst (λ ws. IfOk c.signals.result (λ found. found.items ≡ ws)) (signals_are c.args.p.now c.args.s.now c.as_slice-2.result.now c.deref-2.result.now c.as_slice-2.ensures (c.deref-2.ensures.value ∙ c.in_ok-words.ensures)) c.signals.ensures
