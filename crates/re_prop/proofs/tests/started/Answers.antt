use Rattle.std.proofs.Common.{sym, subst}
use Rattle.re_terms.specs.WordKinds.{IsStateOf}
use Rattle.re_terms.proofs.StatesKept.{start_is}
use Rattle.re_prop.proofs.tests.started.Goals as goal

pub returns : goal.returns
returns c = subst (IsStateOf c.args.p.now) (sym c.in_ok-s.ensures) (start_is c.args.p.now c.requires)
