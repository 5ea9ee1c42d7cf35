use Rattle.std.proofs.lemmas.Result.{err_from_is_err_and}
use Rattle.re_syntax.proofs.Depths.{whole_stops, whole_accepts, whole_depth, too_deep_stops, accepted_not_deep}
use Rattle.re_syntax.proofs.expression.whole.Goals as goal

pub returns-in_err-found-clause-stop : goal.returns-in_err-found-clause-stop
returns-in_err-found-clause-stop c =
    let p = err_from_is_err_and c.from_residual.result c.from_residual.ensures.1 in
    rw (p.1, p.2) (whole_stops c.args.tokens.now c.args.i _ c.in_err-found.ensures.stop)

pub returns-in-Whole-clause-ok : goal.returns-in-Whole-clause-ok
returns-in-Whole-clause-ok c = whole_accepts c.args.tokens.now c.args.i _ _ _ _ c.in_ok-found.ensures.ok c.in-Whole.is

pub returns-in-Whole-clause-depth : goal.returns-in-Whole-clause-depth
returns-in-Whole-clause-depth c = whole_depth c.args.tokens.now c.args.i _ _ _ _ c.in_ok-found.ensures.ok c.in-Whole.is

pub returns-in-Whole-clause-shallow : goal.returns-in-Whole-clause-shallow
returns-in-Whole-clause-shallow c = λ s d. accepted_not_deep c.args.tokens.now _ c.args.i _ (whole_accepts c.args.tokens.now c.args.i _ _ _ _ c.in_ok-found.ensures.ok c.in-Whole.is) (whole_depth c.args.tokens.now c.args.i _ _ _ _ c.in_ok-found.ensures.ok c.in-Whole.is) d.1

pub returns-in-TooDeep-clause-stop : goal.returns-in-TooDeep-clause-stop
returns-in-TooDeep-clause-stop c = too_deep_stops c.args.tokens.now c.args.i _ _ c.requires.inside c.in_ok-found.ensures.ok c.in-TooDeep.is
