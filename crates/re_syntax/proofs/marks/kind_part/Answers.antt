use Rattle.std.proofs.Common.{lit≤}
use Rattle.std.proofs.lemmas.Result.{err_from_is_err_and}
use Rattle.re_syntax.proofs.Steps.{after_nothing, never_more}
use Rattle.re_syntax.proofs.Tokens.{begin, next, last_of, misses_in, misses_last, ok_map, err_map}
use Rattle.re_syntax.proofs.Leaves.{kind_completes}
use Rattle.re_syntax.proofs.marks.kind_part.Goals as goal

pub returns-in_err-behind-clause-stop : goal.returns-in_err-behind-clause-stop
returns-in_err-behind-clause-stop c =
    let p = err_from_is_err_and c.from_residual.result c.from_residual.ensures.1 in
    rw (p.1, p.2) (misses_in _ (begin c.args.i) c.in_err-behind.ensures.stop (lit≤ tt) after_nothing (λ _. kind_completes))

pub returns-clause-ok : goal.returns-clause-ok
returns-clause-ok c = ok_map c.kind.result c.kind.ensures.ok (λ r a. last_of (next (begin c.args.i) c.in_ok-behind.ensures.ok (lit≤ tt) after_nothing) a (lit≤ tt) never_more)

pub returns-clause-stop : goal.returns-clause-stop
returns-clause-stop c = err_map c.kind.result c.kind.ensures.stop (λ s m. misses_last s (next (begin c.args.i) c.in_ok-behind.ensures.ok (lit≤ tt) after_nothing) m (lit≤ tt) never_more)
