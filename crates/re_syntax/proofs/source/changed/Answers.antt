use Rattle.std.proofs.Common.{lit≤, arith}
use Rattle.std.proofs.lemmas.Result.{err_from_is_err_and}
use Rattle.re_syntax.proofs.Steps.{after_nothing, done_completes}
use Rattle.re_syntax.proofs.Tokens.{next, finish, misses_in, stops_of_misses}
use Rattle.re_syntax.proofs.Leaves.{only_name_together}
use Rattle.re_syntax.proofs.Rules.{changed_stage}
use Rattle.re_syntax.proofs.Heads.{no_head}
use Rattle.re_syntax.proofs.Rules.{clash}
use Rattle.re_syntax.proofs.source.changed.Goals as goal

pub returns-in_err-of-clause-stop : goal.returns-in_err-of-clause-stop
returns-in_err-of-clause-stop c =
    let p = err_from_is_err_and c.from_residual.result c.from_residual.ensures.1 in
    rw (p.1, p.2) (stops_of_misses _ (misses_in _ (only_name_together _ _ _ _ _ _ _ (changed_stage c.args.tokens.now c.args.i c.requires.word)) c.in_err-of.ensures.stop (lit≤ tt) after_nothing (λ _. done_completes _)) (λ s d. no_head (λ g. omega (arith, clash c.requires.word g)) (λ g. omega (arith, clash c.requires.word g)) d.0))

pub returns-clause-ok : goal.returns-clause-ok
returns-clause-ok c = finish (next (only_name_together _ _ _ _ _ _ _ (changed_stage c.args.tokens.now c.args.i c.requires.word)) c.in_ok-of.ensures.ok (lit≤ tt) after_nothing) c.in_ok-of.ensures.ok.inside

pub returns-clause-shallow : goal.returns-clause-shallow
returns-clause-shallow c = λ s d. no_head (λ g. omega (arith, clash c.requires.word g)) (λ g. omega (arith, clash c.requires.word g)) d.0
