use Rattle.std.proofs.Common.{arith, ◌∙◌, sym, ap, refl, Err}
use Rattle.std.proofs.lemmas.Result.{err_from_is_err_and}
use Rattle.re_tool.proofs.Judging.{accepted_for, accepted_judged, handed, lex_judged, long_judged, refused_as, rejected_for, syntax_judged, type_judged}
use Rattle.re_tool.specs.Verdict.{too_long}
use Rattle.re_tool.proofs.reading.read_program.Goals as goal

pub returns-then-text-gt-MAX_TEXT-clause-refused : goal.returns-then-text-gt-MAX_TEXT-clause-refused
returns-then-text-gt-MAX_TEXT-clause-refused c = λ why e. rejected_for _ why (refused_as _ _ why e (too_long (omega arith) refl))

pub returns-in_err-tokens-clause-refused : goal.returns-in_err-tokens-clause-refused
returns-in_err-tokens-clause-refused c = λ why e.
    let p = err_from_is_err_and c.from_residual.result c.from_residual.ensures.1 in
    rejected_for _ why (lex_judged _ c.in_err-tokens.field-0.0 why (omega arith) (sym p.2 ∙ handed _ _ _ p.1 e) (λ place h. c.tokens.ensures.no_token place (c.in_err-tokens.was ∙ ap Err h)))

pub returns-in_err-tree-clause-refused : goal.returns-in_err-tree-clause-refused
returns-in_err-tree-clause-refused c = λ why e.
    let p = err_from_is_err_and c.from_residual-in_err-tree.result c.from_residual-in_err-tree.ensures.1 in
    rejected_for _ why (syntax_judged _ c.in_ok-tokens.tokens.items c.in_err-tree.field-0.0 why (record { few = omega arith; spelled = c.in_ok-tokens.ensures.read }) (sym p.2 ∙ handed _ _ _ p.1 e)
    (λ place h. c.parse.ensures.at place (c.in_err-tree.was ∙ ap Err h)) (λ place h. c.parse.ensures.deep place (c.in_err-tree.was ∙ ap Err h)))

pub returns-in_err-program-clause-refused : goal.returns-in_err-program-clause-refused
returns-in_err-program-clause-refused c = λ why e.
    let p = err_from_is_err_and c.from_residual-in_err-program.result c.from_residual-in_err-program.ensures.1 in
    rejected_for _ why (type_judged _ c.in_ok-tree.tree c.in_err-program.field-0.0 why c.resolve.result
    (record { tokens = c.in_ok-tokens.tokens.items; has = record { few = omega arith; spelled = c.in_ok-tokens.ensures.read }; derives = c.in_ok-tree.ensures.tree; limits = c.in_ok-tree.ensures.limits })
    (sym p.2 ∙ handed _ _ _ p.1 e) c.in_err-program.was c.resolve.ensures.answer)

pub returns-then-branch-clause-refused : goal.returns-then-branch-clause-refused
returns-then-branch-clause-refused c = λ why e. rejected_for _ why (refused_as _ _ why e
    (long_judged _ c.in_ok-tree.tree c.in_ok-program.program c.resolve.result
    (record { tokens = c.in_ok-tokens.tokens.items; has = record { few = omega arith; spelled = c.in_ok-tokens.ensures.read }; derives = c.in_ok-tree.ensures.tree; limits = c.in_ok-tree.ensures.limits })
    c.in_ok-program.was c.resolve.ensures.answer (sym c.in_ok-is_long.ensures ∙ c.if-branch.true)))

pub returns-clause-accepted : goal.returns-clause-accepted
returns-clause-accepted c =
    accepted_for _ _ (accepted_judged _ c.in_ok-tree.tree c.in_ok-program.program c.resolve.result
    (record { tokens = c.in_ok-tokens.tokens.items; has = record { few = omega arith; spelled = c.in_ok-tokens.ensures.read }; derives = c.in_ok-tree.ensures.tree; limits = c.in_ok-tree.ensures.limits })
    c.in_ok-program.was c.resolve.ensures.answer (sym c.in_ok-is_long.ensures ∙ c.if-branch.false))
