use Rattle.std.proofs.Common.{◌+◌, ◌<◌, ◌≡◌, sym, ap, ◌∙◌, arith}
use Rattle.re_terms.specs.declared.token.Mark.TheVariants as mark
use Rattle.re_syntax.specs.Steps.{nothing}
use Rattle.re_syntax.proofs.Leaves.{number_accepts, name_accepts, literal_misses}
use Rattle.std.proofs.Common.{ℤ, pos, subst, ◌^◌}
use Rattle.std.proofs.lemmas.Int.{ints}
use mir.Val.{to_z}
use mir.Syntax.{w64}
use Rattle.re_terms.specs.declared.raw_expr.RawLit.TheVariants as literal
use Rattle.re_syntax.specs.Steps.{Accepts, ALiteral}
use Rattle.re_syntax.proofs.leaf.plain_literal.Goals as goal

pub returns-in-Name-clause-ok : goal.returns-in-Name-clause-ok
returns-in-Name-clause-ok c =
    let e = c.in_ok-copy.ensures in
    name_accepts c.args.tokens.now c.args.i _ c.requires.inside c.requires.ends (sym c.mark.ensures ∙ c.in-Name.is ∙ ap mark.Name (sym e))

pub returns-in-Some-clause-ok : goal.returns-in-Some-clause-ok
returns-in-Some-clause-ok c =
    let e = c.in-Some.ensures in
    let b : c.in-Some.n < 2 ^ 63 = omega (arith, e.2) in
    let z : to_z w64 c.in-Some.n ≡ pos c.in-Some.n = omega (arith, ints) in
    subst (λ (a : ℤ). Accepts ALiteral nothing 0 c.args.tokens.now (literal.Int a) c.args.i (c.args.i + 1)) (sym z) (number_accepts c.args.tokens.now c.args.i c.in-Some.n c.requires.inside c.requires.ends e.0 b)

pub returns-in-None-clause-stop : goal.returns-in-None-clause-stop
returns-in-None-clause-stop c = literal_misses c.args.tokens.now c.args.i c.requires.inside c.requires.minus c.requires.truth c.requires.falsity
    (λ t h. c.in_default.not-Name t (c.mark.ensures ∙ h)) (λ k e h. c.in-None.ensures k e (omega arith) (omega (arith, h)))
