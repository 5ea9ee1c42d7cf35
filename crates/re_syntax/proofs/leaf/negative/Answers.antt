use Rattle.std.proofs.Common.{◌+◌, ◌≤◌, ◌≡◌, sym, arith}
use Rattle.re_syntax.specs.Steps.{nothing}
use Rattle.re_syntax.proofs.Leaves.{negative_accepts, negative_misses}
use Rattle.std.proofs.Common.{ℤ, pos, subst, ◌^◌}
use Rattle.std.specs.Prelude.{◌-ℤ◌}
use Rattle.std.proofs.lemmas.Int.{ints}
use Rattle.std.proofs.Math.Facts.{to_z-of_z}
use mir.Val.{SFits, to_z, of_z}
use mir.Syntax.{w64}
use Rattle.re_terms.specs.declared.raw_expr.RawLit.TheVariants as literal
use Rattle.re_syntax.specs.Steps.{Accepts, ALiteral}
use Rattle.re_syntax.proofs.Leaves.{inside_next, no_end_sign}
use Rattle.re_syntax.proofs.leaf.negative.Goals as goal

pub returns-in-Some-clause-ok : goal.returns-in-Some-clause-ok
returns-in-Some-clause-ok c =
    let e = c.in-Some.ensures in
    let b : c.in-Some.n ≤ 2 ^ 63 = omega (arith, e.2) in
    let fits : SFits w64 (pos 0 -ℤ pos c.in-Some.n) = omega (arith, ints) in
    let z : to_z w64 (of_z w64 c.negated.result) ≡ pos 0 -ℤ pos c.in-Some.n = rw c.negated.ensures (to_z-of_z fits) in
    subst (λ (a : ℤ). Accepts ALiteral nothing 0 c.args.tokens.now (literal.Int a) c.args.i (c.args.i + 2)) (sym z)
    (negative_accepts c.args.tokens.now c.args.i c.in-Some.n (inside_next c.args.tokens.now c.args.i c.requires.inside c.requires.ends (no_end_sign c.requires.minus)) c.requires.ends c.requires.minus e.0 b)

pub returns-in-None-clause-stop : goal.returns-in-None-clause-stop
returns-in-None-clause-stop c = negative_misses c.args.tokens.now c.args.i (inside_next c.args.tokens.now c.args.i c.requires.inside c.requires.ends (no_end_sign c.requires.minus)) c.requires.minus (λ k e h. c.in-None.ensures k e (omega arith) h)
