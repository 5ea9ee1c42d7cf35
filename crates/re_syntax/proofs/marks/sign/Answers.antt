use Rattle.std.proofs.Common.{ℕ, ◌≡◌, refl}
use Rattle.re_terms.specs.declared.token.Mark.{Mark}
use Rattle.re_terms.specs.declared.token.Mark.TheVariants as mark
use Rattle.re_syntax.proofs.Tokens.{one_accepts, one_misses}
use Rattle.re_syntax.proofs.marks.sign.Goals as goal

no_sign : (sign : ℕ) → mark.End ≡ mark.Sign sign → ⊥
no_sign sign e = cc

pub returns-then-is_sign : goal.returns-then-is_sign
returns-then-is_sign c = record {
  ok = one_accepts (λ (m : Mark) (v : Unit {0}). m ≡ mark.Sign c.args.sign) c.args.tokens.now c.args.i tt c.requires.inside c.requires.ends (no_sign c.args.sign)
      (c.is_sign.ensures.yes c.if-is_sign.true) (λ w h. refl);
  stop = tt;
}

pub returns-else-is_sign : goal.returns-else-is_sign
returns-else-is_sign c = record {
  ok = tt;
  stop = one_misses (λ (m : Mark) (v : Unit {0}). m ≡ mark.Sign c.args.sign) c.args.tokens.now c.args.i tt (mark.Sign c.args.sign) c.requires.inside refl
      (λ w h. c.is_sign.ensures.other c.if-is_sign.false h);
}
