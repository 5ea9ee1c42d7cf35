use Rattle.std.proofs.Common.{ℕ, ◌≡◌, [], refl, sym, ap, ◌∙◌}
use Rattle.re_terms.specs.Listed.{Listed, plain}
use Rattle.re_terms.specs.declared.token.Mark.{Mark}
use Rattle.re_terms.specs.declared.token.Mark.TheVariants as mark
use Rattle.re_syntax.proofs.Tokens.{one_accepts, one_misses}
use Rattle.re_syntax.proofs.marks.name.Goals as goal

pub returns-in_default : goal.returns-in_default
returns-in_default c = record {
  ok = tt;
  stop = one_misses (λ (m : Mark) (t : Listed ℕ). m ≡ mark.Name t) c.args.tokens.now c.args.i (plain []) (mark.Name (plain [])) c.requires.inside refl
      (λ t h. c.in_default.not-Name t (c.mark.ensures ∙ h));
}

same_name : (m : Mark) (t u : Listed ℕ) → m ≡ mark.Name t → m ≡ mark.Name u → u ≡ t
same_name m t u e f = cc

no_name : (t : Listed ℕ) → mark.End ≡ mark.Name t → ⊥
no_name t e = cc

pub returns-in_ok-copy-in-Name-clause-ok : goal.returns-in_ok-copy-in-Name-clause-ok
returns-in_ok-copy-in-Name-clause-ok c =
    let e = c.in_ok-copy-in-Name.ensures in
    let h = sym c.mark.ensures ∙ c.in-Name.is ∙ ap mark.Name (sym e) in
    one_accepts (λ (m : Mark) (t : Listed ℕ). m ≡ mark.Name t) c.args.tokens.now c.args.i _ c.requires.inside c.requires.ends (λ x. no_name _ x) h (λ w g. same_name _ _ w h g)
