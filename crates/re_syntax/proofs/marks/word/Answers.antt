use Rattle.std.proofs.Common.{ℕ, ◌≡◌, refl}
use Rattle.re_terms.specs.declared.token.Mark.{Mark}
use Rattle.re_terms.specs.declared.token.Mark.TheVariants as mark
use Rattle.re_syntax.proofs.Tokens.{one_accepts, one_misses}
use Rattle.re_syntax.proofs.marks.word.Goals as goal

no_word : (word : ℕ) → mark.End ≡ mark.Reserved word → ⊥
no_word word e = cc

pub returns-then-is_word : goal.returns-then-is_word
returns-then-is_word c = record {
  ok = one_accepts (λ (m : Mark) (v : Unit {0}). m ≡ mark.Reserved c.args.word) c.args.tokens.now c.args.i tt c.requires.inside c.requires.ends (no_word c.args.word)
      (c.is_word.ensures.yes c.if-is_word.true) (λ w h. refl);
  stop = tt;
}

pub returns-else-is_word : goal.returns-else-is_word
returns-else-is_word c = record {
  ok = tt;
  stop = one_misses (λ (m : Mark) (v : Unit {0}). m ≡ mark.Reserved c.args.word) c.args.tokens.now c.args.i tt (mark.Reserved c.args.word) c.requires.inside refl
      (λ w h. c.is_word.ensures.other c.if-is_word.false h);
}
