use Rattle.std.proofs.Common.{List, subst}
use Rattle.re_terms.specs.declared.token.Token.{Token}
use Rattle.re_syntax.specs.Programs.{IsProgram}
use Rattle.re_syntax.proofs.parser.parse.Goals as goal

pub returns-in-Ok-clause-only : goal.returns-in-Ok-clause-only
returns-in-Ok-clause-only c = (subst (λ (l : List Token). IsProgram l c.in-Ok.decls) c.as_slice-tokens.ensures c.in-Ok.ensures.ok).only

pub returns-in-Ok-clause-shallow : goal.returns-in-Ok-clause-shallow
returns-in-Ok-clause-shallow c = (subst (λ (l : List Token). IsProgram l c.in-Ok.decls) c.as_slice-tokens.ensures c.in-Ok.ensures.ok).shallow
